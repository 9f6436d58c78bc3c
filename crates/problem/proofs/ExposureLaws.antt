-- What exposures obey: everything else speaks of them by these laws, and never by what an exposure is made of. Assumes nothing.
use mathlib.Core.Path.{◌≡◌, refl, ap, sym, ◌∙◌}
use mathlib.Core.Bool.{Bool, true, false, ◌&&◌}
use Prim.Native.Nat.{ℕ, zero, suc, ◌+◌, ◌*◌, ◌-◌, ◌/◌, ◌%◌, ◌≤◌, ◌<◌, ◌^◌, min, max}
use native.Mathlib.Decide.{dec_lt}
use native.Mathlib.Nat.{div-eq_of_lt, lt_of_lt_of_le}
use native.Mathlib.Omega.{arith}
use lib.Bits.{bit_and, bit_or, and_lt, or_lt}
use lib.Count.{ones_in}
use lib.Dec.{eqb, leb, ltb, lit<}
use lib.ListN.{length}
use lib.Pow.{pow_mono}
use borrow.Author.Tests.{eqb-true, eqb-false, eq-eqb, ne_eqb, leb-true, ltb-true}
use Rattle.std.specs.Prelude.{if◌then◌else◌}
use Rattle.laws.specs.Sets.{bit, in_both}
use Rattle.laws.proofs.BoolLaws.{both}
use Rattle.laws.proofs.SetLaws.{digit, bit_le_one, bit_empty, bit_and_lem, bit_or_lem, bit_pow, bit_full, bits_ext, ones_mono, ones_le, ones_or, ones_empty, ones_single, ones_common}
use Rattle.problem.specs.declared.Arc.{Arc}
use Rattle.problem.specs.declared.Exposure.{Exposure}
use Rattle.problem.specs.Table.{risk_width, most_in_table, hazards}
use Rattle.problem.specs.Exposures.{field_of, by_field, exposed, to_nothing, to_all, to_one, span_field, of_arc, joined, common, spans_in, size, sharing, disjoint}

-- ---- fields, and hazards counted over them in turn

pub field_by : (f : ℕ → ℕ) (i : ℕ) → i < 3 → field_of (by_field f) i ≡ f i
unfolding field_of
field_by f zero h = refl
field_by f (suc zero) h = refl
field_by f (suc (suc zero)) h = refl
field_by f (suc (suc (suc i))) h = absurd (omega arith)

pub exposed_by : (f : ℕ → ℕ) (r : ℕ) → exposed (by_field f) r ≡ bit (f (r % 3)) (r / 3)
unfolding exposed
exposed_by f r = ap (λ (x : ℕ). bit x (r / 3)) (field_by f (r % 3) (omega arith))

-- bit k of field i
exposed_at : (e : Exposure) (i k : ℕ) → i < 3 → exposed e (3 * k + i) ≡ bit (field_of e i) k
unfolding exposed
exposed_at e i k h =
    let field : (3 * k + i) % 3 ≡ i = omega arith in
    let place : (3 * k + i) / 3 ≡ k = omega arith in
    rw (field, place)

-- ---- to what each is exposed

pub exposed_le_one : (e : Exposure) (r : ℕ) → exposed e r ≤ 1
unfolding exposed
exposed_le_one e r = bit_le_one (field_of e (r % 3)) (r / 3)

pub exposed_nothing : (r : ℕ) → exposed to_nothing r ≡ 0
unfolding to_nothing
exposed_nothing r = exposed_by (λ i. 0) r ∙ bit_empty (r / 3)

pub exposed_all : (r : ℕ) → r < hazards → exposed to_all r ≡ 1
unfolding to_all
exposed_all r h = exposed_by (λ i. 2 ^ 64 - 1) r ∙ bit_full 64 (r / 3) (omega arith)

-- there is nothing from `hazards` on
pub exposed_past : (r : ℕ) → hazards ≤ r → exposed to_all r ≡ 0
unfolding to_all bit
exposed_past r h =
    exposed_by (λ i. 2 ^ 64 - 1) r ∙ ap (λ (x : ℕ). x % 2) (div-eq_of_lt (lt_of_lt_of_le (lit< tt) (let far : 64 ≤ r / 3 = omega arith in pow_mono far)))

pub exposed_one : (h r : ℕ) → exposed (to_one h) r ≡ digit (eqb r h)
unfolding to_one digit
exposed_one h r = exposed_by (λ i. if eqb (h % 3) i then 2 ^ (h / 3) else 0) r ∙ go (eqb (h % 3) (r % 3)) refl (eqb r h) refl
  where
    go : (s : Bool) → eqb (h % 3) (r % 3) ≡ s → (t : Bool) → eqb r h ≡ t → bit (if eqb (h % 3) (r % 3) then 2 ^ (h / 3) else 0) (r / 3) ≡ digit (eqb r h)
    go true p true q =
        let same : r ≡ h = eqb-true r h q in
        rw (p, q, bit_pow (h / 3) (r / 3), eq-eqb (r / 3) (h / 3) (ap (λ (x : ℕ). x / 3) same))
    go true p false q =
        let field : h % 3 ≡ r % 3 = eqb-true (h % 3) (r % 3) p in
        rw (p, q, bit_pow (h / 3) (r / 3), ne_eqb (r / 3) (h / 3) (λ e. eqb-false r h q (omega arith)))
    go false p true q = absurd (eqb-false (h % 3) (r % 3) p (ap (λ (x : ℕ). x % 3) (sym (eqb-true r h q))))
    go false p false q = rw (p, q) (bit_empty (r / 3))

pub exposed_joined : (a b : Exposure) (r : ℕ) → exposed (joined a b) r ≡ max (exposed a r) (exposed b r)
unfolding joined exposed
exposed_joined a b r = exposed_by (λ i. bit_or (field_of a i) (field_of b i)) r ∙ bit_or_lem (field_of a (r % 3)) (field_of b (r % 3)) (r / 3)

pub exposed_common : (a b : Exposure) (r : ℕ) → exposed (common a b) r ≡ min (exposed a r) (exposed b r)
unfolding common exposed
exposed_common a b r = exposed_by (λ i. bit_and (field_of a i) (field_of b i)) r ∙ bit_and_lem (field_of a (r % 3)) (field_of b (r % 3)) (r / 3)

-- exposed to the same, the same
field_ext : (a b : Exposure) → ((r : ℕ) → exposed a r ≡ exposed b r) → (i : ℕ) → i < 3 → field_of a i ≡ field_of b i
field_ext a b f i h = bits_ext (field_of a i) (field_of b i) (λ k. sym (exposed_at a i k h) ∙ f (3 * k + i) ∙ exposed_at b i k h)

pub exposure_ext : (a b : Exposure) → ((r : ℕ) → exposed a r ≡ exposed b r) → a ≡ b
unfolding field_of
exposure_ext a b f =
    let risks : a.risks ≡ b.risks = field_ext a b f 0 (lit< tt) in
    let low : a.low ≡ b.low = field_ext a b f 1 (lit< tt) in
    let high : a.high ≡ b.high = field_ext a b f 2 (lit< tt) in
    λ i. record { risks = risks i; low = low i; high = high i }

pub joined_assoc : (a b c : Exposure) → joined (joined a b) c ≡ joined a (joined b c)
joined_assoc a b c = exposure_ext _ _ (λ r. simp exposed_joined (omega arith))

pub joined_nothing : (a : Exposure) → joined a to_nothing ≡ a
joined_nothing a = exposure_ext _ _ (λ r. simp (exposed_joined, exposed_nothing) (omega arith))

pub nothing_joined : (a : Exposure) → joined to_nothing a ≡ a
nothing_joined a = exposure_ext _ _ (λ r. simp (exposed_joined, exposed_nothing) (omega arith))

-- ---- exposed to no more

abbrev pub Inside : Exposure → Exposure → Type 0
Inside a b = (r : ℕ) → exposed a r ≤ exposed b r

pub inside_joined : (a b : Exposure) → Inside a (joined a b)
inside_joined a b r = rw exposed_joined (omega arith)

pub joined_inside : (a b : Exposure) → Inside b (joined a b)
joined_inside a b r = rw exposed_joined (omega arith)

-- exposed to the same of all that there is, and to nothing else: the same
pub inside_all_ext : (a b : Exposure) → Inside a to_all → Inside b to_all → ((r : ℕ) → r < hazards → exposed a r ≡ exposed b r) → a ≡ b
inside_all_ext a b f g e = exposure_ext a b (λ r. go r (dec_lt r hazards))
  where
    go : (r : ℕ) → Dec (r < hazards) → exposed a r ≡ exposed b r
    go r (yes h) = e r h
    go r (no h) = omega (arith, f r, g r, exposed_past r (omega arith))

-- ---- how many

pub spans_le : (e : Exposure) → spans_in e ≤ most_in_table
unfolding spans_in
spans_le e = omega (arith, ones_le 64 e.low, ones_le 64 e.high)

pub size_le : (e : Exposure) → size e ≤ hazards
unfolding size
size_le e = omega (arith, ones_le risk_width e.risks, spans_le e)

field_inside : (a b : Exposure) → Inside a b → (i : ℕ) → i < 3 → (k : ℕ) → bit (field_of a i) k ≤ bit (field_of b i) k
field_inside a b f i h k = omega (arith, exposed_at a i k h, exposed_at b i k h, f (3 * k + i))

pub size_mono : (a b : Exposure) → Inside a b → size a ≤ size b
unfolding size spans_in field_of
size_mono a b f =
    omega (
      arith,
      ones_mono 64 a.risks b.risks (field_inside a b f 0 (lit< tt)),
      ones_mono 64 a.low b.low (field_inside a b f 1 (lit< tt)),
      ones_mono 64 a.high b.high (field_inside a b f 2 (lit< tt)),
    )

pub sharing_le : (a b : Exposure) → sharing a b ≤ hazards
unfolding sharing
sharing_le a b = size_le (common a b)

pub sharing_mono : (a b c d : Exposure) → Inside a c → Inside b d → sharing a b ≤ sharing c d
unfolding sharing
sharing_mono a b c d f g = size_mono (common a b) (common c d) (λ r. simp exposed_common (omega (arith, f r, g r)))

-- of two that go on alike, the one shares no more whose part that the main shares lies inside the other
pub sharing_part : (main a b more : Exposure) → Inside (common main a) b → sharing main (joined a more) ≤ sharing main (joined b more)
unfolding sharing
sharing_part main a b more f = size_mono (common main (joined a more)) (common main (joined b more)) (λ r. simp (exposed_common, exposed_joined) (omega (arith, f r, exposed_common main a r)))

pub common_comm : (a b : Exposure) → common a b ≡ common b a
common_comm a b = exposure_ext (common a b) (common b a) (λ r. simp exposed_common (omega arith))

pub sharing_comm : (a b : Exposure) → sharing a b ≡ sharing b a
unfolding sharing
sharing_comm a b = ap size (common_comm a b)

-- what two share is the size of the common risk set, how many of the 64 risks are in both, and how many spans are
pub sharing_size : (a b : Exposure) → sharing a b ≡ length (in_both risk_width a.risks b.risks) + spans_in (common a b)
unfolding sharing size common field_of
sharing_size a b = omega (arith, ones_common risk_width a.risks b.risks)

pub spans_size : (a b : Exposure) → spans_in (common a b) ≡ length (in_both 64 a.low b.low) + length (in_both 64 a.high b.high)
unfolding spans_in common field_of
spans_size a b = omega (arith, ones_common 64 a.low b.low, ones_common 64 a.high b.high)

-- an arc has at most one span, and two together have no more than both
pub spans_of_arc : (a : Arc) → spans_in (of_arc a) ≤ 1
unfolding spans_in of_arc span_field
spans_of_arc a = go (leb 1 a.span) refl (ltb (a.span - 1) 64) refl (leb 65 a.span) refl (ltb (a.span - 65) 64) refl
  where
    go : (p : Bool) → leb 1 a.span ≡ p → (q : Bool) → ltb (a.span - 1) 64 ≡ q → (r : Bool) → leb 65 a.span ≡ r → (s : Bool) → ltb (a.span - 65) 64 ≡ s
        → ones_in 64 (if p && q then 2 ^ (a.span - 1) else 0) + ones_in 64 (if r && s then 2 ^ (a.span - 65) else 0) ≤ 1
    go true e true f true g s h = absurd (omega (arith, ltb-true (a.span - 1) 64 f, leb-true 65 a.span g))
    go true e true f false g s h = omega (arith, ones_single 64 (a.span - 1), ones_empty 64)
    go true e false f true g true h = omega (arith, ones_single 64 (a.span - 65), ones_empty 64)
    go true e false f true g false h = omega (arith, ones_empty 64)
    go true e false f false g s h = omega (arith, ones_empty 64)
    go false e q f true g true h = omega (arith, ones_single 64 (a.span - 65), ones_empty 64)
    go false e q f true g false h = omega (arith, ones_empty 64)
    go false e q f false g s h = omega (arith, ones_empty 64)

pub spans_unknown : (a : Arc) → a.span ≡ 0 → spans_in (of_arc a) ≡ 0
unfolding spans_in of_arc span_field
spans_unknown a e = rw e (omega (arith, ones_empty 64))

pub spans_joined : (a b : Exposure) → spans_in (joined a b) ≤ spans_in a + spans_in b
unfolding spans_in joined field_of
spans_joined a b = omega (arith, ones_or 64 a.low b.low, ones_or 64 a.high b.high)

pub spans_nothing : spans_in to_nothing ≡ 0
unfolding spans_in to_nothing
spans_nothing = omega (arith, ones_empty 64)

-- what two share is at most every risk and the spans of one of them
pub sharing_few : (a b : Exposure) → sharing a b ≤ risk_width + spans_in a
unfolding sharing size spans_in field_of
sharing_few a b =
    let inside : Inside (common a b) a = λ r. rw exposed_common (omega arith) in
    omega (
      arith,
      ones_le risk_width (common a b).risks,
      ones_mono 64 (common a b).low a.low (field_inside (common a b) a inside 1 (lit< tt)),
      ones_mono 64 (common a b).high a.high (field_inside (common a b) a inside 2 (lit< tt)),
    )

pub spans_few : (a b : Exposure) → spans_in (common a b) ≤ spans_in a
unfolding spans_in field_of
spans_few a b =
    let inside : Inside (common a b) a = λ r. rw exposed_common (omega arith) in
    omega (
      arith,
      ones_mono 64 (common a b).low a.low (field_inside (common a b) a inside 1 (lit< tt)),
      ones_mono 64 (common a b).high a.high (field_inside (common a b) a inside 2 (lit< tt)),
    )

-- ---- nothing in common

-- no bit in any field
empty_by : (e : Exposure) → ((r : ℕ) → exposed e r ≡ 0) → e ≡ to_nothing
empty_by e f = exposure_ext e to_nothing (λ r. f r ∙ sym (exposed_nothing r))

empty_at : (e : Exposure) → e.risks ≡ 0 → e.low ≡ 0 → e.high ≡ 0 → e ≡ to_nothing
unfolding to_nothing
empty_at e risks low high = λ i. record { risks = risks i; low = low i; high = high i }

pub disjoint_at : (a b : Exposure) → disjoint a b ≡ true → (r : ℕ) → min (exposed a r) (exposed b r) ≡ 0
unfolding disjoint
disjoint_at a b e r =
    let c = common a b in
    let fields = both (eqb c.risks 0) (eqb c.low 0 && eqb c.high 0) e in
    let spans = both (eqb c.low 0) (eqb c.high 0) fields.1 in
    let none : c ≡ to_nothing = empty_at c (eqb-true _ 0 fields.0) (eqb-true _ 0 spans.0) (eqb-true _ 0 spans.1) in
    sym (exposed_common a b r) ∙ ap (λ (x : Exposure). exposed x r) none ∙ exposed_nothing r

pub disjoint_by : (a b : Exposure) → ((r : ℕ) → min (exposed a r) (exposed b r) ≡ 0) → disjoint a b ≡ true
unfolding disjoint to_nothing
disjoint_by a b f =
    let none : common a b ≡ to_nothing = empty_by (common a b) (λ r. exposed_common a b r ∙ f r) in
    rw (eq-eqb (common a b).risks 0 (ap (λ (x : Exposure). x.risks) none), eq-eqb (common a b).low 0 (ap (λ (x : Exposure). x.low) none), eq-eqb (common a b).high 0 (ap (λ (x : Exposure). x.high) none))

pub disjoint_inside : (a b c : Exposure) → Inside a b → disjoint b c ≡ true → disjoint a c ≡ true
disjoint_inside a b c f e = disjoint_by a c (λ r. omega (arith, f r, disjoint_at b c e r))

pub disjoint_joined : (a b c : Exposure) → disjoint a c ≡ true → disjoint b c ≡ true → disjoint (joined a b) c ≡ true
disjoint_joined a b c e f = disjoint_by (joined a b) c (λ r. rw exposed_joined (omega (arith, disjoint_at a c e r, disjoint_at b c f r)))

pub nothing_disjoint : (a : Exposure) → disjoint to_nothing a ≡ true
nothing_disjoint a = disjoint_by to_nothing a (λ r. rw exposed_nothing (omega arith))

pub disjoint_nothing : (a : Exposure) → disjoint a to_nothing ≡ true
disjoint_nothing a = disjoint_by a to_nothing (λ r. rw exposed_nothing (omega arith))

-- with one alone: not exposed to it
pub disjoint_one : (a : Exposure) (r : ℕ) → exposed a r ≡ 0 → disjoint a (to_one r) ≡ true
unfolding digit
disjoint_one a r e = disjoint_by a (to_one r) (λ b. rw exposed_one (go b (eqb b r) refl))
  where
    go : (b : ℕ) (t : Bool) → eqb b r ≡ t → min (exposed a b) (digit (eqb b r)) ≡ 0
    go b true q = rw q (omega (arith, ap (exposed a) (eqb-true b r q), e))
    go b false q = rw q (omega arith)

pub one_disjoint : (a : Exposure) (r : ℕ) → disjoint a (to_one r) ≡ true → exposed a r ≡ 0
unfolding digit
one_disjoint a r e =
    let f : min (exposed a r) (digit (eqb r r)) ≡ 0 = rw exposed_one at (disjoint_at a (to_one r) e r) in
    omega (arith, rw (eq-eqb r r refl) at f, exposed_le_one a r)

-- ---- the field of the risks

pub joined_risks_below : (n : ℕ) (a b : Exposure) → a.risks < 2 ^ n → b.risks < 2 ^ n → (joined a b).risks < 2 ^ n
unfolding joined field_of
joined_risks_below n a b f g = or_lt n a.risks b.risks f g

pub common_risks_below : (n : ℕ) (a b : Exposure) → a.risks < 2 ^ n → b.risks < 2 ^ n → (common a b).risks < 2 ^ n
unfolding common field_of
common_risks_below n a b f g = and_lt n a.risks b.risks f g
