-- Refusals, in the order of the checks: a number's own test holds, none of an earlier turn, and in its turn none of a smaller number. The tests are asked one after
-- the other, down the definition's own order; the turns of the arcs tell the first faulty one, and the first blank one. Assumes nothing.
use mathlib.Core.Path.{◌≡◌, refl, sym, ap, ◌∙◌, subst}
use mathlib.Core.Logic.{◌⊎◌, inl, inr}
use mathlib.Core.Bool.{Bool, true, false, ◌||◌, not}
use mathlib.Core.List.{List, []}
use Prim.Native.Nat.{ℕ, suc, ◌+◌, ◌*◌, ◌%◌, ◌^◌, ◌≤◌, ◌<◌}
use native.Mathlib.Omega.{arith}
use lib.Dec.{eqb, ltb}
use lib.ListN.{length}
use borrow.Author.Tests.{ltb-true, ltb-false, eqb-true, eqb-false, ne_eqb, not-true, not-false}
use Rattle.std.specs.Prelude.{if◌then◌else◌}
use Rattle.laws.specs.Sets.{bit}
use Rattle.laws.proofs.BoolLaws.{or_cases, neither}
use Rattle.laws.proofs.SetLaws.{bit_past, element_past}
use Rattle.problem.specs.declared.Arc.{Arc}
use Rattle.problem.specs.declared.Fault.{Fault}
use Rattle.problem.specs.declared.Request.{Request}
use Rattle.problem.specs.Table.{last_node, most_reach, most_allowance, most_table_bytes, reply_size, arcs_of, HasFault, fault_number, arc_number, arcs_number, all_sound}
use Rattle.problem.specs.Routes.{arc_at}
use Rattle.problem.specs.Blanks.{Blank, blanks_number, none_blank}
use Rattle.problem.specs.Closed.{closed_size, closed_in}
use Rattle.problem.specs.Reply.{first_number, size_checks, request_checks, arc_checks, blank_checks, closed_checks, refusal, Passed}
use Rattle.problem.specs.Calls.{RouteOf, Applies, Told, LowestFault, LowestBlank}
use Rattle.problem.proofs.ToldLaws.{First, first}
use Rattle.problem.proofs.FaultLaws.{Faulty, some_fault, fault_first, fault_range, arc_range, sound_none, sound_arc, faulty_number}
use Rattle.problem.proofs.TableLaws.{arcs_length, sound_at}
use Rattle.problem.proofs.BlankLaws.{lowest_told, listed_at}

-- where the numbers that are returned lie: none is 9, or of 11 to 19 but for 16, or past a blank at arc 127
pub data Known : ℕ → Type 0 where
  to_ten : {n : ℕ} → n ≤ 10 → (n ≡ 9 → ⊥) → Known n
  sixteen : Known 16
  of_an_arc : {n : ℕ} → 20 ≤ n → n ≤ 24 + 256 * 127 → Known n

pub unknown : {n : ℕ} → (n ≡ 9) ⊎ ((10 < n) × (n < 16)) → Known n → ⊥
unknown (inl nine) (Known.to_ten low other) = other nine
unknown (inl nine) Known.sixteen = omega arith
unknown (inl nine) (Known.of_an_arc low high) = omega arith
unknown (inr between) (Known.to_ten low other) = omega (arith, between.0)
unknown (inr between) Known.sixteen = omega (arith, between.1)
unknown (inr between) (Known.of_an_arc low high) = omega (arith, between.1)

module _ (table closed : List ℕ) (q : Request) (size : ℕ) where
  -- ---- turns and numbers

  abbrev arcs : List Arc
  arcs = arcs_of table

  -- no test of an earlier turn holds
  abbrev pub NoneBefore : ℕ → Type 0
  NoneBefore turn = (t i : ℕ) → t < turn → Applies table closed q size t i → ⊥

  -- what each turn gives
  data Turn : (turn number : ℕ) → Type 0 where
    own : (n : ℕ) → (2 ≤ n) × (n ≤ 8) → Turn n n
    of_one_arc : (k : ℕ) (f : Fault) → k < length arcs → HasFault (arc_at arcs k) f → Turn 9 (fault_number f + 256 * k)
    of_blank : (k : ℕ) → k < length arcs → Blank (arc_at arcs k) → Turn 10 (24 + 256 * k)
    of_set : Turn 11 16
    last : Turn 12 10

  turn_of : {t i : ℕ} → Applies table closed q size t i → Turn t i
  turn_of (Applies.table_too_long h) = own 2 (omega arith)
  turn_of (Applies.table_torn h) = own 3 (omega arith)
  turn_of (Applies.buffer_too_small h) = own 4 (omega arith)
  turn_of (Applies.source_too_high h) = own 5 (omega arith)
  turn_of (Applies.terminal_too_high h) = own 5 (omega arith)
  turn_of (Applies.ends_equal h) = own 6 (omega arith)
  turn_of (Applies.reach_too_far h) = own 7 (omega arith)
  turn_of (Applies.allowance_none h) = own 8 (omega arith)
  turn_of (Applies.allowance_too_large h) = own 8 (omega arith)
  turn_of (Applies.arc_faulty k f b h) = of_one_arc k f b h
  turn_of (Applies.arc_blank k b h) = of_blank k b h
  turn_of (Applies.set_not_whole h) = of_set
  turn_of (Applies.set_past_table k b h) = of_set
  turn_of (Applies.has_no_route h) = last

  from_two : {t i : ℕ} → Turn t i → (2 ≤ t) × (2 ≤ i)
  from_two (own n h) = (h.0, h.0)
  from_two (of_one_arc k f b h) = (omega arith, omega (arith, fault_first (arc_at arcs k) h))
  from_two (of_blank k b h) = (omega arith, omega arith)
  from_two of_set = (omega arith, omega arith)
  from_two last = (omega arith, omega arith)

  -- each turn but the two of the arcs has one number alone, and which
  abbrev pub Single : ℕ → Type 0
  Single t = (t < 9) ⊎ (10 < t)

  abbrev number_of : ℕ → ℕ
  number_of t = if eqb t 11 then 16 else (if eqb t 12 then 10 else t)

  single : {t i : ℕ} → Single t → Turn t i → i ≡ number_of t
  single s (own n h) = rw (ne_eqb n 11 (λ e. omega (arith, h.1)), ne_eqb n 12 (λ e. omega (arith, h.1)))
  single (inl low) (of_one_arc k f b h) = absurd (omega arith)
  single (inr high) (of_one_arc k f b h) = absurd (omega arith)
  single (inl low) (of_blank k b h) = absurd (omega arith)
  single (inr high) (of_blank k b h) = absurd (omega arith)
  single s of_set = refl
  single s last = refl

  -- the turns of 16 and of 10
  pub turn_sixteen : {t : ℕ} → Applies table closed q size t 16 → t ≡ 11
  turn_sixteen a = go refl (turn_of a)
    where
      go : {t n : ℕ} → n ≡ 16 → Turn t n → t ≡ 11
      go e (own n h) = absurd (omega (arith, h.1))
      go e (of_one_arc k f b h) = absurd (omega (arith, fault_first (arc_at arcs k) h))
      go e (of_blank k b h) = absurd (omega arith)
      go e of_set = refl
      go e last = absurd (omega arith)

  pub turn_ten : {t : ℕ} → Applies table closed q size t 10 → t ≡ 12
  turn_ten a = go refl (turn_of a)
    where
      go : {t n : ℕ} → n ≡ 10 → Turn t n → t ≡ 12
      go e (own n h) = absurd (omega (arith, h.1))
      go e (of_one_arc k f b h) = absurd (omega (arith, fault_first (arc_at arcs k) h))
      go e (of_blank k b h) = absurd (omega arith)
      go e of_set = absurd (omega arith)
      go e last = refl

  pub told_two : {n : ℕ} → Told table closed q size n → 2 ≤ n
  told_two told = (from_two (turn_of told.applies)).1

  -- a number that is told by a turn that has it alone
  pub told_own : {t n : ℕ} → Single t → Applies table closed q size t n → NoneBefore t → Told table closed q size n
  told_own {t} s a below = record { turn = t; applies = a; none_before = below; none_smaller = λ i l b. omega (arith, single s (turn_of a), single s (turn_of b)) }

  -- but one number is told
  pub told_same : {m n : ℕ} → Told table closed q size m → Told table closed q size n → m ≡ n
  told_same {m} {n} a b =
      let no_sooner : a.turn < b.turn → ⊥ = λ l. b.none_before _ _ l a.applies in
      let no_later : b.turn < a.turn → ⊥ = λ l. a.none_before _ _ l b.applies in
      let same : a.turn ≡ b.turn = omega arith in
      let not_less : m < n → ⊥ = λ l. b.none_smaller m l (subst (λ (t : ℕ). Applies table closed q size t m) same a.applies) in
      let not_more : n < m → ⊥ = λ l. a.none_smaller n l (subst (λ (t : ℕ). Applies table closed q size t n) (sym same) b.applies) in
      omega arith

  -- ---- the turns of the arcs

  -- an arc with a number has it in its turn
  arc_applies : (k : ℕ) → k < length arcs → (arc_number (arc_at arcs k) ≡ 0 → ⊥) → Applies table closed q size 9 (arc_number (arc_at arcs k) + 256 * k)
  arc_applies k b some =
      let f = some_fault (arc_at arcs k) some in
      subst (λ (n : ℕ). Applies table closed q size 9 (n + 256 * k)) f.2 (Applies.arc_faulty k f.0 b f.1)

  -- the first faulty arc is told with its first fault, where no turn before comes to a number
  pub told_faulty : NoneBefore 9 → {k : ℕ} → Faulty arcs k → Told table closed q size (arc_number (arc_at arcs k) + 256 * k)
  told_faulty below {k} f =
      record {
        turn = 9;
        applies = arc_applies k f.inside f.has;
        none_before = below;
        none_smaller = smaller;
      }
    where
      smaller : (i : ℕ) → i < arc_number (arc_at arcs k) + 256 * k → Applies table closed q size 9 i → ⊥
      smaller i l (Applies.arc_faulty j g b h) =
          let first = fault_first (arc_at arcs j) h in
          let not_lower : j < k → ⊥ = λ lower. omega (arith, first.0, f.none_before j lower) in
          let same : j ≡ k = omega (arith, arc_range (arc_at arcs k)) in
          omega (arith, first.1, ap (λ (x : ℕ). arc_number (arc_at arcs x)) same)

  -- and the first blank arc
  pub told_blank : NoneBefore 10 → {k : ℕ} → LowestBlank arcs k → Told table closed q size (24 + 256 * k)
  told_blank below {k} l = record { turn = 10; applies = Applies.arc_blank k l.inside l.blank; none_before = below; none_smaller = smaller }
    where
      smaller : (i : ℕ) → i < 24 + 256 * k → Applies table closed q size 10 i → ⊥
      smaller i s (Applies.arc_blank j b h) = l.none_below j (omega arith) h

  -- a number past 10 that is told, but for 16, taken apart, says the lowest faulty arc and its first fault, or the lowest blank arc
  pub told_lowest : {m : ℕ} → 10 < m → (m ≡ 16 → ⊥) → Told table closed q size m → (i n : ℕ) → n < 256 → m ≡ n + 256 * i → LowestFault arcs i n ⊎ ((n ≡ 24) × LowestBlank arcs i)
  told_lowest past other told i n low e = go past other (turn_of told.applies) told.none_smaller e
    where
      lowest : (k : ℕ) (f : Fault) → k < length arcs → HasFault (arc_at arcs k) f → ((j : ℕ) → j < fault_number f + 256 * k → Applies table closed q size 9 j → ⊥) → LowestFault arcs k (fault_number f)
      lowest k f b h none =
          let first = fault_first (arc_at arcs k) h in
          let not_less : arc_number (arc_at arcs k) < fault_number f → ⊥ = λ l. none (arc_number (arc_at arcs k) + 256 * k) (omega arith) (arc_applies k b (λ z. omega (arith, first.0))) in
          record { in_table = b; is_fault = omega (arith, first); first_fault = omega (arith, first.1); sound_below = λ j l. sound_arc _ (sound_below j l) }
        where
          sound_below : (j : ℕ) → j < k → arc_number (arc_at arcs j) ≡ 0
          sound_below j l =
              let range = arc_range (arc_at arcs j) in
              let no_number : 0 < arc_number (arc_at arcs j) → ⊥ = λ some. none (arc_number (arc_at arcs j) + 256 * j) (omega arith) (arc_applies j (omega arith) (λ z. omega arith)) in
              omega arith

      go : {t m : ℕ} → 10 < m → (m ≡ 16 → ⊥) → Turn t m → ((j : ℕ) → j < m → Applies table closed q size t j → ⊥) → m ≡ n + 256 * i → LowestFault arcs i n ⊎ ((n ≡ 24) × LowestBlank arcs i)
      go past other (own m h) none e = absurd (omega (arith, h.1))
      go past other (of_one_arc k f b h) none e =
          let arc_is : k ≡ i = omega (arith, fault_range f) in
          let fault_is : fault_number f ≡ n = omega (arith, fault_range f) in
          inl (subst (λ (j : ℕ). LowestFault arcs j n) arc_is (subst (LowestFault arcs k) fault_is (lowest k f b h none)))
      go past other (of_blank k b h) none e =
          let arc_is : k ≡ i = omega arith in
          let below : (j : ℕ) → j < k → Blank (arc_at arcs j) → ⊥ = λ j l x. none (24 + 256 * j) (omega arith) (Applies.arc_blank j (omega arith) x) in
          inr (omega arith, subst (LowestBlank arcs) arc_is (record { inside = b; blank = h; none_below = below }))
      go past other of_set none e = absurd (other refl)
      go past other last none e = absurd (omega arith)

  pub told_known : {n : ℕ} → Told table closed q size n → Known n
  told_known told = go (turn_of told.applies) told.none_before
    where
      go : {t n : ℕ} → Turn t n → NoneBefore t → Known n
      go (own n h) before = Known.to_ten {n = n} (omega (arith, h.1)) (λ nine. omega (arith, h.1))
      go (of_one_arc k f b h) before =
          let few : most_table_bytes < length table → ⊥ = λ l. before 2 2 (omega arith) (Applies.table_too_long l) in
          Known.of_an_arc {n = fault_number f + 256 * k} (omega (arith, fault_first (arc_at arcs k) h)) (omega (arith, fault_range f, arcs_length table))
      go (of_blank k b h) before =
          let few : most_table_bytes < length table → ⊥ = λ l. before 2 2 (omega arith) (Applies.table_too_long l) in
          Known.of_an_arc {n = 24 + 256 * k} (omega arith) (omega (arith, arcs_length table))
      go of_set before = Known.sixteen
      go last before = Known.to_ten {n = 10} (omega arith) (λ nine. omega arith)

  -- ---- the checks, one after the other

  -- one turn more that comes to no number
  none_next : (m : ℕ) → NoneBefore m → ((i : ℕ) → Applies table closed q size m i → ⊥) → NoneBefore (suc m)
  none_next m below fails t i l a =
      let not_before : t < m → ⊥ = λ h. below t i h a in
      let same : t ≡ m = omega arith in
      fails i (subst (λ (s : ℕ). Applies table closed q size s i) same a)

  -- one row of the order: its number is told where its test holds; else what follows it decides
  row : {n next : ℕ} (m : ℕ) → m < 9 → (test : Bool) → NoneBefore m → (test ≡ true → Applies table closed q size m m) → (test ≡ false → (i : ℕ) → Applies table closed q size m i → ⊥)
      → (NoneBefore (suc m) → next ≡ n → Told table closed q size n) → (if test then m else next) ≡ n → Told table closed q size n
  row m low true below holds fails on e = subst (Told table closed q size) e (told_own (inl low) (holds refl) below)
  row m low false below holds fails on e = on (none_next m below (fails refl)) e

  -- the row of faulty arcs, that of blank ones behind it, and that of the closed set
  arcs_row : {n next : ℕ} (b : Bool) → all_sound arcs ≡ b → NoneBefore 9 → (NoneBefore 10 → next ≡ suc n → Told table closed q size (suc n)) → (if not b then arcs_number arcs else next) ≡ suc n
      → Told table closed q size (suc n)
  unfolding arcs_number
  arcs_row true s below on e = on (none_next 9 below none) e
    where
      none : (i : ℕ) → Applies table closed q size 9 i → ⊥
      none i (Applies.arc_faulty k f b h) = sound_none (sound_at arcs s k b) h
  arcs_row {n} false s below on e = go (first arc_number (arc_at [] 0) 0 arcs)
    where
      go : First arc_number (arc_at [] 0) 0 arcs → Told table closed q size (suc n)
      go (First.none f z) = absurd (omega (arith, sym z ∙ e))
      go (First.one k f is) = subst (Told table closed q size) (sym (faulty_number arcs f) ∙ e) (told_faulty below f)

  blanks_row : {n next : ℕ} (b : Bool) → none_blank arcs ≡ b → NoneBefore 10 → (NoneBefore 11 → next ≡ suc n → Told table closed q size (suc n)) → (if not b then blanks_number arcs else next) ≡ suc n
      → Told table closed q size (suc n)
  blanks_row true s below on e = on (none_next 10 below none) e
    where
      none : (i : ℕ) → Applies table closed q size 10 i → ⊥
      none i (Applies.arc_blank k b h) = listed_at arcs s k b h
  blanks_row false s below on e =
      let t = lowest_told arcs (λ z. omega (arith, sym z ∙ e)) in
      subst (Told table closed q size) (sym t.2 ∙ e) (told_blank below t.1)

  -- what the closed set is refused for
  set_applies : (b : Bool) → eqb (length closed) closed_size ≡ b → (not b || not (ltb (closed_in closed) (2 ^ length arcs))) ≡ true → Applies table closed q size 11 16
  set_applies false e t = Applies.set_not_whole (eqb-false _ _ e)
  set_applies true e t =
      let past = element_past (length arcs) (closed_in closed) (ltb-false (closed_in closed) (2 ^ length arcs) (not-true _ t)) in
      Applies.set_past_table past.place past.from (ne_eqb (bit (closed_in closed) past.place) 0 (λ z. omega (arith, past.is_member)))

  set_row : {n : ℕ} (b : Bool) → (not (eqb (length closed) closed_size) || not (ltb (closed_in closed) (2 ^ length arcs))) ≡ b → NoneBefore 11 → (if b then 16 else 0) ≡ suc n → Told table closed q size (suc n)
  set_row true t below e = subst (Told table closed q size) e (told_own (inr (omega arith)) (set_applies (eqb (length closed) closed_size) refl t) below)
  set_row false t below e = absurd (omega arith)

  -- a refusal by a check is that of the first whose test holds
  pub refusal_told : (n : ℕ) → refusal table closed q size ≡ suc n → Told table closed q size (suc n)
  unfolding refusal size_checks request_checks arc_checks blank_checks closed_checks first_number
  refusal_told n e =
      row 2 (omega arith) (ltb most_table_bytes (length table)) (λ t i l a. omega (arith, from_two (turn_of a))) (λ t. Applies.table_too_long (ltb-true _ _ t)) long
      (λ below. row 3 (omega arith) (not (eqb (length table % 16) 0)) below (λ t. Applies.table_torn (eqb-false _ _ (not-true _ t))) torn
      (λ below. row 4 (omega arith) (ltb size reply_size) below (λ t. Applies.buffer_too_small (ltb-true _ _ t)) small
      (λ below. row 5 (omega arith) (ltb last_node q.source || ltb last_node q.terminal) below high no_high
      (λ below. row 6 (omega arith) (eqb q.source q.terminal) below (λ t. Applies.ends_equal (eqb-true _ _ t)) equal
      (λ below. row 7 (omega arith) (ltb most_reach q.reach) below (λ t. Applies.reach_too_far (ltb-true _ _ t)) far
      (λ below. row 8 (omega arith) (eqb q.allowance 0 || ltb most_allowance q.allowance) below allowed not_allowed
      (λ below. arcs_row (all_sound (arcs_of table)) refl below
      (λ below. blanks_row (none_blank (arcs_of table)) refl below (set_row _ refl))))))))) e
    where
      long : ltb most_table_bytes (length table) ≡ false → (i : ℕ) → Applies table closed q size 2 i → ⊥
      long t i (Applies.table_too_long h) = omega (arith, ltb-false most_table_bytes (length table) t)

      torn : not (eqb (length table % 16) 0) ≡ false → (i : ℕ) → Applies table closed q size 3 i → ⊥
      torn t i (Applies.table_torn h) = h (eqb-true _ _ (not-false _ t))

      small : ltb size reply_size ≡ false → (i : ℕ) → Applies table closed q size 4 i → ⊥
      small t i (Applies.buffer_too_small h) = omega (arith, ltb-false size reply_size t)

      high : (ltb last_node q.source || ltb last_node q.terminal) ≡ true → Applies table closed q size 5 5
      high t = elim (or_cases (ltb last_node q.source) (ltb last_node q.terminal) t) [ inl a ↦ Applies.source_too_high (ltb-true _ _ a) | inr a ↦ Applies.terminal_too_high (ltb-true _ _ a) ]

      no_high : (ltb last_node q.source || ltb last_node q.terminal) ≡ false → (i : ℕ) → Applies table closed q size 5 i → ⊥
      no_high t i (Applies.source_too_high h) = omega (arith, ltb-false last_node q.source (neither (ltb last_node q.source) (ltb last_node q.terminal) t).0)
      no_high t i (Applies.terminal_too_high h) = omega (arith, ltb-false last_node q.terminal (neither (ltb last_node q.source) (ltb last_node q.terminal) t).1)

      equal : eqb q.source q.terminal ≡ false → (i : ℕ) → Applies table closed q size 6 i → ⊥
      equal t i (Applies.ends_equal h) = eqb-false _ _ t h

      far : ltb most_reach q.reach ≡ false → (i : ℕ) → Applies table closed q size 7 i → ⊥
      far t i (Applies.reach_too_far h) = omega (arith, ltb-false most_reach q.reach t)

      allowed : (eqb q.allowance 0 || ltb most_allowance q.allowance) ≡ true → Applies table closed q size 8 8
      allowed t = elim (or_cases (eqb q.allowance 0) (ltb most_allowance q.allowance) t) [ inl a ↦ Applies.allowance_none (eqb-true _ _ a) | inr a ↦ Applies.allowance_too_large (ltb-true _ _ a) ]

      not_allowed : (eqb q.allowance 0 || ltb most_allowance q.allowance) ≡ false → (i : ℕ) → Applies table closed q size 8 i → ⊥
      not_allowed t i (Applies.allowance_none h) = eqb-false _ _ (neither (eqb q.allowance 0) (ltb most_allowance q.allowance) t).0 h
      not_allowed t i (Applies.allowance_too_large h) = omega (arith, ltb-false most_allowance q.allowance (neither (eqb q.allowance 0) (ltb most_allowance q.allowance) t).1)

  -- where the checks have passed, the one test that can still hold is that of 10
  pub passed_ten : Passed table closed q size → {t i : ℕ} → Applies table closed q size t i → (t ≡ 12) × ((ks : List ℕ) → RouteOf table closed q ks → ⊥)
  passed_ten p (Applies.table_too_long h) = absurd (omega (arith, p.checked.few_bytes))
  passed_ten p (Applies.table_torn h) = absurd (h p.checked.has_whole_arcs)
  passed_ten p (Applies.buffer_too_small h) = absurd (omega (arith, p.room))
  passed_ten p (Applies.source_too_high h) = absurd (omega (arith, p.checked.source_node))
  passed_ten p (Applies.terminal_too_high h) = absurd (omega (arith, p.checked.terminal_node))
  passed_ten p (Applies.ends_equal h) = absurd (p.checked.ends_differ h)
  passed_ten p (Applies.reach_too_far h) = absurd (omega (arith, p.checked.reach_range))
  passed_ten p (Applies.allowance_none h) = absurd (omega (arith, p.checked.some_allowance))
  passed_ten p (Applies.allowance_too_large h) = absurd (omega (arith, p.checked.allowance_range))
  passed_ten p (Applies.arc_faulty k f b h) = absurd (sound_none (sound_at arcs p.checked.sound k b) h)
  passed_ten p (Applies.arc_blank k b h) = absurd (listed_at arcs p.risks_listed k b h)
  passed_ten p (Applies.set_not_whole h) = absurd (h p.closed_set.whole)
  passed_ten p (Applies.set_past_table k b h) = absurd (eqb-false _ 0 h (bit_past (length arcs) (closed_in closed) k p.closed_set.inside b))
  passed_ten p (Applies.has_no_route h) = (refl, h)

  pub passed_before : Passed table closed q size → NoneBefore 12
  passed_before p t i l a = omega (arith, (passed_ten p a).0)
