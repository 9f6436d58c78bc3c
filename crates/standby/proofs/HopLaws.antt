-- The kinds of arc that the search for a standby knows, told from the facts and read back to them. Assumes nothing.
use mathlib.Core.Path.{◌≡◌, refl, sym, ap}
use mathlib.Core.Bool.{Bool, true, false}
use Prim.Native.Nat.{ℕ, ◌+◌, ◌≤◌, ◌<◌}
use native.Mathlib.Omega.{arith}
use lib.Dec.{eqb, leb, ltb}
use borrow.Author.Tests.{eq-eqb, ne_eqb, eqb-true, eqb-false, leb-true, leb-false, le-leb, lt-leb, ltb-true, ltb-false, lt-ltb, le-ltb}
use Rattle.std.specs.Prelude.{if◌then◌else◌}
use Rattle.laws.specs.Sets.{bit}
use Rattle.laws.proofs.SetLaws.{bit_le_one}
use Rattle.problem.specs.declared.Arc.{Arc}
use Rattle.problem.specs.declared.Exposure.{Exposure}
use Rattle.problem.specs.Routes.{Mesh}
use Rattle.net.specs.declared.Behind.{Behind}
use Rattle.net.specs.Search.{onto}
use Rattle.standby.specs.declared.Hop.{Hop}
use Rattle.standby.specs.declared.Hop.TheVariants.{Passed, Ends, Leads}
use Rattle.standby.specs.Standby.{key_over, hop_of}

abbrev tag : Hop Behind → ℕ
tag Passed = 0
tag (Ends k) = 1
tag (Leads h e) = 2

abbrev key_in : Hop Behind → ℕ
key_in Passed = 0
key_in (Ends k) = k
key_in (Leads h e) = 0

abbrev head_in : Hop Behind → ℕ
head_in Passed = 0
head_in (Ends k) = 0
head_in (Leads h e) = h

abbrev behind_in : Behind → Hop Behind → Behind
behind_in b Passed = b
behind_in b (Ends k) = b
behind_in b (Leads h e) = e

module _ (m : Mesh) (lower : ℕ) (main : Exposure) (door last least : ℕ) (b : Behind) (i : ℕ) (a : Arc) where
  abbrev to : ℕ
  to = b.metres + a.metres + lower

  abbrev key : ℕ
  key = key_over lower main door b a

  abbrev hop : Hop Behind
  hop = hop_of m lower main door last least b i a

  -- why an arc is passed over: its head was met before; all that goes over it is past the reach; none of it is better; or it is the arc that no standby may end with
  pub data Skips : Type 0 where
    met_before : bit b.met a.head ≡ 1 → Skips
    too_far : m.reach < to → Skips
    no_better : least ≤ key → Skips
    barred_end : bit b.met a.head ≡ 0 → a.head ≡ m.terminal → i ≡ last → Skips

  -- a better standby may go over it
  pub record Opens : Type 0 where
    pub new : bit b.met a.head ≡ 0
    pub in_reach : to ≤ m.reach
    pub better : key < least

  -- ---- from the facts

  not_met : bit b.met a.head ≡ 0 → eqb (bit b.met a.head) 1 ≡ false
  not_met m = ne_eqb (bit b.met a.head) 1 (λ e. omega arith)

  pub hop_met : bit b.met a.head ≡ 1 → hop ≡ Passed
  unfolding hop_of
  hop_met e = rw (eq-eqb _ 1 e)

  pub hop_far : bit b.met a.head ≡ 0 → m.reach < to → hop ≡ Passed
  unfolding hop_of
  hop_far n f = rw (not_met n, lt-ltb m.reach to f)

  pub hop_no_better : bit b.met a.head ≡ 0 → to ≤ m.reach → least ≤ key → hop ≡ Passed
  unfolding hop_of
  hop_no_better n f g = rw (not_met n, le-ltb m.reach to f, le-leb least key g)

  pub hop_barred : Opens → a.head ≡ m.terminal → i ≡ last → hop ≡ Passed
  unfolding hop_of
  hop_barred o t e = rw (not_met o.new, le-ltb m.reach to o.in_reach, lt-leb least key o.better, eq-eqb _ _ t, eq-eqb i last e)

  pub hop_ends : Opens → a.head ≡ m.terminal → (i ≡ last → ⊥) → hop ≡ Ends key
  unfolding hop_of
  hop_ends o t ne = rw (not_met o.new, le-ltb m.reach to o.in_reach, lt-leb least key o.better, eq-eqb _ _ t, ne_eqb i last ne)

  pub hop_leads : Opens → (a.head ≡ m.terminal → ⊥) → hop ≡ Leads a.head (onto b a)
  unfolding hop_of
  hop_leads o t = rw (not_met o.new, le-ltb m.reach to o.in_reach, lt-leb least key o.better, ne_eqb _ _ t)

  -- ---- back to them

  data Looked : Hop Behind → Type 0 where
    passed : Skips → Looked Passed
    ends : Opens → a.head ≡ m.terminal → (i ≡ last → ⊥) → Looked (Ends key)
    leads : Opens → (a.head ≡ m.terminal → ⊥) → Looked (Leads a.head (onto b a))

  looked : Looked hop
  unfolding hop_of
  looked = go (eqb (bit b.met a.head) 1) refl (ltb m.reach to) refl (leb least key) refl (eqb a.head m.terminal) refl (eqb i last) refl
    where
      opening : eqb (bit b.met a.head) 1 ≡ false → ltb m.reach to ≡ false → leb least key ≡ false → Opens
      opening e f g = record {
        new = omega (arith, eqb-false (bit b.met a.head) 1 e, bit_le_one b.met a.head);
        in_reach = ltb-false m.reach to f;
        better = leb-false least key g;
      }

      go : (w : Bool) → eqb (bit b.met a.head) 1 ≡ w → (x : Bool) → ltb m.reach to ≡ x → (y : Bool) → leb least key ≡ y → (z : Bool) → eqb a.head m.terminal ≡ z → (s : Bool) → eqb i last ≡ s
          → Looked (if w then Passed else (if x then Passed else (if y then Passed else (if z then (if s then Passed else Ends key) else Leads a.head (onto b a)))))
      go true e x f y g z h s k = passed (met_before (eqb-true _ 1 e))
      go false e true f y g z h s k = passed (too_far (ltb-true m.reach to f))
      go false e false f true g z h s k = passed (no_better (leb-true least key g))
      go false e false f false g true h true k = passed (barred_end (opening e f g).new (eqb-true _ _ h) (eqb-true i last k))
      go false e false f false g true h false k = ends (opening e f g) (eqb-true _ _ h) (eqb-false i last k)
      go false e false f false g false h s k = leads (opening e f g) (eqb-false _ _ h)

  pub passed_is : hop ≡ Passed → Skips
  passed_is e = go looked (ap tag e)
    where
      go : {h : Hop Behind} → Looked h → tag h ≡ 0 → Skips
      go (Looked.passed s) t = s
      go (Looked.ends o g ne) t = absurd (omega arith)
      go (Looked.leads o g) t = absurd (omega arith)

  pub record Ending (k : ℕ) : Type 0 where
    pub is : k ≡ key
    pub opens : Opens
    pub at_terminal : a.head ≡ m.terminal
    pub not_barred : i ≡ last → ⊥

  pub ends_is : {k : ℕ} → hop ≡ Ends k → Ending k
  ends_is {k} e = go looked (ap tag e) (ap key_in e)
    where
      go : {h : Hop Behind} → Looked h → tag h ≡ 1 → key_in h ≡ k → Ending k
      go (Looked.passed s) t q = absurd (omega arith)
      go (Looked.ends o g ne) t q = record { is = sym q; opens = o; at_terminal = g; not_barred = ne }
      go (Looked.leads o g) t q = absurd (omega arith)

  pub record Leading (h : ℕ) (e : Behind) : Type 0 where
    pub head_is : h ≡ a.head
    pub is : e ≡ onto b a
    pub opens : Opens
    pub goes_on : a.head ≡ m.terminal → ⊥

  pub leads_is : {h : ℕ} {e : Behind} → hop ≡ Leads h e → Leading h e
  leads_is {h} {e} q = go looked (ap tag q) (ap head_in q) (ap (behind_in b) q)
    where
      go : {l : Hop Behind} → Looked l → tag l ≡ 2 → head_in l ≡ h → behind_in b l ≡ e → Leading h e
      go (Looked.passed s) t p q = absurd (omega arith)
      go (Looked.ends o g ne) t p q = absurd (omega arith)
      go (Looked.leads o g) t p q = record { head_is = sym p; is = sym q; opens = o; goes_on = g }
