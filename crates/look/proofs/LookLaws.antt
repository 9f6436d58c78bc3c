-- The four kinds of arc, told from the facts and read back to them. Assumes nothing.
use mathlib.Core.Path.{◌≡◌, refl, sym, ap}
use mathlib.Core.Bool.{Bool, true, false}
use Prim.Native.Nat.{ℕ, ◌+◌, ◌≤◌, ◌<◌}
use native.Mathlib.Omega.{arith}
use lib.Dec.{eqb, ltb}
use borrow.Author.Tests.{eq-eqb, ne_eqb, eqb-true, eqb-false, ltb-true, ltb-false, lt-ltb, le-ltb}
use Rattle.std.specs.Prelude.{if◌then◌else◌}
use Rattle.laws.specs.Sets.{bit}
use Rattle.laws.proofs.SetLaws.{bit_le_one}
use Rattle.problem.specs.declared.Arc.{Arc}
use Rattle.net.specs.declared.Behind.{Behind}
use Rattle.net.specs.Search.{onto}
use Rattle.look.specs.declared.Leg.{Leg}
use Rattle.look.specs.declared.Leg.TheVariants.{Met, Past, Ends, Leads}
use Rattle.look.specs.Look.{leg_of}

-- what a leg is, says of its length, its head and what lies behind it
abbrev tag : Leg → ℕ
tag Met = 0
tag (Past to) = 1
tag (Ends e) = 2
tag (Leads h e) = 3

abbrev length_in : Leg → ℕ
length_in Met = 0
length_in (Past to) = to
length_in (Ends e) = 0
length_in (Leads h e) = 0

abbrev head_in : Leg → ℕ
head_in Met = 0
head_in (Past to) = 0
head_in (Ends e) = 0
head_in (Leads h e) = h

abbrev behind_in : Behind → Leg → Behind
behind_in b Met = b
behind_in b (Past to) = b
behind_in b (Ends e) = e
behind_in b (Leads h e) = e

module _ (terminal hi lower : ℕ) (b : Behind) (a : Arc) where
  abbrev to : ℕ
  to = b.metres + a.metres + lower

  abbrev leg : Leg
  leg = leg_of terminal hi lower b a

  -- ---- from the facts

  pub leg_met : bit b.met a.head ≡ 1 → leg ≡ Met
  unfolding leg_of
  leg_met m = rw (eq-eqb _ 1 m)

  pub leg_past : bit b.met a.head ≡ 0 → hi < to → leg ≡ Past to
  unfolding leg_of
  leg_past m f = rw (ne_eqb (bit b.met a.head) 1 (λ e. omega arith), lt-ltb hi to f)

  pub leg_ends : bit b.met a.head ≡ 0 → to ≤ hi → a.head ≡ terminal → leg ≡ Ends (onto b a)
  unfolding leg_of
  leg_ends m f t = rw (ne_eqb (bit b.met a.head) 1 (λ e. omega arith), le-ltb hi to f, eq-eqb _ _ t)

  pub leg_leads : bit b.met a.head ≡ 0 → to ≤ hi → (a.head ≡ terminal → ⊥) → leg ≡ Leads a.head (onto b a)
  unfolding leg_of
  leg_leads m f t = rw (ne_eqb (bit b.met a.head) 1 (λ e. omega arith), le-ltb hi to f, ne_eqb _ _ t)

  -- ---- back to them

  data Seen : Leg → Type 0 where
    met : bit b.met a.head ≡ 1 → Seen Met
    past : bit b.met a.head ≡ 0 → hi < to → Seen (Past to)
    ends : bit b.met a.head ≡ 0 → to ≤ hi → a.head ≡ terminal → Seen (Ends (onto b a))
    leads : bit b.met a.head ≡ 0 → to ≤ hi → (a.head ≡ terminal → ⊥) → Seen (Leads a.head (onto b a))

  seen : Seen leg
  unfolding leg_of
  seen = go (eqb (bit b.met a.head) 1) refl (ltb hi to) refl (eqb a.head terminal) refl
    where
      not_met : eqb (bit b.met a.head) 1 ≡ false → bit b.met a.head ≡ 0
      not_met e = omega (arith, eqb-false (bit b.met a.head) 1 e, bit_le_one b.met a.head)

      go : (x : Bool) → eqb (bit b.met a.head) 1 ≡ x → (y : Bool) → ltb hi to ≡ y → (z : Bool) → eqb a.head terminal ≡ z
          → Seen (if x then Met else (if y then Past to else (if z then Ends (onto b a) else Leads a.head (onto b a))))
      go true e y f z g = met (eqb-true _ 1 e)
      go false e true f z g = past (not_met e) (ltb-true hi to f)
      go false e false f true g = ends (not_met e) (ltb-false hi to f) (eqb-true _ _ g)
      go false e false f false g = leads (not_met e) (ltb-false hi to f) (eqb-false _ _ g)

  pub met_is : leg ≡ Met → bit b.met a.head ≡ 1
  met_is e = go seen (ap tag e)
    where
      go : {l : Leg} → Seen l → tag l ≡ 0 → bit b.met a.head ≡ 1
      go (Seen.met m) t = m
      go (Seen.past m f) t = absurd (omega arith)
      go (Seen.ends m f g) t = absurd (omega arith)
      go (Seen.leads m f g) t = absurd (omega arith)

  pub record Passes (x : ℕ) : Type 0 where
    pub is : x ≡ to
    pub past_end : hi < to

  pub past_is : {x : ℕ} → leg ≡ Past x → Passes x
  past_is {x} e = go seen (ap tag e) (ap length_in e)
    where
      go : {l : Leg} → Seen l → tag l ≡ 1 → length_in l ≡ x → Passes x
      go (Seen.met m) t q = absurd (omega arith)
      go (Seen.past m f) t q = record { is = sym q; past_end = f }
      go (Seen.ends m f g) t q = absurd (omega arith)
      go (Seen.leads m f g) t q = absurd (omega arith)

  pub record Ending (e : Behind) : Type 0 where
    pub is : e ≡ onto b a
    pub new : bit b.met a.head ≡ 0
    pub inside : to ≤ hi
    pub at_terminal : a.head ≡ terminal

  pub ends_is : {e : Behind} → leg ≡ Ends e → Ending e
  ends_is {e} q = go seen (ap tag q) (ap (behind_in b) q)
    where
      go : {l : Leg} → Seen l → tag l ≡ 2 → behind_in b l ≡ e → Ending e
      go (Seen.met m) t q = absurd (omega arith)
      go (Seen.past m f) t q = absurd (omega arith)
      go (Seen.ends m f g) t q = record { is = sym q; new = m; inside = f; at_terminal = g }
      go (Seen.leads m f g) t q = absurd (omega arith)

  pub record Leading (h : ℕ) (e : Behind) : Type 0 where
    pub head_is : h ≡ a.head
    pub is : e ≡ onto b a
    pub new : bit b.met a.head ≡ 0
    pub inside : to ≤ hi
    pub goes_on : a.head ≡ terminal → ⊥

  pub leads_is : {h : ℕ} {e : Behind} → leg ≡ Leads h e → Leading h e
  leads_is {h} {e} q = go seen (ap tag q) (ap head_in q) (ap (behind_in b) q)
    where
      go : {l : Leg} → Seen l → tag l ≡ 3 → head_in l ≡ h → behind_in b l ≡ e → Leading h e
      go (Seen.met m) t p q = absurd (omega arith)
      go (Seen.past m f) t p q = absurd (omega arith)
      go (Seen.ends m f g) t p q = absurd (omega arith)
      go (Seen.leads m f g) t p q = record { head_is = sym p; is = sym q; new = m; inside = f; goes_on = g }
