-- Blank arcs (T-09): what the definition's test says of one, and of several the lowest. Assumes nothing.
use mathlib.Core.Path.{◌≡◌, refl, sym, ap, ◌∙◌}
use mathlib.Core.Bool.{Bool, true, false}
use mathlib.Core.List.{List, []}
use Prim.Native.Nat.{ℕ, ◌+◌, ◌*◌, ◌<◌}
use native.Mathlib.Omega.{arith}
use lib.Dec.{eqb, ltb}
use lib.ListN.{length}
use borrow.Author.Tests.{ltb-true, lt-ltb, eqb-true, eq-eqb}
use Rattle.std.specs.Prelude.{if◌then◌else◌}
use Rattle.laws.proofs.BoolLaws.{both}
use Rattle.problem.specs.declared.Arc.{Arc}
use Rattle.problem.specs.Routes.{arc_at}
use Rattle.problem.specs.Blanks.{Blank, is_blank, blank_number, blanks_number, none_blank}
use Rattle.problem.specs.Calls.{LowestBlank}
use Rattle.problem.proofs.ToldLaws.{FirstAt, First, first, first_told_lem, none_told, none_on, untold}

-- ---- of one arc

-- a number is given where the test holds
numbered : (b : Bool) {n : ℕ} → (if b then 24 else 0) ≡ n → (n ≡ 0 → ⊥) → b ≡ true
numbered true e f = refl
numbered false e f = absurd (f (sym e))

module _ (a : Arc) where
  pub is_blank_lem : Blank a → is_blank a ≡ true
  unfolding is_blank
  is_blank_lem b = rw (lt-ltb 0 a.metres b.some_metres, eq-eqb a.risks 0 b.no_risk)

  pub blank_is : is_blank a ≡ true → Blank a
  unfolding is_blank
  blank_is e = let t = both (ltb 0 a.metres) (eqb a.risks 0) e in record { some_metres = ltb-true _ _ t.0; no_risk = eqb-true _ _ t.1 }

  -- an arc of 0 metres keeps its blank; of any other its risks tell
  pub blank_metres : a.metres ≡ 0 → is_blank a ≡ false
  unfolding is_blank
  blank_metres z = rw z

  pub blank_risks : (a.metres ≡ 0 → ⊥) → is_blank a ≡ eqb a.risks 0
  unfolding is_blank
  blank_risks some = rw (lt-ltb 0 a.metres (omega (arith, some)))

  -- a blank arc has number 24, and one with a number is blank
  pub blank_number_lem : Blank a → blank_number a ≡ 24
  blank_number_lem b = rw (is_blank_lem b)

  pub number_blank : (blank_number a ≡ 0 → ⊥) → Blank a
  number_blank f = blank_is (numbered (is_blank a) refl f)

-- ---- of several arcs

module _ (arcs : List Arc) where
  -- arc k is the first that is blank
  abbrev pub FirstBlank : ℕ → Type 0
  FirstBlank = FirstAt blank_number (arc_at [] 0) arcs

  pub first_lowest : {k : ℕ} → FirstBlank k → LowestBlank arcs k
  first_lowest {k} f =
      record { inside = f.inside; blank = number_blank (arc_at arcs k) f.has; none_below = λ j l b. omega (arith, blank_number_lem (arc_at arcs j) b, f.none_before j l) }

  -- the number told of it, and that of arcs none of which is blank
  pub blanks_number_lem : {k : ℕ} → FirstBlank k → blanks_number arcs ≡ 24 + 256 * k
  unfolding blanks_number
  blanks_number_lem {k} f = first_told_lem blank_number (arc_at [] 0) f ∙ ap (λ (n : ℕ). n + 256 * k) (blank_number_lem (arc_at arcs k) (number_blank (arc_at arcs k) f.has))

  pub blankless_number : ((j : ℕ) → j < length arcs → blank_number (arc_at arcs j) ≡ 0) → blanks_number arcs ≡ 0
  unfolding blanks_number
  blankless_number = none_told blank_number (arc_at [] 0) arcs

  pub blankless_on : {k : ℕ} → ((j : ℕ) → j < k → blank_number (arc_at arcs j) ≡ 0) → blank_number (arc_at arcs k) ≡ 0 → (j : ℕ) → j < k + 1 → blank_number (arc_at arcs j) ≡ 0
  blankless_on = none_on blank_number (arc_at [] 0) arcs

  -- where a number is told, it is that of the lowest blank arc
  pub lowest_told : (blanks_number arcs ≡ 0 → ⊥) → (k : ℕ) × LowestBlank arcs k × (blanks_number arcs ≡ 24 + 256 * k)
  unfolding blanks_number
  lowest_told some = go (first blank_number (arc_at [] 0) 0 arcs)
    where
      go : First blank_number (arc_at [] 0) 0 arcs → (k : ℕ) × LowestBlank arcs k × (blanks_number arcs ≡ 24 + 256 * k)
      go (First.none f z) = absurd (some z)
      go (First.one k f is) = (k, first_lowest f, blanks_number_lem f)

  -- no number is told exactly where each arc of more than 0 metres has a risk
  pub listed_number : none_blank arcs ≡ true → blanks_number arcs ≡ 0
  unfolding none_blank
  listed_number h = eqb-true (blanks_number arcs) 0 h

  pub number_listed : blanks_number arcs ≡ 0 → none_blank arcs ≡ true
  unfolding none_blank
  number_listed h = eq-eqb (blanks_number arcs) 0 h

  pub listed_at : none_blank arcs ≡ true → (k : ℕ) → k < length arcs → Blank (arc_at arcs k) → ⊥
  unfolding blanks_number
  listed_at h k l b = omega (arith, blank_number_lem (arc_at arcs k) b, untold blank_number (arc_at [] 0) arcs (listed_number h) k l)
