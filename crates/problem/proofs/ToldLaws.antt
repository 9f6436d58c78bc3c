-- The first of a list that has a number other than 0 (`first_told`): which it is, and the number told of it. Assumes nothing.
use mathlib.Core.Path.{◌≡◌, refl, ap, ◌∙◌}
use mathlib.Core.Bool.{Bool, true, false}
use mathlib.Core.List.{List, [], ◌∷◌}
use Prim.Native.Nat.{ℕ, zero, suc, ◌+◌, ◌*◌, ◌<◌, suc-le-suc}
use native.Mathlib.Nat.{not-suc-le-zero, le_of_suc-le-suc}
use native.Mathlib.Omega.{arith}
use lib.Dec.{eqb}
use lib.ListN.{length, get_or}
use borrow.Author.Tests.{eqb-true, eqb-false}
use Rattle.problem.specs.Table.{first_told}

module _ {A : Type 0} (number : A → ℕ) (other : A) where
  -- the k-th is the first that has a number
  pub record FirstAt (l : List A) (k : ℕ) : Type 0 where
    pub inside : k < length l
    pub has : number (get_or l k other) ≡ 0 → ⊥
    pub none_before : (j : ℕ) → j < k → number (get_or l j other) ≡ 0

  -- none has a number, or one is the first and is told
  pub data First (i : ℕ) (l : List A) : Type 0 where
    none : ((j : ℕ) → j < length l → number (get_or l j other) ≡ 0) → first_told number i l ≡ 0 → First i l
    one : (k : ℕ) → FirstAt l k → first_told number i l ≡ number (get_or l k other) + 256 * (i + k) → First i l

  -- one in front that has none
  none_in_front : (a : A) (l : List A) {n : ℕ} → number a ≡ 0 → ((j : ℕ) → j < n → number (get_or l j other) ≡ 0) → (j : ℕ) → j < suc n → number (get_or (a ∷ l) j other) ≡ 0
  none_in_front a l z rest zero b = z
  none_in_front a l z rest (suc j) b = rest j (le_of_suc-le-suc b)

  pub first : (i : ℕ) (l : List A) → First i l
  unfolding first_told
  first i [] = none (λ j b. absurd (not-suc-le-zero b)) refl
  first i (a ∷ l) = go (eqb (number a) 0) refl (first (suc i) l)
    where
      go : (b : Bool) → eqb (number a) 0 ≡ b → First (suc i) l → First i (a ∷ l)
      go false e rest = one 0 (record { inside = omega arith; has = eqb-false _ _ e; none_before = λ j b. absurd (not-suc-le-zero b) }) (rw e (omega arith))
      go true e (none f z) = none (none_in_front a l (eqb-true _ _ e) f) (rw e z)
      go true e (one k f is) =
          one (suc k) (record { inside = suc-le-suc f.inside; has = f.has; none_before = none_in_front a l (eqb-true _ _ e) f.none_before }) (rw e (omega (arith, is)))

  -- there is but one first
  pub first_told_lem : {l : List A} {k : ℕ} → FirstAt l k → first_told number 0 l ≡ number (get_or l k other) + 256 * k
  first_told_lem {l} {k} f = go (first 0 l)
    where
      go : First 0 l → first_told number 0 l ≡ number (get_or l k other) + 256 * k
      go (First.none all z) = absurd (f.has (all k f.inside))
      go (First.one j g is) =
          let not_less : j < k → ⊥ = λ b. g.has (f.none_before j b) in
          let not_more : k < j → ⊥ = λ b. f.has (g.none_before k b) in
          let same : j ≡ k = omega arith in
          omega (arith, is, ap (λ (x : ℕ). number (get_or l x other)) same)

  pub none_told : (l : List A) → ((j : ℕ) → j < length l → number (get_or l j other) ≡ 0) → first_told number 0 l ≡ 0
  none_told l all = go (first 0 l)
    where
      go : First 0 l → first_told number 0 l ≡ 0
      go (First.none f z) = z
      go (First.one k f is) = absurd (f.has (all k f.inside))

  -- one more behind that has none
  pub none_on : (l : List A) {k : ℕ} → ((j : ℕ) → j < k → number (get_or l j other) ≡ 0) → number (get_or l k other) ≡ 0 → (j : ℕ) → j < k + 1 → number (get_or l j other) ≡ 0
  none_on l {k} before z j b = go (eqb j k) refl
    where
      go : (s : Bool) → eqb j k ≡ s → number (get_or l j other) ≡ 0
      go true e = ap (λ (x : ℕ). number (get_or l x other)) (eqb-true j k e) ∙ z
      go false e = before j (omega (arith, eqb-false j k e))

  -- where nothing is told, none has a number
  pub untold : (l : List A) → first_told number 0 l ≡ 0 → (j : ℕ) → j < length l → number (get_or l j other) ≡ 0
  untold l z = go (first 0 l)
    where
      go : First 0 l → (j : ℕ) → j < length l → number (get_or l j other) ≡ 0
      go (First.none f e) = f
      go (First.one k f is) = absurd (f.has (omega arith))
