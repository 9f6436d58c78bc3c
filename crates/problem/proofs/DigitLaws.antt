-- Decimal digits: the last one after those of a tenth, how many there are, and that no two numbers have the same. Assumes nothing.
use Prim.Native.Nat.{ℕ, zero, suc, ◌+◌, ◌*◌, ◌-◌, ◌/◌, ◌%◌, ◌^◌, ◌≤◌, ◌<◌}
use mathlib.Core.List.{List, [], ◌∷◌, ◌++◌, foldl, foldl-append}
use mathlib.Core.Path.{◌≡◌, sym, ap, ◌∙◌}
use native.Mathlib.Nat.{pow-suc}
use native.Mathlib.Decide.{dec_lt}
use native.Mathlib.Omega.{arith}
use lib.ListN.{length, length-append}
use borrow.Author.Tests.{lt-ltb, le-ltb}
use Rattle.problem.specs.Printed.{digits}

module _ (n x : ℕ) where
  pub digits_one : x < 10 → digits (suc n) x ≡ (48 + x) ∷ []
  unfolding digits
  digits_one h = rw (lt-ltb x 10 h, digits)

  digits_step : 10 ≤ x → digits (suc n) x ≡ digits n (x / 10) ++ (48 + x % 10) ∷ []
  unfolding digits
  digits_step h = rw (le-ltb x 10 h, digits)

-- a tenth has a digit less
tenth : (k x : ℕ) → x < 10 ^ suc k → x / 10 < 10 ^ k
tenth k x h = omega (arith, pow-suc 10 k)

-- as many digits as a number has are enough: one more changes nothing
digits_enough : (k x : ℕ) → x < 10 ^ suc k → digits (suc k) x ≡ digits (suc (suc k)) x
digits_enough zero x h = digits_one 0 x (omega arith) ∙ sym (digits_one 1 x (omega arith))
digits_enough (suc k) x h =
    elim (dec_lt x 10) [
      | yes l ↦ digits_one (suc k) x l ∙ sym (digits_one (suc (suc k)) x l)
      | no l ↦ digits_step (suc k) x (omega arith)
          ∙ ap (λ (r : List ℕ). r ++ (48 + x % 10) ∷ []) (digits_enough k (x / 10) (tenth (suc k) x h))
          ∙ sym (digits_step (suc (suc k)) x (omega arith))
    ]

-- 10 digits, of which all but the last are those of the tenth
pub digits_last : (x : ℕ) → 10 ≤ x → x < 10 ^ 10 → digits 10 x ≡ digits 10 (x / 10) ++ (48 + x % 10) ∷ []
digits_last x h l = digits_step 9 x h ∙ ap (λ (r : List ℕ). r ++ (48 + x % 10) ∷ []) (digits_enough 8 (x / 10) (tenth 9 x l))

pub digits_length : (k n x : ℕ) → x < 10 ^ suc k → length (digits n x) ≤ suc k
unfolding digits
digits_length k zero x h = omega arith
digits_length zero (suc n) x h = rw (digits_one n x (omega arith)) (omega arith)
digits_length (suc k) (suc n) x h =
    elim (dec_lt x 10) [
      | yes l ↦ rw (digits_one n x l) (omega arith)
      | no l ↦ rw (digits_step n x (omega arith), length-append) (omega (arith, digits_length k n (x / 10) (tenth (suc k) x h)))
    ]

-- a number read back from its digits
abbrev number_read_back : List ℕ → ℕ
number_read_back l = foldl (λ (n c : ℕ). 10 * n + (c - 48)) 0 l

digits_back : (n x : ℕ) → x < 10 ^ n → number_read_back (digits n x) ≡ x
unfolding digits
digits_back zero x h = omega arith
digits_back (suc n) x h =
    elim (dec_lt x 10) [
      | yes l ↦ rw (digits_one n x l) (omega arith)
      | no l ↦ rw (digits_step n x (omega arith), foldl-append) (omega (arith, digits_back n (x / 10) (tenth n x h)))
    ]

-- so no two numbers have the same
pub digits_same : (n : ℕ) {x y : ℕ} → x < 10 ^ n → y < 10 ^ n → digits n x ≡ digits n y → x ≡ y
digits_same n {x} {y} h l e = sym (digits_back n x h) ∙ ap number_read_back e ∙ digits_back n y l
