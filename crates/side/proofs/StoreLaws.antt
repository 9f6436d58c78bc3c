-- A list of entries: only nodes that it has are reached, and after one store, how many. Assumes nothing.
use mathlib.Core.Path.{◌≡◌, sym, ap, ◌∙◌}
use mathlib.Core.Bool.{Bool, true, false, false≢true}
use mathlib.Core.List.{List, [], ◌∷◌}
use Prim.Native.Nat.{ℕ, zero, suc, ◌+◌, ◌≤◌, ◌<◌}
use native.Mathlib.Nat.{not-suc-le-zero, le_of_suc-le-suc}
use native.Mathlib.Decide.{dec_lt}
use native.Mathlib.Omega.{arith}
use lib.ListN.{length, get_or, set, get_or-eq_default}
use Rattle.laws.proofs.SetLaws.{digit}
use Rattle.side.specs.declared.Distance.{Distance}
use Rattle.side.specs.Side.{unreached, reached_at}

pub reached_inside : (l : List Distance) (v : ℕ) → reached_at l v ≡ true → v < length l
reached_inside l v e = elim (dec_lt v (length l)) [
  | yes h ↦ h
  | no h ↦ absurd (false≢true (sym (ap (λ (x : Distance). x.reached) (get_or-eq_default l unreached {n = v} (omega arith))) ∙ e))
]

-- how many nodes are reached
unfoldable pub count : List Distance → ℕ
count [] = 0
count (e ∷ l) = digit e.reached + count l

count_set : (l : List Distance) (i : ℕ) (e : Distance) → i < length l → count (set l i e) + digit (get_or l i unreached).reached ≡ count l + digit e.reached
unfolding count
count_set [] i e h = absurd (not-suc-le-zero h)
count_set (x ∷ l) zero e h = omega arith
count_set (x ∷ l) (suc i) e h = omega (arith, count_set l i e (le_of_suc-le-suc h))

digit_le : (b : Bool) → digit b ≤ 1
unfolding digit
digit_le true = omega arith
digit_le false = omega arith

pub count_le : (l : List Distance) → count l ≤ length l
unfolding count
count_le [] = omega arith
count_le (e ∷ l) = omega (arith, digit_le e.reached, count_le l)

-- a reached entry stored over an unreached one counts one more; over another, as many
pub count_new : (l : List Distance) (i : ℕ) (e : Distance) → i < length l → (get_or l i unreached).reached ≡ false → e.reached ≡ true → count (set l i e) ≡ suc (count l)
unfolding digit
count_new l i e h was is = omega (arith, count_set l i e h, ap digit was, ap digit is)

pub count_again : (l : List Distance) (i : ℕ) (e : Distance) → i < length l → (get_or l i unreached).reached ≡ true → e.reached ≡ true → count (set l i e) ≡ count l
unfolding digit
count_again l i e h was is = omega (arith, count_set l i e h, ap digit was, ap digit is)
