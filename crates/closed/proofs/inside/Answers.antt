-- `closed::inside` meets its contract: what is below 2 to the power of n has nothing left once it is shifted by n. Assumes nothing.
use Rattle.std.proofs.Common.{ℕ, ◌≡◌, ◌<◌, ◌/◌, eqb, ltb, arith}
use Rattle.std.proofs.lemmas.Bool.Decides.{nat_tests}
use Rattle.std.proofs.Math.Nat.{div-lt_iff_lt-mul}
use Rattle.std.proofs.lemmas.Nat.{pow_pos}
use Rattle.closed.proofs.inside.Goals as goal

none_left : (s p : ℕ) → 0 < p → eqb (s / p) 0 ≡ ltb s p
none_left s p h = let (to, from) = div-lt_iff_lt-mul {x = s} {y = 1} h in grind (arith, nat_tests, to, from)

pub returns-else-n-eq-ALL_ARCS : goal.returns-else-n-eq-ALL_ARCS
returns-else-n-eq-ALL_ARCS c = none_left _ _ (pow_pos _)
