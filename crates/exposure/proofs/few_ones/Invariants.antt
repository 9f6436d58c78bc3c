-- The invariant: what was counted and what is left make the whole. The measure: what is left. Assumes nothing.
use Prim.Native.Nat.{◌+◌, ◌<◌, ◌^◌}
use mathlib.Core.Path.{◌≡◌}
use lib.Count.{ones_in}
use Rattle.exposure.proofs.few_ones.Given as goal

abbrev pub invariant-loop-left : goal.invariant-loop-left
invariant-loop-left l = (l.count + ones_in 64 l.left ≡ ones_in 64 l.field) × (l.left < 2 ^ 64)

abbrev pub decreases-loop-left : goal.decreases-loop-left
decreases-loop-left l = l.left
