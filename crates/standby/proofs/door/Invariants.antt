-- `standby::door` meets its contract. The invariant: the main shares at least `least` with each door below arc k. The measure: the arcs ahead.
-- Assumes nothing.
use Prim.Native.Nat.{◌-◌}
use mathlib.Core.Path.{◌≡◌}
use lib.ListN.{length}
use Rattle.net.specs.Net.{arcs_in}
use Rattle.standby.proofs.DoorLaws.{DoorsBelow}
use Rattle.standby.proofs.door.Given as goal

abbrev pub invariant-loop-k : goal.invariant-loop-k
invariant-loop-k l = (l.n ≡ length (arcs_in l.net)) × DoorsBelow l.net l.main l.k l.least

abbrev pub decreases-loop-k : goal.decreases-loop-k
decreases-loop-k l = l.n - l.k
