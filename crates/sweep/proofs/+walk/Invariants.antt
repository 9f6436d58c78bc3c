-- `sweep::walk`: at each arc of the node's chain the cap is not passed, the sweep stands at that arc (`Walking`), and all that the
-- store holds is true. The loop's measure is the arcs ahead, the recursion's the nodes not met. Assumes nothing.
use Rattle.std.proofs.Common.{length, ◌-◌, ◌≡◌, false}
use Rattle.laws.specs.Sets.{unmet}
use Rattle.net.specs.Net.{arcs_in}
use Rattle.net.specs.Search.{behind}
use Rattle.cores.specs.Cores.{Stored}
use Rattle.sweep.proofs.WalkLaws.{Walking}
use Rattle.sweep.proofs.+walk.Given as goal

abbrev pub decreases-walk : goal.decreases-walk
decreases-walk l = unmet 32 l.met

abbrev pub invariant-loop-i : goal.invariant-loop-i
invariant-loop-i l =
    (l.run.swept.tally.over ≡ false)
    × Walking l.net l.at (behind l.met l.metres (record { risks = l.risks; low = l.low; high = l.high })) l.fn.run l.run l.i
    × Stored l.net l.store

abbrev pub decreases-loop-i : goal.decreases-loop-i
decreases-loop-i l = length (arcs_in l.net) - l.i
