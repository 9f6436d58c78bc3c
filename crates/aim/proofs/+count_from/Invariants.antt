-- `aim::count_from`: the count stands at an arc of the node's chain. The loop's measure is the arcs ahead, the recursion's the nodes not met. Assumes nothing.
use Rattle.std.proofs.Common.{◌-◌, ◌≡◌, length}
use Rattle.laws.specs.Sets.{unmet}
use Rattle.problem.specs.Exposures.{to_nothing}
use Rattle.net.specs.Net.{arcs_in}
use Rattle.net.specs.Search.{behind}
use Rattle.aim.proofs.AimLaws.{Stands}
use Rattle.aim.proofs.+count_from.Given as goal

abbrev pub decreases-count_from : goal.decreases-count_from
decreases-count_from l = unmet 32 l.met

abbrev pub invariant-loop-i : goal.invariant-loop-i
invariant-loop-i l = (l.n ≡ length (arcs_in l.net)) × Stands l.net (behind l.met l.metres to_nothing) l.at l.i

abbrev pub decreases-loop-i : goal.decreases-loop-i
decreases-loop-i l = l.n - l.i
