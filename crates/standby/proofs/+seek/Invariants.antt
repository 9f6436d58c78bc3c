-- `standby::seek` meets its contract. The invariant: the search stands at an arc of the node's chain; what is left from there on is no less than what is wanted; and
-- as far as the labels found and the nodes behind are true, nothing over the arcs passed makes a key below the least so far, and the labels now are true (`Going`).
-- The loop's measure is the arcs ahead, the recursion's the nodes not met: each arc leaves one node fewer unvisited. Assumes nothing.
use Rattle.std.proofs.Common.{◌-◌, ◌≡◌, length}
use Rattle.laws.specs.Sets.{unmet}
use Rattle.net.specs.Net.{arcs_in}
use Rattle.standby.specs.Trail.{behind_by}
use Rattle.standby.proofs.SeekLaws.{Going}
use Rattle.standby.proofs.+seek.Given as goal

abbrev pub decreases-seek : goal.decreases-seek
decreases-seek g l = unmet 32 l.trail.now.met

abbrev pub invariant-loop-i : goal.invariant-loop-i
invariant-loop-i g l = record {
  count : l.n ≡ length (arcs_in l.net);
  going : Going l.net l.main.exposure l.main.last (behind_by g.C.Carried.exposed_to l.trail) l.at l.bound l.fn.labels l.labels l.least l.i;
}

abbrev pub decreases-loop-i : goal.decreases-loop-i
decreases-loop-i g l = l.n - l.i
