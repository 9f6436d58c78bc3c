-- `find::seek` meets its contract. The invariant: nothing is found, and the search stands at an arc of the node's chain (`Rest`), an arc being
-- left out only where that changes nothing; all that the store holds is true, and its labels tell of ways that came to their nodes (`Trails`).
-- The loop's measure is the arcs ahead, the recursion's the nodes not met. Assumes nothing.
use Rattle.std.proofs.Common.{◌-◌, length}
use Rattle.laws.specs.Sets.{unmet}
use Rattle.net.specs.Net.{arcs_in, mesh_in}
use Rattle.cores.specs.Cores.{Stored}
use Rattle.find.specs.Find.{Trails}
use Rattle.find.specs.Run.{behind_by, UnderWay}
use Rattle.find.proofs.RunLaws.{Rest}
use Rattle.find.proofs.+seek.Given as goal

abbrev pub decreases-seek : goal.decreases-seek
decreases-seek l = unmet 32 l.met

abbrev pub invariant-loop-i : goal.invariant-loop-i
invariant-loop-i l = record {
  under_way : UnderWay l.run;
  rest : Rest l.net l.at (behind_by l.met l.metres l.risks l.low l.high) l.fn.run l.run l.i;
  stored : Stored l.net l.store;
  trails : Trails (mesh_in l.net) l.fn.run.want l.store.labels;
}

abbrev pub decreases-loop-i : goal.decreases-loop-i
decreases-loop-i l = length (arcs_in l.net) - l.i
