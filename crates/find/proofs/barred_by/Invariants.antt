-- `find::barred_by` meets its contract. The invariant: what is met and the arc gone over last, with the arcs from this one on, come to what the whole main meets and
-- ends with (`Gathered`). Assumes nothing.
use Rattle.std.proofs.Common.{take}
use Rattle.net.specs.Net.{mesh_in}
use Rattle.find.proofs.BarredLaws.{Gathered}
use Rattle.find.proofs.barred_by.Given as goal

abbrev pub invariant-loop-k : goal.invariant-loop-k
invariant-loop-k l = Gathered (mesh_in l.net) (take l.main.count l.main.arcs) l.met l.last l.k-index
