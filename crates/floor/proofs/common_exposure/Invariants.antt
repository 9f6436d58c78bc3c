-- `floor::common_exposure` meets its contract. What clearing leaves has every risk of every way within reach, and no other where it is sure. Else the
-- loop's invariant: so has what is left, and of those below r no other. Assumes nothing.
use Rattle.problem.specs.Table.{arcs_of}
use Rattle.problem.specs.Reply.{mesh_over}
use Rattle.floor.proofs.CommonLaws.{Left}
use Rattle.floor.proofs.common_exposure.Given as goal

abbrev pub invariant-loop-r : goal.invariant-loop-r
invariant-loop-r l = Left (mesh_over (arcs_of l.table) l.fn.q) l.left l.r
