-- `mend::mend_arcs` meets its contract. The invariant: the arcs below k are mended, and with what is left the outputs are what they will be (`Underway`).
-- Assumes nothing.
use Rattle.mend.proofs.WalkLaws.{Underway}
use Rattle.mend.proofs.mend_arcs.Given as goal

abbrev pub invariant-loop-k : goal.invariant-loop-k
invariant-loop-k l = Underway l.input l.initial.table l.table l.initial.list l.list l.done l.k
