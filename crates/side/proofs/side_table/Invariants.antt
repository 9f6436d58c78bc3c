-- `side::side_table` meets its contract. The invariant: the fill is under way from the terminal outward, and at its end, when nothing is open, the entries are the
-- side table. The measure: the nodes that are not finished. Assumes nothing.
use Rattle.laws.specs.Sets.{unmet}
use Rattle.problem.specs.Table.{nodes, arcs_of}
use Rattle.side.proofs.OutwardLaws.{Outward}
use Rattle.side.proofs.side_table.Given as goal

abbrev pub invariant-loop-opened : goal.invariant-loop-opened
invariant-loop-opened l = Outward (arcs_of l.table) l.terminal l.fn.banned l.entries l.finished l.opened

abbrev pub decreases-loop-opened : goal.decreases-loop-opened
decreases-loop-opened l = unmet nodes l.finished
