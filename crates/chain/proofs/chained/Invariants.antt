-- `chain::chained` meets its contract. The invariant: the chain is that of the arcs from i on (`Built`). Assumes nothing.
use mathlib.Core.Path.{◌≡◌}
use lib.ListN.{length}
use Rattle.problem.specs.Table.{arcs_of}
use Rattle.chain.specs.Chain.{end_of}
use Rattle.chain.proofs.BuiltLaws.{Built}
use Rattle.chain.proofs.chained.Given as goal

abbrev pub invariant-loop-i : goal.invariant-loop-i
invariant-loop-i l = (l.n ≡ length (arcs_of l.table)) × Built (end_of l.end) (arcs_of l.table) l.chain l.i
