-- `chain::chained` meets its contract. The invariant: the chain is that of the arcs from i on (`Built`). Assumes nothing.
use mathlib.Core.Path.{sym}
use native.Mathlib.Omega.{arith}
use Rattle.problem.specs.Table.{arcs_of}
use Rattle.problem.proofs.TableLaws.{arcs_length}
use Rattle.chain.specs.Chain.{end_of}
use Rattle.chain.proofs.BuiltLaws.{built_none}
use Rattle.chain.proofs.chained.Goals as goal

pub overflow_cast-none : goal.overflow_cast-none
overflow_cast-none c = omega (arith, arcs_length c.args.table.now, c.requires.few)

pub loop-i-init : goal.loop-i-init
loop-i-init c = (sym (arcs_length c.args.table.now), rw (← arcs_length c.args.table.now) (built_none (end_of _) (arcs_of c.args.table.now)))
