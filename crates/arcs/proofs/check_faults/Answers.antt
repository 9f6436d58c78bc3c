-- `arcs::check_faults` meets its contract: what its test tells is of faulty arcs. Assumes nothing.
use Rattle.std.proofs.Common.{rules}
use Rattle.problem.specs.Table.{arc_number, arcs_number}
use Rattle.arcs.proofs.LookedLaws.{by_fault, faults_numbered, told_first}
use Rattle.arcs.proofs.check_faults.Goals as goal

pub returns : goal.returns
unfolding arcs_number
returns c = told_first arc_number by_fault faults_numbered _ _ _ c.check_each.ensures (λ a k o p. search rules)
