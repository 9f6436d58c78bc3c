-- `arcs::check_blanks` meets its contract: what its test tells is of blank arcs. Assumes nothing.
use Rattle.std.proofs.Common.{rules}
use Rattle.problem.specs.Blanks.{blank_number, blanks_number}
use Rattle.arcs.proofs.LookedLaws.{by_blank, blanks_numbered, told_first}
use Rattle.arcs.proofs.check_blanks.Goals as goal

pub returns : goal.returns
unfolding blanks_number
returns c = told_first blank_number by_blank blanks_numbered _ _ _ c.check_each.ensures (λ a k o p. search rules)
