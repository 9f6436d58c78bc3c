-- `keys::pair_of` meets its contract: the definition, computed. Assumes nothing.
use Rattle.keys.proofs.BoundLaws.{standby_parts}
use borrow.Author.Rules.{rules}
use Rattle.keys.proofs.pair_of.Goals as goal

pub overflow_mul-result-2 : goal.overflow_mul-result-2
overflow_mul-result-2 c = search (rules, standby_parts c.requires.1)

pub overflow_add-result-2 : goal.overflow_add-result-2
overflow_add-result-2 c = search (rules, standby_parts c.requires.1)
