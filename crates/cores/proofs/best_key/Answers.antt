-- `cores::best_key` meets its contract: from a raised bound the same is found, but for the bound; and nothing is below 0. Assumes nothing.
use Rattle.cores.proofs.CoreLaws.{least_unraised, least_zero}
use Rattle.cores.proofs.best_key.Goals as goal

pub returns-then-bound-eq0-clause-least : goal.returns-then-bound-eq0-clause-least
returns-then-bound-eq0-clause-least c = least_zero _ c.if-bound-eq0.true

pub returns-clause-least : goal.returns-clause-least
returns-clause-least c = least_unraised _ c.args.bound _ c.raised-top.ensures c.best-key.ensures.least c.min.ensures
