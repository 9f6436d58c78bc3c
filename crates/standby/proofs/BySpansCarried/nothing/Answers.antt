-- `BySpans::nothing` meets its contract: what is exposed to nothing shares nothing. Assumes nothing.
use Rattle.standby.proofs.SharedLaws.{shared_none}
use Rattle.standby.proofs.BySpansCarried.nothing.Goals as goal

pub returns-clause-told : goal.returns-clause-told
returns-clause-told c = λ main. shared_none main c.nothing.ensures
