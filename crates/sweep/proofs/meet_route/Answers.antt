-- `sweep::meet_route` meets its contract: each return is one case of `ended`. Assumes nothing.
use borrow.Author.Tests.{lt-ltb, le-ltb}
use Rattle.sweep.specs.Sweep.{ended}
use Rattle.sweep.proofs.meet_route.Goals as goal

pub returns-then-route-run-clause-met : goal.returns-then-route-run-clause-met
unfolding ended
returns-then-route-run-clause-met c = rw (lt-ltb _ _ c.if-route-run.true)

pub returns-clause-met : goal.returns-clause-met
unfolding ended
returns-clause-met c = rw (le-ltb _ _ c.if-route-run.false, c.try_main-run.ensures.tally)
