-- `plan::is_met` meets its contract: the two tests of the definition, one after the other. Assumes nothing.
use borrow.Author.Tests.{eq-eqb, ne_eqb}
use Rattle.plan.specs.Plan.{met_by}
use Rattle.plan.proofs.is_met.Goals as goal

pub returns-then-shared_of-floor : goal.returns-then-shared_of-floor
unfolding met_by
returns-then-shared_of-floor c = rw (← c.shared_of.ensures.0, eq-eqb _ _ c.if-shared_of-floor.true, ← c.total_of.ensures.0)

pub returns-else-shared_of-floor : goal.returns-else-shared_of-floor
unfolding met_by
returns-else-shared_of-floor c = rw (← c.shared_of.ensures.0, ne_eqb _ _ c.if-shared_of-floor.false)
