-- `standby::newly_shared` meets its contract: what is new of each field. Assumes nothing.
use Rattle.standby.proofs.SharedLaws.{newly_fields}
use Rattle.standby.proofs.newly_shared.Goals as goal

pub returns : goal.returns
returns c = newly_fields _ _ _ (rw c.risks.ensures at c.newly-new.ensures) (rw c.low.ensures at c.newly-low.ensures) (rw c.high.ensures at c.newly-high.ensures)
