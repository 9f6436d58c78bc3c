-- `find::Want::comes_late` meets its contract: where it says no of a standby, the node has the label. Assumes nothing.
use Rattle.find.specs.Find.{Arrived}
use Rattle.find.proofs.Want.comes_late.Goals as goal

pub returns-clause-arrived : goal.returns-clause-arrived
returns-clause-arrived c = Arrived.labelled c.in-Standby.main c.in-Standby.off c.in-Standby.is (rw c.common.ensures at c.keep.ensures)
