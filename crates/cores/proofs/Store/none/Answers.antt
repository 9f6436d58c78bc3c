-- `Store::none` meets its contract: where no core is counted, all hold (`stored_none`). Assumes nothing.
use mathlib.Core.Path.{refl}
use Rattle.cores.proofs.CoreLaws.{stored_none}
use Rattle.cores.proofs.Store.none.Goals as goal

pub returns-clause-stored : goal.returns-clause-stored
returns-clause-stored c = λ net. stored_none net _ refl
