-- `cores::still_holds` meets its contract: the search says that no standby of the core has a key below what it found. Assumes nothing.
use borrow.Author.Tests.{leb-true}
use mathlib.Core.Path.{refl}
use Rattle.cores.proofs.CoreLaws.{core_below}
use Rattle.cores.proofs.still_holds.Goals as goal

pub returns-clause-holds : goal.returns-clause-holds
returns-clause-holds c = λ e. core_below _ c.args.core.exposure c.args.core.nodes refl (leb-true _ _ e) c.search-key.ensures.below
