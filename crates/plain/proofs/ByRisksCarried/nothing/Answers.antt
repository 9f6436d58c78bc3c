-- `ByRisks::nothing` meets its contract: no risks are nothing. Assumes nothing.
use mathlib.Core.Path.{refl}
use Rattle.problem.specs.Exposures.{to_nothing}
use Rattle.plain.proofs.ByRisksCarried.nothing.Goals as goal

pub returns-clause-exposed : goal.returns-clause-exposed
unfolding to_nothing
returns-clause-exposed c = refl
