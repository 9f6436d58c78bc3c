-- `side::start` meets its contract: it makes what the definition says. Assumes nothing.
use mathlib.Core.Path.{refl}
use Rattle.side.specs.Relaxing.{start_of}
use Rattle.side.proofs.start.Goals as goal

pub returns : goal.returns
unfolding start_of
returns c = refl
