-- `side::relax` meets its contract: what `nearer` says is stored at the tail. Assumes nothing.
use mathlib.Core.Path.{ap}
use lib.ListN.{set}
use Rattle.side.specs.Relaxing.{relaxed_in}
use Rattle.side.proofs.relax.Goals as goal

pub returns : goal.returns
unfolding relaxed_in
returns c = ap (set c.args.entries.now c.args.tail) c.nearer.ensures
