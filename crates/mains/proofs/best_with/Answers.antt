-- `mains::best_with` meets its contract: the least key of the standbys stands beside the best pair's key; below the bound it makes the
-- pair, else the best stays. Assumes nothing.
use mathlib.Core.Path.{sym, ap, ◌∙◌}
use native.Mathlib.Omega.{arith}
use Rattle.net.specs.Net.{mesh_in}
use Rattle.bars.specs.declared.Barred.{Barred}
use Rattle.bars.specs.Bars.{barred_by}
use Rattle.standby.specs.Ahead.{quest, least_of}
use Rattle.mains.specs.Mains.{best_with}
use Rattle.mains.proofs.TryLaws.{Beside, beside_all, beside_made, beside_kept}
use Rattle.mains.proofs.best_with.Goals.{After-best_key-key}
use Rattle.mains.proofs.best_with.Goals as goal

-- after the search
beside : (c : After-best_key-key)
    → Beside (mesh_in c.args.net.now) c.args.main c.args.best c.requires.0.reach_range c.requires.1 c.best_key-key.result
    (best_with (mesh_in c.args.net.now) c.args.main (barred_by c.args.net.now.apart (mesh_in c.args.net.now) c.args.main.met c.args.last) c.args.best)
beside c =
    beside_all _ _ c.args.best _ c.requires.1 _ c.bound_for-bound.ensures
    (c.best_key-key.ensures.least ∙ ap (λ (off : Barred). least_of (quest (mesh_in c.args.net.now) c.args.main.exposure off) c.bound_for-bound.result) c.barred_by-off.ensures)

pub pair_of-requires : goal.pair_of-requires
pair_of-requires c =
    (c.requires.1, (beside_made _ _ c.args.best _ c.requires.1 (beside (goal.at.pair_of-requires c).After-best_key-key) (omega arith)).of_standby)

pub returns-then-key-bound-clause-best : goal.returns-then-key-bound-clause-best
returns-then-key-bound-clause-best c =
    let made = beside_made _ _ c.args.best _ c.requires.1 (beside (goal.at.returns-then-key-bound-clause-best c).After-best_key-key) (omega arith) in
    c.pair_of.ensures ∙ made.is

pub returns-clause-best : goal.returns-clause-best
returns-clause-best c = sym (beside_kept _ _ c.args.best _ c.requires.1 (beside (goal.at.returns-clause-best c).After-best_key-key) (omega arith))
