-- `side::nearer` meets its contract: each return is the definition's at what `is_nearer` told. Assumes nothing.
use mathlib.Core.Path.{sym, ◌∙◌}
use Rattle.side.specs.Relaxing.{over}
use Rattle.side.proofs.RelaxLaws.{nearer_if, nearer_not}
use Rattle.side.proofs.nearer.Goals as goal

pub returns-then-is_nearer : goal.returns-then-is_nearer
unfolding over
returns-then-is_nearer c = nearer_if _ _ _ (sym c.is_nearer.ensures ∙ c.if-is_nearer.true)

pub returns-else-is_nearer : goal.returns-else-is_nearer
returns-else-is_nearer c = nearer_not _ _ _ (sym c.is_nearer.ensures ∙ c.if-is_nearer.false)
