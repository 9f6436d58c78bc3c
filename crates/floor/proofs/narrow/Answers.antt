-- `floor::narrow` meets its contract: each return is the case that the test before it leads to. Assumes nothing.
use mathlib.Core.Path.{sym, ◌∙◌}
use Rattle.problem.specs.Exposures.{to_nothing}
use Rattle.floor.proofs.AskLaws.{narrowed_not, narrowed_near}
use Rattle.floor.proofs.narrow.Goals as goal

pub returns-then-is_near : goal.returns-then-is_near
unfolding to_nothing
returns-then-is_near c = c.common.ensures ∙ narrowed_near _ _ _ _ (sym c.is_near.ensures ∙ c.if-is_near.true)

pub returns-else-is_near : goal.returns-else-is_near
unfolding to_nothing
returns-else-is_near c = narrowed_not _ _ _ _ (sym c.is_near.ensures ∙ c.if-is_near.false)
