-- `plan::ended_at` meets its contract, by the test's own answer. Assumes nothing.
use mathlib.Core.Path.{sym, ◌∙◌}
use Rattle.plan.specs.Plan.{ended_at}
use Rattle.plan.proofs.ended_at.Goals as goal

pub returns-then-is_met : goal.returns-then-is_met
unfolding ended_at
returns-then-is_met c = rw (sym c.is_met.ensures ∙ c.if-is_met.true)

pub returns : goal.returns
unfolding ended_at
returns c = rw (sym c.is_met.ensures ∙ c.if-is_met.false)
