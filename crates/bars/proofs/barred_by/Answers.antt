-- `bars::barred_by` meets its contract. Assumes nothing.
use mathlib.Core.Path.{◌≡◌, sym, ap, ap₂, ◌∙◌}
use Rattle.laws.specs.Sets.{with}
use Rattle.net.specs.Net.{mesh_in}
use Rattle.bars.specs.Bars.{ends_of}
use Rattle.bars.proofs.BarsLaws.{barred_nothing, barred_arc, barred_nodes}
use Rattle.bars.proofs.barred_by.Goals.{After-with-ends}
use Rattle.bars.proofs.barred_by.Goals as goal

-- the two ends as they were put together
ends : (c : After-with-ends) → c.with-ends.result ≡ ends_of (mesh_in c.args.net.now)
ends c =
    c.with-ends.ensures ∙ ap₂ with (c.with-source.ensures ∙ ap (with 0) c.source.ensures.0) c.terminal.ensures.0

pub returns-then-not-apart : goal.returns-then-not-apart
returns-then-not-apart c =
    c.nothing.ensures ∙ barred_nothing (mesh_in c.args.net.now) _ _ (sym c.apart.ensures ∙ c.if-not-apart.true)

pub returns-then-between-eq0 : goal.returns-then-between-eq0
returns-then-between-eq0 c =
    barred_arc _ _ _ (sym c.apart.ensures ∙ c.if-not-apart.false) (ends (goal.at.returns-then-between-eq0 c).After-with-ends) c.without-between.ensures
    c.if-between-eq0.true

pub returns : goal.returns
returns c =
    barred_nodes _ _ _ (sym c.apart.ensures ∙ c.if-not-apart.false) (ends (goal.at.returns c).After-with-ends) c.without-between.ensures
    c.if-between-eq0.false
