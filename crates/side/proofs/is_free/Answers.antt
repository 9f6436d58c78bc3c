-- `side::is_free` meets its contract: every arc is free of nothing. Assumes nothing.
use mathlib.Core.Path.{sym, ap, ◌∙◌}
use Rattle.problem.specs.Exposures.{of_arc, disjoint}
use Rattle.problem.proofs.ExposureLaws.{disjoint_nothing}
use Rattle.side.proofs.is_free.Goals as goal

pub returns-then-is_nothing : goal.returns-then-is_nothing
returns-then-is_nothing c =
    let a = of_arc c.args.a in
    c.if-is_nothing.true ∙ sym (ap (disjoint a) (c.is_nothing.ensures.0 c.if-is_nothing.true) ∙ disjoint_nothing a)
