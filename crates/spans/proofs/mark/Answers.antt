-- `spans::mark` meets its contract: the first arc, counted from 1. Assumes nothing.
use mathlib.Core.Path.{sym, ap, ◌∙◌}
use native.Mathlib.Omega.{arith}
use Rattle.problem.specs.Table.{arcs_of}
use Rattle.problem.specs.Spans.{mark}
use Rattle.problem.proofs.SpanLaws.{mark_unknown, mark_known}
use Rattle.spans.proofs.mark.Goals as goal

pub returns-then-span-eq0 : goal.returns-then-span-eq0
returns-then-span-eq0 c =
    let t = arcs_of c.args.table.now in
    sym (mark_unknown t) ∙ ap (mark t) (sym c.if-span-eq0.true)

pub overflow_add-result : goal.overflow_add-result
overflow_add-result c = omega (arith, c.first_with.ensures.1)

pub returns : goal.returns
returns c =
    let is = mark_known (arcs_of c.args.table.now) c.args.span c.if-span-eq0.false in
    omega (arith, is, c.first_with.ensures.0)
