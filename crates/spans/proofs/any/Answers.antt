-- `spans::any` meets its contract. The invariant: no arc before k has a span. Assumes nothing.
use Prim.Native.Nat.{ℕ}
use mathlib.Core.Path.{◌≡◌, sym, ap, ◌∙◌}
use mathlib.Core.Bool.{true≢false, false≢true}
use native.Mathlib.Omega.{arith}
use borrow.Author.Count.{below_more}
use Rattle.problem.specs.declared.Arc.{Arc}
use Rattle.problem.specs.Table.{arcs_of}
use Rattle.problem.specs.Routes.{arc_at}
use Rattle.problem.proofs.TableLaws.{arcs_length}
use Rattle.spans.proofs.any.Goals as goal

pub returns-then-a-ne0 : goal.returns-then-a-ne0
returns-then-a-ne0 c =
    let t = c.args.table.now in (
      λ e. record { place = c.loop-k.k; inside = omega (arith, arcs_length t, c.loop-k-test.true); known = λ z. c.if-a-ne0.true (ap (λ (a : Arc). a.span) c.arc_at-a.ensures ∙ z) },
      λ e. absurd (true≢false e),
    )

pub loop-k-preserved : goal.loop-k-preserved
loop-k-preserved c =
    let t = c.args.table.now in
    below_more (λ (j : ℕ). (arc_at (arcs_of t) j).span ≡ 0) c.loop-k.k c.loop-k.invariant (sym (ap (λ (a : Arc). a.span) c.arc_at-a.ensures) ∙ c.if-a-ne0.false)

pub returns : goal.returns
returns c =
    let t = c.args.table.now in
    (λ e. absurd (false≢true e), λ e k h. c.loop-k.invariant k (omega (arith, h, arcs_length t, c.loop-k-test.false)))
