-- `spans::first_with` meets its contract. The invariant: no arc before k has the span. Assumes nothing.
use Prim.Native.Nat.{ℕ, ◌<◌}
use mathlib.Core.Path.{◌≡◌, sym, ap, ◌∙◌}
use native.Mathlib.Omega.{arith}
use borrow.Author.Count.{below_more}
use lib.ListN.{length}
use Rattle.problem.specs.declared.Arc.{Arc}
use Rattle.problem.specs.Table.{arcs_of}
use Rattle.problem.specs.Routes.{arc_at}
use Rattle.problem.proofs.TableLaws.{arcs_length}
use Rattle.problem.proofs.SpanLaws.{first_at, first_none}
use Rattle.spans.proofs.first_with.Goals as goal

pub returns-then-a-span : goal.returns-then-a-span
returns-then-a-span c =
    let t = c.args.table.now in
    let inside : c.loop-k.k < length (arcs_of t) = omega (arith, arcs_length t, c.loop-k-test.true) in
    let is = first_at c.args.span 0 (arcs_of t) c.loop-k.k c.loop-k.invariant inside (sym (ap (λ (a : Arc). a.span) c.arc_at-a.ensures) ∙ c.if-a-span.true) in
    (omega (arith, is), omega (arith, c.loop-k-test.true, c.requires))

pub loop-k-preserved : goal.loop-k-preserved
loop-k-preserved c =
    let t = c.args.table.now in
    below_more (λ (j : ℕ). (arc_at (arcs_of t) j).span ≡ c.args.span → ⊥) c.loop-k.k c.loop-k.invariant (λ e. c.if-a-span.false (ap (λ (a : Arc). a.span) c.arc_at-a.ensures ∙ e))

pub returns : goal.returns
returns c =
    let t = c.args.table.now in
    let is = first_none c.args.span 0 (arcs_of t) (λ j h. c.loop-k.invariant j (omega (arith, h, arcs_length t, c.loop-k-test.false))) in
    (omega (arith, is, arcs_length t), omega (arith, c.requires))
