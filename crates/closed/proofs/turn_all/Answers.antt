-- The invariant: the first k arcs are turned where they are closed (`Turning`). Assumes nothing.
use Rattle.std.proofs.Common.{sym, ◌∙◌, arith}
use borrow.Author.Tests.{not-true, not-false}
use Rattle.closed.proofs.TurnedLaws.{turning_open, turning_closed, turning_all}
use Rattle.closed.proofs.turn_all.Goals.{then-has, else-has}
use Rattle.closed.proofs.turn_all.Goals as goal

pub loop-k-preserved : goal.loop-k-preserved
loop-k-preserved c =
    let done = c.loop-k.invariant in
    elim c.if-has.branch [
      | then-has w ↦ rw (w.table-is, w.turn.ensures) (turning_closed _ _ _ done (omega arith) (not-true _ (sym c.has.ensures ∙ w.if-has.true)))
      | else-has w ↦ rw w.table-is (turning_open _ _ _ done (not-false _ (sym c.has.ensures ∙ w.if-has.false)))
    ]

pub returns : goal.returns
returns c = turning_all _ _ _ c.loop-k.invariant (omega arith)
