-- `mend::mend` meets its contract: each end of the code is the same end of the definitions. Assumes nothing.
use native.Mathlib.Omega.{arith}
use Rattle.std.proofs.lemmas.Result.{err_from_is_err_and}
use Rattle.mend.proofs.EndLaws.{refused, roomy, torn_fits, table_fits, list_fits, given}
use Rattle.mend.proofs.mend.Goals as goal

pub returns-in_err-check : goal.returns-in_err-check
returns-in_err-check c = let p = err_from_is_err_and c.from_residual.result c.from_residual.ensures.1 in rw (p.1, p.2) (refused _ c.in_err-check.ensures)

pub mend_arcs-done-requires : goal.mend_arcs-done-requires
mend_arcs-done-requires c = roomy c.in_ok-check.ensures

pub note_torn-list_end-requires : goal.note_torn-list_end-requires
note_torn-list_end-requires c = torn_fits (roomy c.in_ok-check.ensures) c.mend_arcs-done.ensures

pub overflow_cast-result : goal.overflow_cast-result
overflow_cast-result c = omega (arith, table_fits (roomy c.in_ok-check.ensures) c.mend_arcs-done.ensures)

pub overflow_cast-result-2 : goal.overflow_cast-result-2
overflow_cast-result-2 c = omega (arith, list_fits (roomy c.in_ok-check.ensures) c.mend_arcs-done.ensures c.note_torn-list_end.ensures)

pub returns : goal.returns
returns c = given (roomy c.in_ok-check.ensures) c.mend_arcs-done.ensures c.note_torn-list_end.ensures
