-- `checks::check` meets its contract: a refusal is that of the first list of checks that refuses. Assumes nothing.
use mathlib.Core.Path.{◌∙◌}
use native.Mathlib.Omega.{arith}
use Rattle.std.proofs.lemmas.Result.{err_from_is_err_and}
use Rattle.checks.proofs.CheckLaws.{refused_request, refused_arcs, past_faults}
use Rattle.checks.proofs.check.Goals as goal

pub returns-in_err-check_request : goal.returns-in_err-check_request
returns-in_err-check_request c =
    let p = err_from_is_err_and c.from_residual.result c.from_residual.ensures.1 in
    rw (p.1, p.2) (refused_request _ _ _ (omega arith) _ c.in_err-check_request.ensures)

pub returns-in_err-check_faults : goal.returns-in_err-check_faults
returns-in_err-check_faults c =
    let p = err_from_is_err_and c.from_residual-in_err-check_faults.result c.from_residual-in_err-check_faults.ensures.1 in
    rw (p.1, p.2) (refused_arcs _ _ _ (omega arith) c.in_ok-check_request.ensures _ c.in_err-check_faults.ensures)

pub returns : goal.returns
returns c = c.check_blanks.ensures ∙ past_faults _ _ _ (omega arith) c.in_ok-check_request.ensures c.in_ok-check_faults.ensures
