-- `entry::plan` meets its contract: each end of the code is the same end of the definitions' answer. Assumes nothing.
use mathlib.Core.Path.{sym}
use mathlib.Core.Bool.{false}
use lib.ListN.{length}
use Rattle.std.specs.Prelude.{Ok, Err}
use Rattle.std.proofs.lemmas.Result.{err_from_is_err_and}
use Rattle.problem.specs.Closed.{none_closed}
use Rattle.problem.specs.Reply.{mesh_of, Passed}
use Rattle.problem.proofs.NumberLaws.{refused_some}
use Rattle.problem.proofs.ReplyLaws.{refusal_passed}
use Rattle.planner.specs.Planner.{PlannedOver}
use Rattle.entry.proofs.EntryLaws.{refused, none_made, pair_made, plain_refusal, plain_planned}
use Rattle.entry.proofs.plan.Goals.{In_ok-check, In_ok-made}
use Rattle.entry.proofs.plan.Goals as goal

-- past the checks
passed : (c : In_ok-check) → Passed c.args.table.now none_closed c.args.q (length c.args.reply.now)
passed c = refusal_passed _ _ _ _ (sym (plain_refusal _ _ _ c.in_ok-check.ensures))

-- what is planned
made : (c : In_ok-made) → PlannedOver false (mesh_of c.args.table.now none_closed c.args.q) c.args.q.allowance (Ok c.in_ok-made.made)
made c = plain_planned c.args.table.now c.args.q (Ok c.in_ok-made.made) c.in_ok-made.ensures

pub returns-in_err-check : goal.returns-in_err-check
returns-in_err-check c =
    let p = err_from_is_err_and c.from_residual.result c.from_residual.ensures.1 in
    rw (p.1, p.2) (refused _ _ _ _ _ (plain_refusal _ _ _ c.in_err-check.ensures) (refused_some _))

pub plan_checked-requires : goal.plan_checked-requires
plan_checked-requires c = (passed (goal.at.plan_checked-requires c).In_ok-check).checked

pub returns-in_err-made : goal.returns-in_err-made
returns-in_err-made c =
    let p = err_from_is_err_and c.from_residual-in_err-made.result c.from_residual-in_err-made.ensures.1 in
    let none = plain_planned c.args.table.now c.args.q (Err c.in_err-made.field-0.0) c.in_err-made.ensures in
    rw (p.1, p.2) (none_made _ _ _ _ _ (passed (goal.at.returns-in_err-made c).In_ok-check) none)

pub give-requires : goal.give-requires
give-requires c =
    let chosen = (made (goal.at.give-requires c).In_ok-made).chosen in
    ((passed (goal.at.give-requires c).In_ok-check).room, chosen.main_fit, chosen.standby_fit)

pub returns : goal.returns
returns c = rw c.give.ensures.0 (pair_made _ _ _ _ _ (passed (goal.at.returns c).In_ok-check) (made (goal.at.returns c).In_ok-made) c.give.ensures.1)
