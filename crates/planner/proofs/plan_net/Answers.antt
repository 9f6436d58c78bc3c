-- `planner::plan_net` meets its contract: the net says what planning needs, and an empty store is true of any net. Assumes nothing.
use Rattle.std.proofs.lemmas.Result.{err_from_is_err_and}
use Rattle.planner.proofs.PlannerLaws.{laid_planning}
use Rattle.planner.specs.Planner.{NoneMade}
use Rattle.planner.proofs.plan_net.Goals as goal

pub plan-run-requires : goal.plan-run-requires
plan-run-requires c = (c.requires.0.words, laid_planning c.requires.0 c.requires.1 c.requires.2, c.none-store.ensures.stored c.args.net.now)

pub returns-in_err-choice : goal.returns-in_err-choice
returns-in_err-choice c =
    let p = err_from_is_err_and c.from_residual.result c.from_residual.ensures.1 in rw (p.1, p.2) (NoneMade.no_pair c.requires.0.some_route c.in_err-choice.ensures)
