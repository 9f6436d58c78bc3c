-- `planner::plan_around` meets its contract: what is planned over the words is planned over the arcs that were read into them. Assumes nothing.
use Rattle.std.proofs.Common.{◌≡◌, ℕ, Option, Some, None, Result, Ok, Err, subst, arith}
use Rattle.std.specs.Option.{ok_or}
use Rattle.std.proofs.lemmas.Result.{err_from_is_err_and}
use Rattle.problem.specs.declared.Refusal.{Refusal}
use Rattle.problem.specs.declared.Refusal.TheVariants.{NoRoute}
use Rattle.problem.specs.Spans.{marked_arcs}
use Rattle.problem.specs.Closed.{shut_in}
use Rattle.problem.specs.Routes.{Mesh}
use Rattle.problem.specs.Reply.{mesh_over}
use Rattle.closed.specs.Turned.{set_of}
use Rattle.planner.specs.Planner.{Laid, Reads, NoneMade}
use Rattle.planner.proofs.PlannerLaws.{laid_own, planned_over}
use Rattle.planner.proofs.plan_around.Goals.{In_ok-floor}
use Rattle.planner.proofs.plan_around.Goals as goal

-- the floor is read exactly where there is a route
read_floor : {o : Option ℕ} {r : Result ℕ Refusal} {low : ℕ} → r ≡ ok_or o NoRoute → r ≡ Ok low → o ≡ Some low
read_floor e f = grind arith

read_nothing : {o : Option ℕ} {r : Result ℕ Refusal} {d : Refusal} → r ≡ ok_or o NoRoute → r ≡ Err d → (o ≡ None) × (d ≡ NoRoute)
read_nothing e f = (grind arith, grind arith)

mesh : In_ok-floor → Mesh
mesh c = mesh_over (shut_in (set_of c.args.set) (marked_arcs c.args.table.now)) c.args.q

laid : (c : In_ok-floor) → Laid c.args.apart (mesh_over (shut_in (set_of c.args.set) (marked_arcs c.args.table.now)) c.args.q) c.read_around.new.net c.in_ok-floor.floor
laid c = subst (Reads c.args.apart _ c.read_around.new.net) (read_floor c.ok_or.ensures.value c.in_ok-floor.was) c.read_around.ensures

pub returns-in_err-floor : goal.returns-in_err-floor
returns-in_err-floor c =
    let n = read_nothing c.ok_or.ensures.value c.in_err-floor.was in
    let p = err_from_is_err_and c.from_residual.result c.from_residual.ensures.1 in
    rw (p.1, p.2, n.1) (NoneMade.no_route (subst (Reads c.args.apart _ c.read_around.new.net) n.0 c.read_around.ensures))

pub plan_net-requires : goal.plan_net-requires
plan_net-requires c = (laid_own (laid (goal.at.plan_net-requires c).In_ok-floor), c.requires.some_allowance, c.requires.allowance_range)

pub returns : goal.returns
returns c = planned_over (laid (goal.at.returns c).In_ok-floor) _ _ c.plan_net.ensures
