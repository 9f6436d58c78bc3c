-- `planner::plan_checked` meets its contract: around nothing the arcs are all of the table's. Assumes nothing.
use mathlib.Core.Path.{◌≡◌, refl, subst}
use mathlib.Core.Bool.{false}
use mathlib.Core.List.{List}
use Rattle.problem.specs.declared.Arc.{Arc}
use Rattle.problem.specs.Reply.{mesh_over}
use Rattle.closed.specs.Turned.{set_of}
use Rattle.planner.specs.Planner.{PlannedOver}
use Rattle.planner.proofs.PlannerLaws.{open_same}
use Rattle.planner.proofs.plan_checked.Goals as goal

-- nothing is closed
nothing_closed : set_of (record { arcs = 0 }) ≡ 0
nothing_closed = refl

pub returns : goal.returns
returns c =
    subst (λ (arcs : List Arc). PlannedOver false (mesh_over arcs c.args.q) c.args.q.allowance c.plan_around.result) (open_same c.args.table.now nothing_closed) c.plan_around.ensures
