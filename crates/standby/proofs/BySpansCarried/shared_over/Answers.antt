-- `BySpans::shared_over` meets its contract: what was shared and what is new are together no more than there are hazards. Assumes nothing.
use native.Mathlib.Omega.{arith}
use Rattle.problem.specs.Exposures.{of_arc, joined}
use Rattle.problem.specs.Routes.{arc_at}
use Rattle.problem.proofs.ExposureLaws.{sharing_le}
use Rattle.net.specs.Net.{arcs_in}
use Rattle.standby.proofs.BySpansCarried.shared_over.Goals as goal

pub overflow_add-result : goal.overflow_add-result
overflow_add-result c = omega (arith, c.newly_shared.ensures.most, c.requires.3, sharing_le c.args.main.now c.args.self.now.exposure)

pub returns : goal.returns
returns c =
    let own = of_arc (arc_at (arcs_in c.args.net.now) c.args.i) in
    let most = sharing_le c.args.main.now (joined c.args.self.now.exposure own) in
    record { is = omega (arith, c.newly_shared.ensures.is, c.requires.3); most = omega (arith, c.newly_shared.ensures.is, c.requires.3, most) }
