-- `ByRisks::over` meets its contract: the arc has no span, so its risks are all that it is exposed to. Assumes nothing.
use mathlib.Core.Path.{sym, ap, ◌∙◌}
use Prim.Native.Nat.{ℕ}
use lib.Bits.{bit_or}
use Rattle.problem.specs.Exposures.{of_arc}
use Rattle.problem.specs.Routes.{arc_at}
use Rattle.net.specs.Net.{arcs_in}
use Rattle.plain.specs.Plain.{by_risks}
use Rattle.plain.proofs.PlainLaws.{joined_plain}
use Rattle.plain.proofs.ByRisksCarried.over.Goals as goal

pub returns-clause-exposed : goal.returns-clause-exposed
returns-clause-exposed c =
    let spanless = c.requires.0.plain c.requires.2 c.args.i c.requires.1 in
    ap (λ (own : ℕ). by_risks (bit_or c.args.self.now.risks own)) c.risks.ensures
    ∙ sym (joined_plain c.args.self.now.risks (of_arc (arc_at (arcs_in c.args.net.now) c.args.i)) spanless.0 spanless.1)
