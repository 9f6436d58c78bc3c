-- `ByRisks::shared_over` meets its contract: the arc has no span, and what has none shares risks alone. Assumes nothing.
use mathlib.Core.Path.{refl, sym, ap, ◌∙◌}
use Prim.Native.Nat.{ℕ}
use lib.Bits.{bit_and, bit_or}
use lib.Count.{ones_in}
use Rattle.problem.specs.Exposures.{of_arc, sharing}
use Rattle.problem.specs.Routes.{arc_at}
use Rattle.net.specs.Net.{arcs_in}
use Rattle.standby.proofs.SharedLaws.{shared_risks_lem}
use Rattle.plain.specs.Plain.{by_risks}
use Rattle.plain.proofs.PlainLaws.{joined_plain}
use Rattle.plain.proofs.ByRisksCarried.shared_over.Goals as goal

pub returns-clause-is : goal.returns-clause-is
returns-clause-is c =
    let own = of_arc (arc_at (arcs_in c.args.net.now) c.args.i) in
    let behind = c.args.self.now.risks in
    let spanless = c.requires.0.plain c.requires.2 c.args.i c.requires.1 in
    c.shared_risks.ensures.0 ∙ ap (λ (x : ℕ). ones_in 64 (bit_and c.args.main.now.risks (bit_or behind x))) c.risks.ensures
    ∙ shared_risks_lem c.args.main.now (by_risks (bit_or behind own.risks)) refl refl ∙ ap (sharing c.args.main.now) (sym (joined_plain behind own spanless.0 spanless.1))
