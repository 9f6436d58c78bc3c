-- `standby::shared_with` meets its contract: where the net has no spans, the arc has none. Assumes nothing.
use mathlib.Core.Path.{sym, ap, ◌∙◌}
use native.Mathlib.Omega.{arith}
use Prim.Native.Nat.{ℕ}
use lib.Bits.{bit_and}
use lib.Count.{ones_in}
use Rattle.problem.specs.Exposures.{of_arc, sharing}
use Rattle.problem.specs.Routes.{arc_at}
use Rattle.net.specs.Net.{arcs_in}
use Rattle.standby.proofs.SharedLaws.{shared_risks_lem}
use Rattle.standby.proofs.shared_with.Goals as goal

pub returns-then-not-spanned : goal.returns-then-not-spanned
returns-then-not-spanned c =
    let own = of_arc (arc_at (arcs_in c.args.net.now) c.args.k) in
    let plain = c.requires.0.plain (sym c.spanned.ensures ∙ c.if-not-spanned.true) c.args.k c.requires.1 in (
      c.shared_risks.ensures.0 ∙ ap (λ (x : ℕ). ones_in 64 (bit_and c.args.main.risks x)) c.risks.ensures ∙ shared_risks_lem c.args.main own plain.0 plain.1,
      omega (arith, c.shared_risks.ensures.1),
    )

pub returns : goal.returns
returns c = (c.sharing.ensures.0 ∙ ap (sharing c.args.main) c.exposure.ensures, c.sharing.ensures.1)
