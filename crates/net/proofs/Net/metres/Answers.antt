-- `Net::metres` meets its contract: the link's arc is the arc, and a sound table keeps its metres in their range. Assumes nothing.
use mathlib.Core.Path.{sym, ap}
use native.Mathlib.Omega.{arith}
use Rattle.problem.specs.declared.Arc.{Arc}
use Rattle.problem.proofs.TableLaws.{sound_at}
use Rattle.net.specs.Net.{arcs_in}
use Rattle.net.proofs.NetLaws.{arc_is}
use Rattle.net.proofs.Net.metres.Goals as goal

pub returns : goal.returns
returns c =
    let net = c.args.self.now in
    let e = ap (λ (a : Arc). a.metres) (sym (arc_is net c.args.k c.requires.1)) in
    (e, omega (arith, e, (sound_at (arcs_in net) c.requires.0.sound c.args.k c.requires.1).metres_range))
