-- `arcs::check_each` meets its contract: what is told of arc k is the first that is. Assumes nothing.
use mathlib.Core.Path.{subst}
use native.Mathlib.Omega.{arith}
use Rattle.std.specs.Prelude.{Option, Some}
use Rattle.problem.specs.declared.Arc.{Arc}
use Rattle.problem.specs.declared.Refusal.{Refusal}
use Rattle.problem.proofs.TableLaws.{arcs_length, arcs_inside}
use Rattle.arcs.specs.Looked.{FirstRefused}
use Rattle.arcs.proofs.check_each.Goals as goal

pub returns-in-Some : goal.returns-in-Some
unfolding FirstRefused
returns-in-Some g c =
    let here = subst (λ (a : Arc). goal.F-post g c.args.refused a c.loop-k.k (Some c.in-Some.r)) c.arc_at.ensures (subst (λ (o : Option Refusal). goal.F-post g c.args.refused c.arc_at.result c.loop-k.k o) c.in-Some.is c.refused.ensures) in
    (c.loop-k.k, arcs_inside c.args.table.now c.loop-k.k (omega arith), here, c.loop-k.invariant)

pub returns : goal.returns
unfolding FirstRefused
returns g c = λ j b. c.loop-k.invariant j (omega (arith, b, arcs_length c.args.table.now))
