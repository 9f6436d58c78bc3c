-- `side::FreeArcs::next` meets its contract. The invariant: as many free arcs are left as at first. The measure: the arcs from `next` on. Assumes nothing.
use mathlib.Core.Path.{◌≡◌, refl, sym, ap, ◌∙◌}
use mathlib.Core.List.{◌∷◌}
use Prim.Native.Nat.{◌+◌, ◌<◌}
use native.Mathlib.Omega.{arith}
use lib.ListN.{length}
use Rattle.std.proofs.Common.{rules}
use Rattle.problem.specs.Table.{arcs_of}
use Rattle.problem.specs.Routes.{arc_at}
use Rattle.problem.proofs.TableLaws.{arcs_length}
use Rattle.chain.specs.declared.End.{End}
use Rattle.chain.specs.Chain.{end_of, NextBy}
use Rattle.side.specs.Relaxing.{frees_from}
use Rattle.side.proofs.FreeArcsLaws.{frees_found, frees_barred, frees_end}
use Rattle.side.proofs.FreeArcsIterator.next.Goals.{In-loop-self, After-next, Then-is_free}
use Rattle.side.proofs.FreeArcsIterator.next.Goals as goal

inside : (c : In-loop-self) → c.loop-self.self.next < length (arcs_of c.args.self.now.arcs.table.now)
inside c = omega (arith, c.loop-self.invariant.0, c.loop-self-test.true)

-- the chain's step from this arc
ahead : (c : After-next) → let k = c.loop-self.self.next in let arcs = arcs_of c.args.self.now.arcs.table.now in NextBy (end_of End.Head) arcs (end_of End.Head (arc_at arcs k)) (k + 1) c.next.result
ahead c = rw c.next.ensures (c.args.self.now.arcs.chained.next c.loop-self.self.next (omega (arith, c.loop-self.invariant.0, c.loop-self-test.true)))

-- this arc is the first of those that were left
found : (c : Then-is_free) → let k = c.loop-self.self.next in let arcs = c.args.self.now.arcs in let list = arcs_of arcs.table.now in let then = c.loop-self.self.arcs in
    NextBy (end_of End.Head) list (end_of End.Head (arc_at list k)) (k + 1) c.next.result
    → frees_from arcs.banned list c.args.self.now.next ≡ c.arc_at-a.result ∷ frees_from then.banned (arcs_of then.table.now) c.next.result
found c next =
    let i = c.loop-self.invariant in
    rw i.1 (sym i.2 ∙ frees_found _ _ _ _ _ (omega (arith, i.0, c.loop-self-test.true)) c.arc_at-a.ensures next (sym c.is_free.ensures ∙ c.if-is_free.true))

pub loop-self-init : goal.loop-self-init
loop-self-init c = (sym (arcs_length _), refl, refl)

pub returns-then-is_free-clause-steps : goal.returns-then-is_free-clause-steps
returns-then-is_free-clause-steps c =
    let at = goal.at.returns-then-is_free-clause-steps c in
    found at.Then-is_free (ahead at.After-next)

pub returns-then-is_free-clause-goes : goal.returns-then-is_free-clause-goes
returns-then-is_free-clause-goes c =
    let at = goal.at.returns-then-is_free-clause-goes c in
    let fewer = ap length (found at.Then-is_free (ahead at.After-next)) in search rules

pub loop-self-preserved : goal.loop-self-preserved
loop-self-preserved c =
    let at = goal.at.loop-self-preserved c in
    let i = c.loop-self.invariant in
    (i.0, i.1, sym (frees_barred _ _ _ _ _ (inside at.In-loop-self) c.arc_at-a.ensures (ahead at.After-next) (sym c.is_free.ensures ∙ c.if-is_free.false)) ∙ i.2)

pub returns-clause-steps : goal.returns-clause-steps
returns-clause-steps c =
    let i = c.loop-self.invariant in
    let none = frees_end c.args.self.now.arcs.banned (arcs_of c.args.self.now.arcs.table.now) c.loop-self.self.next (omega (arith, i.0, c.loop-self-test.false)) in
    (sym i.2 ∙ none, rw i.1 none)
