-- `side::finish` meets its contract. The invariant: `Underway`, what is left of it. Assumes nothing.
use Rattle.problem.specs.Table.{arcs_of}
use Rattle.side.specs.Relaxing.{frees_from, finished_in, tails_into}
use Rattle.side.proofs.FinishLaws.{Underway}
use Rattle.side.proofs.finish.Given as goal

abbrev pub invariant-loop-a : goal.invariant-loop-a
invariant-loop-a l =
    let arcs = arcs_of l.arcs.table.now in
    let left = l.a-iterator in
    (goal.iterator-loop-a).can_next left
    × (goal.iterator-loop-a).is_finite left
    × Underway l.arcs.banned l.v (finished_in l.arcs.banned l.v l.initial.entries arcs) (tails_into l.arcs.banned l.v arcs) l.entries l.tails
    (frees_from left.arcs.banned (arcs_of left.arcs.table.now) left.next)
