-- `side::FreeArcs::next` meets its contract. The invariant: as many free arcs are left as at first. The measure: the arcs from `next` on. Assumes nothing.
use mathlib.Core.Path.{◌≡◌}
use Prim.Native.Nat.{◌-◌}
use lib.ListN.{length}
use Rattle.problem.specs.Table.{arcs_of}
use Rattle.side.specs.Relaxing.{frees_from}
use Rattle.side.proofs.FreeArcsIterator.next.Given as goal

abbrev pub invariant-loop-self : goal.invariant-loop-self
invariant-loop-self l =
    (l.count ≡ length (arcs_of l.arcs.table.now))
    × (l.self.arcs ≡ l.arcs)
    × (frees_from l.arcs.banned (arcs_of l.arcs.table.now) l.self.next ≡ frees_from l.arcs.banned (arcs_of l.arcs.table.now) l.initial.self.next)

abbrev pub decreases-loop-self : goal.decreases-loop-self
decreases-loop-self l = l.count - l.self.next
