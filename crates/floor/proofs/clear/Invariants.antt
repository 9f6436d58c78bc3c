-- `floor::clear` meets its contract. The invariant: what clearing says of ways holds, and of the arcs that are not due none lets its tail avoid more (`Between`).
-- Assumes nothing.
use mathlib.Core.Path.{◌≡◌}
use mathlib.Core.List.{List}
use lib.ListN.{length}
use Rattle.problem.specs.Table.{arcs_of}
use Rattle.side.specs.declared.Distance.{Distance}
use Rattle.floor.specs.Clearing.{Clearing}
use Rattle.floor.proofs.ClearLaws.{Between}
use Rattle.floor.proofs.clear.Given as goal

abbrev pub invariant-loop : goal.invariant-loop
invariant-loop l =
    (l.n ≡ length (arcs_of l.call.table.now)) × Between (arcs_of l.call.table.now) l.ways l.pending l.k l.cut
    × ((plain : List Distance) → Clearing (arcs_of l.call.table.now) l.q.terminal l.q.reach plain l.initial.ways → Clearing (arcs_of l.call.table.now) l.q.terminal l.q.reach plain l.ways)
