-- `spans::put_all` meets its contract. The invariant: the records of the first k arcs are put, and those of the others are left. The measure: the arcs left.
-- Assumes nothing.
use Prim.Native.Nat.{◌*◌, ◌-◌, ◌/◌}
use mathlib.Core.Path.{◌≡◌}
use lib.ListN.{length}
use Rattle.octets.proofs.PutLaws.{Unfinished}
use Rattle.spans.specs.Marks.{marked_from, marked_table}
use Rattle.spans.proofs.put_all.Given as goal

abbrev pub invariant-loop-k : goal.invariant-loop-k
invariant-loop-k l = (l.at ≡ 16 * l.k) × (length l.out ≡ length l.initial.out) × Unfinished (marked_table l.table) l.initial.out l.out l.at (marked_from l.table l.k (length l.table / 16 - l.k))
