-- `arcs::check_each` meets its contract. The invariant: nothing is told of an arc below k. Assumes nothing.
use Prim.Native.Nat.{ℕ, ◌<◌}
use Rattle.std.specs.Prelude.{None}
use Rattle.problem.specs.Table.{arcs_of}
use Rattle.problem.specs.Routes.{arc_at}
use Rattle.arcs.proofs.check_each.Given as goal

abbrev pub invariant-loop-k : goal.invariant-loop-k
invariant-loop-k g l = (j : ℕ) → j < l.k → goal.F-post g l.refused (arc_at (arcs_of l.table) j) j None
