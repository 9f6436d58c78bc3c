-- `spans::first_with` meets its contract. The invariant: no arc before k has the span. Assumes nothing.
use Prim.Native.Nat.{ℕ, ◌<◌}
use mathlib.Core.Path.{◌≡◌}
use Rattle.problem.specs.Table.{arcs_of}
use Rattle.problem.specs.Routes.{arc_at}
use Rattle.spans.proofs.first_with.Given as goal

abbrev pub invariant-loop-k : goal.invariant-loop-k
invariant-loop-k l = (j : ℕ) → j < l.k → (arc_at (arcs_of l.table) j).span ≡ l.span → ⊥
