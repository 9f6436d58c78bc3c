-- Arcs looked at one after the other, until one is refused. Assumes nothing.
use Rattle.std.specs.Prelude.{ℕ, ◌<◌, List, length, Option, Some, None, Result, Ok, Err}
use Rattle.problem.specs.declared.Arc.{Arc}
use Rattle.problem.specs.declared.Refusal.{Refusal}
use Rattle.problem.specs.Routes.{arc_at}

-- where `tells` says what may be told of an arc and its number: nothing of any arc, or the refusal is the lowest one's of which something is
unfoldable pub FirstRefused : (tells : Arc → ℕ → Option Refusal → Type 0) → List Arc → Result (Unit {0}) Refusal → Type 0
FirstRefused tells arcs (Ok _) = (j : ℕ) → j < length arcs → tells (arc_at arcs j) j None
FirstRefused tells arcs (Err r) = (k : ℕ) × (k < length arcs) × tells (arc_at arcs k) k (Some r) × ((j : ℕ) → j < k → tells (arc_at arcs j) j None)
