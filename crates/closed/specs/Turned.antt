-- A closed set as the code holds it, and closed arcs turned round. Assumes nothing.
use Rattle.std.specs.Prelude.{ℕ, ◌+◌, ◌*◌, List, set}
use Rattle.problem.specs.declared.Arc.{Arc}
use Rattle.problem.specs.Closed.{closed_by}
use Rattle.closed.specs.declared.Closed.{Closed}

-- the set as a number
abbrev pub set_of : Closed → ℕ
set_of c = c.arcs

-- a table whose arc k leads from `tail` to `head`
abbrev pub turned_at : List ℕ → (k tail head : ℕ) → List ℕ
turned_at table k tail head = set (set table (16 * k) tail) (16 * k + 1) head

abbrev pub with_ends : Arc → (tail head : ℕ) → Arc
with_ends a tail head = record { tail = tail; head = head; span = a.span; metres = a.metres; risks = a.risks }

-- all arcs, of which the closed ones lead from `tail` to `head`
abbrev pub turned_in : (closed tail head : ℕ) → List Arc → List Arc
turned_in closed tail head arcs = closed_by (λ a. with_ends a tail head) closed 0 arcs
