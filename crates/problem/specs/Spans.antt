-- Request T-03, Two routes in one span: equal numbers anywhere in the table are one span, and 0 is none. A span is known by the first arc that has its number, so that
-- what a route crosses is a set of arcs, of which there are at most 128, whatever the numbers are. Assumes nothing.
use Rattle.std.specs.Prelude.{ℕ, suc, List, [], ◌∷◌, map, eqb, if◌then◌else◌}
use Rattle.problem.specs.declared.Arc.{Arc}
use Rattle.problem.specs.Table.{arcs_of}

-- which arc of a list, counted from i, is the first that has this span number; one past the last where none has
unfoldable pub first_with : ℕ → ℕ → List Arc → ℕ
first_with s i [] = i
first_with s i (a ∷ arcs) = if eqb a.span s then i else first_with s (suc i) arcs

-- what the span of this number is known by: its first arc, counted from 1; 0 is not known
unfoldable pub mark : List Arc → ℕ → ℕ
mark arcs s = if eqb s 0 then 0 else suc (first_with s 0 arcs)

abbrev pub with_span : Arc → ℕ → Arc
with_span a s = record { tail = a.tail; head = a.head; span = s; metres = a.metres; risks = a.risks }

-- the arcs, each span's mark in the place of its number
unfoldable pub marked : List Arc → List Arc
marked arcs = map (λ a. with_span a (mark arcs a.span)) arcs

-- the arcs with no span known
unfoldable pub spanless : List Arc → List Arc
spanless arcs = map (λ a. with_span a 0) arcs

-- the arcs of a table so
abbrev pub marked_arcs : List ℕ → List Arc
marked_arcs table = marked (arcs_of table)
