-- Request T-06, Works this weekend: a closed arc lies on no route and gives no distance. It stays in its place, so that numbers stay, but begins at no node, so that no way goes over it:
-- whatever the other definitions say of arcs then holds of the open ones (`ways_open` and `routes_open` of proofs/Promises.antt). Assumes nothing.
use Rattle.std.specs.Prelude.{ℕ, suc, ◌/◌, Bool, true, ◌≡◌, eqb, replicate, if◌then◌else◌}
use mathlib.Core.List.{List, [], ◌∷◌, Memᴰ}
use Rattle.laws.specs.Sets.{bit}
use Rattle.problem.specs.declared.Arc.{Arc}
use Rattle.problem.specs.Table.{nodes, most_in_table, number_at}
use Rattle.problem.specs.Spans.{marked_arcs}

-- the bytes of a closed set: one bit for each arc of the largest table
abbrev pub closed_size : ℕ
closed_size = most_in_table / 8

-- the set that they say, lowest bit first: bit k is arc k's
unfoldable pub closed_in : List ℕ → ℕ
closed_in bytes = number_at bytes 0 closed_size

-- arc k is open: its bit is 0
abbrev pub is_open : ℕ → ℕ → Bool
is_open set k = eqb (bit set k) 0

-- none of a list of arcs is closed
abbrev pub AllOpen : ℕ → List ℕ → Type 0
AllOpen set ks = (k : ℕ) → Memᴰ k ks → is_open set k ≡ true

-- the bytes that close nothing
abbrev pub none_closed : List ℕ
none_closed = replicate closed_size 0

-- an arc that is the same but for its tail, which is no node
abbrev pub shut : Arc → Arc
shut a = record { tail = nodes; head = a.head; span = a.span; metres = a.metres; risks = a.risks }

-- arcs whose first has number k, each closed one changed by f
unfoldable pub closed_by : (Arc → Arc) → ℕ → ℕ → List Arc → List Arc
closed_by f set k [] = []
closed_by f set k (a ∷ arcs) = (if is_open set k then a else f a) ∷ closed_by f set (suc k) arcs

-- all arcs, the closed ones shut
abbrev pub shut_in : ℕ → List Arc → List Arc
shut_in set arcs = closed_by shut set 0 arcs

-- the arcs that a call is planned over: spans known by their first arcs, closed or not, and closed arcs shut
abbrev pub planned_arcs : (table closed : List ℕ) → List Arc
planned_arcs table closed = shut_in (closed_in closed) (marked_arcs table)
