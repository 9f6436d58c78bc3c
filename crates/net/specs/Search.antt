-- A search depth first: what lies behind it at a node, and what it makes of a state. Assumes nothing.
use Rattle.std.specs.Prelude.{ℕ, suc, ◌+◌}
use mathlib.Core.List.{List, [], ◌∷◌, foldl}
use Rattle.laws.specs.Sets.{with, unmet}
use Rattle.problem.specs.declared.Arc.{Arc}
use Rattle.problem.specs.declared.Exposure.{Exposure}
use Rattle.problem.specs.Exposures.{to_nothing, of_arc, joined}
use Rattle.problem.specs.Routes.{Mesh, arc_at, grow, paths}
use Rattle.net.specs.declared.Behind.{Behind}

abbrev pub behind : (met metres : ℕ) → Exposure → Behind
behind met metres exposure = record { met = met; metres = metres; exposure = exposure }

-- where a search begins: only the source is met
abbrev pub start : Mesh → Behind
start m = behind (with 0 m.source) 0 to_nothing

-- one arc further
abbrev pub onto : Behind → Arc → Behind
onto b a = behind (with b.met a.head) (b.metres + a.metres) (joined b.exposure (of_arc a))

-- at the end of a list of arcs
unfoldable pub along : List Arc → Behind → List ℕ → Behind
along arcs b [] = b
along arcs b (k ∷ ks) = along arcs (onto b (arc_at arcs k)) ks

-- the arc that a list ends with; where it has none, the one before it
unfoldable pub last_of : ℕ → List ℕ → ℕ
last_of before [] = before
last_of before (k ∷ ks) = last_of k ks

-- no arc has this number
abbrev pub no_arc : ℕ
no_arc = 255

-- what a search makes of a state: `end` is handed the whole of what lies behind each path's end, and the arc that the path ends with
abbrev pub visit : {S : Type 0} → List Arc → (S → Behind → ℕ → S) → Behind → S → List ℕ → S
visit arcs end b s ks = end s (along arcs b ks) (last_of no_arc ks)

-- the lists that go on from a node with so much behind it, and the search over them
abbrev pub onward : Mesh → Behind → ℕ → List (List ℕ)
onward m b at = grow m.arcs m.terminal (suc (unmet 32 b.met)) b.met at

abbrev pub searched : {S : Type 0} → Mesh → (S → Behind → ℕ → S) → Behind → ℕ → S → S
searched m end b at s = foldl (visit m.arcs end b) s (onward m b at)

-- the search over all paths
abbrev pub searched_all : {S : Type 0} → Mesh → (S → Behind → ℕ → S) → S → S
searched_all m end s = foldl (visit m.arcs end (start m)) s (paths m)
