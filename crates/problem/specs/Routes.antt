-- 01, Routes and their ranking: the mesh, ways, paths, routes, all paths, the ranking; the shortest length free of some risks and spans. Assumes nothing.
use Rattle.std.specs.Prelude.{ℕ, zero, suc, ◌+◌, ◌≤◌, ◌<◌, Bool, true, false, ◌&&◌, List, [], ◌∷◌, ◌++◌, map, ◌≡◌, eqb, leb, ltb, length, get_or}
use Rattle.laws.specs.Choosing.{Distinct, keep, lex_by, sort_by, first_by}
use Rattle.laws.specs.Sets.{bit, with}
use Rattle.problem.specs.declared.Arc.{Arc}
use Rattle.problem.specs.declared.Exposure.{Exposure}
use Rattle.problem.specs.Table.{most_arcs}
use Rattle.problem.specs.Exposures.{to_nothing, of_arc, joined, disjoint}

-- what is planned over: the arcs, the two nodes, and the longest that a route may be
pub record Mesh : Type 0 where
  pub arcs : List Arc
  pub source : ℕ
  pub terminal : ℕ
  pub reach : ℕ

abbrev pub mesh : List Arc → (source terminal reach : ℕ) → Mesh
mesh arcs source terminal reach = record { arcs = arcs; source = source; terminal = terminal; reach = reach }

module _ (arcs : List Arc) where
  -- arc number k; past the table's end, an arc of no length
  abbrev pub arc_at : ℕ → Arc
  arc_at k = get_or arcs k (record { tail = 0; head = 0; span = 0; metres = 0; risks = 0 })

  -- the length of a list of arc numbers: metres are added, and nothing is rounded
  unfoldable pub metres_of : List ℕ → ℕ
  metres_of [] = 0
  metres_of (k ∷ ks) = (arc_at k).metres + metres_of ks

  -- what it is exposed to: all that its arcs are
  unfoldable pub exposure_of : List ℕ → Exposure
  exposure_of [] = to_nothing
  exposure_of (k ∷ ks) = joined (of_arc (arc_at k)) (exposure_of ks)

  -- the nodes that it meets from v on, v first
  unfoldable pub nodes_from : ℕ → List ℕ → List ℕ
  nodes_from v [] = v ∷ []
  nodes_from v (k ∷ ks) = v ∷ nodes_from (arc_at k).head ks

  -- a way from v to a node: each arc's head is the next arc's tail; loops, and arcs taken twice, are allowed
  pub data Way : ℕ → ℕ → List ℕ → Type 0 where
    there : {v to : ℕ} → v ≡ to → Way v to []
    over : {v to k : ℕ} {ks : List ℕ} → k < length arcs → (arc_at k).tail ≡ v → Way (arc_at k).head to ks → Way v to (k ∷ ks)

-- a way of a mesh: from source to terminal, no longer than the reach
pub record IsWay (m : Mesh) (ks : List ℕ) : Type 0 where
  pub way : Way m.arcs m.source m.terminal ks
  pub within_reach : metres_of m.arcs ks ≤ m.reach

-- a path from v to a node: a way that meets no node twice, of whatever length
pub record IsPath (arcs : List Arc) (v to : ℕ) (ks : List ℕ) : Type 0 where
  pub way : Way arcs v to ks
  pub no_node_twice : Distinct (nodes_from arcs v ks)

-- a route of a mesh: a path from source to terminal, no longer than the reach
pub record IsRoute (m : Mesh) (ks : List ℕ) : Type 0 where
  pub path : IsPath m.arcs m.source m.terminal ks
  pub within_reach : metres_of m.arcs ks ≤ m.reach

-- the arc leaves `at` for a node that is not met yet
unfoldable pub opens : ℕ → ℕ → Arc → Bool
opens met at a = eqb a.tail at && eqb (bit met a.head) 0

-- take each arc that opens, in order of arc numbers, the list's first being k; `rest` says how to go on from its head
unfoldable pub sprout : (ℕ → ℕ → List (List ℕ)) → ℕ → ℕ → ℕ → List Arc → List (List ℕ)
sprout rest met at k [] = []
sprout rest met at k (a ∷ arcs) =
    elim (opens met at a) [
      | true ↦ map (λ ks. k ∷ ks) (rest (with met a.head) a.head) ++ sprout rest met at (suc k) arcs
      | false ↦ sprout rest met at (suc k) arcs
    ]

-- all that leads from `at` to the terminal over at most n arcs and meets no node of `met`: each arc leaves one node fewer unvisited
unfoldable pub grow : List Arc → ℕ → ℕ → ℕ → ℕ → List (List ℕ)
grow arcs terminal zero met at = elim (eqb at terminal) [ true ↦ [] ∷ [] | false ↦ [] ]
grow arcs terminal (suc n) met at = elim (eqb at terminal) [ true ↦ [] ∷ [] | false ↦ sprout (grow arcs terminal n) met at 0 arcs ]

-- all paths from v to the terminal, in order of arc numbers
abbrev pub paths_from : List Arc → ℕ → ℕ → List (List ℕ)
paths_from arcs terminal v = grow arcs terminal most_arcs (with 0 v) v

-- the paths of a mesh
abbrev pub paths : Mesh → List (List ℕ)
paths m = paths_from m.arcs m.terminal m.source

-- a route with its length and what it is exposed to
pub record Route : Type 0 where
  pub arcs : List ℕ
  pub metres : ℕ
  pub exposure : Exposure

unfoldable pub route_of : List Arc → List ℕ → Route
route_of arcs ks = record { arcs = ks; metres = metres_of arcs ks; exposure = exposure_of arcs ks }

-- every path from v to the terminal, with its length and what it is exposed to
unfoldable pub routes_from : List Arc → ℕ → ℕ → List Route
routes_from arcs terminal v = map (route_of arcs) (paths_from arcs terminal v)

-- routes are ranked by length; equal lengths by the arc number at the first place where the lists differ
unfoldable pub rank_key : Route → List ℕ
rank_key r = r.metres ∷ r.arcs

unfoldable pub precedes : Route → Route → Bool
precedes r s = lex_by ltb (rank_key r) (rank_key s)

unfoldable pub within : ℕ → Route → Bool
within reach r = leb r.metres reach

-- all routes in their ranking; N is how many there are
unfoldable pub ranking : Mesh → List Route
ranking m = sort_by precedes (keep (within m.reach) (routes_from m.arcs m.terminal m.source))

-- how many routes pass a test, and the test "shorter than x metres"
abbrev pub count : (Route → Bool) → List Route → ℕ
count test routes = length (keep test routes)

abbrev pub shorter : ℕ → Route → Bool
shorter x r = ltb r.metres x

-- a way from v to the terminal over arcs exposed to nothing that is banned
pub record FreeWay (arcs : List Arc) (banned : Exposure) (terminal v : ℕ) (ks : List ℕ) : Type 0 where
  pub way : Way arcs v terminal ks
  pub free : disjoint (exposure_of arcs ks) banned ≡ true

-- the lengths of the routes from v to the terminal over such arcs; none where the terminal cannot be reached
unfoldable pub free_lengths : List Arc → Exposure → ℕ → ℕ → List ℕ
free_lengths arcs banned terminal v = map (λ r. r.metres) (keep (λ r. disjoint r.exposure banned) (routes_from arcs terminal v))

-- the shortest of them, or 0: a way with loops is never shorter (`shortest_least` of proofs/WayLaws.antt)
unfoldable pub shortest : List Arc → Exposure → ℕ → ℕ → ℕ
shortest arcs banned terminal v = first_by ltb 0 (free_lengths arcs banned terminal v)
