-- Relaxing: what an arc does to the entries of its tail and its head, what is done when a node is finished, and how nodes are opened. Assumes nothing.
use Rattle.std.specs.Prelude.{◌≡◌, Bool, true, ◌&&◌, ◌||◌, not, ℕ, ◌+◌, ◌^◌, ◌≤◌, ◌<◌, eqb, ltb, length, get_or, set, replicate, drop, filter, if◌then◌else◌}
use mathlib.Core.List.{List, foldl}
use Rattle.laws.specs.Sets.{bit, with}
use Rattle.problem.specs.declared.Arc.{Arc}
use Rattle.problem.specs.declared.Exposure.{Exposure}
use Rattle.problem.specs.Table.{last_node, nodes, most_reach}
use Rattle.problem.specs.Exposures.{of_arc, disjoint}
use Rattle.problem.specs.Routes.{arc_at}
use Rattle.side.specs.declared.Distance.{Distance}
use Rattle.side.specs.Side.{unreached, metres_at}

-- ---- two entries and an arc between them

-- over an arc of these metres, and then as the head's entry says
unfoldable pub over : Distance → (metres : ℕ) → Distance
over head metres = record { metres = head.metres + metres; reached = true }

-- the head is reached, and over the arc the tail gets nearer
unfoldable pub is_nearer : (tail head : Distance) (metres : ℕ) → Bool
is_nearer tail head metres = head.reached && (not tail.reached || ltb (head.metres + metres) tail.metres)

unfoldable pub nearer_of : (tail head : Distance) (metres : ℕ) → Distance
nearer_of tail head metres = if is_nearer tail head metres then over head metres else tail

-- ---- a lent table

-- both ends have entries, and the length over the arc fits
pub record Fits (entries : List Distance) (tail head metres : ℕ) : Type 0 where
  pub tail_inside : tail < length entries
  pub head_inside : head < length entries
  pub room : (get_or entries head unreached).metres + metres < 2 ^ 32

unfoldable pub relaxed_in : List Distance → (tail head metres : ℕ) → List Distance
relaxed_in entries tail head metres = set entries tail (nearer_of (get_or entries tail unreached) (get_or entries head unreached) metres)

-- ---- a node finished

-- the arc leads into v and is free
abbrev pub free_into : (banned : Exposure) (v : ℕ) → Arc → Bool
free_into banned v a = eqb a.head v && disjoint (of_arc a) banned

-- the entries once an arc is relaxed, where it leads into v and is free
unfoldable pub relaxed_by : (banned : Exposure) (v : ℕ) → List Distance → Arc → List Distance
relaxed_by banned v entries a = if free_into banned v a then relaxed_in entries a.tail v a.metres else entries

-- once each free arc into v is relaxed, in order
unfoldable pub finished_in : (banned : Exposure) (v : ℕ) → List Distance → List Arc → List Distance
finished_in banned v entries arcs = foldl (relaxed_by banned v) entries arcs

-- what entries must be for v to be finished
pub record Finishing (entries : List Distance) (v : ℕ) : Type 0 where
  pub node : v ≤ last_node
  pub size : length entries ≡ nodes
  pub near : (get_or entries v unreached).metres ≤ most_reach

-- the free arcs, from arc k on, into the node that arc k leads into
unfoldable pub frees_from : (banned : Exposure) → List Arc → (k : ℕ) → List Arc
frees_from banned arcs k = filter (free_into banned (arc_at arcs k).head) (drop k arcs)

-- ---- outward from the terminal

-- the first entries: only the terminal is reached
unfoldable pub start_of : (terminal : ℕ) → List Distance
start_of terminal = set (replicate 32 unreached) terminal (record { metres = 0; reached = true })

-- v is one of these nodes, and none of them is nearer
pub record Nearest (entries : List Distance) (among v : ℕ) : Type 0 where
  pub is_member : bit among v ≡ 1
  pub least : (u : ℕ) → bit among u ≡ 1 → metres_at entries v ≤ metres_at entries u

-- the set, and the arc's tail where the arc leads into v and is free
unfoldable pub with_tail : (banned : Exposure) (v : ℕ) → ℕ → Arc → ℕ
with_tail banned v set a = if free_into banned v a then with set a.tail else set

-- the tails of the free arcs into v
unfoldable pub tails_into : (banned : Exposure) (v : ℕ) → List Arc → ℕ
tails_into banned v arcs = foldl (with_tail banned v) 0 arcs
