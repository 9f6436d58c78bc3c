-- Calls, as the promises speak of them: the routes and the ways of a call, the test of each number and its turn, the lowest faulty arc and the lowest blank one, the pair that a reply says, another allowance, and what a call of the entry does. Assumes nothing.
use Rattle.std.specs.Prelude.{ℕ, ◌+◌, ◌*◌, ◌%◌, ◌≤◌, ◌<◌, Bool, true, false, ◌≡◌, length, take}
use mathlib.Core.List.{List, ◌++◌, Memᴰ}
use Rattle.problem.specs.declared.Arc.{Arc}
use Rattle.problem.specs.declared.Fault.{Fault}
use Rattle.problem.specs.declared.Request.{Request}
use Rattle.problem.specs.Table.{last_node, most_reach, most_allowance, most_table_bytes, reply_size, arcs_of, SoundArc, HasFault, fault_number, arc_number}
use Rattle.problem.specs.Blanks.{Blank}
use Rattle.problem.specs.Spans.{spanless, marked_arcs}
use Rattle.problem.specs.Closed.{closed_size, closed_in, is_open, none_closed, shut_in, planned_arcs}
use Rattle.problem.specs.Routes.{Route, IsRoute, IsWay, arc_at, route_of, ranking}
use Rattle.problem.specs.Pairs.{Pair, pair}
use Rattle.problem.specs.Apart.{Apart}
use Rattle.problem.specs.Reply.{request, mesh_of, Answer, first_number, size_checks, request_checks, arc_checks, closed_checks, plain_checks, refusal, planned_unless, answer_among, after, main_in, standby_in}

-- the routes of a call, in their ranking; N is how many there are
abbrev pub routes_of : (table closed : List ℕ) → Request → List Route
routes_of table closed q = ranking (mesh_of table closed q)

-- a list of arc numbers that is a route of the call
abbrev pub RouteOf : (table closed : List ℕ) → Request → List ℕ → Type 0
RouteOf table closed q = IsRoute (mesh_of table closed q)

-- and one that is a way of the call: loops, and arcs taken twice, are allowed
abbrev pub WayOf : (table closed : List ℕ) → Request → List ℕ → Type 0
WayOf table closed q = IsWay (mesh_of table closed q)

-- the pair made of two lists of arc numbers, and the one that the bytes of a reply say
abbrev pub pair_made_of : List Arc → (main standby : List ℕ) → Pair
pair_made_of arcs main standby = pair (route_of arcs main) (route_of arcs standby)

abbrev pub pair_said : List Arc → List ℕ → Pair
pair_said arcs reply = pair_made_of arcs (main_in reply) (standby_in reply)

-- a pair that is judged where only those that are apart are: its main is among the first `allowance` routes of the ranking, its standby is any route, and the two are apart (T-05)
pub record ApartWithin (table closed : List ℕ) (q : Request) (m s : Route) : Type 0 where
  pub main_allowed : Memᴰ m (take q.allowance (routes_of table closed q))
  pub standby_listed : Memᴰ s (routes_of table closed q)
  pub apart : Apart (mesh_of table closed q) m.arcs s.arcs

-- the same request with another allowance
abbrev pub allowing : Request → ℕ → Request
allowing q allowance = request q.source q.terminal q.reach allowance

-- the table of numbers: the test of each, whatever the others say, and its turn in the order of the checks. Two tests of one number are one or the other.
-- Turns are counted as 01 has them, where a check's turn was its number; the faults of arcs have the turn that was 9's, blanks the next, the closed set the next, and 10 the one behind it
pub data Applies (table closed : List ℕ) (q : Request) (size : ℕ) : (turn number : ℕ) → Type 0 where
  table_too_long : most_table_bytes < length table → Applies table closed q size 2 2
  table_torn : (length table % 16 ≡ 0 → ⊥) → Applies table closed q size 3 3
  buffer_too_small : size < reply_size → Applies table closed q size 4 4
  source_too_high : last_node < q.source → Applies table closed q size 5 5
  terminal_too_high : last_node < q.terminal → Applies table closed q size 5 5
  ends_equal : q.source ≡ q.terminal → Applies table closed q size 6 6
  reach_too_far : most_reach < q.reach → Applies table closed q size 7 7
  allowance_none : q.allowance ≡ 0 → Applies table closed q size 8 8
  allowance_too_large : most_allowance < q.allowance → Applies table closed q size 8 8
  arc_faulty : (k : ℕ) (f : Fault) → k < length (arcs_of table) → HasFault (arc_at (arcs_of table) k) f → Applies table closed q size 9 (fault_number f + 256 * k)
  arc_blank : (k : ℕ) → k < length (arcs_of table) → Blank (arc_at (arcs_of table) k) → Applies table closed q size 10 (24 + 256 * k)
  set_not_whole : (length closed ≡ closed_size → ⊥) → Applies table closed q size 11 16
  set_past_table : (k : ℕ) → length (arcs_of table) ≤ k → is_open (closed_in closed) k ≡ false → Applies table closed q size 11 16
  has_no_route : ((ks : List ℕ) → RouteOf table closed q ks → ⊥) → Applies table closed q size 12 10

-- the number that is told: its own test holds, none of an earlier turn, and in its own turn none of a smaller number; so of faulty arcs the lowest, and of its faults the first; and of blank arcs the lowest
pub record Told (table closed : List ℕ) (q : Request) (size number : ℕ) : Type 0 where
  pub turn : ℕ
  pub applies : Applies table closed q size turn number
  pub none_before : (t i : ℕ) → t < turn → Applies table closed q size t i → ⊥
  pub none_smaller : (i : ℕ) → i < number → Applies table closed q size turn i → ⊥

-- arc i has a fault, the first of which is that of number n, and every arc below i is sound
pub record LowestFault (arcs : List Arc) (i n : ℕ) : Type 0 where
  pub in_table : i < length arcs
  pub is_fault : 0 < n
  pub first_fault : arc_number (arc_at arcs i) ≡ n
  pub sound_below : (j : ℕ) → j < i → SoundArc (arc_at arcs j)

-- arc i is blank, and no arc below it is
pub record LowestBlank (arcs : List Arc) (i : ℕ) : Type 0 where
  pub inside : i < length arcs
  pub blank : Blank (arc_at arcs i)
  pub none_below : (j : ℕ) → j < i → Blank (arc_at arcs j) → ⊥

-- the answer with spans left out: as `answer_around`, but that no arc has one (T-03)
abbrev pub answer_by_risks : (table closed : List ℕ) → Request → ℕ → Answer
answer_by_risks table closed q size = planned_unless false (refusal table closed q size) (shut_in (closed_in closed) (spanless (arcs_of table))) q

-- the answer as it was before a call could bring a closed set: without its check, over all arcs (T-06)
abbrev pub answer_over_all : List ℕ → Request → ℕ → Answer
answer_over_all table q size = planned_unless false (first_number (plain_checks table q size)) (marked_arcs table) q

-- the answer as it was while a blank was let through: without its check (T-09)
abbrev pub answer_with_blanks : (table closed : List ℕ) → Request → ℕ → Answer
answer_with_blanks table closed q size = planned_unless false (first_number (size_checks table size ++ request_checks q ++ arc_checks table ++ closed_checks table closed)) (planned_arcs table closed) q

-- a second closed set that closes what the first does, and else only arcs that lie on no route of the call with the first
pub record ClosesAside (table closed more : List ℕ) (q : Request) : Type 0 where
  pub still_closed : (k : ℕ) → is_open (closed_in closed) k ≡ false → is_open (closed_in more) k ≡ false
  pub aside : (k : ℕ) → is_open (closed_in closed) k ≡ true → is_open (closed_in more) k ≡ false → (ks : List ℕ) → RouteOf table closed q ks → Memᴰ k ks → ⊥

-- what a call of a planning entry does: it finds `before` in the reply buffer, returns `number` and leaves `now`
pub record CalledAmong (only : Bool) (table closed : List ℕ) (q : Request) (before : List ℕ) (number : ℕ) (now : List ℕ) : Type 0 where
  pub number_is : number ≡ (answer_among only table closed q (length before)).number
  pub buffer_is : now ≡ after (answer_among only table closed q (length before)) before

-- of the entry that judges every pair, and of the one that judges those that are apart (T-05)
abbrev pub CalledAround : (table closed : List ℕ) → Request → (before : List ℕ) → ℕ → (now : List ℕ) → Type 0
CalledAround = CalledAmong false

abbrev pub CalledApart : (table closed : List ℕ) → Request → (before : List ℕ) → ℕ → (now : List ℕ) → Type 0
CalledApart = CalledAmong true

-- of the entry that takes no closed set
abbrev pub Called : List ℕ → Request → List ℕ → ℕ → List ℕ → Type 0
Called table = CalledAround table none_closed
