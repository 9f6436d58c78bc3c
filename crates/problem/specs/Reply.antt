-- 01, The reply record; Numbers returned, and the order of checks. Assumes nothing.
use Rattle.std.specs.Prelude.{ℕ, zero, suc, ◌+◌, ◌-◌, ◌%◌, ◌^◌, ◌≤◌, ◌<◌, Bool, true, false, ◌||◌, not, List, [], ◌∷◌, ◌++◌, ◌≡◌, eqb, leb, ltb, length, get_or, take, drop, replicate, if◌then◌else◌}
use Rattle.problem.specs.declared.Arc.{Arc}
use Rattle.problem.specs.declared.Request.{Request}
use Rattle.problem.specs.Table.{last_node, most_reach, most_allowance, most_table_bytes, reply_size, number_at, bytes_of, over, arcs_of, arcs_number, all_sound}
use Rattle.problem.specs.Blanks.{blanks_number, none_blank}
use Rattle.problem.specs.Closed.{closed_size, closed_in, none_closed, planned_arcs}
use Rattle.problem.specs.Routes.{Mesh, mesh, Route, ranking}
use Rattle.problem.specs.Pairs.{Pair, shared_risks, shared_count, shared_spans, floor, some_at, best, ranked, verdict}
use Rattle.problem.specs.Apart.{judges}

abbrev pub request : (source terminal reach allowance : ℕ) → Request
request source terminal reach allowance = record { source = source; terminal = terminal; reach = reach; allowance = allowance }

-- the mesh of these arcs and a request; and the mesh that a call is planned over, whose closed arcs are shut
abbrev pub mesh_over : List Arc → Request → Mesh
mesh_over arcs q = mesh arcs q.source q.terminal q.reach

abbrev pub mesh_of : (table closed : List ℕ) → Request → Mesh
mesh_of table closed q = mesh_over (planned_arcs table closed) q

-- what a call gives: the number returned, and the bytes written, none with a refusal
pub record Answer : Type 0 where
  pub number : ℕ
  pub reply : List ℕ

abbrev pub refuse : ℕ → Answer
refuse n = record { number = n; reply = [] }

-- what the buffer then holds: the bytes written, and from there on what it held
unfoldable pub after : Answer → List ℕ → List ℕ
after a buffer = over a.reply buffer

-- the arc numbers, one byte each, then 255 to the end of 32 bytes
unfoldable pub places_of : Route → List ℕ
places_of r = r.arcs ++ replicate (32 - length r.arcs) 255

-- the 96 bytes
unfoldable pub reply_of : (verdict floor ranked : ℕ) → Pair → List ℕ
reply_of verdict floor ranked p =
    verdict ∷ shared_count p ∷ floor ∷ length p.main.arcs ∷ length p.standby.arcs ∷ shared_spans p ∷ 0 ∷ 0 ∷ []
    ++ bytes_of 4 ranked
    ++ bytes_of 4 p.main.metres
    ++ bytes_of 4 p.standby.metres
    ++ bytes_of 4 0
    ++ bytes_of 8 (shared_risks p)
    ++ places_of p.main
    ++ places_of p.standby

-- what the 96 bytes say
abbrev pub verdict_in : List ℕ → ℕ
verdict_in reply = get_or reply 0 0

abbrev pub shared_in : List ℕ → ℕ
shared_in reply = get_or reply 1 0

abbrev pub floor_in : List ℕ → ℕ
floor_in reply = get_or reply 2 0

abbrev pub shared_spans_in : List ℕ → ℕ
shared_spans_in reply = get_or reply 5 0

abbrev pub ranked_in : List ℕ → ℕ
ranked_in reply = number_at reply 8 4

abbrev pub main_metres_in : List ℕ → ℕ
main_metres_in reply = number_at reply 12 4

abbrev pub standby_metres_in : List ℕ → ℕ
standby_metres_in reply = number_at reply 16 4

abbrev pub total_in : List ℕ → ℕ
total_in reply = main_metres_in reply + standby_metres_in reply

abbrev pub shared_risks_in : List ℕ → ℕ
shared_risks_in reply = number_at reply 24 8

-- the arc numbers of main and standby
abbrev pub main_in : List ℕ → List ℕ
main_in reply = take (get_or reply 3 0) (drop 32 reply)

abbrev pub standby_in : List ℕ → List ℕ
standby_in reply = take (get_or reply 4 0) (drop 64 reply)

-- a check: its test, and the number that is returned where the test holds
pub record Check : Type 0 where
  pub test : Bool
  pub number : ℕ

abbrev pub check : Bool → ℕ → Check
check test number = record { test = test; number = number }

-- the number of the first whose test holds, or 0
unfoldable pub first_number : List Check → ℕ
first_number [] = 0
first_number (c ∷ cs) = if c.test then c.number else first_number cs

-- the checks before 10, in their order: of the sizes (`size` is the reply buffer's), of the request, of the arcs, open and closed, for faults and then for blanks, and of the closed set
unfoldable pub size_checks : List ℕ → ℕ → List Check
size_checks table size =
    check (ltb most_table_bytes (length table)) 2
    ∷ check (not (eqb (length table % 16) 0)) 3
    ∷ check (ltb size reply_size) 4
    ∷ []

unfoldable pub request_checks : Request → List Check
request_checks q =
    check (ltb last_node q.source || ltb last_node q.terminal) 5
    ∷ check (eqb q.source q.terminal) 6
    ∷ check (ltb most_reach q.reach) 7
    ∷ check (eqb q.allowance 0 || ltb most_allowance q.allowance) 8
    ∷ []

unfoldable pub arc_checks : List ℕ → List Check
arc_checks table = check (not (all_sound (arcs_of table))) (arcs_number (arcs_of table)) ∷ []

unfoldable pub blank_checks : List ℕ → List Check
blank_checks table = check (not (none_blank (arcs_of table))) (blanks_number (arcs_of table)) ∷ []

unfoldable pub closed_checks : (table closed : List ℕ) → List Check
closed_checks table closed = check (not (eqb (length closed) closed_size) || not (ltb (closed_in closed) (2 ^ length (arcs_of table)))) 16 ∷ []

-- those of a call that brings no closed set
abbrev pub plain_checks : List ℕ → Request → ℕ → List Check
plain_checks table q size = size_checks table size ++ request_checks q ++ arc_checks table ++ blank_checks table

-- the first of all that applies, or 0
unfoldable pub refusal : (table closed : List ℕ) → Request → ℕ → ℕ
refusal table closed q size = first_number (plain_checks table q size ++ closed_checks table closed)

-- every check before 10 has passed: of table and request, which is what planning may rely on,
pub record Checked (table : List ℕ) (q : Request) : Type 0 where
  pub few_bytes : length table ≤ most_table_bytes
  pub has_whole_arcs : length table % 16 ≡ 0
  pub source_node : q.source ≤ last_node
  pub terminal_node : q.terminal ≤ last_node
  pub ends_differ : q.source ≡ q.terminal → ⊥
  pub reach_range : q.reach ≤ most_reach
  pub some_allowance : 0 < q.allowance
  pub allowance_range : q.allowance ≤ most_allowance
  pub sound : all_sound (arcs_of table) ≡ true

-- of a closed set: it has its 16 bytes, and no bit at or past the number of arcs
pub record ClosedSet (table closed : List ℕ) : Type 0 where
  pub whole : length closed ≡ closed_size
  pub inside : closed_in closed < 2 ^ length (arcs_of table)

-- and all of them, those of blanks and of the reply buffer too
pub record Passed (table closed : List ℕ) (q : Request) (size : ℕ) : Type 0 where
  pub checked : Checked table q
  pub risks_listed : none_blank (arcs_of table) ≡ true
  pub closed_set : ClosedSet table closed
  pub room : reply_size ≤ size

-- the answer from the ranking, once those checks have passed: the best of the pairs that are judged; or, where none of them has its main within the allowance, 14 if every
-- route was a main, else 15 (T-05)
unfoldable pub planned : (Pair → Bool) → List Route → ℕ → Answer
planned ok [] allowance = refuse 10
planned ok (r ∷ more) allowance =
    let routes : List Route = r ∷ more in
    let p : Pair = best ok routes (ranked ok routes allowance) in
    if some_at ok routes allowance
    then record { number = verdict ok routes allowance; reply = reply_of (verdict ok routes allowance) (floor routes) (ranked ok routes allowance) p }
    else refuse (if leb (length routes) allowance then 14 else 15)

-- planned over these arcs, unless a check has told a number: of every pair, or where `only` is true of those that are apart
unfoldable pub planned_unless : (only : Bool) → ℕ → List Arc → Request → Answer
planned_unless only zero arcs q = planned (judges (mesh_over arcs q) only) (ranking (mesh_over arcs q)) q.allowance
planned_unless only (suc n) arcs q = refuse (suc n)

-- the answer of a planning entry, for every table, closed set, request and size of buffer
unfoldable pub answer_among : (only : Bool) (table closed : List ℕ) → Request → ℕ → Answer
answer_among only table closed q size = planned_unless only (refusal table closed q size) (planned_arcs table closed) q

-- of 01's pairs, which are all; and of those alone that are apart (T-05)
abbrev pub answer_around : (table closed : List ℕ) → Request → ℕ → Answer
answer_around = answer_among false

abbrev pub answer_apart : (table closed : List ℕ) → Request → ℕ → Answer
answer_apart = answer_among true

-- with nothing closed: the answer of the entry that takes no closed set
abbrev pub answer : List ℕ → Request → ℕ → Answer
answer table q size = answer_around table none_closed q size
