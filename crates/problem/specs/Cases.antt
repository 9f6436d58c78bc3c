-- 01, Meshes worked by hand: the starred cases, proved as a single table against the definitions; and rows of our own, each there because a wrong definition
-- would otherwise pass (docs/TESTING.md has the wrong definitions that were tried). Assumes nothing.
use Rattle.std.specs.Prelude.{ℕ, zero, suc, ◌+◌, ◌*◌, ◌-◌, ◌^◌, Bool, true, false, List, [], ◌∷◌, ◌++◌, map, ◌≡◌, refl, length, take, replicate, Some, None}
use Rattle.std.proofs.Common.{arith}
use Rattle.laws.specs.Choosing.{numbers_from}
use Rattle.problem.specs.declared.Request.{Request}
use Rattle.problem.specs.declared.Fault.TheVariants.{Node, EqualEnds, Length}
use Rattle.problem.specs.Opened.{opened}
use Rattle.problem.specs.Table.{nodes, most_arcs, risk_width, most_shared, hazards, most_arc_metres, most_reach, most_in_table, Bytes, bytes_of, arc_of, arcs_of, fault_of}
use Rattle.problem.specs.Spans.{marked}
use Rattle.problem.specs.Closed.{none_closed, planned_arcs}
use Rattle.problem.specs.Routes.{mesh, Way, paths, FreeWay, free_lengths, shortest}
use Rattle.problem.specs.Apart.{lists_apart}
use Rattle.problem.specs.Reply.{request, Answer, answer_around, answer_apart, answer, refuse, shared_in, floor_in, ranked_in, total_in, shared_risks_in, main_in, standby_in}
use Rattle.problem.specs.Calls.{WayOf, allowing, LowestFault}
use Rattle.problem.specs.Mending.{mended_table, change_bytes, mended_list, change_in, changes_in, old_number, mending}
use Rattle.problem.specs.Printed.{kilometres, text, digits, output}

-- an arc as 01 prints it: tail, head, metres, and the field of its risks
abbrev pub arc : ℕ → ℕ → ℕ → ℕ → List ℕ
arc tail head metres risks = tail ∷ head ∷ 0 ∷ 0 ∷ [] ++ bytes_of 4 metres ++ bytes_of 8 risks

-- an arc with a span number (T-03)
abbrev pub span_arc : ℕ → ℕ → ℕ → ℕ → ℕ → List ℕ
span_arc tail head span metres risks = tail ∷ head ∷ bytes_of 2 span ++ bytes_of 4 metres ++ bytes_of 8 risks

-- n arcs in a line from node v on, each of the same metres, arc k with risk k
abbrev pub line : ℕ → ℕ → ℕ → List ℕ
line metres v zero = []
line metres v (suc n) = arc v (suc v) metres (2 ^ v) ++ line metres (suc v) n

abbrev pub mesh_a : List ℕ
mesh_a = arc 0 1 1000 1 ++ arc 1 3 4000 2 ++ arc 0 2 4000 4 ++ arc 2 3 1000 8 ++ arc 1 2 1000 16

abbrev pub mesh_b : List ℕ
mesh_b = arc 0 3 1000 7 ++ arc 0 1 1000 1 ++ arc 0 2 1000 6 ++ arc 2 1 1000 8 ++ arc 1 3 1000 6

abbrev pub mesh_c : List ℕ
mesh_c = arc 0 1 1000 1 ++ arc 0 1 1000 2

abbrev pub mesh_d : List ℕ
mesh_d = arc 0 1 1000 1

-- an arc of 0 metres
abbrev pub mesh_e : List ℕ
mesh_e = arc 0 1 0 0

-- our own: three ways to node 1 that share a risk two by two, then a loop over node 2, then the terminal 3: who meets nodes twice counts more than 3 routes
abbrev pub mesh_loop : List ℕ
mesh_loop = arc 0 1 1000 3 ++ arc 0 1 1000 6 ++ arc 0 1 1000 5 ++ arc 1 2 500 8 ++ arc 2 1 500 16 ++ arc 1 3 1000 32

-- our own: an equal total wins by an earlier main, though the other pair has the earlier standby
abbrev pub mesh_parallel : List ℕ
mesh_parallel = arc 0 1 5000 1 ++ arc 0 1 5000 2 ++ arc 0 1 4000 3 ++ arc 0 1 6000 4

-- our own: with nothing shared, the smaller total wins over the earlier main
abbrev pub mesh_total : List ℕ
mesh_total = arc 0 1 1000 3 ++ arc 0 1 2000 1 ++ arc 0 1 2500 2 ++ arc 0 1 9000 4

-- our own: equal lengths everywhere
abbrev pub mesh_tie : List ℕ
mesh_tie = arc 0 1 1000 1 ++ arc 0 1 1000 1 ++ arc 0 1 1000 2 ++ arc 0 1 1000 2

-- our own: arcs of 0 metres in a loop through the source
abbrev pub mesh_zero : List ℕ
mesh_zero = arc 0 1 0 0 ++ arc 1 0 0 0 ++ arc 1 2 0 2 ++ arc 0 2 0 1

-- our own: two arcs written out byte by byte, no two bytes of a number alike; they share risks 7, 8 and 63
abbrev pub mesh_raw : List ℕ
mesh_raw =
    0 ∷ 1 ∷ 0 ∷ 0 ∷ 56 ∷ 52 ∷ 18 ∷ 0 ∷ 129 ∷ 1 ∷ 2 ∷ 4 ∷ 8 ∷ 16 ∷ 32 ∷ 192 ∷ []
    ++ 0 ∷ 1 ∷ 0 ∷ 0 ∷ 57 ∷ 52 ∷ 18 ∷ 0 ∷ 128 ∷ 3 ∷ 4 ∷ 8 ∷ 16 ∷ 32 ∷ 64 ∷ 128 ∷ []

-- our own: the longest route that there can be, 31 arcs over all 32 nodes, and nothing else
abbrev pub mesh_long : List ℕ
mesh_long = line 2000000 0 31

-- a route's arc numbers, then 255 to 32 bytes
abbrev pub places : List ℕ → List ℕ
places l = l ++ replicate (32 - length l) 255

-- the 96 bytes as 01's page has them, field by field; with so many spans shared (T-03), and with none
abbrev pub written_with : (spans verdict shared floor ranked main_metres standby_metres risks : ℕ) → (main standby : List ℕ) → Answer
written_with spans verdict shared floor ranked main_metres standby_metres risks main standby =
    record {
      number = verdict;
      reply = verdict ∷ shared ∷ floor ∷ length main ∷ length standby ∷ spans ∷ 0 ∷ 0 ∷ []
          ++ bytes_of 4 ranked ++ bytes_of 4 main_metres ++ bytes_of 4 standby_metres ++ 0 ∷ 0 ∷ 0 ∷ 0 ∷ [] ++ bytes_of 8 risks ++ places main ++ places standby;
    }

abbrev pub written : (verdict shared floor ranked main_metres standby_metres risks : ℕ) → (main standby : List ℕ) → Answer
written = written_with 0

-- a row of the table: a call, and the answer that 01 gives
pub record Row : Type 0 where
  pub table : List ℕ
  pub request : Request
  pub expected : Answer

abbrev pub row : List ℕ → (terminal reach allowance : ℕ) → Answer → Row
row table terminal reach allowance a = record { table = table; request = request 0 terminal reach allowance; expected = a }

abbrev pub answer_a1 : Answer
answer_a1 = written 0 0 0 2 5000 5000 0 (0 ∷ 1 ∷ []) (2 ∷ 3 ∷ [])

abbrev pub answer_a5 : Answer
answer_a5 = written 0 3 3 1 3000 3000 25 (0 ∷ 4 ∷ 3 ∷ []) (0 ∷ 4 ∷ 3 ∷ [])

-- B1 as 96 raw bytes
abbrev pub answer_b1 : Answer
answer_b1 =
    record {
      number = 0;
      reply = 0 ∷ 2 ∷ 2 ∷ 1 ∷ 3 ∷ 0 ∷ 0 ∷ 0 ∷ 2 ∷ 0 ∷ 0 ∷ 0 ∷ 232 ∷ 3 ∷ 0 ∷ 0 ∷ 184 ∷ 11 ∷ 0 ∷ 0 ∷ 0 ∷ 0 ∷ 0 ∷ 0 ∷ 6 ∷ 0 ∷ 0 ∷ 0 ∷ 0 ∷ 0 ∷ 0 ∷ 0
          ∷ 0 ∷ 255 ∷ 255 ∷ 255 ∷ 255 ∷ 255 ∷ 255 ∷ 255 ∷ 255 ∷ 255 ∷ 255 ∷ 255 ∷ 255 ∷ 255 ∷ 255 ∷ 255 ∷ 255 ∷ 255 ∷ 255 ∷ 255 ∷ 255 ∷ 255 ∷ 255 ∷ 255 ∷ 255 ∷ 255 ∷ 255 ∷ 255 ∷ 255 ∷ 255 ∷ 255 ∷ 255
          ∷ 2 ∷ 3 ∷ 4 ∷ 255 ∷ 255 ∷ 255 ∷ 255 ∷ 255 ∷ 255 ∷ 255 ∷ 255 ∷ 255 ∷ 255 ∷ 255 ∷ 255 ∷ 255 ∷ 255 ∷ 255 ∷ 255 ∷ 255 ∷ 255 ∷ 255 ∷ 255 ∷ 255 ∷ 255 ∷ 255 ∷ 255 ∷ 255 ∷ 255 ∷ 255 ∷ 255 ∷ 255 ∷ [];
    }

-- of mesh_raw: arc 0 with arc 1, 1,193,016 m and 1,193,017 m; the two of them share just what lies on every route
abbrev pub answer_raw : Answer
answer_raw =
    record {
      number = 0;
      reply = 0 ∷ 3 ∷ 3 ∷ 1 ∷ 1 ∷ 0 ∷ 0 ∷ 0 ∷ 2 ∷ 0 ∷ 0 ∷ 0 ∷ 56 ∷ 52 ∷ 18 ∷ 0 ∷ 57 ∷ 52 ∷ 18 ∷ 0 ∷ 0 ∷ 0 ∷ 0 ∷ 0 ∷ 128 ∷ 1 ∷ 0 ∷ 0 ∷ 0 ∷ 0 ∷ 0 ∷ 128 ∷ []
          ++ places (0 ∷ []) ++ places (1 ∷ []);
    }

abbrev pub rows : List Row
rows =
    row mesh_a 3 10000 1000 answer_a1  -- A1
    ∷ row mesh_a 3 10000 1 (written 1 1 0 1 3000 5000 1 (0 ∷ 4 ∷ 3 ∷ []) (0 ∷ 1 ∷ []))  -- A2
    ∷ row mesh_a 3 10000 2 answer_a1  -- A3
    ∷ row mesh_a 3 5000 1000 answer_a1  -- A4
    ∷ row mesh_a 3 4999 1000 answer_a5  -- A5
    ∷ row mesh_a 3 3000 1000 answer_a5  -- A6
    ∷ row mesh_a 3 2999 1000 (refuse 10)  -- A6
    ∷ row mesh_b 3 10000 9 answer_b1  -- B1
    ∷ row mesh_c 1 10000 1000 (written 0 0 0 1 1000 1000 0 (0 ∷ []) (1 ∷ []))  -- C1
    ∷ row mesh_d 1 10000 1000 (written 0 1 1 1 1000 1000 1 (0 ∷ []) (0 ∷ []))  -- D1
    ∷ row (arc 0 1 1000 0) 1 10000 1000 (refuse 24)  -- D2, which was answered before T-09
    ∷ row [] 1 10000 1000 (refuse 10)  -- E1
    ∷ row mesh_e 1 0 1000 (written 0 0 0 1 0 0 0 (0 ∷ []) (0 ∷ []))  -- E2
    ∷ row mesh_loop 3 3000 1000 (written 0 2 1 3 2000 2000 34 (0 ∷ 5 ∷ []) (1 ∷ 5 ∷ []))
    ∷ row mesh_parallel 1 10000 1000 (written 0 0 0 2 4000 6000 0 (2 ∷ []) (3 ∷ []))
    ∷ row mesh_total 1 10000 1000 (written 0 0 0 3 2000 2500 0 (1 ∷ []) (2 ∷ []))
    ∷ row mesh_tie 1 10000 1000 (written 0 0 0 1 1000 1000 0 (0 ∷ []) (2 ∷ []))
    ∷ row mesh_zero 2 0 1000 (written 0 0 0 1 0 0 0 (0 ∷ 2 ∷ []) (3 ∷ []))
    ∷ row mesh_raw 1 10000000 1000 answer_raw
    ∷ row mesh_long 31 62000000 1000000 (written 0 31 31 1 62000000 62000000 2147483647 (numbers_from 0 31) (numbers_from 0 31))
    ∷ row mesh_long 31 61999999 1000000 (refuse 10)
    ∷ []

-- every row at once, with a buffer of 96 bytes
pub starred : map (λ r. answer r.table r.request 96) rows ≡ map (λ r. r.expected) rows
unfolding opened
starred = refl

-- what the bytes of A2 and B1 say, read back as 01 says it: shared, floor, ranked, total, the field of the shared risks; and the arcs
pub read_back
    : map (λ r. (shared_in r ∷ floor_in r ∷ ranked_in r ∷ total_in r ∷ shared_risks_in r ∷ []) ∷ main_in r ∷ standby_in r ∷ []) ((answer mesh_a (request 0 3 10000 1) 96).reply ∷ answer_b1.reply ∷ [])
    ≡ ((1 ∷ 0 ∷ 1 ∷ 8000 ∷ 1 ∷ []) ∷ (0 ∷ 4 ∷ 3 ∷ []) ∷ (0 ∷ 1 ∷ []) ∷ []) ∷ ((2 ∷ 2 ∷ 2 ∷ 4000 ∷ 6 ∷ []) ∷ (0 ∷ []) ∷ (2 ∷ 3 ∷ 4 ∷ []) ∷ []) ∷ []
unfolding opened
read_back = refl

-- A2 and A1 differ in their allowance alone
pub allowed_more : answer mesh_a (allowing (request 0 3 10000 1) 1000) 96 ≡ answer_a1
unfolding opened
allowed_more = refl

-- a way may go round a loop, over the same arcs twice
pub looped : Way (arcs_of mesh_loop) 0 3 (0 ∷ 3 ∷ 4 ∷ 3 ∷ 4 ∷ 5 ∷ [])
unfolding opened
looped = Way.over {k = 0} (omega arith) refl (Way.over {k = 3} (omega arith) refl (Way.over {k = 4} (omega arith) refl (Way.over {k = 3} (omega arith) refl (Way.over {k = 4} (omega arith) refl (Way.over {k = 5} (omega arith) refl (Way.there refl))))))

-- such a way may be exactly as long as the reach
pub round_twice : WayOf mesh_loop none_closed (request 0 3 4000 1) (0 ∷ 3 ∷ 4 ∷ 3 ∷ 4 ∷ 5 ∷ [])
unfolding opened
round_twice = record { way = looped; within_reach = omega arith }

-- and be free of what is banned
pub free_round : FreeWay (arcs_of mesh_loop) (record { risks = 4; low = 0; high = 0 }) 3 0 (0 ∷ 3 ∷ 4 ∷ 3 ∷ 4 ∷ 5 ∷ [])
unfolding opened
free_round = record { way = looped; free = refl }

-- no way goes over an arc past the table's end
pub none_past : Way (arcs_of mesh_c) 0 1 (2 ∷ 0 ∷ []) → ⊥
unfolding opened
none_past (Way.over b t w) = omega arith

-- no sound arc is the lowest faulty one
pub none_lowest : LowestFault (arcs_of mesh_c) 0 0 → ⊥
none_lowest l = omega (arith, l.is_fault)

-- the paths of mesh A in order of arc numbers; the reach is not asked
pub paths_A : paths (mesh (arcs_of mesh_a) 0 3 0) ≡ (0 ∷ 1 ∷ []) ∷ (0 ∷ 4 ∷ 3 ∷ []) ∷ (2 ∷ 3 ∷ []) ∷ []
unfolding opened
paths_A = refl

-- nodes 0 to 31, risks 0 to 63, a table of 128 arcs; at most 95 are shared, of 192 risks and spans
pub limits : nodes ∷ risk_width ∷ most_in_table ∷ most_shared ∷ hazards ∷ [] ≡ 32 ∷ 64 ∷ 128 ∷ 95 ∷ 192 ∷ []
limits = refl

-- as many metres as the most arcs of the longest have make the largest reach
pub longest : most_arcs * most_arc_metres ≡ most_reach
longest = refl

-- every byte is one
pub bytes_to_255 : Bytes (0 ∷ 255 ∷ [])
bytes_to_255 zero = omega arith
bytes_to_255 (suc zero) = omega arith
bytes_to_255 (suc (suc k)) = omega arith

-- every fault at once, then mended one after the other (`checked_in_order` of proofs/Promises.antt has the order for every call)
abbrev pub number : List ℕ → (source terminal reach allowance size : ℕ) → ℕ
number table source terminal reach allowance size = (answer table (request source terminal reach allowance) size).number

pub fault_by_fault
    : number (replicate 2049 0) 32 32 62000001 0 95
    ∷ number (replicate 2047 0) 32 32 62000001 0 95
    ∷ number (replicate 2040 0) 32 32 62000001 0 95
    ∷ number (arc 0 32 2000001 0) 32 32 62000001 0 95
    ∷ number (arc 0 32 2000001 0) 32 32 62000001 0 96
    ∷ number (arc 0 32 2000001 0) 32 0 62000001 0 96
    ∷ number (arc 0 32 2000001 0) 0 32 62000001 0 96
    ∷ number (arc 0 32 2000001 0) 31 31 62000001 0 96
    ∷ number (arc 0 32 2000001 0) 0 1 62000001 0 96
    ∷ number (arc 0 32 2000001 0) 0 1 62000000 0 96
    ∷ number (arc 0 32 2000001 0) 0 1 62000000 1000001 96
    ∷ number (arc 0 32 2000001 0) 0 1 62000000 1000000 96
    ∷ number (arc 0 31 2000001 0) 0 1 62000000 1000000 96
    ∷ number (0 ∷ 31 ∷ 1 ∷ replicate 13 0) 0 1 62000000 1000000 96
    ∷ number (0 ∷ 31 ∷ 0 ∷ 1 ∷ replicate 12 0) 0 1 62000000 1000000 96
    ∷ number (0 ∷ 31 ∷ replicate 5 0 ++ 1 ∷ replicate 8 0) 0 1 62000000 1000000 96
    ∷ number (32 ∷ 31 ∷ replicate 14 0) 0 1 62000000 1000000 96
    ∷ number (replicate 2048 0) 0 1 62000000 1000000 96
    ∷ number (mesh_a ++ arc 7 7 0 0) 0 3 10000 1000 96
    ∷ number (arc 0 31 2000000 0) 0 1 62000000 1000000 96
    ∷ number (arc 0 31 2000000 1) 0 1 62000000 1000000 96
    ∷ number (arc 0 31 2000000 1) 0 31 62000000 1000000 96
    ∷ []
    ≡ 2 ∷ 3 ∷ 3 ∷ 4 ∷ 5 ∷ 5 ∷ 5 ∷ 6 ∷ 7 ∷ 8 ∷ 8 ∷ 20 ∷ 22 ∷ 10 ∷ 10 ∷ 22 ∷ 20 ∷ 21 ∷ 1301 ∷ 24 ∷ 10 ∷ 0 ∷ []
unfolding opened
fault_by_fault = refl

-- of several faulty arcs the lowest is told, whatever its fault: arc 1, whose ends are equal, before arc 2, which has a node over 31; arc 0 before arc 1;
-- arc 21, a metre too long; and the last of 128
pub lowest_told
    : number (arc 0 1 5 0 ++ arc 3 3 5 0 ++ arc 32 1 5 0) 0 1 100 1 96
    ∷ number (arc 0 1 2000001 0 ++ arc 2 2 5 0) 0 1 100 1 96
    ∷ number (line 1000 0 21 ++ arc 0 1 2000001 0) 0 21 100 1 96
    ∷ number (line 1000 0 31 ++ line 1000 0 31 ++ line 1000 0 31 ++ line 1000 0 31 ++ line 1000 0 3 ++ arc 7 7 0 0) 0 1 100 1 96
    ∷ []
    ≡ 277 ∷ 22 ∷ 5398 ∷ 32533 ∷ []
unfolding opened
lowest_told = refl

-- of several faults of an arc the first is told, in the order node, equal ends, length; a span number is none
pub first_faults
    : map (λ b. fault_of (arc_of b))
    ((0 ∷ 32 ∷ 1 ∷ 0 ∷ bytes_of 4 2000001 ++ bytes_of 8 0)
    ∷ (32 ∷ 32 ∷ 1 ∷ 0 ∷ bytes_of 4 2000001 ++ bytes_of 8 0)
    ∷ (31 ∷ 31 ∷ 1 ∷ 0 ∷ bytes_of 4 2000001 ++ bytes_of 8 0)
    ∷ (0 ∷ 31 ∷ 1 ∷ 0 ∷ bytes_of 4 2000001 ++ bytes_of 8 0)
    ∷ (0 ∷ 31 ∷ 1 ∷ 0 ∷ bytes_of 4 2000000 ++ bytes_of 8 0)
    ∷ (31 ∷ 0 ∷ 0 ∷ 0 ∷ bytes_of 4 2000000 ++ bytes_of 8 0)
    ∷ [])
    ≡ Some Node ∷ Some Node ∷ Some EqualEnds ∷ Some Length ∷ None ∷ None ∷ []
unfolding opened
first_faults = refl

-- ---- T-03, two routes in one span

-- both directions of span 9, crossed by the first route and by the last; the two between them share two risks with the first
abbrev pub mesh_back : List ℕ
mesh_back = arc 0 1 1000 65 ++ span_arc 1 2 9 1000 2 ++ arc 2 3 1000 132 ++ arc 0 2 3000 8 ++ span_arc 2 1 9 1000 16 ++ arc 1 3 3000 32

-- n arcs that lie on no route, each with a span of its own
abbrev pub aside : ℕ → List ℕ
aside zero = []
aside (suc n) = span_arc 30 31 (1000 + n) 5 1 ++ aside n

-- D1 with a span number on its arc; both directions of a span; a span that one route crosses twice counts once; risks and spans together; spans 1 and 65,535; 256 is a span,
-- and 1 is not 257; no number is no span; equal numbers on arcs that are not parallel are one span; over 64 distinct spans, one of the last of them on every
-- route; the 64th span of a table, the 65th and the 128th
abbrev pub span_rows : List Row
span_rows =
    row (span_arc 0 1 7 1000 1) 1 10000 1000 (written_with 1 0 2 2 1 1000 1000 1 (0 ∷ []) (0 ∷ []))
    ∷ row mesh_back 3 10000 1 (written_with 1 1 1 0 1 3000 7000 0 (0 ∷ 1 ∷ 2 ∷ []) (3 ∷ 4 ∷ 5 ∷ []))
    ∷ row (span_arc 0 1 5 1000 1 ++ span_arc 1 2 5 1000 2) 2 10000 1000 (written_with 1 0 3 3 1 2000 2000 3 (0 ∷ 1 ∷ []) (0 ∷ 1 ∷ []))
    ∷ row (span_arc 0 1 7 1000 5) 1 10000 1000 (written_with 1 0 3 3 1 1000 1000 5 (0 ∷ []) (0 ∷ []))
    ∷ row (span_arc 0 1 1 1000 1 ++ span_arc 1 2 65535 1000 2) 2 10000 1000 (written_with 2 0 4 4 1 2000 2000 3 (0 ∷ 1 ∷ []) (0 ∷ 1 ∷ []))
    ∷ row (span_arc 0 1 256 1000 1) 1 10000 1000 (written_with 1 0 2 2 1 1000 1000 1 (0 ∷ []) (0 ∷ []))
    ∷ row (span_arc 0 1 1 1000 1 ++ span_arc 0 1 257 1000 2) 1 10000 1000 (written 0 0 0 1 1000 1000 0 (0 ∷ []) (1 ∷ []))
    ∷ row (arc 0 1 1000 1 ++ arc 0 1 1000 1) 1 10000 1000 (written 0 1 1 1 1000 1000 1 (0 ∷ []) (0 ∷ []))
    ∷ row (span_arc 5 6 7 1000 1 ++ span_arc 0 1 7 1000 2 ++ span_arc 0 1 7 1000 4) 1 10000 1000 (written_with 1 0 1 1 1 1000 1000 0 (1 ∷ []) (2 ∷ []))
    ∷ row (aside 70 ++ span_arc 0 1 9 1000 2 ++ span_arc 0 1 8 1000 4 ++ span_arc 1 2 7 1000 8) 2 10000 1000 (written_with 1 0 2 2 1 2000 2000 8 (70 ∷ 72 ∷ []) (71 ∷ 72 ∷ []))
    ∷ row (aside 63 ++ span_arc 0 1 9 1000 1) 1 10000 1000 (written_with 1 0 2 2 1 1000 1000 1 (63 ∷ []) (63 ∷ []))
    ∷ row (aside 64 ++ span_arc 0 1 9 1000 1) 1 10000 1000 (written_with 1 0 2 2 1 1000 1000 1 (64 ∷ []) (64 ∷ []))
    ∷ row (aside 127 ++ span_arc 0 1 9 1000 1) 1 10000 1000 (written_with 1 0 2 2 1 1000 1000 1 (127 ∷ []) (127 ∷ []))
    ∷ []

pub two_in_one_span : map (λ r. answer r.table r.request 96) span_rows ≡ map (λ r. r.expected) span_rows
unfolding opened
two_in_one_span = refl

-- spans by their first arcs, counted from 1: 9 by arc 0, 7 by arc 2, 65,535 by arc 4
pub marks : map (λ a. a.span) (marked (arcs_of (span_arc 0 1 9 5 0 ++ arc 0 1 5 0 ++ span_arc 0 1 7 5 0 ++ span_arc 1 0 9 5 0 ++ span_arc 2 3 65535 5 0 ++ span_arc 2 3 7 5 0))) ≡ 1 ∷ 0 ∷ 3 ∷ 1 ∷ 5 ∷ 3 ∷ []
unfolding opened
marks = refl

-- ---- T-06, a closed set

-- a row with the bytes of a closed set; `closing` gives 16 that begin with these
pub record AroundRow : Type 0 where
  pub table : List ℕ
  pub closed : List ℕ
  pub request : Request
  pub expected : Answer

abbrev pub closing : List ℕ → List ℕ
closing bytes = bytes ++ replicate (16 - length bytes) 0

abbrev pub around : List ℕ → (bytes : List ℕ) → (terminal : ℕ) → Answer → AroundRow
around table bytes terminal a = record { table = table; closed = closing bytes; request = request 0 terminal 10000 1000; expected = a }

-- n cables from 0 to 1, arc k of 1,000 + k metres
abbrev pub cables : ℕ → ℕ → List ℕ
cables k zero = []
cables k (suc n) = arc 0 1 (1000 + k) (2 ^ k) ++ cables (suc k) n

-- A with nothing closed. With arc 4, [0,1] and [2,3] are left, 5,000 m each, and the first of them settles; with arc 1, [0,4,3] and [2,3], both over arc 3; with arc 3, [0,1] alone;
-- with arcs 0 and 2, or all, nothing. Of nine cables: 0 and 8 closed, the lowest bits of two bytes; all but 7, the highest bit of one. The last of 128 arcs, and all but that.
-- The first arc of a span closed, and the two others still in one span
abbrev pub closed_rows : List AroundRow
closed_rows =
    around mesh_a [] 3 answer_a1
    ∷ around mesh_a (16 ∷ []) 3 (written 0 0 0 1 5000 5000 0 (0 ∷ 1 ∷ []) (2 ∷ 3 ∷ []))
    ∷ around mesh_a (2 ∷ []) 3 (written 0 1 1 2 3000 5000 8 (0 ∷ 4 ∷ 3 ∷ []) (2 ∷ 3 ∷ []))
    ∷ around mesh_a (8 ∷ []) 3 (written 0 2 2 1 5000 5000 3 (0 ∷ 1 ∷ []) (0 ∷ 1 ∷ []))
    ∷ around mesh_a (5 ∷ []) 3 (refuse 10)
    ∷ around mesh_a (31 ∷ []) 3 (refuse 10)
    ∷ around (cables 0 9) (1 ∷ 1 ∷ []) 1 (written 0 0 0 2 1001 1002 0 (1 ∷ []) (2 ∷ []))
    ∷ around (cables 0 9) (127 ∷ 1 ∷ []) 1 (written 0 1 1 1 1007 1007 128 (7 ∷ []) (7 ∷ []))
    ∷ around (aside 127 ++ arc 0 1 1000 1) (replicate 15 0 ++ 128 ∷ []) 1 (refuse 10)
    ∷ around (aside 127 ++ arc 0 1 1000 1) (replicate 15 255 ++ 127 ∷ []) 1 (written 0 1 1 1 1000 1000 1 (127 ∷ []) (127 ∷ []))
    ∷ around (span_arc 0 1 7 1000 1 ++ span_arc 0 1 7 2000 2 ++ span_arc 0 1 7 3000 4) (1 ∷ []) 1 (written_with 1 0 1 1 2 2000 3000 0 (1 ∷ []) (2 ∷ []))
    ∷ []

pub planned_around : map (λ r. answer_around r.table r.closed r.request 96) closed_rows ≡ map (λ r. r.expected) closed_rows
unfolding opened
planned_around = refl

-- a set of 0, 15 or 17 bytes; one with a bit just past the table, with the last bit, with any bit where there is no arc. 16 is looked for behind every fault of the call and of an arc, closed or
-- not, and before 10
pub closed_checks_lem
    : map (λ (closed : List ℕ). (answer_around mesh_a closed (request 0 3 10000 1000) 96).number) ([] ∷ replicate 15 0 ∷ replicate 17 0 ∷ closing (32 ∷ []) ∷ (replicate 15 0 ++ 128 ∷ []) ∷ closing [] ∷ [])
    ++ map (λ (closed : List ℕ). (answer_around [] closed (request 0 3 10000 1000) 96).number) ([] ∷ closing (1 ∷ []) ∷ closing [] ∷ [])
    ++ map (λ (closed : List ℕ). (answer_around (mesh_a ++ arc 7 7 0 0) closed (request 0 3 10000 1000) 96).number) ([] ∷ closing (32 ∷ []) ∷ closing (64 ∷ []) ∷ [])
    ++ (answer_around mesh_a [] (request 0 3 62000001 1000) 96).number
    ∷ (answer_around mesh_a [] (request 0 3 10000 0) 96).number
    ∷ (answer_around mesh_a [] (request 0 3 10000 1000) 95).number
    ∷ []
    ≡ 16 ∷ 16 ∷ 16 ∷ 16 ∷ 16 ∷ 0 ∷ 16 ∷ 16 ∷ 10 ∷ 1301 ∷ 1301 ∷ 1301 ∷ 7 ∷ 8 ∷ 4 ∷ []
unfolding opened
closed_checks_lem = refl

-- the lengths of mesh A from its source, with arcs 4, 1 and 0 closed: 5,000, 3,000 and 5,000 m; with 1 and 3 closed, and with all, it cannot be reached
pub distances_around
    : map (λ byte. free_lengths (planned_arcs mesh_a (closing (byte ∷ []))) (record { risks = 0; low = 0; high = 0 }) 3 0) (16 ∷ 2 ∷ 1 ∷ 10 ∷ 31 ∷ [])
    ≡ (5000 ∷ 5000 ∷ []) ∷ (3000 ∷ 5000 ∷ []) ∷ (5000 ∷ []) ∷ [] ∷ [] ∷ []
unfolding opened
distances_around = refl

-- ---- T-01, mending

-- a record of the list of changes, as the request lays it out, of an arc that is lost
abbrev pub record_lost : ℕ → ℕ → List ℕ
record_lost old reason = old ∷ 0 ∷ reason ∷ 0 ∷ 255 ∷ 255 ∷ 0 ∷ 0 ∷ 0 ∷ 0 ∷ 0 ∷ 0 ∷ 0 ∷ 0 ∷ 0 ∷ 0 ∷ []

-- our own: a table from the field with each reason but "past 128": node, equal ends, length, torn end; arcs 0, 4 and 5 are sound, arc 4 with a span number, and arcs 4 and 5 only shift
abbrev pub field_table : List ℕ
field_table =
    arc 0 1 1000 1 ++ arc 32 1 1000 2 ++ arc 3 3 1000 4 ++ arc 0 2 2000001 8 ++ span_arc 0 2 7 2000000 16 ++ arc 31 3 5 32 ++ 1 ∷ 2 ∷ 3 ∷ []

pub mended_field
    : mended_table field_table ∷ mended_list field_table ∷ []
    ≡ (arc 0 1 1000 1 ++ span_arc 0 2 7 2000000 16 ++ arc 31 3 5 32) ∷ (record_lost 1 1 ++ record_lost 2 2 ++ record_lost 3 3 ++ record_lost 6 6) ∷ []
unfolding opened
mended_field = refl

-- its old numbers, read back from the list
pub old_numbers_field : map (old_number (changes_in (mended_list field_table))) (0 ∷ 1 ∷ 2 ∷ []) ≡ 0 ∷ 4 ∷ 5 ∷ []
unfolding opened
old_numbers_field = refl

-- of several reasons the first; span numbers 1, 256 and 65,535 are none; a head over 31 alone
pub first_reasons
    : mended_list (span_arc 32 32 1 2000001 0 ++ span_arc 3 3 1 2000001 0 ++ span_arc 0 3 1 2000001 0 ++ span_arc 0 1 1 5 0 ++ span_arc 0 1 256 5 0 ++ span_arc 0 1 65535 5 0 ++ arc 0 32 5 0)
    ≡ record_lost 0 1 ++ record_lost 1 2 ++ record_lost 2 3 ++ record_lost 6 1
unfolding opened
first_reasons = refl

-- 127 arcs in lines
abbrev pub many : List ℕ
many = line 1000 0 31 ++ line 1000 0 31 ++ line 1000 0 31 ++ line 1000 0 31 ++ line 1000 0 3

-- behind a lost arc 128 are kept, the last of them with its span number; then a fault is told before the limit
pub mended_many
    : mended_table (arc 7 7 0 0 ++ many ++ span_arc 0 1 2304 5 0 ++ arc 0 1 5 0 ++ arc 0 32 5 0 ++ span_arc 0 1 9 5 0)
    ∷ mended_list (arc 7 7 0 0 ++ many ++ span_arc 0 1 2304 5 0 ++ arc 0 1 5 0 ++ arc 0 32 5 0 ++ span_arc 0 1 9 5 0)
    ∷ []
    ≡ (many ++ span_arc 0 1 2304 5 0) ∷ (record_lost 0 2 ++ record_lost 129 5 ++ record_lost 130 1 ++ record_lost 131 5) ∷ []
unfolding opened
mended_many = refl

-- a clean table comes out as it is with an empty list; so does an input of no bytes; of one under 16 bytes nothing is left but its torn end
pub mended_clean_ones
    : map (λ t. mended_table t ∷ mended_list t ∷ []) (mesh_a ∷ [] ∷ (9 ∷ []) ∷ [])
    ≡ (mesh_a ∷ [] ∷ []) ∷ ([] ∷ [] ∷ []) ∷ ([] ∷ record_lost 0 6 ∷ []) ∷ []
unfolding opened
mended_clean_ones = refl

-- a call is refused by 2 before 13; each output is as long as the input rounded up to 16, and 4,096 bytes are not too many
pub mend_refusals
    : (mending (replicate 4097 0) 0 0).number
    ∷ (mending (replicate 4096 0) 4095 4096).number
    ∷ (mending (replicate 4096 0) 4096 4095).number
    ∷ (mending (replicate 4096 0) 4096 4096).number
    ∷ (mending (replicate 4081 0) 4095 4096).number
    ∷ (mending (replicate 4081 0) 4096 4096).number
    ∷ (mending (replicate 17 0) 32 31).number
    ∷ (mending (replicate 16 0) 16 16).number
    ∷ (mending (1 ∷ []) 15 16).number
    ∷ (mending [] 0 0).number
    ∷ []
    ≡ 2 ∷ 13 ∷ 13 ∷ 0 ∷ 13 ∷ 0 ∷ 13 ∷ 0 ∷ 13 ∷ 0 ∷ []
unfolding opened
mend_refusals = refl

-- what a call gives: both outputs, or neither
pub mend_calls
    : map (λ m. m.table ∷ m.list ∷ []) (mending field_table 112 112 ∷ mending field_table 112 111 ∷ [])
    ≡ (mended_table field_table ∷ mended_list field_table ∷ []) ∷ ([] ∷ [] ∷ []) ∷ []
unfolding opened
mend_calls = refl

-- a change there and back, no two bytes of it alike
pub change_bytes_lem : change_bytes (record { old = 513; reason = 3; new = 1284 }) ≡ 1 ∷ 2 ∷ 3 ∷ 0 ∷ 4 ∷ 5 ∷ replicate 10 0
unfolding opened
change_bytes_lem = refl

pub change_read : change_in (1 ∷ 2 ∷ 3 ∷ 9 ∷ 4 ∷ 5 ∷ replicate 10 9) ≡ record { old = 513; reason = 3; new = 1284 }
unfolding opened
change_read = refl

-- ---- T-09, empty risk lists

-- D2; with a span number, which fills no blank; of 1 metre; behind an arc of 0 metres, which keeps its blank; the lowest of two that lie on no route; where the terminal cannot be reached; the last of 128;
-- a fault of an arc behind it is told first, and so are a buffer that is too small and an allowance of none. One risk is enough, be it the last
pub blanks_told
    : number (arc 0 1 1000 0) 0 1 10000 1000 96
    ∷ number (span_arc 0 1 7 1000 0) 0 1 10000 1000 96
    ∷ number (arc 0 1 1 0) 0 1 10000 1000 96
    ∷ number (arc 0 1 0 0 ++ arc 0 1 1 0) 0 1 10000 1000 96
    ∷ number (mesh_a ++ arc 5 6 7 0 ++ arc 6 7 8 0) 0 3 10000 1000 96
    ∷ number (arc 0 1 1000 0) 0 2 10000 1000 96
    ∷ number (many ++ arc 0 1 5 0) 0 1 10000 1000 96
    ∷ number (arc 0 1 5 0 ++ arc 3 3 5 0) 0 1 10000 1000 96
    ∷ number (arc 0 1 1000 0) 0 1 10000 1000 95
    ∷ number (arc 0 1 1000 0) 0 1 10000 0 96
    ∷ number (arc 0 1 1000 (2 ^ 63)) 0 1 10000 1000 96
    ∷ []
    ≡ 24 ∷ 24 ∷ 24 ∷ 280 ∷ 1304 ∷ 24 ∷ 32536 ∷ 277 ∷ 4 ∷ 8 ∷ 0 ∷ []
unfolding opened
blanks_told = refl

-- a blank is told of a closed arc too, and before a set that is not whole or marks an arc past the table
pub blanks_told_around
    : map (λ (closed : List ℕ). (answer_around (mesh_a ++ arc 5 6 7 0) closed (request 0 3 10000 1000) 96).number) (closing (32 ∷ []) ∷ closing [] ∷ [] ∷ closing (64 ∷ []) ∷ [])
    ≡ 1304 ∷ 1304 ∷ 1304 ∷ 1304 ∷ []
unfolding opened
blanks_told_around = refl

-- the mender leaves it as it is, and the list says nothing of it
pub blanks_left : mended_table (arc 3 3 5 0 ++ arc 0 1 1000 0 ++ arc 0 1 0 0) ∷ mended_list (arc 3 3 5 0 ++ arc 0 1 1000 0 ++ arc 0 1 0 0) ∷ [] ≡ (arc 0 1 1000 0 ++ arc 0 1 0 0) ∷ record_lost 0 2 ∷ []
unfolding opened
blanks_left = refl

-- ---- T-05, pairs that meet in no building

-- a row with a closed set, a reach and an allowance
abbrev pub apart : List ℕ → (bytes : List ℕ) → (terminal reach allowance : ℕ) → Answer → AroundRow
apart table bytes terminal reach allowance a = record { table = table; closed = closing bytes; request = request 0 terminal reach allowance; expected = a }

-- two cables to node 1 and two on from there: routes over different cables share nothing, and all meet in node 1
abbrev pub mesh_meeting : List ℕ
mesh_meeting = arc 0 1 1000 1 ++ arc 0 1 1000 2 ++ arc 1 2 1000 4 ++ arc 1 2 1000 8

-- [0,1] and [2,3] are apart and share risk 0, which [0,4,3] has not: what lies on every route is nothing
abbrev pub mesh_floor : List ℕ
mesh_floor = arc 0 1 1000 2 ++ arc 1 3 1000 1 ++ arc 0 2 1000 1 ++ arc 2 3 1000 4 ++ arc 1 2 1000 8

-- [1,3] shares risk 0 with [2], which [1,0] does not: a search that forgets which nodes were in the way gives [2] with [1,3]
abbrev pub mesh_in_the_way : List ℕ
mesh_in_the_way = arc 1 2 5 16 ++ arc 0 1 2 6 ++ arc 0 2 3 1 ++ arc 1 2 1 9

abbrev pub apart_rows : List AroundRow
apart_rows =
    apart mesh_a [] 3 10000 1 (refuse 15)  -- the shortest route meets both others: no pair yet
    ∷ apart mesh_a [] 3 10000 2 answer_a1  -- and then one: step 1 had none, so it was not settled, though no pair at all would share nothing at 0 metres
    ∷ apart mesh_a [] 3 10000 1000 answer_a1  -- and the same from there on
    ∷ apart mesh_a [] 3 4999 1000 (refuse 14)  -- the shortest route alone
    ∷ apart mesh_a [] 3 2999 1000 (refuse 10)  -- and none: 10 before 14
    ∷ apart mesh_b [] 3 10000 9 answer_b1  -- the plain pair is apart: the same 96 bytes
    ∷ apart mesh_c [] 1 10000 1000 (written 0 0 0 1 1000 1000 0 (0 ∷ []) (1 ∷ []))  -- two cables have only their ends in common
    ∷ apart mesh_d [] 1 10000 1000 (refuse 14)  -- a single arc used twice is out
    ∷ apart (arc 0 1 1000 1 ++ arc 0 1 2000 1) [] 1 10000 1000 (written 0 1 1 2 1000 2000 1 (0 ∷ []) (1 ∷ []))  -- with a cable beside it that pair, longer and sharing as much
    ∷ apart (arc 0 1 1000 1 ++ arc 0 1 2000 1) [] 1 10000 1 (written 1 1 1 1 1000 2000 1 (0 ∷ []) (1 ∷ []))  -- which is long enough for no step before N
    ∷ apart (span_arc 0 1 7 1000 1 ++ span_arc 0 1 7 1000 2) [] 1 10000 1000 (written_with 1 0 1 1 1 1000 1000 0 (0 ∷ []) (1 ∷ []))  -- two arcs of one span may be apart: the span is shared
    ∷ apart mesh_meeting [] 2 10000 1000 (refuse 14)  -- a common node is out, though nothing is shared
    ∷ apart mesh_meeting [] 2 10000 4 (refuse 14)  -- from N on
    ∷ apart mesh_meeting [] 2 10000 3 (refuse 15)  -- and not before: 15 turns into 14
    ∷ apart (mesh_meeting ++ arc 0 2 9000 5) [] 2 10000 1000 (written 0 0 0 5 2000 9000 0 (1 ∷ 3 ∷ []) (4 ∷ []))  -- past the node, by a cable of its own
    ∷ apart (mesh_meeting ++ arc 0 2 9000 5) [] 2 10000 2 (written 1 1 0 2 2000 9000 1 (0 ∷ 3 ∷ []) (4 ∷ []))  -- fewer mains, more shared
    ∷ apart mesh_floor [] 3 10000 1000 (written 0 1 0 3 2000 2000 1 (0 ∷ 1 ∷ []) (2 ∷ 3 ∷ []))  -- the floor is that of all routes, so only N settles
    ∷ apart mesh_floor [] 3 10000 2 (written 1 1 0 2 2000 2000 1 (0 ∷ 1 ∷ []) (2 ∷ 3 ∷ []))  -- and two mains do not
    ∷ apart mesh_in_the_way [] 2 100 2 (written 1 0 0 2 3 7 0 (2 ∷ []) (1 ∷ 0 ∷ []))  -- of two standbys the longer one, which shares less
    ∷ apart mesh_a (16 ∷ []) 3 10000 1 (written 0 0 0 1 5000 5000 0 (0 ∷ 1 ∷ []) (2 ∷ 3 ∷ []))  -- with the shortest route closed, the two others at once
    ∷ apart mesh_a (2 ∷ []) 3 10000 1000 (refuse 14)  -- with one of those two closed, none is left
    ∷ apart mesh_a (2 ∷ []) 3 10000 1 (refuse 15)  -- which is known only at N
    ∷ apart mesh_a (5 ∷ []) 3 10000 1000 (refuse 10)  -- with every arc from the source closed, no route is left
    ∷ apart mesh_a (32 ∷ []) 3 10000 1000 (refuse 16)  -- a bit past the table is told before
    ∷ apart mesh_long [] 31 62000000 1000000 (refuse 14)  -- the longest route that there can be, alone
    ∷ []

pub planned_apart : map (λ r. answer_apart r.table r.closed r.request 96) apart_rows ≡ map (λ r. r.expected) apart_rows
unfolding opened
planned_apart = refl

-- of lists alone, from 0 to 3 in mesh A with an arc 5 back from 3 to 0 and an arc 6 from 3 to 1: two routes, either way round; a route and itself; two over arc 0, and two over arc 3; a way round by
-- the source with a route, and one that takes an arc of it; a list past the terminal on to node 1, where the other was, with no arc in common; lists of no arc
abbrev pub lists_a : List ℕ → List ℕ → Bool
lists_a = lists_apart (mesh (arcs_of (mesh_a ++ arc 3 0 1000 32 ++ arc 3 1 1000 64)) 0 3 0)

pub lists_apart_lem
    : lists_a (0 ∷ 1 ∷ []) (2 ∷ 3 ∷ [])
    ∷ lists_a (2 ∷ 3 ∷ []) (0 ∷ 1 ∷ [])
    ∷ lists_a (0 ∷ 1 ∷ []) (0 ∷ 1 ∷ [])
    ∷ lists_a (0 ∷ 1 ∷ []) (0 ∷ 4 ∷ 3 ∷ [])
    ∷ lists_a (0 ∷ 4 ∷ 3 ∷ []) (2 ∷ 3 ∷ [])
    ∷ lists_a (0 ∷ 1 ∷ 5 ∷ 0 ∷ 1 ∷ []) (2 ∷ 3 ∷ [])
    ∷ lists_a (0 ∷ 1 ∷ 5 ∷ 2 ∷ 3 ∷ []) (2 ∷ 3 ∷ [])
    ∷ lists_a (2 ∷ 3 ∷ 6 ∷ []) (0 ∷ 1 ∷ [])
    ∷ lists_a [] []
    ∷ []
    ≡ true ∷ true ∷ false ∷ false ∷ false ∷ true ∷ false ∷ false ∷ true ∷ []
unfolding opened
lists_apart_lem = refl

-- K: the kilometres of 0, 1, 1,000, 1,001 and 31,984 metres
pub starred_K : map kilometres (0 ∷ 1 ∷ 1000 ∷ 1001 ∷ 31984 ∷ []) ≡ 0 ∷ 1 ∷ 1 ∷ 2 ∷ 32 ∷ []
unfolding opened
starred_K = refl

-- a request as the program reads it
abbrev pub asked : (source terminal reach allowance : ℕ) → List ℕ
asked source terminal reach allowance = source ∷ terminal ∷ 0 ∷ 0 ∷ [] ++ bytes_of 4 reach ++ bytes_of 4 allowance ++ bytes_of 4 0

-- the whole output: A1; A2, which is stopped and has routes of unequal length; K's sixteen spans of 1,999 m; refusals of one digit, of two and of four
pub printed_A1 : output (asked 0 3 10000 1000 ++ mesh_a) ≡ text "settled 0 0 2\nmain 5 0 1\nstandby 5 2 3\n"
unfolding opened
printed_A1 = refl

pub printed_A2 : output (asked 0 3 10000 1 ++ mesh_a) ≡ text "stopped 1 0 1\nmain 3 0 4 3\nstandby 5 0 1\n"
unfolding opened
printed_A2 = refl

pub printed_K
    : output (asked 0 16 62000000 1 ++ line 1999 0 16)
    ≡ text "settled 16 16 1\nmain 32 0 1 2 3 4 5 6 7 8 9 10 11 12 13 14 15\nstandby 32 0 1 2 3 4 5 6 7 8 9 10 11 12 13 14 15\n"
unfolding opened
printed_K = refl

pub printed_refusals
    : map output ((asked 0 3 62000001 1 ++ mesh_a) ∷ (asked 0 3 2999 1 ++ mesh_a) ∷ (asked 0 3 10000 16777217 ++ mesh_a) ∷ (asked 0 21 10000 1 ++ line 1000 0 21 ++ arc 0 1 2000001 0) ∷ (asked 0 1 10000 1000 ++ arc 0 1 1000 0) ∷ [])
    ≡ text "refused 7\n" ∷ text "refused 10\n" ∷ text "refused 8\n" ∷ text "refused 5398\n" ∷ text "refused 24\n" ∷ []
unfolding opened
printed_refusals = refl

-- numbers of one digit and of ten
pub printed_digits : map (digits 10) (0 ∷ 9 ∷ 10 ∷ 1999 ∷ 4294967295 ∷ []) ≡ text "0" ∷ text "9" ∷ text "10" ∷ text "1999" ∷ text "4294967295" ∷ []
unfolding opened
printed_digits = refl

-- number 12, before any other: an input under 16 bytes, and each of the request's six zero bytes where it is not zero; 16 bytes without a fault get past it
pub printed_12
    : map output
    (take 15 (asked 0 3 10000 1)
    ∷ (32 ∷ 32 ∷ 1 ∷ 0 ∷ replicate 12 0)
    ∷ (32 ∷ 32 ∷ 0 ∷ 1 ∷ replicate 12 0)
    ∷ (32 ∷ 32 ∷ replicate 10 0 ++ 1 ∷ 0 ∷ 0 ∷ 0 ∷ [])
    ∷ (32 ∷ 32 ∷ replicate 10 0 ++ 0 ∷ 1 ∷ 0 ∷ 0 ∷ [])
    ∷ (32 ∷ 32 ∷ replicate 10 0 ++ 0 ∷ 0 ∷ 1 ∷ 0 ∷ [])
    ∷ (32 ∷ 32 ∷ replicate 10 0 ++ 0 ∷ 0 ∷ 0 ∷ 1 ∷ [])
    ∷ (32 ∷ 32 ∷ replicate 14 0)
    ∷ [])
    ≡ replicate 7 (text "refused 12\n") ++ text "refused 5\n" ∷ []
unfolding opened
printed_12 = refl

-- the side table of mesh A: free of risk 0 the terminal is 5,000 m from the source; free of 1 and 3 it cannot be reached, and the length is then 0
pub shortest_A : map (λ risks. free_lengths (arcs_of mesh_a) (record { risks = risks; low = 0; high = 0 }) 3 0) (1 ∷ 10 ∷ []) ≡ (5000 ∷ []) ∷ [] ∷ []
unfolding opened
shortest_A = refl

pub shortest_lengths : map (λ risks. shortest (arcs_of mesh_a) (record { risks = risks; low = 0; high = 0 }) 3 0) (0 ∷ 1 ∷ 10 ∷ []) ≡ 3000 ∷ 5000 ∷ 0 ∷ []
unfolding opened
shortest_lengths = refl
