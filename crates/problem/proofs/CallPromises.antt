-- The promises, restated of calls of the planning entries: what the number returned and the bytes in the buffer must be, and what a second call with a larger allowance must give.
-- `CalledAround` says what one call does; crates/entry/proofs/Contract.antt shows that the contract of `feshangul_plan_around` says just that, and that of `feshangul_plan` the same of a call
-- with nothing closed (`none_closed`). `CalledApart` says it of a call that judges only pairs that are apart (T-05). Assumes nothing.
use mathlib.Core.Path.{◌≡◌, refl, sym, ap, ◌∙◌}
use mathlib.Core.Bool.{Bool, true, false}
use mathlib.Core.Logic.{◌⊎◌, ◌↔◌}
use mathlib.Core.List.{List, [], Memᴰ}
use Prim.Native.Nat.{ℕ, ◌+◌, ◌*◌, ◌/◌, ◌%◌, ◌≤◌, ◌<◌}
use native.Mathlib.Omega.{arith}
use lib.ListN.{length, get_or, take, drop}
use Rattle.laws.specs.Choosing.{Pairwise}
use lib.Seq.{take_at, take-append_seam, drop-append_seam}
use Rattle.problem.specs.declared.Request.{Request}
use Rattle.problem.specs.Table.{most_arcs, most_shared, most_reach, most_allowance, reply_size, Bytes, over, record_at, arcs_of}
use Rattle.problem.specs.Routes.{Route, arc_at, metres_of, IsWay}
use Rattle.problem.specs.Spans.{marked_arcs}
use Rattle.problem.specs.Blanks.{Blank}
use Rattle.problem.specs.Closed.{closed_size, closed_in, AllOpen, planned_arcs}
use Rattle.problem.specs.Pairs.{pair, shared_risks, shared_count, shared_spans, total, judged, NoWorse, of_rank, floor}
use Rattle.problem.specs.Apart.{Apart}
use Rattle.problem.specs.Reply.{mesh_over, mesh_of, Answer, ClosedSet, answer_among, after, shared_in, floor_in, shared_spans_in, ranked_in, main_metres_in, standby_metres_in, total_in, shared_risks_in, main_in, standby_in}
use Rattle.problem.specs.Calls.{routes_of, RouteOf, WayOf, pair_made_of, pair_said, ApartWithin, allowing, Applies, Told, LowestFault, LowestBlank, answer_by_risks, answer_over_all, answer_with_blanks, ClosesAside, CalledAmong, CalledAround, CalledApart, Called}
use Rattle.problem.specs.Mending.{most_field_bytes, Clean, mended_table, Change, mended_list, changes_in, old_number, rounded_up, Mending, mending, Mends, KeptAs, Listed}
use Rattle.problem.proofs.CallLaws.{low_number}
use Rattle.problem.proofs.SaidLaws.{reply_size_lem}
use Rattle.problem.proofs.MendCallLaws as MendCallLaws
use Rattle.problem.proofs.Promises as promised

-- ---- a call of either entry, and what it answers

module _ {only : Bool} {table closed : List ℕ} {q : Request} {before now : List ℕ} {number : ℕ} (c : CalledAmong only table closed q before number now) where
  low : number < 2 → (answer_among only table closed q (length before)).number < 2
  low h = omega (arith, c.number_is)

  zero_is : number ≡ 0 → (answer_among only table closed q (length before)).number ≡ 0
  zero_is e = sym c.number_is ∙ e

  -- an answer that is known to be another is what the call gives
  gives : {a : Answer} → answer_among only table closed q (length before) ≡ a → (number ≡ a.number) × (now ≡ after a before)
  gives same = (c.number_is ∙ ap (λ (a : Answer). a.number) same, c.buffer_is ∙ ap (λ (a : Answer). after a before) same)

  -- the first 96 bytes are those of the answer
  replied : number < 2 → take reply_size now ≡ (answer_among only table closed q (length before)).reply
  unfolding after
  replied h =
      ap (take reply_size) c.buffer_is
      ∙ take_at (answer_among only table closed q (length before)).reply (drop (length (answer_among only table closed q (length before)).reply) before) reply_size (reply_size_lem (low_number only table closed q (length before) (low h)))

module _ {table closed : List ℕ} {q : Request} {before now : List ℕ} {number : ℕ} (c : CalledAround table closed q before number now) where
  -- the first 96 bytes
  abbrev reply : List ℕ
  reply = take reply_size now

  -- ==== Demand 1

  -- each number is returned exactly where its own test holds, none of an earlier turn, and in its own turn none of a smaller number
  pub call_in_order : (n : ℕ) → 2 ≤ n → (number ≡ n) ↔ Told table closed q (length before) n
  call_in_order = rw c.number_is (promised.checked_in_order table closed q (length before))

  -- a call is answered exactly where no test holds
  pub call_answered : (number < 2) ↔ ((t i : ℕ) → Applies table closed q (length before) t i → ⊥)
  call_answered = rw c.number_is (promised.answered_exactly table closed q (length before))

  -- a refusal leaves every byte
  pub call_untouched : 2 ≤ number → now ≡ before
  call_untouched h = c.buffer_is ∙ promised.refusal_keeps_buffer table closed q (length before) (omega (arith, c.number_is)) before

  -- an answer leaves every byte behind the 96
  pub call_keeps_rest : number < 2 → drop reply_size now ≡ drop reply_size before
  call_keeps_rest h = ap (drop reply_size) c.buffer_is ∙ promised.answer_keeps_rest table closed q (length before) (low c h) before

  module _ (answered : number < 2) where
    -- ==== Demand 2

    -- the arc numbers in the bytes are routes, of the metres and shared risks that the bytes say
    pub call_routes : RouteOf table closed q (main_in reply) × RouteOf table closed q (standby_in reply)
    call_routes = rw (replied c answered) (promised.reply_routes table closed q (length before) (low c answered))

    pub call_metres : (main_metres_in reply ≡ metres_of (planned_arcs table closed) (main_in reply)) × (standby_metres_in reply ≡ metres_of (planned_arcs table closed) (standby_in reply))
    call_metres = rw (replied c answered) (promised.reply_metres table closed q (length before) (low c answered))

    pub call_shared : shared_in reply ≡ shared_count (pair_said (planned_arcs table closed) reply)
    call_shared = rw (replied c answered) (promised.reply_shared table closed q (length before) (low c answered))

    pub call_spans : shared_spans_in reply ≡ shared_spans (pair_said (planned_arcs table closed) reply)
    call_spans = rw (replied c answered) (promised.reply_spans table closed q (length before) (low c answered))

    pub call_risks : Bytes table → shared_risks_in reply ≡ shared_risks (pair_said (planned_arcs table closed) reply)
    call_risks = rw (replied c answered) (promised.reply_risks table closed q (length before) (low c answered))

    -- the main is among the first `allowance` routes, the standby is any route, and every other such pair comes after it
    pub call_main : Memᴰ (pair_said (planned_arcs table closed) reply).main (take q.allowance (routes_of table closed q))
    call_main = rw (replied c answered) (promised.main_allowed table closed q (length before) (low c answered))

    pub call_standby : Memᴰ (pair_said (planned_arcs table closed) reply).standby (routes_of table closed q)
    call_standby = rw (replied c answered) (promised.standby_any table closed q (length before) (low c answered))

    pub call_none_before : (m s : Route) → Memᴰ m (take q.allowance (routes_of table closed q)) → Memᴰ s (routes_of table closed q) → judged (pair m s) (pair_said (planned_arcs table closed) reply) ≡ false
    call_none_before = rw (replied c answered) (promised.none_before table closed q (length before) (low c answered))

    pub call_others_after : (m s : Route) → Memᴰ m (take q.allowance (routes_of table closed q)) → Memᴰ s (routes_of table closed q)
        → (pair m s ≡ pair_said (planned_arcs table closed) reply) ⊎ (judged (pair_said (planned_arcs table closed) reply) (pair m s) ≡ true)
    call_others_after = rw (replied c answered) (promised.others_after table closed q (length before) (low c answered))

    -- ==== Demand 3

    -- settled exactly by 01's rule, read off the bytes
    pub call_settled : (number ≡ 0)
        ↔ ((ranked_in reply ≡ length (routes_of table closed q))
        ⊎ ((shared_count (pair_said (planned_arcs table closed) reply) ≡ floor (routes_of table closed q)) × (total (pair_said (planned_arcs table closed) reply) ≤ 2 * (of_rank (routes_of table closed q) (ranked_in reply)).metres)))
    call_settled = rw (replied c answered, c.number_is) (promised.settled_exactly table closed q (length before) (low c answered))

    -- an allowance of at least N settles
    pub call_settles : length (routes_of table closed q) ≤ q.allowance → number ≡ 0
    call_settles all = c.number_is ∙ promised.all_routes_settle table closed q (length before) (low c answered) all

    -- settled: no two ways within reach do better than what the bytes say
    pub call_no_better : number ≡ 0 → (u v : List ℕ) → WayOf table closed q u → WayOf table closed q v
        → NoWorse (shared_in reply) (total_in reply) (shared_count (pair_made_of (planned_arcs table closed) u v)) (total (pair_made_of (planned_arcs table closed) u v))
    call_no_better e = rw (replied c answered) (promised.settled_no_better table closed q (length before) (low c answered) (zero_is c e))

  -- ==== Request T-10

  -- no route in the bytes is longer than 62,000,000 metres
  pub call_within : number < 2 → (main_metres_in reply ≤ most_reach) × (standby_metres_in reply ≤ most_reach)
  call_within h = rw (replied c h) (promised.reply_within table closed q (length before) (low c h))

  -- number 11 has ended: it is returned for no call
  pub call_never_eleven : number ≡ 11 → ⊥
  call_never_eleven e = promised.never_eleven table closed q (length before) (sym c.number_is ∙ e)

  -- ==== Request T-02

  -- once the checks before have passed, the number is n + 256 i exactly where arc i has the fault of number n as its first and every arc below i is sound
  pub call_names : ((t i : ℕ) → t < 9 → Applies table closed q (length before) t i → ⊥) → (n i : ℕ) → 20 ≤ n → n ≤ 22 → (number ≡ n + 256 * i) ↔ LowestFault (arcs_of table) i n
  call_names = rw c.number_is (promised.arc_named table closed q (length before))

  -- any number past 10 but for 16, taken apart
  pub call_apart : 10 < number → (number ≡ 16 → ⊥) → LowestFault (arcs_of table) (number / 256) (number % 256) ⊎ ((number % 256 ≡ 24) × LowestBlank (arcs_of table) (number / 256))
  call_apart = rw c.number_is (promised.arc_apart table closed q (length before))

  -- number 9 has ended: it is returned for no call
  pub call_never_nine : number ≡ 9 → ⊥
  call_never_nine e = promised.never_nine table closed q (length before) (sym c.number_is ∙ e)

  -- ==== Request T-03

  -- at most 95 are shared, and at most 31 of them are spans
  pub call_most : number < 2 → (shared_in reply ≤ most_shared) × (shared_spans_in reply ≤ most_arcs)
  call_most h = rw (replied c h) (promised.reply_most table closed q (length before) (low c h))

  -- a table with no span number: the number and the buffer are those of the answer with spans left out
  pub call_as_before : ((k : ℕ) → k < length (arcs_of table) → (arc_at (arcs_of table) k).span ≡ 0)
      → (number ≡ (answer_by_risks table closed q (length before)).number) × (now ≡ after (answer_by_risks table closed q (length before)) before)
  call_as_before none = gives c (promised.as_before table closed q (length before) none)

  -- number 23 has ended: it is returned for no call, of whichever arc
  pub call_never_twenty_three : (i : ℕ) → number ≡ 23 + 256 * i → ⊥
  call_never_twenty_three i e = promised.never_twenty_three table closed q (length before) i (sym c.number_is ∙ e)

  -- ==== Request T-09

  -- once the checks before have passed, the number is 24 + 256 i exactly where arc i is blank and no arc below it is; and no call is answered on a table with a blank
  pub call_names_blank : ((t i : ℕ) → t < 10 → Applies table closed q (length before) t i → ⊥) → (i : ℕ) → (number ≡ 24 + 256 * i) ↔ LowestBlank (arcs_of table) i
  call_names_blank = rw c.number_is (promised.blank_named table closed q (length before))

  pub call_listed : number < 2 → (k : ℕ) → k < length (arcs_of table) → Blank (arc_at (arcs_of table) k) → ⊥
  call_listed h = promised.answered_listed table closed q (length before) (low c h)

  -- a table without one, and any call that is not refused for one: the number and the buffer are those of before
  pub call_listed_before : ((k : ℕ) → k < length (arcs_of table) → Blank (arc_at (arcs_of table) k) → ⊥)
      → (number ≡ (answer_with_blanks table closed q (length before)).number) × (now ≡ after (answer_with_blanks table closed q (length before)) before)
  call_listed_before none = gives c (promised.listed_before table closed q (length before) none)

  pub call_otherwise_before : ((i : ℕ) → number ≡ 24 + 256 * i → ⊥)
      → (number ≡ (answer_with_blanks table closed q (length before)).number) × (now ≡ after (answer_with_blanks table closed q (length before)) before)
  call_otherwise_before other = gives c (promised.otherwise_before table closed q (length before) (λ i e. other i (c.number_is ∙ e)))

-- two calls on the same buffer that give the same answer return the same number and leave the same bytes
same_call : {only other : Bool} {table closed more : List ℕ} {q r : Request} {before now later : List ℕ} {first second : ℕ} → CalledAmong only table closed q before first now
    → CalledAmong other table more r before second later → answer_among other table more r (length before) ≡ answer_among only table closed q (length before) → (second ≡ first) × (later ≡ now)
same_call {before = before} c d e =
    (d.number_is ∙ ap (λ (a : Answer). a.number) e ∙ sym c.number_is, d.buffer_is ∙ ap (λ (a : Answer). after a before) e ∙ sym c.buffer_is)

-- two calls on the same buffer, the second with a larger permitted allowance
module _ {table closed : List ℕ} {q : Request} {b : ℕ} {before now later : List ℕ} {first second : ℕ} (c : CalledAround table closed q before first now) (d : CalledAround table closed (allowing q b) before second later)
    (answered : first < 2) (more : q.allowance ≤ b) (permitted : b ≤ most_allowance) where
  -- settled: the same number and the same bytes
  pub call_stays : first ≡ 0 → (second ≡ 0) × (later ≡ now)
  call_stays e = let s = same_call c d (promised.settled_stays table closed q (length before) (low c answered) b more permitted (zero_is c e)) in (s.0 ∙ e, s.1)

  -- settled or stopped: answered, no worse, and by the whole judgement no later
  pub call_never_worse : (second < 2) × NoWorse (shared_in (take reply_size later)) (total_in (take reply_size later)) (shared_in (take reply_size now)) (total_in (take reply_size now))
      × (judged (pair_said (planned_arcs table closed) (take reply_size now)) (pair_said (planned_arcs table closed) (take reply_size later)) ≡ false)
  call_never_worse =
      let w = promised.never_worse table closed q (length before) (low c answered) b more permitted in
      let too : second < 2 = omega (arith, d.number_is, w.0) in
      rw (replied c answered, replied d too) (too, w.1, w.2)

-- ==== Request T-06

-- no arc in the bytes is closed
pub call_open : {table closed : List ℕ} {q : Request} {before now : List ℕ} {number : ℕ} → (c : CalledAround table closed q before number now) → number < 2
    → AllOpen (closed_in closed) (main_in (take reply_size now)) × AllOpen (closed_in closed) (standby_in (take reply_size now))
call_open {table} {closed} {q} {before} c h = rw (replied c h) (promised.reply_open table closed q (length before) (low c h))

-- settled: no two ways over open arcs do better than what the bytes say
pub call_open_no_better : {table closed : List ℕ} {q : Request} {before now : List ℕ} {number : ℕ} → (c : CalledAround table closed q before number now) → number ≡ 0
    → (u v : List ℕ) → IsWay (mesh_over (marked_arcs table) q) u → AllOpen (closed_in closed) u → IsWay (mesh_over (marked_arcs table) q) v → AllOpen (closed_in closed) v
    → let p = pair_made_of (marked_arcs table) u v in NoWorse (shared_in (take reply_size now)) (total_in (take reply_size now)) (shared_count p) (total p)
call_open_no_better {table} {closed} {q} {before} c e = rw (replied c (omega arith)) (promised.open_no_better table closed q (length before) (zero_is c e))

-- with no arc closed, the entry that takes a closed set does as the one that takes none
pub call_none_closed : {table closed : List ℕ} {q : Request} {before now later : List ℕ} {first second : ℕ} → Called table q before first now → CalledAround table closed q before second later
    → length closed ≡ closed_size → ((k : ℕ) → k < closed_size → get_or closed k 0 ≡ 0) → (second ≡ first) × (later ≡ now)
call_none_closed {table} {closed} {q} {before} c d whole zeros = same_call c d (promised.none_closed_lem table closed q (length before) whole zeros)

-- which does as before there were closed sets, and never returns 16
pub call_over_all : {table : List ℕ} {q : Request} {before now : List ℕ} {number : ℕ} → Called table q before number now
    → (number ≡ (answer_over_all table q (length before)).number) × (now ≡ after (answer_over_all table q (length before)) before)
call_over_all {table} {q} {before} c = gives c (promised.as_over_all table q (length before))

pub call_never_sixteen : {table : List ℕ} {q : Request} {before now : List ℕ} {number : ℕ} → Called table q before number now → number ≡ 16 → ⊥
call_never_sixteen {table} {q} {before} c e = promised.never_sixteen table q (length before) (sym c.number_is ∙ e)

-- closing arcs that lie on no route: the same number and the same bytes
pub call_aside : {table closed more : List ℕ} {q : Request} {before now later : List ℕ} {first second : ℕ} → CalledAround table closed q before first now → CalledAround table more q before second later
    → ClosedSet table closed → ClosedSet table more → ClosesAside table closed more q → (second ≡ first) × (later ≡ now)
call_aside {table} {closed} {more} {q} {before} c d s t aside = same_call c d (promised.closing_aside table closed more q (length before) s t aside)

-- ==== Request T-05, of calls that judge only pairs that are apart

module _ {table closed : List ℕ} {q : Request} {before now : List ℕ} {number : ℕ} (c : CalledApart table closed q before number now) where
  abbrev apart_reply : List ℕ
  apart_reply = take reply_size now

  -- ---- numbers and bytes

  -- 14 exactly where no test before holds, no two routes are apart, and every route could be a main; 15 exactly where no test before holds, no pair that is apart has its main within the
  -- allowance, and the allowance is below N; every other number as by the plain entry; and an answer exactly where no test holds and there is such a pair
  pub apart_call_fourteen : (number ≡ 14)
      ↔ (((t i : ℕ) → Applies table closed q (length before) t i → ⊥)
      × ((u v : List ℕ) → RouteOf table closed q u → RouteOf table closed q v → Apart (mesh_of table closed q) u v → ⊥)
      × (length (routes_of table closed q) ≤ q.allowance))
  apart_call_fourteen = rw c.number_is (promised.fourteen_exactly table closed q (length before))

  pub apart_call_fifteen : (number ≡ 15)
      ↔ (((t i : ℕ) → Applies table closed q (length before) t i → ⊥) × ((m s : Route) → ApartWithin table closed q m s → ⊥) × (q.allowance < length (routes_of table closed q)))
  apart_call_fifteen = rw c.number_is (promised.fifteen_exactly table closed q (length before))

  pub apart_call_in_order : (n : ℕ) → 2 ≤ n → (n ≡ 14 → ⊥) → (n ≡ 15 → ⊥) → (number ≡ n) ↔ Told table closed q (length before) n
  apart_call_in_order = rw c.number_is (promised.apart_in_order table closed q (length before))

  pub apart_call_answered : (number < 2) ↔ (((t i : ℕ) → Applies table closed q (length before) t i → ⊥) × ((m : Route) × (s : Route) × ApartWithin table closed q m s))
  apart_call_answered = rw c.number_is (promised.apart_answered table closed q (length before))

  -- a refusal leaves every byte, and an answer those behind the 96
  pub apart_call_untouched : 2 ≤ number → now ≡ before
  apart_call_untouched h = c.buffer_is ∙ promised.apart_keeps_buffer table closed q (length before) (omega (arith, c.number_is)) before

  pub apart_call_keeps_rest : number < 2 → drop reply_size now ≡ drop reply_size before
  apart_call_keeps_rest h = ap (drop reply_size) c.buffer_is ∙ promised.apart_keeps_rest table closed q (length before) (low c h) before

  module _ (answered : number < 2) where
    -- ---- demand 2

    -- the arc numbers in the bytes are routes, and the two are apart; of the metres, shared count, spans and risks that the bytes say
    pub apart_call_routes : RouteOf table closed q (main_in apart_reply) × RouteOf table closed q (standby_in apart_reply)
    apart_call_routes = rw (replied c answered) (promised.apart_routes table closed q (length before) (low c answered))

    pub apart_call_apart : Apart (mesh_of table closed q) (main_in apart_reply) (standby_in apart_reply)
    apart_call_apart = rw (replied c answered) (promised.reply_apart table closed q (length before) (low c answered))

    pub apart_call_metres : (main_metres_in apart_reply ≡ metres_of (planned_arcs table closed) (main_in apart_reply)) × (standby_metres_in apart_reply ≡ metres_of (planned_arcs table closed) (standby_in apart_reply))
    apart_call_metres = rw (replied c answered) (promised.apart_metres table closed q (length before) (low c answered))

    pub apart_call_shared : shared_in apart_reply ≡ shared_count (pair_said (planned_arcs table closed) apart_reply)
    apart_call_shared = rw (replied c answered) (promised.apart_shared table closed q (length before) (low c answered))

    pub apart_call_spans : shared_spans_in apart_reply ≡ shared_spans (pair_said (planned_arcs table closed) apart_reply)
    apart_call_spans = rw (replied c answered) (promised.apart_spans table closed q (length before) (low c answered))

    pub apart_call_risks : Bytes table → shared_risks_in apart_reply ≡ shared_risks (pair_said (planned_arcs table closed) apart_reply)
    apart_call_risks = rw (replied c answered) (promised.apart_risks table closed q (length before) (low c answered))

    -- the main is among the first `allowance` routes, the standby is any route; no such pair that is apart comes before it, and every other one comes after it
    pub apart_call_main : Memᴰ (pair_said (planned_arcs table closed) apart_reply).main (take q.allowance (routes_of table closed q))
    apart_call_main = rw (replied c answered) (promised.apart_main table closed q (length before) (low c answered))

    pub apart_call_standby : Memᴰ (pair_said (planned_arcs table closed) apart_reply).standby (routes_of table closed q)
    apart_call_standby = rw (replied c answered) (promised.apart_standby table closed q (length before) (low c answered))

    pub apart_call_none_before : (m s : Route) → ApartWithin table closed q m s → judged (pair m s) (pair_said (planned_arcs table closed) apart_reply) ≡ false
    apart_call_none_before = rw (replied c answered) (promised.apart_none_before table closed q (length before) (low c answered))

    pub apart_call_others_after : (m s : Route) → ApartWithin table closed q m s
        → (pair m s ≡ pair_said (planned_arcs table closed) apart_reply) ⊎ (judged (pair_said (planned_arcs table closed) apart_reply) (pair m s) ≡ true)
    apart_call_others_after = rw (replied c answered) (promised.apart_others_after table closed q (length before) (low c answered))

    -- ---- demand 3

    -- the floor in the bytes is that of all routes
    pub apart_call_floor : floor_in apart_reply ≡ floor (routes_of table closed q)
    apart_call_floor = rw (replied c answered) (promised.apart_floor table closed q (length before) (low c answered))

    -- settled exactly by 01's rule, read off the bytes
    pub apart_call_settled : (number ≡ 0)
        ↔ ((ranked_in apart_reply ≡ length (routes_of table closed q))
        ⊎ ((shared_count (pair_said (planned_arcs table closed) apart_reply) ≡ floor (routes_of table closed q))
        × (total (pair_said (planned_arcs table closed) apart_reply) ≤ 2 * (of_rank (routes_of table closed q) (ranked_in apart_reply)).metres)))
    apart_call_settled = rw (replied c answered, c.number_is) (promised.apart_settled table closed q (length before) (low c answered))

    -- settled: no two ways within reach that are apart, loops allowed, do better than what the bytes say
    pub apart_call_no_better : number ≡ 0 → (u v : List ℕ) → WayOf table closed q u → WayOf table closed q v → Apart (mesh_of table closed q) u v
        → NoWorse (shared_in apart_reply) (total_in apart_reply) (shared_count (pair_made_of (planned_arcs table closed) u v)) (total (pair_made_of (planned_arcs table closed) u v))
    apart_call_no_better e = rw (replied c answered) (promised.apart_no_better table closed q (length before) (low c answered) (zero_is c e))

  -- an allowance of N or more settles or gives 14
  pub apart_call_settles : ((t i : ℕ) → Applies table closed q (length before) t i → ⊥) → length (routes_of table closed q) ≤ q.allowance → (number ≡ 0) ⊎ (number ≡ 14)
  apart_call_settles = rw c.number_is (promised.apart_all_settle table closed q (length before))

-- two such calls on the same buffer, the second with a larger permitted allowance
module _ {table closed : List ℕ} {q : Request} {b : ℕ} {before now later : List ℕ} {first second : ℕ} (c : CalledApart table closed q before first now) (d : CalledApart table closed (allowing q b) before second later)
    (more : q.allowance ≤ b) (permitted : b ≤ most_allowance) where
  -- settled: the same number and the same bytes
  pub apart_call_stays : first ≡ 0 → (second ≡ 0) × (later ≡ now)
  apart_call_stays e = let s = same_call c d (promised.apart_stays table closed q (length before) (low c (omega arith)) b more permitted (zero_is c e)) in (s.0 ∙ e, s.1)

  -- settled or stopped: answered, no worse, and by the whole judgement no later
  pub apart_call_never_worse : first < 2 → (second < 2) × NoWorse (shared_in (take reply_size later)) (total_in (take reply_size later)) (shared_in (take reply_size now)) (total_in (take reply_size now))
      × (judged (pair_said (planned_arcs table closed) (take reply_size now)) (pair_said (planned_arcs table closed) (take reply_size later)) ≡ false)
  apart_call_never_worse answered =
      let w = promised.apart_never_worse table closed q (length before) (low c answered) b more permitted in
      let too : second < 2 = omega (arith, d.number_is, w.0) in
      rw (replied c answered, replied d too) (too, w.1, w.2)

  -- 15 turns into a pair or into 14, or stays; 14 stays
  pub apart_call_turns : first ≡ 15 → (second < 2) ⊎ ((second ≡ 14) ⊎ (second ≡ 15))
  apart_call_turns e = rw d.number_is (promised.fifteen_turns table closed q (length before) b more permitted (sym c.number_is ∙ e))

  pub apart_call_stays_fourteen : first ≡ 14 → second ≡ 14
  apart_call_stays_fourteen e = d.number_is ∙ promised.fourteen_stays table closed q (length before) b more permitted (sym c.number_is ∙ e)

-- where a plain call answers with a pair that is apart, such a call returns the same number and leaves the same bytes
pub apart_call_as_plain : {table closed : List ℕ} {q : Request} {before now later : List ℕ} {first second : ℕ} → (c : CalledAround table closed q before first now) → CalledApart table closed q before second later
    → first < 2 → Apart (mesh_of table closed q) (main_in (take reply_size now)) (standby_in (take reply_size now)) → (second ≡ first) × (later ≡ now)
apart_call_as_plain {table} {closed} {q} {before} c d h a = same_call c d (promised.apart_as_plain table closed q (length before) (low c h) (rw (replied c h) at a))

-- and a plain call returns neither 14 nor 15
pub call_never_fourteen : {table closed : List ℕ} {q : Request} {before now : List ℕ} {number : ℕ} → CalledAround table closed q before number now → number ≡ 14 → ⊥
call_never_fourteen {table} {closed} {q} {before} c e = promised.never_fourteen table closed q (length before) (sym c.number_is ∙ e)

pub call_never_fifteen : {table closed : List ℕ} {q : Request} {before now : List ℕ} {number : ℕ} → CalledAround table closed q before number now → number ≡ 15 → ⊥
call_never_fifteen {table} {closed} {q} {before} c e = promised.never_fifteen table closed q (length before) (sym c.number_is ∙ e)

-- ==== Request T-01, of calls of the mender

module _ {input table₀ list₀ : List ℕ} {number table_written list_written : ℕ} {table list : List ℕ} (c : Mends input table₀ list₀ number table_written list_written table list) where
  -- the bytes of the mended table, and those of the list
  abbrev mended_in : List ℕ
  mended_in = take table_written table

  abbrev list_in : List ℕ
  list_in = take list_written list

  -- ---- numbers and bytes

  -- 2 exactly where the input is over 4,096 bytes; 13 exactly where it is not, and an output is shorter than the input rounded up to 16; otherwise 0
  pub mend_two : (number ≡ 2) ↔ (most_field_bytes < length input)
  mend_two = rw c.number_is (MendCallLaws.two_exactly input (length table₀) (length list₀))

  pub mend_thirteen : (number ≡ 13) ↔ ((length input ≤ most_field_bytes) × ((length table₀ < rounded_up input) ⊎ (length list₀ < rounded_up input)))
  mend_thirteen = rw c.number_is (MendCallLaws.thirteen_exactly input (length table₀) (length list₀))

  pub mend_zero : (number ≡ 0) ↔ ((length input ≤ most_field_bytes) × (rounded_up input ≤ length table₀) × (rounded_up input ≤ length list₀))
  mend_zero = rw c.number_is (MendCallLaws.zero_exactly input (length table₀) (length list₀))

  -- a refusal leaves every byte of both outputs, and both lengths are 0
  pub mend_untouched : (number ≡ 0 → ⊥) → (table_written ≡ 0) × (list_written ≡ 0) × (table ≡ table₀) × (list ≡ list₀)
  mend_untouched refused =
      let none = MendCallLaws.refused_none input (length table₀) (length list₀) (λ z. refused (c.number_is ∙ z)) in
      (c.table_length ∙ ap length none.0, c.list_length ∙ ap length none.1, c.table_is ∙ ap (λ (l : List ℕ). over l table₀) none.0, c.list_is ∙ ap (λ (l : List ℕ). over l list₀) none.1)

  -- bytes behind the two lengths stay as they were
  pub mend_keeps_rest : (drop table_written table ≡ drop table_written table₀) × (drop list_written list ≡ drop list_written list₀)
  mend_keeps_rest =
      let m = mending input (length table₀) (length list₀) in (
        rw (c.table_length, c.table_is) (drop-append_seam m.table (drop (length m.table) table₀)),
        rw (c.list_length, c.list_is) (drop-append_seam m.list (drop (length m.list) list₀)),
      )

  module _ (answered : number ≡ 0) where
    written : mending input (length table₀) (length list₀) ≡ MendCallLaws.mended input
    written = MendCallLaws.zero_mended input (length table₀) (length list₀) (sym c.number_is ∙ answered)

    few : length input ≤ most_field_bytes
    few = (mend_zero.0 answered).0

    table_in : mended_in ≡ mended_table input
    table_in =
        let m = mending input (length table₀) (length list₀) in
        rw (c.table_length, c.table_is) (take-append_seam m.table (drop (length m.table) table₀)) ∙ ap (λ (x : Mending). x.table) written

    list_in_lem : list_in ≡ mended_list input
    list_in_lem =
        let m = mending input (length table₀) (length list₀) in
        rw (c.list_length, c.list_is) (take-append_seam m.list (drop (length m.list) list₀)) ∙ ap (λ (x : Mending). x.list) written

    -- ---- the table

    -- it is clean: at most 2,048 bytes, a multiple of 16, no arc with a fault
    pub mend_clean : Clean mended_in
    mend_clean = rw table_in (promised.mended_clean input)

    -- a clean table comes out unchanged with an empty list, and only a clean one does; the list's length alone tells it, too
    pub mend_unchanged : Clean input ↔ ((mended_in ≡ input) × (list_in ≡ []))
    mend_unchanged = rw (table_in, list_in_lem) (promised.unchanged_exactly input)

    pub mend_unlisted : Clean input ↔ (list_written ≡ 0)
    mend_unlisted = (
      λ clean. c.list_length ∙ ap (λ (m : Mending). length m.list) written ∙ ap length ((promised.unlisted_exactly input).0 clean),
      λ z. (promised.unlisted_exactly input).1 (sym list_in_lem ∙ ap (λ (n : ℕ). take n list) z),
    )

    -- each arc that is kept is the input's, byte for byte
    pub mend_kept : (old new : ℕ) → KeptAs input old new → (new < length mended_in / 16) × (record_at mended_in new ≡ record_at input old)
    mend_kept = rw table_in (promised.kept_record input)

    -- ---- the list

    -- it rises strictly by old number, has a record for each arc changed or lost and for a torn end, and none other
    pub mend_list_rises : Pairwise (λ (a b : Change). a.old < b.old) (changes_in list_in)
    mend_list_rises = rw list_in_lem (promised.list_rises input few)

    pub mend_list_exactly : (x : Change) → Memᴰ x (changes_in list_in) ↔ Listed input x
    mend_list_exactly = rw list_in_lem (promised.list_exactly input few)

    -- and a reader gets every old number back
    pub mend_old_back : (n : ℕ) → n < length mended_in / 16 → KeptAs input (old_number (changes_in list_in) n) n
    mend_old_back = rw (table_in, list_in_lem) (promised.old_numbers_back input few)

-- a second call, on the table that a first has written and with outputs at least as long: it is not refused, and gives the same table and an empty list
pub mend_again : {input table₀ list₀ : List ℕ} {n m : ℕ} {table list : List ℕ} → Mends input table₀ list₀ 0 n m table list
    → {table₁ list₁ : List ℕ} {number k l : ℕ} {again lost : List ℕ} → Mends (take n table) table₁ list₁ number k l again lost → n ≤ length table₁ → n ≤ length list₁
    → (number ≡ 0) × (take k again ≡ take n table) × (l ≡ 0)
mend_again {input} {n = n} {table = table} c d t l =
    let clean = mend_clean c refl in
    let size : length (take n table) ≡ n = ap length (table_in c refl) ∙ sym (c.table_length ∙ ap (λ (m : Mending). length m.table) (written c refl)) in
    let zero = (mend_zero d).1 (omega (arith, clean.few_bytes), omega (arith, clean.has_whole_arcs), omega (arith, clean.has_whole_arcs)) in
    (zero, ((mend_unchanged d zero).0 clean).0, (mend_unlisted d zero).0 clean)
