-- The promises: the customer's three demands of every call, and what his customers' requests add, as theorems over the definitions of specs/. To know what is promised nothing else needs to be read.
-- A call has a table of any bytes, a closed set of any bytes (T-06), a request of any numbers and a reply buffer of any size; `answer_around` gives its number and the bytes that it writes.
-- The entry that takes no closed set is called with `none_closed` here: `as_over_all` and `never_sixteen` say that nothing of closed sets is left in its answer.
-- CallPromises.antt says the same of calls of the entry itself, by the number returned and the bytes in the buffer; the entry ends for every call. Assumes nothing.
use Rattle.std.specs.Prelude.{Some}
use mathlib.Core.Path.{◌≡◌, refl, sym, ap, ◌∙◌, subst}
use mathlib.Core.Bool.{Bool, true, false}
use mathlib.Core.Logic.{◌⊎◌, inl, inr, ◌↔◌}
use mathlib.Core.List.{List, [], ◌∷◌, Memᴰ}
use Prim.Native.Nat.{ℕ, ◌+◌, ◌*◌, ◌/◌, ◌%◌, ◌≤◌, ◌<◌, min}
use native.Mathlib.Nat.{zero-add}
use native.Mathlib.Omega.{arith}
use lib.Dec.{eqb, ltb}
use lib.ListN.{length, get_or, take, drop, get_or-replicate}
use lib.Seq.{ext_get_or}
use borrow.Author.Tests.{ltb-true, ltb-false}
use Rattle.laws.specs.Choosing.{Pairwise, lex_by}
use Rattle.laws.specs.Sets.{bit, in_both}
use Rattle.problem.specs.declared.Arc.{Arc}
use Rattle.problem.specs.declared.Exposure.{Exposure}
use Rattle.problem.specs.declared.Fault.{Fault}
use Rattle.problem.specs.declared.Request.{Request}
use Rattle.problem.specs.Table.{last_node, most_arcs, risk_width, most_shared, most_reach, most_allowance, most_in_table, reply_size, Bytes, record_at, arcs_of, SoundArc, HasFault, fault_of, fault_number, all_sound}
use Rattle.problem.specs.Routes.{Mesh, arc_at, metres_of, exposure_of, nodes_from, IsWay, IsPath, IsRoute, FreeWay, Route, route_of, precedes}
use Rattle.problem.specs.Spans.{mark, with_span, spanless, marked_arcs}
use Rattle.problem.specs.Blanks.{Blank}
use Rattle.problem.specs.Closed.{closed_size, closed_in, is_open, AllOpen, none_closed, shut, shut_in, planned_arcs}
use Rattle.problem.specs.Exposures.{spans_in}
use Rattle.problem.specs.Pairs.{Pair, pair, shared_risks, shared_count, shared_spans, total, judged, NoWorse, Step, of_rank, ranked_key, floor, every, some_at, settled, least_settled, ranked}
use Rattle.problem.specs.Apart.{Apart, lists_apart, judges}
use Rattle.problem.specs.Reply.{mesh_over, mesh_of, refusal, ClosedSet, planned_unless, answer_among, answer_around, answer_apart, answer, after, verdict_in, shared_in, floor_in, shared_spans_in, ranked_in, main_metres_in, standby_metres_in, total_in, shared_risks_in, main_in, standby_in}
use Rattle.problem.specs.Printed.{kilometres, text, printed, request_of, Unreadable, output}
use Rattle.problem.specs.Mending.{most_field_bytes, Clean, whole_arcs, new_number, mended_table, Change, mended_list, changes_in, old_number, KeptAs, lost, Listed}
use Rattle.problem.specs.Calls.{routes_of, RouteOf, WayOf, pair_made_of, pair_said, ApartWithin, allowing, Applies, Told, LowestFault, LowestBlank, answer_by_risks, answer_over_all, answer_with_blanks, ClosesAside}
use Rattle.problem.proofs.FaultLaws as FaultLaws
use Rattle.problem.proofs.ByteLaws as ByteLaws
use Rattle.problem.proofs.ExposureLaws.{spans_few}
use Rattle.problem.proofs.SpanLaws as SpanLaws
use Rattle.problem.proofs.ClosedLaws as ClosedLaws
use Rattle.problem.proofs.ClosedLaws.{planned_heads}
use Rattle.problem.proofs.BlankLaws as BlankLaws
use Rattle.problem.proofs.AroundLaws as AroundLaws
use Rattle.problem.proofs.PathLaws as PathLaws
use Rattle.problem.proofs.RankingLaws.{ranking_exact, ranking_strict}
use Rattle.problem.proofs.PairLaws as PairLaws
use Rattle.problem.proofs.SettleLaws as SettleLaws
use Rattle.problem.proofs.ApartLaws as ApartLaws
use Rattle.problem.proofs.RefusalLaws.{unknown}
use Rattle.problem.proofs.CallLaws as CallLaws
use Rattle.problem.proofs.CallLaws.{WithPair, low_number, refused_told, answered_none, numbered, no_route_exactly, number_known}
use Rattle.problem.proofs.SaidLaws as Said
use Rattle.problem.proofs.ApartCallLaws as ApartCallLaws
use Rattle.problem.proofs.PrintedLaws as Printed
use Rattle.problem.proofs.MendLaws as MendLaws
use Rattle.problem.proofs.ChangeLaws as ChangeLaws
use Rattle.problem.proofs.MendCallLaws as MendCallLaws

module _ (table closed : List ℕ) (q : Request) (size : ℕ) where
  -- the number returned, and the bytes written
  abbrev number : ℕ
  number = (answer_around table closed q size).number

  abbrev reply : List ℕ
  reply = (answer_around table closed q size).reply

  abbrev arcs : List Arc
  arcs = planned_arcs table closed

  abbrev routes : List Route
  routes = routes_of table closed q

  -- ==== Demand 1. "For every table, request and reply buffer the planner ends and answers; it checks everything itself, in a fixed order,
  -- ==== refuses by number, and a refusal changes no byte of the reply; 'no route' exactly when none fits the reach."

  -- each number is given exactly where its own test holds, none of an earlier turn, and in its own turn none of a smaller number
  pub checked_in_order : (n : ℕ) → 2 ≤ n → (number ≡ n) ↔ Told table closed q size n
  checked_in_order n two = numbered false table closed q size n two (inl refl)

  -- a call is answered exactly where no test holds
  pub answered_exactly : (number < 2) ↔ ((t i : ℕ) → Applies table closed q size t i → ⊥)
  answered_exactly = (λ h t i a. answered_none false table closed q size h a, λ f. go f (ltb number 2) refl)
    where
      go : ((t i : ℕ) → Applies table closed q size t i → ⊥) → (b : Bool) → ltb number 2 ≡ b → number < 2
      go f true e = ltb-true number 2 e
      go f false e = absurd (f _ number (refused_told false table closed q size (ltb-false number 2 e) (inl refl)).applies)

  -- "no route" exactly where, no earlier test holding, no route fits the reach
  pub ten_exactly : ((t i : ℕ) → t < 12 → Applies table closed q size t i → ⊥) → (number ≡ 10) ↔ ((ks : List ℕ) → RouteOf table closed q ks → ⊥)
  ten_exactly below = no_route_exactly false table closed q size below

  -- a refusal leaves every byte of the buffer
  pub refusal_keeps_buffer : 2 ≤ number → (buffer : List ℕ) → after (answer_around table closed q size) buffer ≡ buffer
  refusal_keeps_buffer = CallLaws.buffer_kept false table closed q size

  -- an answer writes 96 bytes and leaves those behind them
  pub answer_writes_96 : number < 2 → length reply ≡ reply_size
  answer_writes_96 h = Said.reply_size_lem (low_number false table closed q size h)

  pub answer_keeps_rest : number < 2 → (buffer : List ℕ) → drop reply_size (after (answer_around table closed q size) buffer) ≡ drop reply_size buffer
  answer_keeps_rest h = Said.rest_kept (low_number false table closed q size h)

  -- ==== Demand 2. "Of pairs whose main is among the first `allowance` routes of the ranking and whose standby is any route: fewest shared risks,
  -- ==== then least total, then first in the ranking; metres are added, kilometres rounded up once per route."

  -- the ranking puts each route before all later ones, and the judgement of pairs is that of shared count, total, rank of the main, rank of the standby
  pub ranking_in_order : Pairwise (λ (r s : Route). precedes r s ≡ true) routes
  ranking_in_order = ranking_strict (mesh_of table closed q)

  pub judged_by_rank : {m s m' s' : ℕ} → Step routes m → Step routes s → Step routes m' → Step routes s'
      → judged (pair (of_rank routes m) (of_rank routes s)) (pair (of_rank routes m') (of_rank routes s')) ≡ lex_by ltb (ranked_key routes m s) (ranked_key routes m' s')
  judged_by_rank = PairLaws.judged_by_rank routes ranking_in_order

  module _ (answered : number < 2) where
    w : WithPair false table closed q size
    w = low_number false table closed q size answered

    -- the ranking has every route and nothing else
    pub ranking_has : (ks : List ℕ) → Memᴰ (route_of arcs ks) routes ↔ RouteOf table closed q ks
    ranking_has ks =
        ranking_exact (mesh_of table closed q) (planned_heads table closed w.passed.checked.sound) w.passed.checked.source_node ks

    -- the arc numbers in the bytes are routes
    pub reply_routes : RouteOf table closed q (main_in reply) × RouteOf table closed q (standby_in reply)
    reply_routes = Said.said_routes w

    -- of exactly the metres that the bytes say
    pub reply_metres : (main_metres_in reply ≡ metres_of arcs (main_in reply)) × (standby_metres_in reply ≡ metres_of arcs (standby_in reply))
    reply_metres = Said.said_metres w

    -- that share as many as the bytes say, as many of these spans, and just those risks
    pub reply_shared : shared_in reply ≡ shared_count (pair_said arcs reply)
    reply_shared = Said.said_shared w

    pub reply_spans : shared_spans_in reply ≡ shared_spans (pair_said arcs reply)
    reply_spans = Said.said_spans w

    pub reply_risks : Bytes table → shared_risks_in reply ≡ shared_risks (pair_said arcs reply)
    reply_risks = Said.said_risks w

    -- the main is among the first `allowance` routes, the standby is any route
    pub main_allowed : Memᴰ (pair_said arcs reply).main (take q.allowance routes)
    main_allowed = Said.said_main w

    pub standby_any : Memᴰ (pair_said arcs reply).standby routes
    standby_any = Said.said_standby w

    -- no such pair comes before it
    pub none_before : (m s : Route) → Memᴰ m (take q.allowance routes) → Memᴰ s routes → judged (pair m s) (pair_said arcs reply) ≡ false
    unfolding judges
    none_before m s x y = Said.said_none_before w x y refl

    -- every other such pair comes after it
    pub others_after : (m s : Route) → Memᴰ m (take q.allowance routes) → Memᴰ s routes → (pair m s ≡ pair_said arcs reply) ⊎ (judged (pair_said arcs reply) (pair m s) ≡ true)
    unfolding judges
    others_after m s x y = Said.said_others_after w x y refl

    -- the main's rank never exceeds the standby's
    pub main_not_behind : precedes (pair_said arcs reply).standby (pair_said arcs reply).main ≡ false
    main_not_behind = Said.said_main_first w

    -- ==== Demand 3. "'Settled' exactly by 01's rule, and then: no two ways within reach, loops or the same way twice allowed, do better;
    -- ==== every larger permitted allowance gives the same reply; unsettled replies never get worse; an allowance of at least N settles."

    -- the numbers of the reply: the verdict is the number returned, the floor is that of all routes, and ranked is the smaller of J and the allowance
    pub verdict_said : verdict_in reply ≡ number
    verdict_said = Said.verdict_in_lem w

    pub floor_said : floor_in reply ≡ floor routes
    floor_said = Said.floor_in_lem w

    pub ranked_said : ranked_in reply ≡ min (least_settled every routes) q.allowance
    unfolding ranked judges
    ranked_said = Said.ranked_in_lem w

    -- settled exactly where every route was tried as main, or the pair shares only what lies on every route and twice the length of the last main tried is at least its total
    pub settled_exactly : (number ≡ 0)
        ↔ ((ranked_in reply ≡ length routes) ⊎ ((shared_count (pair_said arcs reply) ≡ floor routes) × (total (pair_said arcs reply) ≤ 2 * (of_rank routes (ranked_in reply)).metres)))
    settled_exactly = Said.said_settled w

    -- exactly where J is within the allowance; else stopped
    pub settled_within : (number ≡ 0) ↔ (least_settled every routes ≤ q.allowance)
    unfolding judges
    settled_within = Said.settled_number w

    pub stopped_past : (number ≡ 1) ↔ (q.allowance < least_settled every routes)
    unfolding judges
    stopped_past = Said.stopped_number w

    -- settled: no two ways within reach, loops or the same way twice allowed, share fewer, or as many at a smaller total
    pub settled_no_better : number ≡ 0 → (u v : List ℕ) → WayOf table closed q u → WayOf table closed q v
        → NoWorse (shared_in reply) (total_in reply) (shared_count (pair_made_of arcs u v)) (total (pair_made_of arcs u v))
    unfolding judges
    settled_no_better e u v x y = Said.no_better_ways w e {u = u} {v = v} x y refl

    -- an allowance of at least N settles
    pub all_routes_settle : length routes ≤ q.allowance → number ≡ 0
    all_routes_settle = Said.enough w

    -- and for every larger permitted allowance:
    module _ (b : ℕ) (more : q.allowance ≤ b) (permitted : b ≤ most_allowance) where
      -- settled: the same number and the same 96 bytes
      pub settled_stays : number ≡ 0 → answer_around table closed (allowing q b) size ≡ answer_around table closed q size
      settled_stays = Said.same_answer w b more permitted

      -- settled or stopped: answered, no worse, and by the whole judgement no later
      pub never_worse : ((answer_around table closed (allowing q b) size).number < 2)
          × NoWorse (shared_in (answer_around table closed (allowing q b) size).reply) (total_in (answer_around table closed (allowing q b) size).reply) (shared_in reply) (total_in reply)
          × (judged (pair_said arcs reply) (pair_said arcs (answer_around table closed (allowing q b) size).reply) ≡ false)
      never_worse = Said.never_worse w b more permitted

-- ==== Request T-10. "Show that with at most 31 arcs of at most 2,000,000 metres, no route passes 62,000,000, and take the number and its check out.
-- ==== It isn't given to anything else."

-- where all arcs are sound, a list of arcs that meets no node twice, from whichever node to whichever, has at most 31 arcs
pub path_arcs : (arcs : List Arc) → all_sound arcs ≡ true → (v to : ℕ) (ks : List ℕ) → IsPath arcs v to ks → length ks ≤ most_arcs
path_arcs arcs sound v to ks = PathLaws.path_arcs arcs sound

-- and is at most 62,000,000 metres long; no reach is asked for
pub no_path_longer : (arcs : List Arc) → all_sound arcs ≡ true → (v to : ℕ) (ks : List ℕ) → IsPath arcs v to ks → metres_of arcs ks ≤ most_reach
no_path_longer arcs sound v to ks = PathLaws.path_range arcs sound

-- so no route of a reply is longer
pub reply_within : (table closed : List ℕ) (q : Request) (size : ℕ) → number table closed q size < 2
    → (main_metres_in (reply table closed q size) ≤ most_reach) × (standby_metres_in (reply table closed q size) ≤ most_reach)
reply_within table closed q size h = Said.said_within (low_number false table closed q size h)

-- and a reach of 62,000,000 metres sets no limit: the routes are all such lists from source to terminal; with a closed set see `largest_reach_around`
pub largest_reach : (table : List ℕ) (q : Request) → all_sound (arcs_of table) ≡ true → q.reach ≡ most_reach
    → (ks : List ℕ) → RouteOf table none_closed q ks ↔ IsPath (marked_arcs table) q.source q.terminal ks
largest_reach table q sound e ks = rw (ClosedLaws.planned_unclosed table) (PathLaws.largest_reach (mesh_over (marked_arcs table) q) (SpanLaws.marked_sound (arcs_of table) sound) e ks)

-- number 11 has ended: no call returns it
pub never_eleven : (table closed : List ℕ) (q : Request) (size : ℕ) → number table closed q size ≡ 11 → ⊥
never_eleven table closed q size e = unknown (inr (omega arith)) (number_known false table closed q size (inl refl))

-- ==== Request T-02. "Split it: 20 node, 21 equal ends, 22 length, 23 spare bytes, returned as that number plus 256 times the arc number. The lowest faulty arc
-- ==== is named; within it, 20 to 23 in order; 9 is no longer given; the place in the order stays."

-- once the checks before have passed, the number is n + 256 i exactly where arc i has the fault of number n as its first and every arc below i is sound
pub arc_named : (table closed : List ℕ) (q : Request) (size : ℕ) → ((t i : ℕ) → t < 9 → Applies table closed q size t i → ⊥)
    → (n i : ℕ) → 20 ≤ n → n ≤ 22 → (number table closed q size ≡ n + 256 * i) ↔ LowestFault (arcs_of table) i n
arc_named = CallLaws.arc_named false

-- so whatever number past 10 is given, but for 16, can be taken apart: divided by 256 it says the arc, and what remains says its first fault, or that it is blank (T-09)
pub arc_apart : (table closed : List ℕ) (q : Request) (size : ℕ) → let n = number table closed q size in 10 < n → (n ≡ 16 → ⊥)
    → LowestFault (arcs_of table) (n / 256) (n % 256) ⊎ ((n % 256 ≡ 24) × LowestBlank (arcs_of table) (n / 256))
arc_apart table closed q size past other = CallLaws.arc_apart false table closed q size past other (inl refl)

-- an arc's first fault is, of those that it has, that of the smallest number
pub first_fault : (a : Arc) (f : Fault) → (fault_of a ≡ Some f) ↔ (HasFault a f × ((g : Fault) → fault_number g < fault_number f → HasFault a g → ⊥))
first_fault = FaultLaws.first_exactly

-- and the sound arcs are those that have none
pub sound_exactly : (a : Arc) → SoundArc a ↔ ((f : Fault) → HasFault a f → ⊥)
sound_exactly a = (λ s f h. FaultLaws.sound_none s h, FaultLaws.none_sound a)

-- number 9 has ended: no call returns it
pub never_nine : (table closed : List ℕ) (q : Request) (size : ℕ) → number table closed q size ≡ 9 → ⊥
never_nine table closed q size e = unknown (inl e) (number_known false table closed q size (inl refl))

-- ==== Request T-01. "A mender: up to 4,096 bytes in, a clean table out, and, by rising old number, one 16-byte record for each arc changed or lost. A clean table passes unchanged
-- ==== with an empty list, and mending twice gives the same table as once. Arc numbers shift, so the list must let a reader get every old number back."

module _ (input : List ℕ) where
  -- what comes out is clean, and the planner refuses it for none of its bytes but for a blank, which is left for a person (T-09)
  pub mended_clean : Clean (mended_table input)
  mended_clean = MendLaws.table_clean input

  pub mended_planned : (q : Request) (size : ℕ) → let n = (answer (mended_table input) q size).number in (n ≡ 2 → ⊥) × (n ≡ 3 → ⊥) × ((n ≤ 10) ⊎ (n % 256 ≡ 24))
  mended_planned q size =
      let for-blanks = MendCallLaws.clean_planned mended_clean none_closed q size in
      let not-sixteen = AroundLaws.never_sixteen (mended_table input) q size in
      (for-blanks.0, for-blanks.1, elim for-blanks.2 [ inl low ↦ inl (MendCallLaws.to_ten (number_known false (mended_table input) none_closed q size (inl refl)) low not-sixteen) | inr blank ↦ inr blank ])

  -- nor does it with a closed set, other than for that set
  pub mended_planned_around : (closed : List ℕ) (q : Request) (size : ℕ) → let n = (answer_around (mended_table input) closed q size).number in (n ≡ 2 → ⊥) × (n ≡ 3 → ⊥) × ((n ≤ 16) ⊎ (n % 256 ≡ 24))
  mended_planned_around = MendCallLaws.clean_planned mended_clean

  -- a clean table comes out unchanged with an empty list, and only a clean one does; the list alone tells it, too
  pub unchanged_exactly : Clean input ↔ ((mended_table input ≡ input) × (mended_list input ≡ []))
  unchanged_exactly = (λ c. (MendLaws.clean_same input c, ChangeLaws.clean_empty input c), λ same. subst Clean same.0 mended_clean)

  pub unlisted_exactly : Clean input ↔ (mended_list input ≡ [])
  unlisted_exactly = (ChangeLaws.clean_empty input, ChangeLaws.empty_clean input)

  -- each arc that is kept is the input's, byte for byte
  pub kept_record : (old new : ℕ) → KeptAs input old new → (new < length (mended_table input) / 16) × (record_at (mended_table input) new ≡ record_at input old)
  kept_record old new = MendLaws.kept_record input

  -- kept arcs keep their order
  pub kept_in_order : (j k m n : ℕ) → KeptAs input j m → KeptAs input k n → j < k → m < n
  kept_in_order j k m n = MendLaws.kept_rise input

  -- each whole arc is kept, or it is lost and must stand in the list
  pub kept_or_lost : (k : ℕ) → k < whole_arcs input → KeptAs input k (new_number input k) ⊎ ((reason : ℕ) × Listed input (lost k reason))
  kept_or_lost = ChangeLaws.kept_or_lost input

  module _ (few : length input ≤ most_field_bytes) where
    -- the list rises strictly by old number
    pub list_rises : Pairwise (λ (a b : Change). a.old < b.old) (changes_in (mended_list input))
    list_rises = rw (ChangeLaws.list_says input few) (ChangeLaws.changes_rise input)

    -- has a record for each arc changed or lost and for a torn end, and none other
    pub list_exactly : (c : Change) → Memᴰ c (changes_in (mended_list input)) ↔ Listed input c
    list_exactly c = rw (ChangeLaws.list_says input few) (λ m. ChangeLaws.listed_out input m, ChangeLaws.listed_in input)

    -- and lets a reader get every old number back: of each arc of the table, the place where it stood
    pub old_numbers_back : (n : ℕ) → n < length (mended_table input) / 16 → KeptAs input (old_number (changes_in (mended_list input)) n) n
    old_numbers_back n h = rw (ChangeLaws.list_says input few) (ChangeLaws.old_back input n (omega (arith, MendLaws.table_arcs input)))

-- mending what was mended gives the same table and an empty list
pub mended_twice : (input : List ℕ) → (mended_table (mended_table input) ≡ mended_table input) × (mended_list (mended_table input) ≡ [])
mended_twice input = (unchanged_exactly (mended_table input)).0 (mended_clean input)

-- ==== Request T-03. "The spare bytes become a span number, with zero for not known. The shared count is common risks plus distinct nonzero spans that both routes cross, and the
-- ==== floor adds the spans that every route crosses. Tables with zero there answer as before. 23 is no longer given."

-- spans are known by their first arcs: two arcs of a table have one span exactly where their numbers are the same
pub one_span : (table : List ℕ) (j k : ℕ) → j < length (arcs_of table) → k < length (arcs_of table)
    → ((arc_at (marked_arcs table) j).span ≡ (arc_at (marked_arcs table) k).span) ↔ ((arc_at (arcs_of table) j).span ≡ (arc_at (arcs_of table) k).span)
one_span table j k hj hk =
    let at : (i : ℕ) → (arc_at (marked_arcs table) i).span ≡ mark (arcs_of table) (arc_at (arcs_of table) i).span = λ i. ap (λ (a : Arc). a.span) (SpanLaws.marked_at (arcs_of table) i) in
    let same = SpanLaws.mark_same (arcs_of table) j k hj hk in
    (λ e. same.0 (sym (at j) ∙ e ∙ at k), λ e. at j ∙ same.1 e ∙ sym (at k))

-- number 0 is no span, and every other is one
pub known_span : (table : List ℕ) (k : ℕ) → ((arc_at (marked_arcs table) k).span ≡ 0) ↔ ((arc_at (arcs_of table) k).span ≡ 0)
known_span table k =
    let at = ap (λ (a : Arc). a.span) (SpanLaws.marked_at (arcs_of table) k) in
    (λ e. SpanLaws.mark_zero (arcs_of table) (arc_at (arcs_of table) k).span (sym at ∙ e), λ e. at ∙ ap (mark (arcs_of table)) e ∙ SpanLaws.mark_unknown (arcs_of table))

-- nothing else of an arc changes
pub same_but_span : (table : List ℕ) (k : ℕ) → with_span (arc_at (marked_arcs table) k) 0 ≡ with_span (arc_at (arcs_of table) k) 0
same_but_span table k = ap (λ (a : Arc). with_span a 0) (SpanLaws.marked_at (arcs_of table) k)

-- a list of arcs crosses no more spans than it has arcs; of those that two cross, at most 31 are shared, and of all at most 95, which fit their bytes
pub spans_most : (arcs : List Arc) (ks : List ℕ) → spans_in (exposure_of arcs ks) ≤ length ks
spans_most = SpanLaws.spans_most

pub reply_most : (table closed : List ℕ) (q : Request) (size : ℕ) → number table closed q size < 2 → (shared_in (reply table closed q size) ≤ most_shared) × (shared_spans_in (reply table closed q size) ≤ most_arcs)
reply_most table closed q size h = Said.said_most (low_number false table closed q size h)

-- a table with zero there answers as it does with spans left out of the definition; and then two ways share what risks they share, and no more
pub as_before : (table closed : List ℕ) (q : Request) (size : ℕ) → ((k : ℕ) → k < length (arcs_of table) → (arc_at (arcs_of table) k).span ≡ 0) → answer_around table closed q size ≡ answer_by_risks table closed q size
unfolding answer_among
as_before table closed q size none =
    ap (λ (arcs : List Arc). planned_unless false (refusal table closed q size) (shut_in (closed_in closed) arcs) q) (SpanLaws.spanless_same (arcs_of table) none)

pub by_risks_alone : (arcs : List Arc) (u v : List ℕ) → let p = pair_made_of (spanless arcs) u v in shared_count p ≡ length (in_both risk_width p.main.exposure.risks p.standby.exposure.risks)
unfolding route_of shared_spans
by_risks_alone arcs u v =
    let p = pair_made_of (spanless arcs) u v in
    omega (arith, PairLaws.shared_size p, spans_few (exposure_of (spanless arcs) u) (exposure_of (spanless arcs) v), SpanLaws.spanless_none arcs u)

-- number 23 has ended: no call returns it, of whichever arc
pub never_twenty_three : (table closed : List ℕ) (q : Request) (size i : ℕ) → number table closed q size ≡ 23 + 256 * i → ⊥
never_twenty_three = CallLaws.never_spare false

-- ==== Request T-06. "A call may bring a closed set: 16 bytes, one bit per arc number, lowest bit first. A closed arc lies on no route and gives no distance, so the shortest lengths now hold over
-- ==== open arcs free of the given risks. Numbers stay. Closed arcs are still checked for faults. An all-zero set answers as before, and demands 2 and 3 speak of open arcs.
-- ==== Refusals: 16 if the set isn't 16 bytes or marks an arc past the table, directly after the arc faults."

-- one bit per arc number, lowest bit first: arc k is open exactly where bit k % 8 of byte k / 8 is 0
pub open_by_bit : (closed : List ℕ) → Bytes closed → (k : ℕ) → k < 8 * closed_size → is_open (closed_in closed) k ≡ eqb (bit (get_or closed (k / 8) 0) (k % 8)) 0
unfolding closed_in
open_by_bit closed bytes k h = ap (λ (b : ℕ). eqb b 0) (ByteLaws.number_bit closed bytes 0 closed_size k h ∙ ap (λ (i : ℕ). bit (get_or closed i 0) (k % 8)) (zero-add (k / 8)))

-- numbers stay, and so does all of an arc but its tail, which of a closed one is no node
pub open_arc : (table closed : List ℕ) (k : ℕ) → k < length (arcs_of table) → is_open (closed_in closed) k ≡ true → arc_at (planned_arcs table closed) k ≡ arc_at (marked_arcs table) k
open_arc table closed k h = ClosedLaws.open_at (closed_in closed) (marked_arcs table) k (omega (arith, SpanLaws.marked_length (arcs_of table)))

pub closed_arc : (table closed : List ℕ) (k : ℕ) → k < length (arcs_of table) → is_open (closed_in closed) k ≡ false → arc_at (planned_arcs table closed) k ≡ shut (arc_at (marked_arcs table) k)
closed_arc table closed k h = ClosedLaws.closed_at (closed_in closed) (marked_arcs table) k (omega (arith, SpanLaws.marked_length (arcs_of table)))

-- demands 2 and 3 speak of open arcs: the ways and the routes of a call are those of all arcs that go over open ones alone
module _ (table closed : List ℕ) (q : Request) (sound : all_sound (arcs_of table) ≡ true) (node : q.source ≤ last_node) where
  pub ways_open : (ks : List ℕ) → WayOf table closed q ks ↔ (IsWay (mesh_over (marked_arcs table) q) ks × AllOpen (closed_in closed) ks)
  ways_open = AroundLaws.ways_open table closed q sound node

  pub routes_open : (ks : List ℕ) → RouteOf table closed q ks ↔ (IsRoute (mesh_over (marked_arcs table) q) ks × AllOpen (closed_in closed) ks)
  routes_open = AroundLaws.routes_open table closed q sound node

  -- and where the reach sets no limit, the routes are all lists of open arcs from source to terminal that meet no node twice
  pub largest_reach_around : q.reach ≡ most_reach → (ks : List ℕ) → RouteOf table closed q ks ↔ (IsPath (marked_arcs table) q.source q.terminal ks × AllOpen (closed_in closed) ks)
  largest_reach_around e ks =
      let all = PathLaws.largest_reach (mesh_over (marked_arcs table) q) (SpanLaws.marked_sound (arcs_of table) sound) e ks in
      (λ r. let o = (routes_open ks).0 r in (all.0 o.0, o.1), λ p. (routes_open ks).1 (all.1 p.0, p.1))

-- settled: no two ways over open arcs do better
pub open_no_better : (table closed : List ℕ) (q : Request) (size : ℕ) → number table closed q size ≡ 0
    → (u v : List ℕ) → IsWay (mesh_over (marked_arcs table) q) u → AllOpen (closed_in closed) u → IsWay (mesh_over (marked_arcs table) q) v → AllOpen (closed_in closed) v
    → let p = pair_made_of (marked_arcs table) u v in NoWorse (shared_in (reply table closed q size)) (total_in (reply table closed q size)) (shared_count p) (total p)
open_no_better table closed q size e u v x open-u y open-v =
    let c = (low_number false table closed q size (omega arith)).passed.checked in
    let ways = ways_open table closed q c.sound c.source_node in
    rw (← ClosedLaws.shut_route (closed_in closed) (marked_arcs table) u, ← ClosedLaws.shut_route (closed_in closed) (marked_arcs table) v)
    (settled_no_better table closed q size (omega arith) e u v ((ways u).1 (x, open-u)) ((ways v).1 (y, open-v)))

-- a closed arc gives no distance: nor do the ways free of something go over one
pub distances_open : (table closed : List ℕ) → all_sound (arcs_of table) ≡ true → (banned : Exposure) (terminal v : ℕ) → v ≤ last_node → (ks : List ℕ)
    → FreeWay (planned_arcs table closed) banned terminal v ks ↔ (FreeWay (marked_arcs table) banned terminal v ks × AllOpen (closed_in closed) ks)
distances_open = AroundLaws.free_open

-- no arc of a reply is closed
pub reply_open : (table closed : List ℕ) (q : Request) (size : ℕ) → number table closed q size < 2
    → AllOpen (closed_in closed) (main_in (reply table closed q size)) × AllOpen (closed_in closed) (standby_in (reply table closed q size))
reply_open table closed q size h = Said.said_open (low_number false table closed q size h)

-- 16 exactly where, no check before having told a number, the set is not 16 bytes or has a bit at or past the number of arcs
pub sixteen_exactly : (table closed : List ℕ) (q : Request) (size : ℕ) → ((t i : ℕ) → t < 11 → Applies table closed q size t i → ⊥)
    → (number table closed q size ≡ 16) ↔ ((length closed ≡ closed_size → ⊥) ⊎ ((k : ℕ) × (length (arcs_of table) ≤ k) × (is_open (closed_in closed) k ≡ false)))
sixteen_exactly = CallLaws.set_exactly false

-- an all-zero set answers as the entry that takes none
pub none_closed_lem : (table closed : List ℕ) (q : Request) (size : ℕ) → length closed ≡ closed_size → ((k : ℕ) → k < closed_size → get_or closed k 0 ≡ 0) → answer_around table closed q size ≡ answer table q size
none_closed_lem table closed q size whole zeros =
    ap (λ (l : List ℕ). answer_around table l q size) (ext_get_or 0 closed none_closed whole (λ k h. zeros k (omega arith) ∙ sym (get_or-replicate closed_size k 0 0 (omega arith))))

-- and that one answers as before there were closed sets: without their check, over all arcs
pub as_over_all : (table : List ℕ) (q : Request) (size : ℕ) → answer table q size ≡ answer_over_all table q size
as_over_all = AroundLaws.over_all

pub never_sixteen : (table : List ℕ) (q : Request) (size : ℕ) → (answer table q size).number ≡ 16 → ⊥
never_sixteen = AroundLaws.never_sixteen

-- closing arcs that lie on no route changes nothing: the same number and the same bytes
pub closing_aside : (table closed more : List ℕ) (q : Request) (size : ℕ) → ClosedSet table closed → ClosedSet table more → ClosesAside table closed more q
    → answer_around table more q size ≡ answer_around table closed q size
closing_aside table closed more q size s t c = AroundLaws.aside_same false s t c size

-- ==== Request T-09. "Refuse an arc of more than 0 metres with an empty risk field. D2 now refuses; arcs of 0 metres keep their blank. The mender and importer leave such arcs for a person.
-- ==== Refusals: 24 plus 256 times the lowest such arc, looked for when no arc has a fault of T-02, before 16."

module _ (table closed : List ℕ) (q : Request) (size : ℕ) where
  -- once the checks before have passed, those of the arcs among them, the number is 24 + 256 i exactly where arc i, closed or not, is blank and no arc below it is
  pub blank_named : ((t i : ℕ) → t < 10 → Applies table closed q size t i → ⊥) → (i : ℕ) → (number table closed q size ≡ 24 + 256 * i) ↔ LowestBlank (arcs_of table) i
  blank_named = CallLaws.blank_named false table closed q size

  -- so nothing is answered while a risk field is blank
  pub answered_listed : number table closed q size < 2 → (k : ℕ) → k < length (arcs_of table) → Blank (arc_at (arcs_of table) k) → ⊥
  answered_listed h = BlankLaws.listed_at (arcs_of table) (low_number false table closed q size h).passed.risks_listed

  -- any call that is not refused for a blank is answered as before; so a table without a blank arc is
  pub otherwise_before : ((i : ℕ) → number table closed q size ≡ 24 + 256 * i → ⊥) → answer_around table closed q size ≡ answer_with_blanks table closed q size
  otherwise_before = CallLaws.otherwise_before false table closed q size

  pub listed_before : ((k : ℕ) → k < length (arcs_of table) → Blank (arc_at (arcs_of table) k) → ⊥) → answer_around table closed q size ≡ answer_with_blanks table closed q size
  listed_before none = otherwise_before (λ i e. let l = CallLaws.blank_told false table closed q size i e in none i l.inside l.blank)

-- the mender leaves such an arc for a person: one that has no fault is kept as it is where there is room for it, whatever its risks, and the list says nothing of it
pub blank_left : (input : List ℕ) (k : ℕ) → k < whole_arcs input → SoundArc (arc_at (arcs_of input) k) → new_number input k < most_in_table
    → (arc_at (arcs_of (mended_table input)) (new_number input k) ≡ arc_at (arcs_of input) k) × ((reason : ℕ) → Listed input (lost k reason) → ⊥)
blank_left input k whole sound room = (MendCallLaws.sound_left input k whole sound room, MendCallLaws.sound_unlisted input k whole sound room)

-- ==== Request T-05. "Hospital and bank buyers want a profile where main and standby have only the two end nodes in common and no arc in common, so a single arc used twice is out too.
-- ==== Everything else in 01 is judged among such pairs; the floor stays that of all routes. A step with no such pair yet is settled only at N. Demand 3 reads the same over ways with that
-- ==== property, except that 15 may turn into a pair or into 14 as the allowance grows, and that an allowance of N or more settles or gives 14. Refusals, after 10: 14 exactly when no such
-- ==== pair exists among all routes and the allowance reaches N; 15 exactly when none has its main within the allowance and the allowance is below N."
-- `answer_apart` gives the number and the bytes of such a call.

-- two lists of arcs, routes or ways with loops, are apart where no arc stands in both, and no node that both meet is other than source and terminal
pub apart_exactly : (m : Mesh) (ks ls : List ℕ) → (lists_apart m ks ls ≡ true) ↔ Apart m ks ls
apart_exactly = ApartLaws.apart_exactly

-- a pair is judged exactly where its two routes are
pub apart_judged : (m : Mesh) (p : Pair) → (judges m true p ≡ true) ↔ Apart m p.main.arcs p.standby.arcs
apart_judged = ApartLaws.judges_apart

-- a single arc used twice is out; and two routes with only the end nodes in common have no other arc in common
pub single_arc_out : (m : Mesh) (k : ℕ) → Apart m (k ∷ []) (k ∷ []) → ⊥
single_arc_out m k a = a.no_common_arc k (Memᴰ.head refl) (Memᴰ.head refl)

pub only_single_arc : (m : Mesh) (ks ls : List ℕ) → IsRoute m ks → IsRoute m ls
    → ((v : ℕ) → Memᴰ v (nodes_from m.arcs m.source ks) → Memᴰ v (nodes_from m.arcs m.source ls) → (v ≡ m.source) ⊎ (v ≡ m.terminal))
    → (k : ℕ) → Memᴰ k ks → Memᴰ k ls → (ks ≡ k ∷ []) × (ls ≡ k ∷ [])
only_single_arc m ks ls r s ends k = ApartLaws.one_arc m r.path s.path ends

-- a step with no such pair yet is settled only at N
pub settled_without : (m : Mesh) (routes : List Route) (j : ℕ) → some_at (judges m true) routes j ≡ false → (settled (judges m true) routes j ≡ true) ↔ (j ≡ length routes)
settled_without m = SettleLaws.settled_without (judges m true)

module _ (table closed : List ℕ) (q : Request) (size : ℕ) where
  abbrev apart_number : ℕ
  apart_number = (answer_apart table closed q size).number

  abbrev apart_reply : List ℕ
  apart_reply = (answer_apart table closed q size).reply

  -- J, of the pairs that are apart
  abbrev apart_j : ℕ
  apart_j = least_settled (judges (mesh_of table closed q) true) (routes_of table closed q)

  -- ---- numbers and bytes

  -- every other number is given as by the plain entry, exactly where it is told
  pub apart_in_order : (n : ℕ) → 2 ≤ n → (n ≡ 14 → ⊥) → (n ≡ 15 → ⊥) → (apart_number ≡ n) ↔ Told table closed q size n
  apart_in_order n two a b = numbered true table closed q size n two (inr (a, b))

  -- 14 exactly where no test before holds, no two routes are apart, and every route could be a main
  pub fourteen_exactly : (apart_number ≡ 14)
      ↔ (((t i : ℕ) → Applies table closed q size t i → ⊥)
      × ((u v : List ℕ) → RouteOf table closed q u → RouteOf table closed q v → Apart (mesh_of table closed q) u v → ⊥)
      × (length (routes_of table closed q) ≤ q.allowance))
  fourteen_exactly = ApartCallLaws.fourteen_exactly table closed q size

  -- 15 exactly where no test before holds, no pair that is apart has its main within the allowance, and the allowance is below N
  pub fifteen_exactly : (apart_number ≡ 15)
      ↔ (((t i : ℕ) → Applies table closed q size t i → ⊥) × ((m s : Route) → ApartWithin table closed q m s → ⊥) × (q.allowance < length (routes_of table closed q)))
  fifteen_exactly = ApartCallLaws.fifteen_exactly table closed q size

  -- answered exactly where no test holds and there is such a pair
  pub apart_answered : (apart_number < 2) ↔ (((t i : ℕ) → Applies table closed q size t i → ⊥) × ((m : Route) × (s : Route) × ApartWithin table closed q m s))
  apart_answered = ApartCallLaws.answered_exactly table closed q size

  -- the plain entry gives neither number
  pub never_fourteen : number table closed q size ≡ 14 → ⊥
  never_fourteen e = unknown (inr (omega arith)) (number_known false table closed q size (inl refl))

  pub never_fifteen : number table closed q size ≡ 15 → ⊥
  never_fifteen e = unknown (inr (omega arith)) (number_known false table closed q size (inl refl))

  -- a refusal, by 14 or 15 too, leaves every byte of the buffer; an answer writes 96 bytes and leaves those behind them
  pub apart_keeps_buffer : 2 ≤ apart_number → (buffer : List ℕ) → after (answer_apart table closed q size) buffer ≡ buffer
  apart_keeps_buffer = CallLaws.buffer_kept true table closed q size

  pub apart_writes_96 : apart_number < 2 → length apart_reply ≡ reply_size
  apart_writes_96 h = Said.reply_size_lem (low_number true table closed q size h)

  pub apart_keeps_rest : apart_number < 2 → (buffer : List ℕ) → drop reply_size (after (answer_apart table closed q size) buffer) ≡ drop reply_size buffer
  apart_keeps_rest h = Said.rest_kept (low_number true table closed q size h)

  module _ (answered : apart_number < 2) where
    ended : WithPair true table closed q size
    ended = low_number true table closed q size answered

    -- ---- demand 2

    -- the arc numbers in the bytes are routes, of the metres, shared count, spans and risks that the bytes say
    pub apart_routes : RouteOf table closed q (main_in apart_reply) × RouteOf table closed q (standby_in apart_reply)
    apart_routes = Said.said_routes ended

    pub apart_metres : (main_metres_in apart_reply ≡ metres_of (planned_arcs table closed) (main_in apart_reply)) × (standby_metres_in apart_reply ≡ metres_of (planned_arcs table closed) (standby_in apart_reply))
    apart_metres = Said.said_metres ended

    pub apart_shared : shared_in apart_reply ≡ shared_count (pair_said (planned_arcs table closed) apart_reply)
    apart_shared = Said.said_shared ended

    pub apart_spans : shared_spans_in apart_reply ≡ shared_spans (pair_said (planned_arcs table closed) apart_reply)
    apart_spans = Said.said_spans ended

    pub apart_risks : Bytes table → shared_risks_in apart_reply ≡ shared_risks (pair_said (planned_arcs table closed) apart_reply)
    apart_risks = Said.said_risks ended

    -- at most 62,000,000 metres long, and with at most 95 shared, of which 31 are spans
    pub apart_within : (main_metres_in apart_reply ≤ most_reach) × (standby_metres_in apart_reply ≤ most_reach)
    apart_within = Said.said_within ended

    pub apart_most : (shared_in apart_reply ≤ most_shared) × (shared_spans_in apart_reply ≤ most_arcs)
    apart_most = Said.said_most ended

    -- the two are apart
    pub reply_apart : Apart (mesh_of table closed q) (main_in apart_reply) (standby_in apart_reply)
    unfolding route_of
    reply_apart = (ApartLaws.judges_apart (mesh_of table closed q) (pair_said (planned_arcs table closed) apart_reply)).0 (Said.said_passes ended)

    -- the main is among the first `allowance` routes, the standby is any route
    pub apart_main : Memᴰ (pair_said (planned_arcs table closed) apart_reply).main (take q.allowance (routes_of table closed q))
    apart_main = Said.said_main ended

    pub apart_standby : Memᴰ (pair_said (planned_arcs table closed) apart_reply).standby (routes_of table closed q)
    apart_standby = Said.said_standby ended

    -- no such pair that is apart comes before it, and every other one comes after it
    pub apart_none_before : (m s : Route) → ApartWithin table closed q m s → judged (pair m s) (pair_said (planned_arcs table closed) apart_reply) ≡ false
    apart_none_before m s x = Said.said_none_before ended x.main_allowed x.standby_listed (ApartCallLaws.within_passes x)

    pub apart_others_after : (m s : Route) → ApartWithin table closed q m s
        → (pair m s ≡ pair_said (planned_arcs table closed) apart_reply) ⊎ (judged (pair_said (planned_arcs table closed) apart_reply) (pair m s) ≡ true)
    apart_others_after m s x = Said.said_others_after ended x.main_allowed x.standby_listed (ApartCallLaws.within_passes x)

    -- the main's rank never exceeds the standby's
    pub apart_main_not_behind : precedes (pair_said (planned_arcs table closed) apart_reply).standby (pair_said (planned_arcs table closed) apart_reply).main ≡ false
    apart_main_not_behind = Said.said_main_first ended

    -- ---- demand 3

    -- the verdict is the number returned, the floor is that of all routes, and ranked is the smaller of J and the allowance
    pub apart_verdict : verdict_in apart_reply ≡ apart_number
    apart_verdict = Said.verdict_in_lem ended

    pub apart_floor : floor_in apart_reply ≡ floor (routes_of table closed q)
    apart_floor = Said.floor_in_lem ended

    pub apart_ranked : ranked_in apart_reply ≡ min apart_j q.allowance
    unfolding ranked
    apart_ranked = Said.ranked_in_lem ended

    -- settled exactly by 01's rule
    pub apart_settled : (apart_number ≡ 0)
        ↔ ((ranked_in apart_reply ≡ length (routes_of table closed q))
        ⊎ ((shared_count (pair_said (planned_arcs table closed) apart_reply) ≡ floor (routes_of table closed q))
        × (total (pair_said (planned_arcs table closed) apart_reply) ≤ 2 * (of_rank (routes_of table closed q) (ranked_in apart_reply)).metres)))
    apart_settled = Said.said_settled ended

    -- exactly where J is within the allowance; else stopped
    pub apart_settled_within : (apart_number ≡ 0) ↔ (apart_j ≤ q.allowance)
    apart_settled_within = Said.settled_number ended

    pub apart_stopped_past : (apart_number ≡ 1) ↔ (q.allowance < apart_j)
    apart_stopped_past = Said.stopped_number ended

    -- settled: no two ways within reach that are apart, loops allowed, share fewer, or as many at a smaller total
    pub apart_no_better : apart_number ≡ 0 → (u v : List ℕ) → WayOf table closed q u → WayOf table closed q v → Apart (mesh_of table closed q) u v
        → NoWorse (shared_in apart_reply) (total_in apart_reply) (shared_count (pair_made_of (planned_arcs table closed) u v)) (total (pair_made_of (planned_arcs table closed) u v))
    unfolding route_of
    apart_no_better e u v x y apart = Said.no_better_ways ended e {u = u} {v = v} x y ((ApartLaws.judges_apart (mesh_of table closed q) (pair_made_of (planned_arcs table closed) u v)).1 apart)

    -- and for every larger permitted allowance:
    module _ (b : ℕ) (more : q.allowance ≤ b) (permitted : b ≤ most_allowance) where
      -- settled: the same number and the same 96 bytes
      pub apart_stays : apart_number ≡ 0 → answer_apart table closed (allowing q b) size ≡ answer_apart table closed q size
      apart_stays = Said.same_answer ended b more permitted

      -- settled or stopped: answered, no worse, and by the whole judgement no later
      pub apart_never_worse : let later = answer_apart table closed (allowing q b) size in (later.number < 2)
          × NoWorse (shared_in later.reply) (total_in later.reply) (shared_in apart_reply) (total_in apart_reply)
          × (judged (pair_said (planned_arcs table closed) apart_reply) (pair_said (planned_arcs table closed) later.reply) ≡ false)
      apart_never_worse = Said.never_worse ended b more permitted

  -- an allowance of N or more settles or gives 14
  pub apart_all_settle : ((t i : ℕ) → Applies table closed q size t i → ⊥) → length (routes_of table closed q) ≤ q.allowance → (apart_number ≡ 0) ⊎ (apart_number ≡ 14)
  apart_all_settle = ApartCallLaws.all_settle table closed q size

  -- with a larger permitted allowance 15 turns into a pair or into 14, or stays; 14 stays
  pub fifteen_turns : (b : ℕ) → q.allowance ≤ b → b ≤ most_allowance → apart_number ≡ 15 → let n = (answer_apart table closed (allowing q b) size).number in (n < 2) ⊎ ((n ≡ 14) ⊎ (n ≡ 15))
  fifteen_turns = ApartCallLaws.fifteen_turns table closed q size

  pub fourteen_stays : (b : ℕ) → q.allowance ≤ b → b ≤ most_allowance → apart_number ≡ 14 → (answer_apart table closed (allowing q b) size).number ≡ 14
  fourteen_stays = ApartCallLaws.fourteen_stays table closed q size

  -- ---- beside closed sets, and the plain entry

  -- a closed set does not change what is apart, no arc of a reply is closed, and closing arcs that lie on no route changes nothing
  pub apart_around : (u v : List ℕ) → Apart (mesh_of table closed q) u v ↔ Apart (mesh_over (marked_arcs table) q) u v
  apart_around = AroundLaws.apart_around table closed q

  pub apart_open : apart_number < 2 → AllOpen (closed_in closed) (main_in apart_reply) × AllOpen (closed_in closed) (standby_in apart_reply)
  apart_open h = Said.said_open (low_number true table closed q size h)

  pub apart_closing_aside : (more : List ℕ) → ClosedSet table closed → ClosedSet table more → ClosesAside table closed more q → answer_apart table more q size ≡ answer_apart table closed q size
  apart_closing_aside more s t c = AroundLaws.aside_same true s t c size

  -- where the plain answer has a pair that is apart, it is the answer here too, number and bytes
  pub apart_as_plain : number table closed q size < 2 → Apart (mesh_of table closed q) (main_in (reply table closed q size)) (standby_in (reply table closed q size))
      → answer_apart table closed q size ≡ answer_around table closed q size
  apart_as_plain = ApartCallLaws.as_plain table closed q size

-- ==== Of any pair, and of any length

-- the shared count is the size of the common risk set, of the 64 risks how many are on both routes, and of the spans how many both cross
pub shared_size : (p : Pair) → shared_count p ≡ length (in_both risk_width p.main.exposure.risks p.standby.exposure.risks) + shared_spans p
shared_size = PairLaws.shared_size

-- no worse, in shared count and total, exactly where the other does not share fewer, or as many at a smaller total
pub no_worse_exactly : (a b c d : ℕ) → NoWorse a b c d ↔ (lex_by ltb (c ∷ d ∷ []) (a ∷ b ∷ []) ≡ false)
no_worse_exactly = PairLaws.no_worse_exactly

-- rounded up: the fewest whole kilometres that the metres fit into
pub kilometres_up : (metres k : ℕ) → (kilometres metres ≤ k) ↔ (metres ≤ 1000 * k)
unfolding kilometres
kilometres_up metres k = (λ h. omega arith, λ h. omega arith)

-- ==== Of the program

-- it refuses by 12 exactly where the input is under 16 bytes, or a byte of the request that should be zero is not; otherwise it prints what the entry answers
pub twelve_exactly : (input : List ℕ) → (output input ≡ text "refused 12\n") ↔ Unreadable input
twelve_exactly = Printed.twelve_exactly

pub otherwise_answered : (input : List ℕ) → (Unreadable input → ⊥) → output input ≡ printed (answer (drop 16 input) (request_of input) reply_size)
otherwise_answered = Printed.otherwise_answered

-- numbers 9 and 11 have ended: they are printed for no input
pub never_prints_nine : (input : List ℕ) → output input ≡ text "refused 9\n" → ⊥
never_prints_nine = Printed.never_prints_nine

pub never_prints_eleven : (input : List ℕ) → output input ≡ text "refused 11\n" → ⊥
never_prints_eleven = Printed.never_prints_eleven
