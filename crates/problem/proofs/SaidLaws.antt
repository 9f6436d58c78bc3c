-- What the bytes of a reply say: the pair of the answer, its routes, its numbers; that pair among all that the allowance admits; and two calls that differ in their allowance. Assumes nothing.
use mathlib.Core.Path.{◌≡◌, refl, sym, ap, ap₂, ◌∙◌, subst}
use mathlib.Core.Bool.{Bool, true, false}
use mathlib.Core.Logic.{◌⊎◌, inl, inr, ◌↔◌}
use mathlib.Core.List.{List, ◌++◌, Memᴰ}
use Prim.Native.Nat.{ℕ, ◌+◌, ◌*◌, ◌≤◌, ◌<◌, ◌^◌, min}
use native.Mathlib.Omega.{arith}
use lib.Dec.{ltb}
use lib.ListN.{length, take, drop}
use lib.Seq.{drop-append_seam}
use borrow.Author.Tests.{ltb-true, ltb-false}
use Rattle.laws.proofs.ListLaws.{take_more, take_mem, take_inside}
use Rattle.laws.proofs.SortLaws.{Strict}
use Rattle.problem.specs.declared.Arc.{Arc}
use Rattle.problem.specs.declared.Request.{Request}
use Rattle.problem.specs.Table.{most_arcs, risk_width, most_shared, most_reach, most_allowance, reply_size, Bytes}
use Rattle.problem.specs.Closed.{closed_in, AllOpen, planned_arcs}
use Rattle.problem.specs.Routes.{Route, metres_of, exposure_of, route_of, precedes}
use Rattle.problem.specs.Pairs.{Pair, pair, shared_risks, shared_count, shared_spans, total, judged, NoWorse, no_route, of_rank, floor, best, settled, least_settled, ranked, verdict}
use Rattle.problem.specs.Reply.{mesh_of, Answer, reply_of, after, answer_among, verdict_in, shared_in, floor_in, shared_spans_in, ranked_in, main_metres_in, standby_metres_in, total_in, shared_risks_in, main_in, standby_in, Passed}
use Rattle.problem.specs.Calls.{routes_of, RouteOf, WayOf, pair_made_of, pair_said, allowing}
use Rattle.problem.proofs.ExposureLaws.{common_risks_below, sharing_few, spans_few}
use Rattle.problem.proofs.SpanLaws.{spans_most}
use Rattle.problem.proofs.ClosedLaws.{planned_risks_below, planned_heads, planned_range}
use Rattle.problem.proofs.RankingLaws.{ranking_own, ranking_strict, route_short}
use Rattle.problem.proofs.PairLaws.{judged_no_worse}
use Rattle.problem.proofs.CandidateLaws.{Even, some_more, best_in, best_main, best_least}
use Rattle.problem.proofs.SettleLaws.{ByLength, settled_cases, settled_by, least_settled_lem, least_settled_inside, main_not_after, settled_no_better}
use Rattle.problem.proofs.WayLaws.{part_shared, part_total, way_route}
use Rattle.problem.proofs.ApartLaws.{judges_even, part_judged}
use Rattle.problem.proofs.WindowLaws.{judged_same, J_le, best_allowed}
use Rattle.problem.proofs.ReplyLaws.{judges_of, chosen, reply_verdict, reply_shared, reply_shared_spans, reply_floor, reply_ranked, reply_main_metres, reply_standby_metres, reply_shared_risks, reply_main, reply_standby, reply_length}
use Rattle.problem.proofs.AroundLaws.{routes_open}
use Rattle.problem.proofs.CallLaws.{WithPair, Verdict, verdict_cases, verdict_settled, verdict_stopped, verdict_small, number_of, some_route, pair_step, some_pair}

-- ---- shared count and total, compared

no_worse_cast : {a b c d a' b' c' d' : ℕ} → a ≡ a' → b ≡ b' → c ≡ c' → d ≡ d' → NoWorse a' b' c' d' → NoWorse a b c d
no_worse_cast p q r s (NoWorse.fewer l) = NoWorse.fewer (omega arith)
no_worse_cast p q r s (NoWorse.as_many e l) = NoWorse.as_many (p ∙ e ∙ sym r) (omega arith)

-- what is no worse than something is no worse than what shares as many at least and is as long at least
no_worse_still : {a b c d c' d' : ℕ} → NoWorse a b c d → c ≤ c' → d ≤ d' → NoWorse a b c' d'
no_worse_still (NoWorse.fewer l) p q = NoWorse.fewer (omega arith)
no_worse_still {a} {b} {c} {d} {c'} {d'} (NoWorse.as_many e l) p q = go (ltb c c') refl
  where
    go : (x : Bool) → ltb c c' ≡ x → NoWorse a b c' d'
    go true f = NoWorse.fewer (omega (arith, ltb-true c c' f))
    go false f = NoWorse.as_many (omega (arith, ltb-false c c' f)) (omega arith)

module _ {only : Bool} {table closed : List ℕ} {q : Request} {size : ℕ} (w : WithPair only table closed q size) where
  abbrev arcs : List Arc
  arcs = planned_arcs table closed

  abbrev routes : List Route
  routes = routes_of table closed q

  abbrev number : ℕ
  number = (answer_among only table closed q size).number

  abbrev reply : List ℕ
  reply = (answer_among only table closed q size).reply

  -- the pairs that are judged, and the pair of the answer
  abbrev ok : Pair → Bool
  ok = judges_of only table closed q

  even : Even ok
  even = judges_even (mesh_of table closed q) only

  abbrev pair_of : Pair
  pair_of = chosen only table closed q

  strict : Strict precedes routes
  strict = ranking_strict (mesh_of table closed q)

  -- ---- the routes of the pair

  main_listed : Memᴰ pair_of.main routes
  main_listed = best_main ok routes (ranked ok routes q.allowance) (some_pair w)

  standby_listed : Memᴰ pair_of.standby routes
  standby_listed = (best_in ok routes (ranked ok routes q.allowance) (some_pair w)).standby_in_lem

  pair_passes : ok pair_of ≡ true
  pair_passes = (best_in ok routes (ranked ok routes q.allowance) (some_pair w)).passes

  listed_short : {r : Route} → Memᴰ r routes → length r.arcs ≤ most_arcs
  listed_short m =
      route_short (mesh_of table closed q) (planned_heads table closed w.passed.checked.sound) w.passed.checked.source_node (ranking_own (mesh_of table closed q) m).0

  -- and no longer than 62,000,000 metres, whatever the reach
  listed_range : {r : Route} → Memᴰ r routes → r.metres ≤ most_reach
  unfolding route_of
  listed_range m =
      let l = ranking_own (mesh_of table closed q) m in
      omega (arith, planned_range table closed w.passed.checked.sound w.passed.checked.source_node l.0.path, ap (λ (s : Route). s.metres) l.1)

  -- ---- the fields

  abbrev written : List ℕ
  written = reply_of (verdict ok routes q.allowance) (floor routes) (ranked ok routes q.allowance) pair_of

  reply_is : reply ≡ written
  reply_is = ap (λ (a : Answer). a.reply) w.is

  pub reply_size_lem : length reply ≡ reply_size
  reply_size_lem = ap length reply_is ∙ reply_length _ _ _ pair_of (listed_short main_listed) (listed_short standby_listed)

  -- bytes behind it stay as they were
  pub rest_kept : (buffer : List ℕ) → drop reply_size (after (answer_among only table closed q size) buffer) ≡ drop reply_size buffer
  unfolding after
  rest_kept buffer = ap (λ (n : ℕ). drop n (reply ++ drop (length reply) buffer)) (sym reply_size_lem) ∙ drop-append_seam reply (drop (length reply) buffer) ∙ ap (λ (n : ℕ). drop n buffer) reply_size_lem

  pub verdict_in_lem : verdict_in reply ≡ number
  verdict_in_lem = ap verdict_in reply_is ∙ reply_verdict _ _ _ pair_of ∙ ap (λ (a : Answer). a.number) (sym w.is)

  shared_in_lem : shared_in reply ≡ shared_count pair_of
  shared_in_lem = ap shared_in reply_is ∙ reply_shared _ _ _ pair_of

  pub floor_in_lem : floor_in reply ≡ floor routes
  floor_in_lem = ap floor_in reply_is ∙ reply_floor _ _ _ pair_of

  pub ranked_in_lem : ranked_in reply ≡ ranked ok routes q.allowance
  unfolding ranked
  ranked_in_lem = ap ranked_in reply_is ∙ reply_ranked _ _ _ pair_of (omega (arith, w.passed.checked.allowance_range))

  main_metres_in_lem : main_metres_in reply ≡ pair_of.main.metres
  main_metres_in_lem = ap main_metres_in reply_is ∙ reply_main_metres _ _ _ pair_of (omega (arith, listed_range main_listed))

  standby_metres_in_lem : standby_metres_in reply ≡ pair_of.standby.metres
  standby_metres_in_lem = ap standby_metres_in reply_is ∙ reply_standby_metres _ _ _ pair_of (omega (arith, listed_range standby_listed))

  pub said_within : (main_metres_in reply ≤ most_reach) × (standby_metres_in reply ≤ most_reach)
  said_within = (omega (arith, main_metres_in_lem, listed_range main_listed), omega (arith, standby_metres_in_lem, listed_range standby_listed))

  total_in_lem : total_in reply ≡ total pair_of
  unfolding total
  total_in_lem = ap₂ (λ (m s : ℕ). m + s) main_metres_in_lem standby_metres_in_lem

  main_in_lem : main_in reply ≡ pair_of.main.arcs
  main_in_lem = ap main_in reply_is ∙ reply_main _ _ _ pair_of

  standby_in_lem : standby_in reply ≡ pair_of.standby.arcs
  standby_in_lem = ap standby_in reply_is ∙ reply_standby _ _ _ pair_of (listed_short main_listed)

  -- the pair that the bytes say is the pair of the answer
  pub said_is : pair_said arcs reply ≡ pair_of
  said_is = ap₂ pair (ap (route_of arcs) main_in_lem ∙ (ranking_own (mesh_of table closed q) main_listed).1) (ap (route_of arcs) standby_in_lem ∙ (ranking_own (mesh_of table closed q) standby_listed).1)

  pub said_routes : RouteOf table closed q (main_in reply) × RouteOf table closed q (standby_in reply)
  said_routes = (subst (RouteOf table closed q) (sym main_in_lem) (ranking_own (mesh_of table closed q) main_listed).0, subst (RouteOf table closed q) (sym standby_in_lem) (ranking_own (mesh_of table closed q) standby_listed).0)

  -- over open arcs
  pub said_open : AllOpen (closed_in closed) (main_in reply) × AllOpen (closed_in closed) (standby_in reply)
  said_open =
      let c = w.passed.checked in
      (((routes_open table closed q c.sound c.source_node _).0 said_routes.0).1, ((routes_open table closed q c.sound c.source_node _).0 said_routes.1).1)

  pub said_metres : (main_metres_in reply ≡ metres_of arcs (main_in reply)) × (standby_metres_in reply ≡ metres_of arcs (standby_in reply))
  unfolding route_of
  said_metres = (main_metres_in_lem ∙ ap (λ (p : Pair). p.main.metres) (sym said_is), standby_metres_in_lem ∙ ap (λ (p : Pair). p.standby.metres) (sym said_is))

  pub said_shared : shared_in reply ≡ shared_count (pair_said arcs reply)
  said_shared = shared_in_lem ∙ ap shared_count (sym said_is)

  pub said_spans : shared_spans_in reply ≡ shared_spans (pair_said arcs reply)
  said_spans = ap shared_spans_in reply_is ∙ reply_shared_spans _ _ _ pair_of ∙ ap shared_spans (sym said_is)

  -- a route has at most 31 arcs, so it crosses at most as many spans
  pub said_most : (shared_in reply ≤ most_shared) × (shared_spans_in reply ≤ most_arcs)
  unfolding shared_count shared_spans route_of
  said_most =
      let main = exposure_of arcs (main_in reply) in
      let standby = exposure_of arcs (standby_in reply) in
      let few = route_short (mesh_of table closed q) (planned_heads table closed w.passed.checked.sound) w.passed.checked.source_node said_routes.0 in
      let spans = spans_most arcs (main_in reply) in
      (omega (arith, said_shared, sharing_few main standby, spans, few), omega (arith, said_spans, spans_few main standby, spans, few))

  -- in a table of bytes no risk is past 63, so the field has room for all
  pub said_risks : Bytes table → shared_risks_in reply ≡ shared_risks (pair_said arcs reply)
  unfolding shared_risks route_of
  said_risks bytes =
      let room : shared_risks (pair_said arcs reply) < 2 ^ risk_width = common_risks_below risk_width _ _ (planned_risks_below table closed bytes (main_in reply)) (planned_risks_below table closed bytes (standby_in reply)) in
      ap shared_risks_in reply_is ∙ reply_shared_risks _ _ _ pair_of (subst (λ (p : Pair). shared_risks p < 2 ^ risk_width) said_is room) ∙ ap shared_risks (sym said_is)

  -- ---- among all pairs that the allowance admits

  -- the pair of the answer is best(allowance), or best(N) where the allowance is larger
  all_allowed : pair_of ≡ best ok routes (min q.allowance (length routes))
  all_allowed = best_allowed ok routes strict even q.allowance w.some w.passed.checked.some_allowance

  main_allowed : Memᴰ pair_of.main (take q.allowance routes)
  unfolding ranked
  main_allowed = let fewer : ranked ok routes q.allowance ≤ q.allowance = omega arith in take_more no_route routes fewer (best_in ok routes (ranked ok routes q.allowance) (some_pair w)).main_in_lem

  none_before : {m s : Route} → Memᴰ m (take q.allowance routes) → Memᴰ s routes → ok (pair m s) ≡ true → judged (pair m s) pair_of ≡ false
  none_before {m} {s} x y e =
      ap (judged (pair m s)) all_allowed ∙ best_least ok routes (min q.allowance (length routes)) (take_inside no_route q.allowance routes x) y e

  -- every other one comes after it
  others_after : {m s : Route} → Memᴰ m (take q.allowance routes) → Memᴰ s routes → ok (pair m s) ≡ true → (pair m s ≡ pair_of) ⊎ (judged pair_of (pair m s) ≡ true)
  others_after {m} {s} x y e = go (judged pair_of (pair m s)) refl
    where
      go : (b : Bool) → judged pair_of (pair m s) ≡ b → (pair m s ≡ pair_of) ⊎ (judged pair_of (pair m s) ≡ true)
      go true f = inr f
      go false f = inl (judged_same routes strict (take_mem no_route q.allowance x) y main_listed standby_listed (none_before x y e) f)

  main_first : precedes pair_of.standby pair_of.main ≡ false
  main_first = main_not_after ok routes strict even (ranked ok routes q.allowance) (some_pair w)

  -- ---- the verdict

  number_is : number ≡ verdict ok routes q.allowance
  number_is = ap (λ (a : Answer). a.number) w.is

  pub settled_number : (number ≡ 0) ↔ (least_settled ok routes ≤ q.allowance)
  settled_number = (λ e. to e (verdict_cases ok routes q.allowance), λ h. number_is ∙ verdict_settled ok routes q.allowance h)
    where
      to : number ≡ 0 → Verdict ok routes q.allowance → least_settled ok routes ≤ q.allowance
      to e (Verdict.settled_at l f) = l
      to e (Verdict.stopped_at l f) = absurd (omega (arith, number_is))

  pub stopped_number : (number ≡ 1) ↔ (q.allowance < least_settled ok routes)
  stopped_number = (λ e. to e (verdict_cases ok routes q.allowance), λ h. number_is ∙ verdict_stopped ok routes q.allowance h)
    where
      to : number ≡ 1 → Verdict ok routes q.allowance → q.allowance < least_settled ok routes
      to e (Verdict.settled_at l f) = absurd (omega (arith, number_is))
      to e (Verdict.stopped_at l f) = l

  pub enough : length routes ≤ q.allowance → number ≡ 0
  enough h = settled_number.1 (omega (arith, least_settled_inside ok routes w.some))

  -- the step replied is J
  step_settled : number ≡ 0 → ranked ok routes q.allowance ≡ least_settled ok routes
  unfolding ranked
  step_settled e = let h = settled_number.0 e in omega arith

  settled_here : number ≡ 0 → settled ok routes (ranked ok routes q.allowance) ≡ true
  settled_here e = ap (settled ok routes) (step_settled e) ∙ (least_settled_lem ok routes w.some).holds

  -- settled exactly where the step replied is N, or 01's two tests hold at it
  settled_tests : (number ≡ 0)
      ↔ ((ranked ok routes q.allowance ≡ length routes) ⊎ ((shared_count pair_of ≡ floor routes) × (total pair_of ≤ 2 * (of_rank routes (ranked ok routes q.allowance)).metres)))
  unfolding ranked
  settled_tests = (λ e. to (settled_cases ok routes (ranked ok routes q.allowance) (settled_here e)), from)
    where
      Tests : Type 0
      Tests = (shared_count pair_of ≡ floor routes) × (total pair_of ≤ 2 * (of_rank routes (ranked ok routes q.allowance)).metres)

      to : (ranked ok routes q.allowance ≡ length routes) ⊎ ByLength ok routes (ranked ok routes q.allowance) → (ranked ok routes q.allowance ≡ length routes) ⊎ Tests
      to (inl e) = inl e
      to (inr b) = inr (b.meets_floor, b.long_enough)

      from : (ranked ok routes q.allowance ≡ length routes) ⊎ Tests → number ≡ 0
      from (inl e) = enough (omega arith)
      from (inr t) =
          settled_number.1
          (omega (arith, J_le ok routes strict (pair_step w) (settled_by ok routes (ranked ok routes q.allowance) (record { some = some_pair w; meets_floor = t.0; long_enough = t.1 }))))

  -- ---- and all this of the pair that the bytes say

  pub said_main : Memᴰ (pair_said arcs reply).main (take q.allowance routes)
  said_main = subst (λ (p : Pair). Memᴰ p.main (take q.allowance routes)) (sym said_is) main_allowed

  pub said_standby : Memᴰ (pair_said arcs reply).standby routes
  said_standby = subst (λ (p : Pair). Memᴰ p.standby routes) (sym said_is) standby_listed

  pub said_passes : ok (pair_said arcs reply) ≡ true
  said_passes = ap ok said_is ∙ pair_passes

  pub said_none_before : {m s : Route} → Memᴰ m (take q.allowance routes) → Memᴰ s routes → ok (pair m s) ≡ true → judged (pair m s) (pair_said arcs reply) ≡ false
  said_none_before x y e = rw said_is (none_before x y e)

  pub said_others_after : {m s : Route} → Memᴰ m (take q.allowance routes) → Memᴰ s routes → ok (pair m s) ≡ true
      → (pair m s ≡ pair_said arcs reply) ⊎ (judged (pair_said arcs reply) (pair m s) ≡ true)
  said_others_after x y e = rw said_is (others_after x y e)

  pub said_main_first : precedes (pair_said arcs reply).standby (pair_said arcs reply).main ≡ false
  said_main_first = subst (λ (p : Pair). precedes p.standby p.main ≡ false) (sym said_is) main_first

  pub said_settled : (number ≡ 0)
      ↔ ((ranked_in reply ≡ length routes) ⊎ ((shared_count (pair_said arcs reply) ≡ floor routes) × (total (pair_said arcs reply) ≤ 2 * (of_rank routes (ranked_in reply)).metres)))
  said_settled = rw (said_is, ranked_in_lem) settled_tests

  -- ---- two ways within reach

  pub no_better_ways : number ≡ 0 → {u v : List ℕ} → WayOf table closed q u → WayOf table closed q v → ok (pair_made_of arcs u v) ≡ true
      → NoWorse (shared_in reply) (total_in reply) (shared_count (pair_made_of arcs u v)) (total (pair_made_of arcs u v))
  no_better_ways e {u} {v} x y passes =
      let low = planned_heads table closed w.passed.checked.sound in
      let node = w.passed.checked.source_node in
      let f = way_route (mesh_of table closed q) low node x in
      let g = way_route (mesh_of table closed q) low node y in
      no_worse_cast shared_in_lem total_in_lem refl refl
      (no_worse_still (settled_no_better ok routes strict even (pair_step w) (settled_here e) f.ranked g.ranked (part_judged (mesh_of table closed q) only f.part g.part passes))
      (part_shared arcs f.part g.part) (part_total arcs f.part g.part))

-- ---- two calls that differ in their allowance

pub passed_allowing : {table closed : List ℕ} {q : Request} {size : ℕ} (b : ℕ) → Passed table closed q size → 0 < b → b ≤ most_allowance → Passed table closed (allowing q b) size
passed_allowing b p pos top =
    let c = p.checked in
    record {
      checked = record {
        few_bytes = c.few_bytes;
        has_whole_arcs = c.has_whole_arcs;
        source_node = c.source_node;
        terminal_node = c.terminal_node;
        ends_differ = c.ends_differ;
        reach_range = c.reach_range;
        some_allowance = pos;
        allowance_range = top;
        sound = c.sound;
      };
      risks_listed = p.risks_listed;
      closed_set = p.closed_set;
      room = p.room;
    }

-- the second is answered too
pair_allowing : {only : Bool} {table closed : List ℕ} {q : Request} {size : ℕ} (b : ℕ) → WithPair only table closed q size → q.allowance ≤ b → b ≤ most_allowance → WithPair only table closed (allowing q b) size
pair_allowing {only} {table} {closed} {q} b w l top =
    some_route (passed_allowing b w.passed (omega (arith, w.passed.checked.some_allowance)) top) w.some (some_more (judges_of only table closed q) (routes_of table closed q) l w.found)

module _ {only : Bool} {table closed : List ℕ} {q : Request} {size : ℕ} (w : WithPair only table closed q size) (b : ℕ) (l : q.allowance ≤ b) (top : b ≤ most_allowance) where
  abbrev larger : Answer
  larger = answer_among only table closed (allowing q b) size

  larger_answered : larger.number < 2
  larger_answered = omega (arith, number_of (pair_allowing b w l top).is, verdict_small (judges_of only table closed q) (routes_of table closed q) b)

  pub same_answer : (answer_among only table closed q size).number ≡ 0 → larger ≡ answer_among only table closed q size
  unfolding ranked
  same_answer e =
      let h = (settled_number w).0 e in
      (pair_allowing b w l top).is
      ∙ ap₂ by_step (verdict_settled (ok w) (routes w) b (omega arith) ∙ sym (verdict_settled (ok w) (routes w) q.allowance h)) (omega arith)
      ∙ sym w.is
    where
      by_step : ℕ → ℕ → Answer
      by_step n r = record { number = n; reply = reply_of n (floor (routes w)) r (best (ok w) (routes w) r) }

  no_later : judged (chosen only table closed q) (chosen only table closed (allowing q b)) ≡ false
  no_later = none_before (pair_allowing b w l top) (take_more no_route (routes w) l (main_allowed w)) (standby_listed w) (pair_passes w)

  no_worse_pair : NoWorse (shared_in larger.reply) (total_in larger.reply) (shared_in (answer_among only table closed q size).reply) (total_in (answer_among only table closed q size).reply)
  no_worse_pair =
      let v = pair_allowing b w l top in
      no_worse_cast (shared_in_lem v) (total_in_lem v) (shared_in_lem w) (total_in_lem w) (judged_no_worse (chosen only table closed (allowing q b)) (chosen only table closed q) no_later)

  -- answered, no worse, and by the whole judgement no later
  pub never_worse : (larger.number < 2)
      × NoWorse (shared_in larger.reply) (total_in larger.reply) (shared_in (answer_among only table closed q size).reply) (total_in (answer_among only table closed q size).reply)
      × (judged (pair_said (arcs w) (reply w)) (pair_said (arcs w) larger.reply) ≡ false)
  never_worse = (larger_answered, no_worse_pair, rw (said_is w, said_is (pair_allowing b w l top)) no_later)
