-- T-05, calls that judge only the pairs that are apart: what 14 and 15 say, and what they turn into with a larger allowance; and where the plain answer has such a pair, it is the answer here
-- too. For that: a test that leaves pairs out settles no earlier, and one that leaves the best pair in leaves it the best. Assumes nothing.
use mathlib.Core.Path.{◌≡◌, refl, sym, ap, ◌∙◌, subst}
use mathlib.Core.Bool.{Bool, true, false, true≢false}
use mathlib.Core.Logic.{◌⊎◌, inl, inr, ◌↔◌}
use mathlib.Core.List.{List, Memᴰ}
use Prim.Native.Nat.{ℕ, ◌≤◌, ◌<◌}
use native.Mathlib.Omega.{arith}
use lib.ListN.{length}
use Rattle.laws.proofs.ListLaws.{take_mem}
use Rattle.laws.proofs.SortLaws.{Strict}
use Rattle.problem.specs.declared.Request.{Request}
use Rattle.problem.specs.Table.{most_allowance}
use Rattle.problem.specs.Closed.{planned_arcs}
use Rattle.problem.specs.Routes.{Route, route_of, precedes}
use Rattle.problem.specs.Pairs.{Pair, pair, shared_count, total, NoWorse, no_route, Step, every, some_at, best, settled, least_settled, ranked, verdict}
use Rattle.problem.specs.Apart.{Apart, judges}
use Rattle.problem.specs.Reply.{mesh_of, Passed, answer_around, answer_apart, main_in, standby_in}
use Rattle.problem.specs.Calls.{routes_of, RouteOf, pair_made_of, pair_said, ApartWithin, allowing, Applies, Told}
use Rattle.problem.proofs.ClosedLaws.{planned_heads}
use Rattle.problem.proofs.RankingLaws.{ranking_in, ranking_own, ranking_strict}
use Rattle.problem.proofs.PairLaws.{floor_le, judged_no_worse}
use Rattle.problem.proofs.CandidateLaws.{some_with, some_more, some_among, none_passes, best_in, best_main, best_least, every_some}
use Rattle.problem.proofs.SettleLaws.{ByLength, settled_cases, settled_by, settled_last, least_settled_lem, least_settled_step}
use Rattle.problem.proofs.ApartLaws.{judges_apart}
use Rattle.problem.proofs.WindowLaws.{judged_same, J_le}
use Rattle.problem.proofs.RefusalLaws.{unknown, told_two, told_known}
use Rattle.problem.proofs.ReplyLaws.{judges_of, chosen, paired, Outcome, outcome, ranked_step}
use Rattle.problem.proofs.CallLaws.{Verdict, verdict_settled, verdict_stopped, verdict_cases, verdict_small, WithPair, number_of, low_number, some_route, passed_none, ten_told}
use Rattle.problem.proofs.SaidLaws.{said_is, enough, passed_allowing}

-- ---- fewer candidates

module _ (ok : Pair → Bool) (routes : List Route) (strict : Strict precedes routes) where
  -- where the best of all pairs passes, it is the best of those that pass
  best_kept : {j : ℕ} → Step routes j → ok (best every routes j) ≡ true → best ok routes j ≡ best every routes j
  best_kept {j} step passes =
      let all = best_in every routes j (every_some routes step) in
      let some = some_with ok routes j all.main_in_lem all.standby_in_lem passes in
      let one = best_in ok routes j some in
      judged_same routes strict (best_main ok routes j some) one.standby_in_lem (best_main every routes j (every_some routes step)) all.standby_in_lem
      (best_least every routes j one.main_in_lem one.standby_in_lem refl) (best_least ok routes j all.main_in_lem all.standby_in_lem passes)

  -- a step that is settled by length is so among all pairs: the best of them shares no more, and is no longer
  by_length_wider : {j : ℕ} → Step routes j → ByLength ok routes j → ByLength every routes j
  by_length_wider {j} step b =
      let one = best_in ok routes j b.some in
      go (every_some routes step) (judged_no_worse (best every routes j) (best ok routes j) (best_least every routes j one.main_in_lem one.standby_in_lem refl))
    where
      go : some_at every routes j ≡ true → NoWorse (shared_count (best every routes j)) (total (best every routes j)) (shared_count (best ok routes j)) (total (best ok routes j)) → ByLength every routes j
      go all (NoWorse.fewer l) = absurd (omega (arith, b.meets_floor, floor_le routes (best_main every routes j all) (best_in every routes j all).standby_in_lem))
      go all (NoWorse.as_many e l) = record { some = all; meets_floor = e ∙ b.meets_floor; long_enough = omega (arith, b.long_enough) }

  -- so J is no smaller where pairs are left out
  J_later : 0 < length routes → least_settled every routes ≤ least_settled ok routes
  J_later some = J_le every routes strict step (go (settled_cases ok routes (least_settled ok routes) (least_settled_lem ok routes some).holds))
    where
      step : Step routes (least_settled ok routes)
      step = least_settled_step ok routes some

      go : (least_settled ok routes ≡ length routes) ⊎ ByLength ok routes (least_settled ok routes) → settled every routes (least_settled ok routes) ≡ true
      go (inl e) = ap (settled every routes) e ∙ settled_last every routes
      go (inr b) = settled_by every routes (least_settled ok routes) (by_length_wider step b)

  -- and no larger where the best pair of J is not
  J_kept : 0 < length routes → ok (best every routes (least_settled every routes)) ≡ true → least_settled ok routes ≡ least_settled every routes
  J_kept some passes = omega (arith, J_later some, J_le ok routes strict step (go (settled_cases every routes J (least_settled_lem every routes some).holds)))
    where
      J : ℕ
      J = least_settled every routes

      step : Step routes J
      step = least_settled_step every routes some

      go : (J ≡ length routes) ⊎ ByLength every routes J → settled ok routes J ≡ true
      go (inl e) = ap (settled ok routes) e ∙ settled_last ok routes
      go (inr b) =
          let same = best_kept step passes in
          let all = best_in every routes J b.some in
          settled_by ok routes J (record { some = some_with ok routes J all.main_in_lem all.standby_in_lem passes; meets_floor = ap shared_count same ∙ b.meets_floor; long_enough = omega (arith, ap total same, b.long_enough) })

  -- where the pair of the plain answer passes, there is one within the allowance, and the answer is the same
  module _ (a : ℕ) (some : 0 < length routes) (pos : 0 < a) (passes : ok (best every routes (ranked every routes a)) ≡ true) where
    kept_found : some_at ok routes a ≡ true
    unfolding ranked
    kept_found =
        let c = best_in every routes (ranked every routes a) (every_some routes (ranked_step every routes a some pos)) in
        some_more ok routes (omega arith) (some_with ok routes (ranked every routes a) c.main_in_lem c.standby_in_lem passes)

    kept_numbers : (verdict ok routes a ≡ verdict every routes a) × (ranked ok routes a ≡ ranked every routes a)
    unfolding ranked
    kept_numbers = go (verdict_cases every routes a)
      where
        go : Verdict every routes a → (verdict ok routes a ≡ verdict every routes a) × (ranked ok routes a ≡ ranked every routes a)
        go (Verdict.settled_at l e) =
            let same = J_kept some (ap (λ (j : ℕ). ok (best every routes j)) (omega arith) ∙ passes) in
            (verdict_settled ok routes a (omega arith) ∙ sym e, omega arith)
        go (Verdict.stopped_at l e) = let later = J_later some in (verdict_stopped ok routes a (omega arith) ∙ sym e, omega arith)

    kept_answer : paired ok routes a ≡ paired every routes a
    kept_answer = rw (kept_numbers.0, kept_numbers.1, best_kept (ranked_step every routes a some pos) passes)

-- ---- how a call ends that judges only pairs that are apart

-- a pair within the allowance that is apart is judged
pub within_passes : {table closed : List ℕ} {q : Request} {m s : Route} → ApartWithin table closed q m s → judges_of true table closed q (pair m s) ≡ true
within_passes {table} {closed} {q} {m} {s} x = (judges_apart (mesh_of table closed q) (pair m s)).1 x.apart

module _ (table closed : List ℕ) (q : Request) (size : ℕ) where
  abbrev number : ℕ
  number = (answer_apart table closed q size).number

  abbrev routes : List Route
  routes = routes_of table closed q

  abbrev ok : Pair → Bool
  ok = judges_of true table closed q

  -- by a number of the table, with a pair, or where no test holds without one
  data End : Type 0 where
    told : Told table closed q size number → End
    with_pair : WithPair true table closed q size → number < 2 → End
    none_at_all : Passed table closed q size → 0 < length routes → some_at ok routes q.allowance ≡ false → length routes ≤ q.allowance → number ≡ 14 → End
    none_yet : Passed table closed q size → 0 < length routes → some_at ok routes q.allowance ≡ false → q.allowance < length routes → number ≡ 15 → End

  end : End
  end = go (outcome true table closed q size)
    where
      go : Outcome true table closed q size → End
      go (Outcome.by_check n r t e) = told (subst (Told table closed q size) (sym (number_of e)) t)
      go (Outcome.has_no_route p none e) = told (subst (Told table closed q size) (sym (number_of e)) (ten_told p none))
      go (Outcome.with_pair p some found e) = with_pair (record { passed = p; some = some; found = found; is = e }) (omega (arith, number_of e, verdict_small ok routes q.allowance))
      go (Outcome.none_at_all p some none l e) = none_at_all p some none l (number_of e)
      go (Outcome.none_yet p some none l e) = none_yet p some none l (number_of e)

  -- 14 and 15 are no numbers of the table
  not_told : {n : ℕ} → (n ≡ 14) ⊎ (n ≡ 15) → Told table closed q size n → ⊥
  not_told (inl e) t = unknown (inr (omega arith)) (told_known table closed q size t)
  not_told (inr e) t = unknown (inr (omega arith)) (told_known table closed q size t)

  -- no test holds; no two routes are apart; no pair with its main within the allowance is
  abbrev NoTest : Type 0
  NoTest = (t i : ℕ) → Applies table closed q size t i → ⊥

  abbrev NoneApart : Type 0
  NoneApart = (u v : List ℕ) → RouteOf table closed q u → RouteOf table closed q v → Apart (mesh_of table closed q) u v → ⊥

  abbrev NoneWithin : Type 0
  NoneWithin = (m s : Route) → ApartWithin table closed q m s → ⊥

  untested : Passed table closed q size → 0 < length routes → NoTest
  untested p some t i a = passed_none p some a

  -- ---- pairs, or none

  -- the best of those that pass is one
  best_within : some_at ok routes q.allowance ≡ true → ApartWithin table closed q (best ok routes q.allowance).main (best ok routes q.allowance).standby
  best_within found =
      let c = best_in ok routes q.allowance found in
      record { main_allowed = c.main_in_lem; standby_listed = c.standby_in_lem; apart = (judges_apart (mesh_of table closed q) (best ok routes q.allowance)).0 c.passes }

  none_within : (some_at ok routes q.allowance ≡ false) ↔ NoneWithin
  none_within =
      let none = none_passes ok routes q.allowance in (
        λ e m s x. none.0 e m s x.main_allowed x.standby_listed (within_passes x),
        λ f. none.1 (λ m s x y e. f m s (record { main_allowed = x; standby_listed = y; apart = (judges_apart (mesh_of table closed q) (pair m s)).0 e })),
      )

  -- where every route is a main, none within the allowance is none of all routes
  none_all : Passed table closed q size → length routes ≤ q.allowance → some_at ok routes q.allowance ≡ false → NoneApart
  unfolding route_of
  none_all p all none u v x y a =
      true≢false (sym (some_among ok routes q.allowance all (listed x) (listed y) ((judges_apart (mesh_of table closed q) (pair_made_of (planned_arcs table closed) u v)).1 a)) ∙ none)
    where
      listed : {ks : List ℕ} → RouteOf table closed q ks → Memᴰ (route_of (planned_arcs table closed) ks) routes
      listed = ranking_in (mesh_of table closed q) (planned_heads table closed p.checked.sound) p.checked.source_node

  -- and a pair within it is a pair of routes
  all_none : NoneApart → some_at ok routes q.allowance ≡ true → ⊥
  all_none f found =
      let b = best_within found in
      f _ _ (ranking_own (mesh_of table closed q) (take_mem no_route q.allowance b.main_allowed)).0 (ranking_own (mesh_of table closed q) b.standby_listed).0 b.apart

  -- ---- 14, 15, and neither

  pub fourteen_exactly : (number ≡ 14) ↔ (NoTest × NoneApart × (length routes ≤ q.allowance))
  fourteen_exactly = (λ e. to e end, λ h. from h end)
    where
      to : number ≡ 14 → End → NoTest × NoneApart × (length routes ≤ q.allowance)
      to e (told t) = absurd (not_told (inl e) t)
      to e (with_pair w l) = absurd (omega arith)
      to e (none_at_all p some none all f) = (untested p some, none_all p all none, all)
      to e (none_yet p some none few f) = absurd (omega arith)

      from : NoTest × NoneApart × (length routes ≤ q.allowance) → End → number ≡ 14
      from h (told t) = absurd (h.0 _ _ t.applies)
      from h (with_pair w l) = absurd (all_none h.1 w.found)
      from h (none_at_all p some none all f) = f
      from h (none_yet p some none few f) = absurd (omega (arith, h.2))

  pub fifteen_exactly : (number ≡ 15) ↔ (NoTest × NoneWithin × (q.allowance < length routes))
  fifteen_exactly = (λ e. to e end, λ h. from h end)
    where
      to : number ≡ 15 → End → NoTest × NoneWithin × (q.allowance < length routes)
      to e (told t) = absurd (not_told (inr e) t)
      to e (with_pair w l) = absurd (omega arith)
      to e (none_at_all p some none all f) = absurd (omega arith)
      to e (none_yet p some none few f) = (untested p some, none_within.0 none, few)

      from : NoTest × NoneWithin × (q.allowance < length routes) → End → number ≡ 15
      from h (told t) = absurd (h.0 _ _ t.applies)
      from h (with_pair w l) = absurd (true≢false (sym w.found ∙ none_within.1 h.1))
      from h (none_at_all p some none all f) = absurd (omega (arith, h.2))
      from h (none_yet p some none few f) = f

  pub answered_exactly : (number < 2) ↔ (NoTest × ((m : Route) × (s : Route) × ApartWithin table closed q m s))
  answered_exactly = (λ l. to l end, λ h. from h end)
    where
      to : number < 2 → End → NoTest × ((m : Route) × (s : Route) × ApartWithin table closed q m s)
      to l (told t) = absurd (omega (arith, told_two table closed q size t))
      to l (with_pair w f) = (untested w.passed w.some, ((best ok routes q.allowance).main, (best ok routes q.allowance).standby, best_within w.found))
      to l (none_at_all p some none all f) = absurd (omega arith)
      to l (none_yet p some none few f) = absurd (omega arith)

      from : NoTest × ((m : Route) × (s : Route) × ApartWithin table closed q m s) → End → number < 2
      from h (told t) = absurd (h.0 _ _ t.applies)
      from h (with_pair w f) = f
      from h (none_at_all p some none all f) = absurd (none_within.0 none _ _ h.1.2)
      from h (none_yet p some none few f) = absurd (none_within.0 none _ _ h.1.2)

  -- where no test holds, an allowance of N or more settles or gives 14
  pub all_settle : NoTest → length routes ≤ q.allowance → (number ≡ 0) ⊎ (number ≡ 14)
  all_settle h all = go end
    where
      go : End → (number ≡ 0) ⊎ (number ≡ 14)
      go (told t) = absurd (h _ _ t.applies)
      go (with_pair w l) = inl (enough w all)
      go (none_at_all p some none more f) = inr f
      go (none_yet p some none few f) = absurd (omega arith)

-- ---- with a larger allowance

module _ (table closed : List ℕ) (q : Request) (size b : ℕ) (more : q.allowance ≤ b) (permitted : b ≤ most_allowance) where
  abbrev larger : ℕ
  larger = (answer_apart table closed (allowing q b) size).number

  -- after 14 or 15 the checks pass again
  still_untested : (number table closed q size ≡ 14) ⊎ (number table closed q size ≡ 15) → NoTest table closed (allowing q b) size
  still_untested e = go e (end table closed q size)
    where
      again : Passed table closed q size → 0 < length (routes_of table closed q) → NoTest table closed (allowing q b) size
      again p some = untested table closed (allowing q b) size (passed_allowing b p (omega (arith, p.checked.some_allowance)) permitted) some

      go : (number table closed q size ≡ 14) ⊎ (number table closed q size ≡ 15) → End table closed q size → NoTest table closed (allowing q b) size
      go e (End.told t) = absurd (not_told table closed q size e t)
      go e (End.with_pair w l) = again w.passed w.some
      go e (End.none_at_all p some none all f) = again p some
      go e (End.none_yet p some none few f) = again p some

  -- 15 turns into a pair or into 14, or stays
  pub fifteen_turns : number table closed q size ≡ 15 → (larger < 2) ⊎ ((larger ≡ 14) ⊎ (larger ≡ 15))
  fifteen_turns e = go (end table closed (allowing q b) size)
    where
      go : End table closed (allowing q b) size → (larger < 2) ⊎ ((larger ≡ 14) ⊎ (larger ≡ 15))
      go (End.told t) = absurd (still_untested (inr e) _ _ t.applies)
      go (End.with_pair w l) = inl l
      go (End.none_at_all p some none all f) = inr (inl f)
      go (End.none_yet p some none few f) = inr (inr f)

  -- and 14 stays
  pub fourteen_stays : number table closed q size ≡ 14 → larger ≡ 14
  fourteen_stays e =
      let h = (fourteen_exactly table closed q size).0 e in
      (fourteen_exactly table closed (allowing q b) size).1 (still_untested (inl e), h.1, omega (arith, h.2))

-- ---- as the plain answer

pub as_plain : (table closed : List ℕ) (q : Request) (size : ℕ) → (answer_around table closed q size).number < 2
    → let reply = (answer_around table closed q size).reply in Apart (mesh_of table closed q) (main_in reply) (standby_in reply) → answer_apart table closed q size ≡ answer_around table closed q size
unfolding judges route_of
as_plain table closed q size h a =
    let w = low_number false table closed q size h in
    let pos = w.passed.checked.some_allowance in
    let passes : judges_of true table closed q (chosen false table closed q) ≡ true = ap (judges_of true table closed q) (sym (said_is w)) ∙ (judges_apart (mesh_of table closed q) (pair_said (planned_arcs table closed) (answer_around table closed q size).reply)).1 a in
    let strict = ranking_strict (mesh_of table closed q) in
    let kept = kept_answer (judges_of true table closed q) (routes_of table closed q) strict q.allowance w.some pos passes in
    let found = kept_found (judges_of true table closed q) (routes_of table closed q) strict q.allowance w.some pos passes in
    (some_route {only = true} w.passed w.some found).is ∙ kept ∙ sym w.is
