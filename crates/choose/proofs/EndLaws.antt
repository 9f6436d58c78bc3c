-- What a run's end says of the reply: its verdict and what is ranked; and counting below a length. Assumes nothing.
use mathlib.Core.Path.{◌≡◌, refl, sym, ap, ◌∙◌, subst}
use mathlib.Core.Bool.{Bool, true, false, not}
use mathlib.Core.List.{List}
use Prim.Native.Nat.{ℕ, suc, ◌+◌, ◌-◌, ◌/◌, ◌≤◌, ◌<◌, max}
use native.Mathlib.Omega.{arith}
use lib.Dec.{eqb, ltb, leb}
use lib.ListN.{length, get_or}
use lib.Seq.{take_all}
use borrow.Author.Tests.{lt-ltb, le-ltb, leb-true, leb-false, le-leb, lt-leb, eqb-true, eqb-false}
use Rattle.laws.specs.Choosing.{keep}
use Rattle.laws.proofs.FoldLaws.{keep_same}
use Rattle.laws.proofs.ListLaws.{keep_none, get_or_mem}
use Rattle.laws.proofs.SortLaws.{Strict}
use Rattle.problem.specs.declared.Refusal.{Refusal}
use Rattle.problem.specs.declared.Refusal.TheVariants.{NoPair, NoPairYet}
use Rattle.problem.specs.declared.Verdict.{Verdict}
use Rattle.problem.specs.declared.Verdict.TheVariants.{Settled, Stopped}
use Rattle.problem.specs.Table.{most_allowance}
use Rattle.problem.specs.Routes.{Mesh, Route, precedes, within, ranking, count, shorter}
use Rattle.problem.specs.Pairs.{Pair, pairs_of, no_route, Step, total, candidates, some_at, best, settled_by_length, least_settled, ranked, verdict}
use Rattle.problem.specs.Refusals.{refusal_number, verdict_number}
use Rattle.problem.proofs.RankingLaws.{ranking_strict}
use Rattle.problem.proofs.CandidateLaws.{Even, best_in, best_main, some_more}
use Rattle.problem.proofs.ApartLaws.{judges_even}
use Rattle.problem.proofs.CallLaws.{verdict_settled, verdict_stopped}
use Rattle.problem.proofs.SettleLaws.{by_length, settled_by}
use Rattle.problem.proofs.WindowLaws.{half, main_half, J_le, not_yet, last_only, counted, counted_shorter, counted_best}
use Rattle.keys.specs.Keys.{no_key}
use Rattle.keys.proofs.ChoiceLaws.{pair_fits, key_of_below}
use Rattle.net.specs.declared.Net.{Net}
use Rattle.net.specs.Net.{mesh_in, routes_in, judged_in, IsNet}
use Rattle.bars.proofs.BarsLaws.{net_regular}
use Rattle.tally.specs.declared.Tally.{Tally}
use Rattle.track.specs.Track.{route_in, Fit}
use Rattle.mains.specs.Mains.{best_key}
use Rattle.sweep.specs.declared.Window.{Window}
use Rattle.sweep.specs.Sweep.{swept_tally}
use Rattle.sweep.proofs.SweptLaws.{swept_count, swept_over}
use Rattle.plan.specs.declared.Run.TheVariants.{ByLength, AllRanked, AtAllowance}
use Rattle.plan.specs.Plan.{AtStep, Ended}
use Rattle.plan.proofs.PlanLaws.{in_reach}
use Rattle.choose.specs.declared.Pairing.{Pairing}
use Rattle.choose.specs.Choose.{PairChosen, no_pair, OfStep, BestOf, AsRanked, step_by, Halved}
use Rattle.choose.proofs.RouteChoice.{within_reach}

-- ---- a run's end

module _ (net : Net) (words : IsNet net) (allowance : ℕ) (few : allowance ≤ most_allowance) where
  abbrev routes : List Route
  routes = routes_in net

  abbrev ok : Pair → Bool
  ok = judged_in net

  strict : Strict precedes routes
  strict = ranking_strict (mesh_in net)

  even : Even ok
  even = judges_even (mesh_in net) net.apart

  module _ {t : Tally} {j : ℕ} (e : AtStep net allowance j t) where
    the_step : Step routes j
    the_step = record { from_one = e.some; to_N = e.tally_is.to_N }

    -- where a pair is judged, the tally says the key of the best one
    pub of_step : some_at ok routes j ≡ true → OfStep ok routes t.best j
    unfolding best_key
    of_step some = record { to_N = e.tally_is.to_N; few = omega (arith, e.allowed); some = some; is = rw some at e.tally_is.best_is }

    -- where it says no pair's, none is
    some_key : (b : Bool) → some_at ok routes j ≡ b → (t.best ≡ no_key → ⊥) → some_at ok routes j ≡ true
    unfolding best_key
    some_key true f ne = f
    some_key false f ne = absurd (ne (rw f at e.tally_is.best_is))

    none_key : (b : Bool) → some_at ok routes j ≡ b → t.best ≡ no_key → some_at ok routes j ≡ false
    none_key false f z = f
    none_key true f z =
        let b = best_in ok routes j f in
        absurd (omega (arith, z, (of_step f).is, key_of_below (best ok routes j) (pair_fits routes (in_reach net words) (best_main ok routes j f) b.standby_in_lem)))

    as_step : ranked ok routes allowance ≡ j → some_at ok routes allowance ≡ some_at ok routes j → {v : Verdict} {r : Refusal} → verdict ok routes allowance ≡ verdict_number v
        → no_pair routes allowance ≡ refusal_number r → AsRanked ok routes allowance t v r
    as_step r s said number =
        record {
          of_step = λ ne. subst (OfStep ok routes t.best) (sym e.tally_is.ranked_is) (of_step (some_key (some_at ok routes j) refl ne));
          none = λ z. s ∙ none_key (some_at ok routes j) refl z;
          ranked_is = e.tally_is.ranked_is ∙ sym r;
          verdict_is = sym said;
          number_is = sym number;
        }

  pub all_settled : {t : Tally} → Ended net allowance (AllRanked t) → AsRanked ok routes allowance t Settled NoPair
  unfolding ranked some_at candidates
  all_settled (Ended.all_ranked j e end unmet) =
      let last = last_only ok routes strict (omega (arith, e.some)) (subst (λ (i : ℕ). settled_by_length ok routes i ≡ false) end unmet) in
      as_step e (omega (arith, e.allowed, last)) (some_whole (omega (arith, e.allowed)) end) (verdict_settled ok routes allowance (omega (arith, e.allowed, last))) (rw (le-leb (length routes) allowance (omega (arith, e.allowed))))
    where
      -- with every route a main there are no more
      some_whole : length routes ≤ allowance → {i : ℕ} → i ≡ length routes → some_at ok routes allowance ≡ some_at ok routes i
      some_whole h {i} q = ap (λ (mains : List Route). not (eqb (length (keep ok (pairs_of mains routes))) 0)) (take_all allowance routes h ∙ sym (take_all i routes (omega arith)))

  pub end_stopped : {t : Tally} → Ended net allowance (AtAllowance t) → AsRanked ok routes allowance t Stopped NoPairYet
  unfolding ranked
  end_stopped (Ended.at_allowance j e end more unmet) =
      let later = not_yet ok routes strict (the_step e) unmet more in
      as_step e (omega (arith, later)) (ap (some_at ok routes) (sym end)) (verdict_stopped ok routes allowance (omega (arith, later))) (rw (lt-leb (length routes) allowance (omega arith)))

  -- ---- settled by length

  pub record AtLength (t : Tally) : Type 0 where
    pub step : ℕ
    pub at_step : AtStep net allowance step t
    pub met : settled_by_length ok routes step ≡ true

  pub at_length : {t : Tally} → Ended net allowance (ByLength t) → AtLength t
  at_length (Ended.by_length j e met) = record { step = j; at_step = e; met = met }

  pub of_length : {t : Tally} (l : AtLength t) → OfStep ok routes t.best l.step
  of_length l = of_step l.at_step (by_length ok routes l.met).some

  -- with the pair p found

  module _ {t : Tally} {j : ℕ} (e : AtStep net allowance j t) (met : settled_by_length ok routes j ≡ true) (p : Pairing) (b : BestOf ok routes j p) where
    abbrev J : ℕ
    J = least_settled ok routes

    abbrev main : ℕ
    main = p.main.metres

    abbrev whole : ℕ
    whole = p.main.metres + p.standby.metres

    settled_within : J ≤ j
    settled_within = J_le ok routes strict (the_step e) (settled_by ok routes j (by_length ok routes met))

    main_is : (best ok routes j).main.metres ≡ main
    unfolding route_in
    main_is = ap (λ (q : Pair). q.main.metres) (sym b.pair_is)

    total_is : total (best ok routes j) ≡ whole
    unfolding route_in total
    total_is = ap total (sym b.pair_is)

    here : get_or routes (count (shorter main) routes + p.passed) no_route ≡ (best ok routes j).main
    here = b.place_is ∙ ap (λ (q : Pair). q.main) b.pair_is

    half_is : half (best ok routes j) ≡ (whole + 1) / 2
    half_is = ap (λ (z : ℕ). (z + 1) / 2) total_is

    half_count : count (shorter (half (best ok routes j))) routes ≡ count (shorter ((whole + 1) / 2)) routes
    half_count = ap (λ (z : ℕ). count (shorter z) routes) half_is

    counted_here : J ≡ suc (max (count (shorter main) routes + p.passed) (count (shorter ((whole + 1) / 2)) routes))
    counted_here =
        counted ok routes strict even (the_step e) (by_length ok routes met) (count (shorter main) routes + p.passed) b.early here
        ∙ ap (λ (z : ℕ). suc (max (count (shorter main) routes + p.passed) z)) half_count

    last_near : (get_or routes (j - 1) no_route).metres ≤ (mesh_in net).reach
    last_near = within_reach net.apart (mesh_in net) (net_regular net words) words.reach_range (get_or_mem no_route routes (j - 1) (omega (arith, e.some, e.tally_is.to_N)))

    pub halved : Halved net allowance main whole p.passed
    halved =
        record {
          in_reach = omega (arith, (by_length ok routes met).long_enough, total_is, last_near);
          few = omega (arith, counted_here, settled_within, e.allowed);
          allowance_range = few;
          passed_range = omega (arith, b.early, e.allowed);
        }

    step_is : step_by routes main whole p.passed ≡ J
    unfolding step_by
    step_is = go (eqb main ((whole + 1) / 2)) refl
      where
        go : (c : Bool) → eqb main ((whole + 1) / 2) ≡ c → step_by routes main whole p.passed ≡ J
        go true h =
            let c = ap (λ (z : ℕ). count (shorter z) routes) (eqb-true main ((whole + 1) / 2) h) in
            rw (h, step_by) (omega (arith, c, counted_here))
        go false h =
            let no : main ≡ (whole + 1) / 2 → ⊥ = eqb-false _ _ h in
            let less : (best ok routes j).main.metres < half (best ok routes j) = omega (arith, no, main_is, half_is, main_half ok routes strict even j (by_length ok routes met).some) in
            rw (h, step_by) (omega (arith, half_count, counted_shorter ok routes strict even (the_step e) (by_length ok routes met) less))

    step_counted : step_by routes main whole p.passed ≡ ranked ok routes allowance
    unfolding ranked
    step_counted = omega (arith, step_is, settled_within, e.allowed)

    -- the step replied has the same best pair
    settled_best : best ok routes j ≡ best ok routes (ranked ok routes allowance)
    unfolding ranked
    settled_best =
        sym (counted_best ok routes strict even (the_step e) (by_length ok routes met))
        ∙ ap (best ok routes) (omega (arith, settled_within, e.allowed))

    pub step_small : {step : ℕ} → step ≡ step_by routes main whole p.passed → step ≤ most_allowance
    step_small n = omega (arith, n, step_is, settled_within, e.allowed)

    pub chosen_settled : {step : ℕ} → step ≡ step_by routes main whole p.passed → Fit p.main → Fit p.standby
        → PairChosen ok routes allowance (record { verdict = Settled; ranked = step; main = p.main; standby = p.standby })
    chosen_settled n f g =
        record {
          some = some_more ok routes e.allowed (by_length ok routes met).some;
          verdict_is = sym (verdict_settled ok routes allowance (omega (arith, settled_within, e.allowed)));
          ranked_is = n ∙ step_counted;
          pair_is = b.pair_is ∙ settled_best;
          main_fit = f;
          standby_fit = g;
        }

-- where the step replied has a pair, there is one within the allowance
pub some_allowed : {ok : Pair → Bool} {routes : List Route} {allowance key : ℕ} {t : Tally} {v : Verdict} {w : Refusal} → AsRanked ok routes allowance t v w → OfStep ok routes key t.ranked → some_at ok routes allowance ≡ true
unfolding ranked
some_allowed {ok} {routes} {allowance} r o = some_more ok routes (omega (arith, r.ranked_is)) o.some

-- ---- counting below a length

pub count_none : (routes : List Route) → count (shorter 0) routes ≡ 0
count_none routes = ap length (keep_none (shorter 0) routes (λ r i. le-ltb r.metres 0 (omega arith)))

count_within : (routes : List Route) (h : ℕ) → count (within h) routes ≡ count (shorter (suc h)) routes
unfolding within
count_within routes h = ap length (keep_same (within h) (shorter (suc h)) routes (λ r i. go r (leb r.metres h) refl))
  where
    go : (r : Route) (b : Bool) → leb r.metres h ≡ b → leb r.metres h ≡ ltb r.metres (suc h)
    go r true e = e ∙ sym (lt-ltb r.metres (suc h) (omega (arith, leb-true r.metres h e)))
    go r false e = e ∙ sym (le-ltb r.metres (suc h) (omega (arith, leb-false r.metres h e)))

pub swept_shorter : (only : Bool) (m : Mesh) (metres cap : ℕ) → (metres ≡ 0 → ⊥) → metres ≤ m.reach → count (shorter metres) (ranking m) ≤ cap → (t u : Tally) → t.ranked ≡ 0 → t.over ≡ false
    → u ≡ swept_tally only m (record { lo = 0; hi = metres - 1; cap = cap }) t → u.ranked ≡ count (shorter metres) (ranking m)
swept_shorter only m metres cap pos near few t u z o e = go u.over refl
  where
    w : Window
    w = record { lo = 0; hi = metres - 1; cap = cap }

    whole : count (within (metres - 1)) (ranking m) ≡ count (shorter metres) (ranking m)
    whole = count_within (ranking m) (metres - 1) ∙ ap (λ (x : ℕ). count (shorter x) (ranking m)) (omega (arith, pos))

    go : (b : Bool) → u.over ≡ b → u.ranked ≡ count (shorter metres) (ranking m)
    go true f = absurd (omega (arith, swept_over only m w t u o e (omega arith) (omega arith) f, whole))
    go false f = omega (arith, swept_count only m w t u o e (omega arith) (omega arith) f, count_none (ranking m), whole)
