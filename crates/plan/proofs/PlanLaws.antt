-- The loop over windows: the length test on a tally is that of its step; what one turn does; how the turns end. Assumes nothing.
use mathlib.Core.Path.{◌≡◌, refl, sym, ap, ◌∙◌, subst}
use mathlib.Core.Logic.{◌⊎◌, inl, inr}
use mathlib.Core.Bool.{Bool, true, false, ◌&&◌, false≢true}
use Prim.Native.Nat.{ℕ, zero, suc, ◌+◌, ◌*◌, ◌-◌, ◌≤◌, ◌<◌, min}
use native.Mathlib.Omega.{arith}
use lib.Dec.{eqb, leb}
use borrow.Author.Tests.{lt-ltb, ne_eqb}
use lib.ListN.{length, get_or}
use Rattle.std.specs.Prelude.{if◌then◌else◌}
use Rattle.std.specs.declared.ops.ControlFlow.TheVariants.{Continue, Break}
use Rattle.laws.specs.Sets.{with}
use Rattle.laws.proofs.FoldLaws.{keep_all}
use Rattle.laws.proofs.ListLaws.{get_or_mem, length_keep}
use Rattle.problem.specs.Table.{hazards, most_arcs, most_reach}
use Rattle.problem.specs.Routes.{Route, route_of, within, count, shorter}
use Rattle.problem.specs.Pairs.{Pair, shared_count, total, no_route, some_at, best, on_every, floor, settled_by_length}
use Rattle.problem.proofs.ExposureLaws.{size_le}
use Rattle.problem.proofs.GrowthLaws.{grow_way}
use Rattle.problem.proofs.RankingLaws.{Listed, ranking_out}
use Rattle.problem.proofs.CandidateLaws.{best_in, best_main}
use Rattle.keys.specs.Keys.{key_of, shared_of, total_of, no_key}
use Rattle.keys.proofs.ChoiceLaws.{InReach, ranking_in_reach, pair_fits, key_of_shared, key_of_total, no_key_shared}
use Rattle.net.specs.declared.Net.{Net}
use Rattle.net.specs.Net.{arcs_in, mesh_in, routes_in, judged_in, IsNet, lower_at}
use Rattle.bars.proofs.BarsLaws.{net_regular}
use Rattle.tally.specs.declared.Tally.{Tally}
use Rattle.mains.specs.Mains.{no_tally, best_key, Stepped}
use Rattle.mains.proofs.TallyLaws.{none_first, stepped_start}
use Rattle.sweep.specs.declared.Swept.{Swept}
use Rattle.sweep.specs.declared.Window.{Window}
use Rattle.sweep.specs.Sweep.{SweptAll}
use Rattle.sweep.proofs.WindowMains.{cut_none, cut_count}
use Rattle.sweep.proofs.StepLaws.{stepped_window, stepped_cap, stepped_stopped, over_some}
use Rattle.plan.specs.declared.Run.{Run}
use Rattle.plan.specs.declared.Run.TheVariants.{ByLength, AllRanked, AtAllowance}
use Rattle.plan.specs.declared.Next.{Next}
use Rattle.plan.specs.Plan.{met_by, not_over, ended_at, Planning, Ended, Turning, Turned}

-- between turns: the tally is that of all routes shorter than `cur`, and it is not met
pub record Going (net : Net) (allowance low : ℕ) (t : Tally) (cur width : ℕ) : Type 0 where
  pub tally_is : Stepped (judged_in net) (routes_in net) (count (shorter cur) (routes_in net)) t
  pub allowed : t.ranked ≤ allowance
  pub not_met : met_by t low ≡ false
  pub width_range : width ≤ most_reach

-- ---- the length test

-- from what the tally says
met_is : (t : Tally) {f shared total low metres : ℕ} → shared_of t.best ≡ shared → total_of t.best ≡ total → f ≡ low → t.last ≡ metres → met_by t f ≡ (eqb shared low && leb total (2 * metres))
unfolding met_by
met_is t n m e l = rw (n, m, e, l)

module _ (net : Net) (words : IsNet net) where
  pub in_reach : InReach (routes_in net)
  in_reach = ranking_in_reach (mesh_in net) words.reach_range

  -- where no pair is judged yet it does not hold
  unmet_none : (t : Tally) → t.best ≡ no_key → (f : ℕ) → f ≤ hazards → met_by t f ≡ false
  unfolding met_by
  unmet_none t e f small =
      let n : eqb (shared_of no_key) f ≡ false = ne_eqb _ f (λ q. omega (arith, no_key_shared)) in
      rw (e, n)

  floor_low : floor (routes_in net) ≤ hazards
  unfolding floor
  floor_low = size_le (on_every (routes_in net))

  -- on the tally of a step it is the rule's own test
  pub met_by_length : {j : ℕ} {t : Tally} → Stepped (judged_in net) (routes_in net) j t → 0 < j → (f : ℕ) → f ≡ floor (routes_in net) → met_by t f ≡ settled_by_length (judged_in net) (routes_in net) j
  unfolding settled_by_length best_key
  met_by_length {j} {t} s pos f e = go (some_at (judged_in net) (routes_in net) j) refl
    where
      b : Pair
      b = best (judged_in net) (routes_in net) j

      by_key : some_at (judged_in net) (routes_in net) j ≡ true → t.best ≡ key_of b → met_by t f ≡ (eqb (shared_count b) (floor (routes_in net)) && leb (total b) (2 * (get_or (routes_in net) (j - 1) no_route).metres))
      by_key some is =
          let fits = pair_fits (routes_in net) in_reach (best_main (judged_in net) (routes_in net) j some) (best_in (judged_in net) (routes_in net) j some).standby_in_lem in
          met_is t (ap shared_of is ∙ key_of_shared b fits) (ap total_of is ∙ key_of_total b fits) e (s.last_is pos)

      go : (x : Bool) → some_at (judged_in net) (routes_in net) j ≡ x → met_by t f ≡ settled_by_length (judged_in net) (routes_in net) j
      go true some = rw some (by_key some (rw some at s.best_is))
      go false none = rw none (unmet_none t (rw none at s.best_is) f (omega (arith, e, floor_low)))

  -- before the first main nothing is met
  pub met_none : {t : Tally} → Stepped (judged_in net) (routes_in net) 0 t → (f : ℕ) → f ≤ hazards → met_by t f ≡ false
  met_none {t} s f small = unmet_none t (s.best_is ∙ none_first (judged_in net) (routes_in net)) f small

  -- the last main of a step is a route
  pub last_range : {j : ℕ} {t : Tally} → Stepped (judged_in net) (routes_in net) j t → t.last ≤ most_reach
  last_range {j} {t} s = go j s
    where
      go : (i : ℕ) → Stepped (judged_in net) (routes_in net) i t → t.last ≤ most_reach
      go zero p = omega (arith, p.last_none refl)
      go (suc i) p = omega (arith, p.last_is (omega arith), in_reach (get_or (routes_in net) (suc i - 1) no_route) (get_or_mem no_route (routes_in net) (suc i - 1) (omega (arith, p.to_N))))

  -- ---- the end of a run

  module _ (allowance low : ℕ) (planning : Planning net allowance low) where
    floor_range : low ≤ hazards
    floor_range = omega (arith, planning.floor_is, floor_low)

    -- the test holds of no tally before the first main
    met_some : (j : ℕ) {t : Tally} → Stepped (judged_in net) (routes_in net) j t → met_by t low ≡ true → 0 < j
    met_some zero s e = absurd (false≢true (sym (met_none s low floor_range) ∙ e))
    met_some (suc j) s e = omega arith

    pub ended_met : (j : ℕ) {t : Tally} → Stepped (judged_in net) (routes_in net) j t → j ≤ allowance → met_by t low ≡ true → Ended net allowance (ByLength t)
    ended_met j s a e =
        let some = met_some j s e in
        Ended.by_length j (record { tally_is = s; some = some; allowed = a }) (sym (met_by_length s some low planning.floor_is) ∙ e)

    -- the allowance ended within a single length
    pub ended_stopped : (u : Tally) → Stepped (judged_in net) (routes_in net) allowance (not_over u) → allowance < length (routes_in net) → Ended net allowance (ended_at u low)
    unfolding ended_at
    ended_stopped u s more = go (met_by (not_over u) low) refl
      where
        go : (b : Bool) → met_by (not_over u) low ≡ b → Ended net allowance (if b then ByLength (not_over u) else AtAllowance (not_over u))
        go true e = ended_met allowance s (omega arith) e
        go false e =
            Ended.at_allowance allowance (record { tally_is = s; some = planning.some_allowance; allowed = omega arith }) refl more (sym (met_by_length s planning.some_allowance low planning.floor_is) ∙ e)

    -- ---- one window

    module _ {t : Tally} {cur width : ℕ} (turning : Turning net allowance t cur width) (hi cap : ℕ) (hi_is : hi ≡ min (cur + width) (mesh_in net).reach) (low_cap : t.ranked ≤ cap) (cap_range : cap ≤ allowance)
        (r : Swept) (swept : SweptAll net.apart (mesh_in net) (record { lo = cur; hi = hi; cap = cap }) t r) where
      abbrev window : Window
      window = record { lo = cur; hi = hi; cap = cap }

      wide : cur ≤ hi
      wide = omega (arith, turning.cur_range)

      near : hi ≤ (mesh_in net).reach
      near = omega arith

      -- one that did not give up is that of all routes up to its end, and so of all shorter than what was cut off
      pub window_further : r.tally.over ≡ false → Stepped (judged_in net) (routes_in net) (count (shorter r.cut) (routes_in net)) r.tally × (r.tally.ranked ≤ allowance)
      window_further o =
          let s = stepped_window net.apart (mesh_in net) (net_regular net words) words.reach_range window wide near t r.tally turning.tally_is swept.tally_is o in
          let c = cut_count (mesh_in net) hi r.cut (swept.none_between o) swept.cut_past in
          let most = stepped_cap net.apart (mesh_in net) (net_regular net words) words.reach_range window wide near t r.tally turning.tally_is swept.tally_is low_cap o in
          (subst (λ (j : ℕ). Stepped (judged_in net) (routes_in net) j r.tally) (sym c) s, omega (arith, s.ranked_is))

      pub cut_further : cur < r.cut
      cut_further = omega (arith, wide, swept.cut_past)

      -- one that gave up within a single length is that of the allowance's last step
      pub window_stopped : r.tally.over ≡ true → hi ≡ cur → cap ≡ allowance → Stepped (judged_in net) (routes_in net) allowance (not_over r.tally) × (allowance < length (routes_in net))
      window_stopped o one full =
          let s = stepped_stopped net.apart (mesh_in net) (net_regular net words) words.reach_range window wide near t r.tally turning.tally_is swept.tally_is one low_cap o in
          let more = over_some net.apart (mesh_in net) (net_regular net words) words.reach_range window wide near t r.tally turning.tally_is swept.tally_is o in
          (subst (λ (j : ℕ). Stepped (judged_in net) (routes_in net) j (not_over r.tally)) full s, omega (arith, length_keep (within hi) (routes_in net)))

    -- ---- the loop

    -- no route is shorter than the source's lower bound
    pub going_first : (t : Tally) (cur width : ℕ) → t ≡ no_tally → cur ≡ lower_at net (mesh_in net).source → width ≤ most_reach → Going net allowance low t cur width
    going_first t cur width e f h =
        let none = cut_none (mesh_in net) cur
        (λ ks x. omega (arith, words.lower (mesh_in net).source words.source_node (grow_way (arcs_in net) (mesh_in net).terminal most_arcs (with 0 (mesh_in net).source) (mesh_in net).source x)))
        in
        let start : Stepped (judged_in net) (routes_in net) 0 t = subst (λ (x : Tally). Stepped (judged_in net) (routes_in net) 0 x) (sym e) (stepped_start (judged_in net) (routes_in net)) in
        record {
          tally_is = subst (λ (j : ℕ). Stepped (judged_in net) (routes_in net) j t) (sym none) start;
          allowed = omega (arith, start.ranked_is);
          not_met = met_none start low floor_range;
          width_range = h;
        }

    pub going_narrower : {t : Tally} {cur width less : ℕ} → Going net allowance low t cur width → less ≤ width → Going net allowance low t cur less
    going_narrower g l = record { tally_is = g.tally_is; allowed = g.allowed; not_met = g.not_met; width_range = omega (arith, g.width_range) }

    pub going_turning : {t : Tally} {cur width : ℕ} → Going net allowance low t cur width → cur ≤ (mesh_in net).reach → Turning net allowance t cur width
    going_turning g h = record { tally_is = g.tally_is; allowed = g.allowed; cur_range = h; width_range = g.width_range }

    -- a turn that goes on gets further, or tries the same again with less
    pub going_on : {t : Tally} {cur width : ℕ} → Going net allowance low t cur width → {n : Next} → Turned net allowance low t cur width (Continue n)
        → Going net allowance low n.tally n.cur n.width × ((cur < n.cur) ⊎ ((n.cur ≡ cur) × (n.width < width)))
    going_on g (Turned.further s a e p q) = (record { tally_is = s; allowed = a; not_met = e; width_range = q }, inl p)
    going_on {t} {cur} g {n} (Turned.again e p q) = (same e p, inr (p, q))
      where
        same : n.tally ≡ t → n.cur ≡ cur → Going net allowance low n.tally n.cur n.width
        same x y = rw (x, y) (record { tally_is = g.tally_is; allowed = g.allowed; not_met = g.not_met; width_range = omega (arith, g.width_range) })

    pub stopped_ended : {t : Tally} {cur width : ℕ} {r : Run} → Turned net allowance low t cur width (Break r) → Ended net allowance r
    stopped_ended (Turned.stopped e) = e

    -- past the reach all routes are ranked
    pub ended_all : {t : Tally} {cur width : ℕ} → Going net allowance low t cur width → (mesh_in net).reach < cur → Ended net allowance (AllRanked t)
    unfolding route_of
    ended_all {t} {cur} g h =
        Ended.all_ranked (count (shorter cur) (routes_in net)) (record { tally_is = g.tally_is; some = some; allowed = omega (arith, g.tally_is.ranked_is, g.allowed) }) whole
        (sym (met_by_length g.tally_is some low planning.floor_is) ∙ g.not_met)
      where
        reached : {r : Route} → Listed (mesh_in net) r → r.metres ≤ (mesh_in net).reach
        reached o = omega (arith, o.route.within_reach, ap (λ (s : Route). s.metres) o.is)

        whole : count (shorter cur) (routes_in net) ≡ length (routes_in net)
        whole = ap length (keep_all (shorter cur) (routes_in net) (λ r x. lt-ltb r.metres cur (omega (arith, reached (ranking_out (mesh_in net) x)))))

        some : 0 < count (shorter cur) (routes_in net)
        some = omega (arith, whole, planning.some_route)
