-- J by counting. The routes of a window, those no longer than a length, are the first ones. Where the two tests of 01's rule
-- hold at a step, J is the first step past its best pair's main whose route is no shorter than half that pair's total. Assumes nothing.
use mathlib.Core.Path.{◌≡◌, refl, sym, ap, ap₂, ◌∙◌, subst}
use mathlib.Core.Logic.{◌⊎◌, inl, inr, ◌↔◌}
use mathlib.Core.Bool.{Bool, true, false, ◌||◌, true≢false}
use mathlib.Core.List.Memᴰ
use mathlib.Core.List.{List, [], ◌∷◌, Memᴰ, head-eq_of_cons-eq, tail-eq_of_cons-eq}
use Prim.Native.Nat.{ℕ, zero, suc, ◌+◌, ◌*◌, ◌-◌, ◌/◌, ◌≤◌, ◌<◌, min, max}
use native.Mathlib.Nat.{le_of_suc-le-suc, not-suc-le-zero}
use native.Mathlib.Omega.{arith}
use lib.Dec.{eqb, leb, ltb}
use lib.ListN.{length, get_or, take, length-take}
use borrow.Author.Tests.{eq-eqb, ne_eqb, leb-true, leb-false, le-leb, ltb-true, ltb-false, lt-ltb, le-ltb}
use Rattle.laws.specs.Choosing.{lex_by, keep}
use Rattle.laws.proofs.ListLaws.{Place, Early, mem_place, take_place, get_or_mem, get_or_take_mem, take_more, keep_in, keep_out, keep_none, pairwise_head, pairwise_tail, pairwise_at}
use Rattle.laws.proofs.OrderLaws.{ltb_total, lex_false, lex_lt, lex_eq}
use Rattle.laws.proofs.SortLaws.{Strict, place_order, place_unique, keep_beginning}
use Rattle.problem.specs.Routes.{Route, rank_key, precedes, within, count, shorter}
use Rattle.problem.specs.Pairs.{Pair, pair, shared_count, total, judge_key, judged, NoWorse, no_route, Step, some_at, best, settled_by_length, settled, least_settled, ranked}
use Rattle.problem.proofs.RankingLaws.{key_total, precedes_weak, precedes_metres}
use Rattle.problem.proofs.PairLaws.{judge_total, floor_le}
use Rattle.problem.proofs.CandidateLaws.{Even, some_with, some_more, best_least, best_in, best_main, best_mono}
use Rattle.problem.proofs.SettleLaws.{ByLength, settled_cases, settled_by, least_settled_lem, least_settled_inside, least_settled_step, metres_mono, by_length_mono, settled_mono, main_not_after}

-- half a pair's total, rounded up
abbrev pub half : Pair → ℕ
half p = (total p + 1) / 2

-- ---- the order of routes and of pairs

pub not_precedes_metres : (r s : Route) → precedes s r ≡ false → r.metres ≤ s.metres
unfolding precedes rank_key
not_precedes_metres r s e = go (lex_false ltb ltb_total _ _ _ _ e)
  where
    go : (ltb r.metres s.metres ≡ true) ⊎ ((s.metres ≡ r.metres) × (lex_by ltb s.arcs r.arcs ≡ false)) → r.metres ≤ s.metres
    go (inl l) = omega (arith, ltb-true)
    go (inr l) = omega arith

-- with as many shared and no more metres, the earlier main is judged first
pub judged_ahead : (p q : Pair) → shared_count p ≡ shared_count q → total p ≤ total q → precedes p.main q.main ≡ true → judged p q ≡ true
unfolding judged judge_key precedes
judged_ahead p q e l m = go (ltb (total p) (total q)) refl
  where
    go : (b : Bool) → ltb (total p) (total q) ≡ b → lex_by (lex_by ltb) (judge_key p) (judge_key q) ≡ true
    go true f =
        lex_lt (lex_by ltb) key_total (shared_count p ∷ total p ∷ []) _ (shared_count q ∷ total q ∷ []) _
        (lex_eq ltb ltb_total _ _ _ _ e ∙ lex_lt ltb ltb_total (total p) [] (total q) [] f)
    go false f =
        lex_eq (lex_by ltb) key_total (shared_count p ∷ total p ∷ []) _ (shared_count q ∷ total q ∷ []) _
        (ap₂ (λ (a b : ℕ). a ∷ b ∷ []) e (omega (arith, ltb-false)))
        ∙ lex_lt (lex_by ltb) key_total (rank_key p.main) _ (rank_key q.main) _ m

-- ---- how many stand before a place

-- before a route of length x stand those that are shorter, and those of its length with a smaller rank
pub place_count : (routes : List Route) → Strict precedes routes → (x i : ℕ) → i < length routes → (get_or routes i no_route).metres ≡ x
    → i ≡ count (shorter x) routes + count (λ r. eqb r.metres x) (take i routes)
unfolding keep
place_count [] strict x i h e = absurd (not-suc-le-zero h)
place_count (r ∷ routes) strict x zero h e =
    rw (le-ltb r.metres x (omega arith), keep, keep_none (shorter x) routes (λ s m. le-ltb s.metres x (omega (arith, precedes_metres r s (pairwise_head strict s m)))))
place_count (r ∷ routes) strict x (suc i) h e = go (ltb r.metres x) refl (place_count routes (pairwise_tail strict) x i (le_of_suc-le-suc h) e)
  where
    Count : List Route → ℕ → Type 0
    Count l k = k ≡ count (shorter x) l + count (λ s. eqb s.metres x) (take k l)

    first : r.metres ≤ x
    first = omega (arith, precedes_metres r _ (pairwise_head strict _ (get_or_mem no_route routes i (le_of_suc-le-suc h))))

    go : (b : Bool) → ltb r.metres x ≡ b → Count routes i → Count (r ∷ routes) (suc i)
    go true f ih = rw (f, ne_eqb r.metres x (λ q. omega (arith, ltb-true r.metres x f)), keep) (omega arith)
    go false f ih = rw (f, eq-eqb r.metres x (omega (arith, first, ltb-false r.metres x f)), keep) (omega arith)

module _ (routes : List Route) (strict : Strict precedes routes) where
  -- what the other does not precede stands at or before its place
  pub place_le : {r s : Route} (x : Place no_route r routes) (y : Place no_route s routes) → precedes s r ≡ false → x.at ≤ y.at
  place_le x y e = ltb-false y.at x.at (sym (place_order precedes precedes_weak no_route routes strict y.at x.at y.inside x.inside) ∙ rw (← x.is, ← y.is) e)

  -- one key says one route
  pub route_unique : {r s : Route} → Memᴰ r routes → Memᴰ s routes → rank_key r ≡ rank_key s → r ≡ s
  unfolding precedes
  route_unique {r} {s} m n e =
      let x = mem_place no_route m in
      let y = mem_place no_route n in
      let p : precedes s r ≡ false = ap (lex_by ltb (rank_key s)) e ∙ key_total.irrefl (rank_key s) in
      let q : precedes r s ≡ false = ap (lex_by ltb (rank_key r)) (sym e) ∙ key_total.irrefl (rank_key r) in
      x.is ∙ ap (λ (k : ℕ). get_or routes k no_route) (omega (arith, place_le x y p, place_le y x q)) ∙ sym y.is

  -- a test that holds of all before one that passes: those that pass are the first ones
  module _ (test : Route → Bool) (down : (r s : Route) → precedes r s ≡ true → test s ≡ true → test r ≡ true) where
    keep_first : keep test routes ≡ take (count test routes) routes
    keep_first = keep_beginning precedes test strict down

    count_inside : count test routes ≤ length routes
    count_inside = omega (arith, ap length keep_first, length-take (count test routes) routes)

    keep_place : {r : Route} → Memᴰ r (keep test routes) → Early no_route r routes (count test routes)
    keep_place {r} m = take_place no_route (count test routes) routes (subst (λ (l : List Route). Memᴰ r l) keep_first m)

    place_keep : (k : ℕ) → k < count test routes → Memᴰ (get_or routes k no_route) (keep test routes)
    place_keep k h =
        subst (λ (l : List Route). Memᴰ (get_or routes k no_route) l) (sym keep_first)
        (get_or_take_mem no_route (count test routes) routes k h (omega (arith, count_inside)))

  shorter_down : (x : ℕ) (r s : Route) → precedes r s ≡ true → shorter x s ≡ true → shorter x r ≡ true
  shorter_down x r s p e = lt-ltb r.metres x (omega (arith, precedes_metres r s p, ltb-true s.metres x e))

  within_down : (x : ℕ) (r s : Route) → precedes r s ≡ true → within x s ≡ true → within x r ≡ true
  unfolding within
  within_down x r s p e = le-leb r.metres x (omega (arith, precedes_metres r s p, leb-true s.metres x e))

  -- a route is at least x long exactly where all that are shorter than x stand before it
  pub shorter_place : (x k : ℕ) → k < length routes → (count (shorter x) routes ≤ k) ↔ (x ≤ (get_or routes k no_route).metres)
  shorter_place x k h = (λ l. omega (arith, late l), λ l. omega (arith, early l))
    where
      late : count (shorter x) routes ≤ k → (get_or routes k no_route).metres < x → ⊥
      late l s =
          let e = keep_place (shorter x) (shorter_down x) (keep_in (shorter x) routes (get_or_mem no_route routes k h) (lt-ltb (get_or routes k no_route).metres x s)) in
          omega (arith, e.early, place_unique precedes precedes_weak no_route routes strict k e.at h e.inside e.is)

      early : x ≤ (get_or routes k no_route).metres → k < count (shorter x) routes → ⊥
      early l s = omega (arith, ltb-true (get_or routes k no_route).metres x (keep_out (shorter x) routes (place_keep (shorter x) (shorter_down x) k s)).1)

  -- ---- a window: the routes no longer than hi

  module _ (hi : ℕ) where
    pub window_step : 0 < count (within hi) routes → Step routes (count (within hi) routes)
    window_step h = record { from_one = h; to_N = count_inside (within hi) (within_down hi) }

    -- the last of them is one of them, and none of them is longer
    pub window_last : 0 < count (within hi) routes → Memᴰ (get_or routes (count (within hi) routes - 1) no_route) (keep (within hi) routes)
    window_last h = place_keep (within hi) (within_down hi) (count (within hi) routes - 1) (omega arith)

    pub window_longest : {r : Route} → Memᴰ r (keep (within hi) routes) → r.metres ≤ (get_or routes (count (within hi) routes - 1) no_route).metres
    window_longest m =
        let x = keep_place (within hi) (within_down hi) m in
        rw x.is (metres_mono routes strict x.at (count (within hi) routes - 1) (omega (arith, x.early)) (omega (arith, x.early, count_inside (within hi) (within_down hi))))

  -- two pairs of routes that neither is judged before the other are one
  pub judged_same : {m s m' s' : Route} → Memᴰ m routes → Memᴰ s routes → Memᴰ m' routes → Memᴰ s' routes
      → judged (pair m s) (pair m' s') ≡ false → judged (pair m' s') (pair m s) ≡ false → pair m s ≡ pair m' s'
  unfolding judged judge_key
  judged_same {m} {s} {m'} {s'} a b c d u v =
      let e : judge_key (pair m s) ≡ judge_key (pair m' s') = judge_total.tri _ _ u v in
      let f = tail-eq_of_cons-eq e in
      ap₂ pair (route_unique a c (head-eq_of_cons-eq f)) (route_unique b d (head-eq_of_cons-eq (tail-eq_of_cons-eq f)))

module _ (ok : Pair → Bool) (routes : List Route) (strict : Strict precedes routes) where
  -- ---- the best pair

  main_metres_lem : Even ok → (j : ℕ) → some_at ok routes j ≡ true → (best ok routes j).main.metres ≤ (best ok routes j).standby.metres
  main_metres_lem even j some = not_precedes_metres (best ok routes j).main (best ok routes j).standby (main_not_after ok routes strict even j some)

  -- the main has at most half the total
  pub main_half : Even ok → (j : ℕ) → some_at ok routes j ≡ true → (best ok routes j).main.metres ≤ half (best ok routes j)
  unfolding total
  main_half even j some = omega (arith, main_metres_lem even j some)

  -- with its main among the first i, the best pair of j is that of i
  pub best_same : {i j : ℕ} → some_at ok routes j ≡ true → i ≤ j → Memᴰ (best ok routes j).main (take i routes) → best ok routes i ≡ best ok routes j
  best_same {i} {j} some l m =
      let c = best_in ok routes j some in
      let early : some_at ok routes i ≡ true = some_with ok routes i m c.standby_in_lem c.passes in
      let n = best_in ok routes i early in
      judged_same routes strict (best_main ok routes i early) n.standby_in_lem (best_main ok routes j some) c.standby_in_lem
      (best_least ok routes j (take_more no_route routes l n.main_in_lem) n.standby_in_lem n.passes) (best_least ok routes i m c.standby_in_lem c.passes)

  -- ---- J from a step that is settled, or is not

  pub J_le : {j : ℕ} → Step routes j → settled ok routes j ≡ true → least_settled ok routes ≤ j
  J_le {j} step e =
      let no : j < least_settled ok routes → ⊥ = λ l. true≢false (sym e ∙ (least_settled_lem ok routes (omega (arith, step.from_one, step.to_N))).none_before j step.from_one l) in
      omega arith

  pub not_yet : {j : ℕ} → Step routes j → settled_by_length ok routes j ≡ false → j < length routes → j < least_settled ok routes
  unfolding settled
  not_yet {j} step e l =
      let some : 0 < length routes = omega arith in
      let not_settled : settled ok routes j ≡ false = ap (λ (b : Bool). b || settled_by_length ok routes j) (ne_eqb j (length routes) (λ q. omega arith)) ∙ e in
      let no : least_settled ok routes ≤ j → ⊥ = λ m. true≢false (sym (settled_mono ok routes strict (least_settled_step ok routes some) m step.to_N (least_settled_lem ok routes some).holds) ∙ not_settled) in
      omega arith

  -- where the two tests do not hold at N, they hold nowhere
  pub last_only : 0 < length routes → settled_by_length ok routes (length routes) ≡ false → least_settled ok routes ≡ length routes
  unfolding settled_by_length
  last_only h e = go (settled_cases ok routes (least_settled ok routes) (least_settled_lem ok routes h).holds)
    where
      now : Pair
      now = best ok routes (least_settled ok routes)

      last : Pair
      last = best ok routes (length routes)

      longer : (get_or routes (least_settled ok routes - 1) no_route).metres ≤ (get_or routes (length routes - 1) no_route).metres
      longer = metres_mono routes strict (least_settled ok routes - 1) (length routes - 1) (omega (arith, least_settled_inside ok routes h)) (omega arith)

      both : ByLength ok routes (least_settled ok routes) → NoWorse (shared_count last) (total last) (shared_count now) (total now) → settled_by_length ok routes (length routes) ≡ true
      both b (NoWorse.fewer l) =
          let at_end = some_more ok routes (least_settled_inside ok routes h) b.some in
          absurd (omega (arith, b.meets_floor, floor_le routes (best_main ok routes (length routes) at_end) (best_in ok routes (length routes) at_end).standby_in_lem))
      both b (NoWorse.as_many f l) = rw (some_more ok routes (least_settled_inside ok routes h) b.some, eq-eqb _ _ (f ∙ b.meets_floor), le-leb (total last) (2 * (get_or routes (length routes - 1) no_route).metres) (omega (arith, b.long_enough, longer)))

      go : (least_settled ok routes ≡ length routes) ⊎ ByLength ok routes (least_settled ok routes) → least_settled ok routes ≡ length routes
      go (inl f) = f
      go (inr b) = absurd (true≢false (sym (both b (best_mono ok routes b.some (least_settled_inside ok routes h))) ∙ e))

  -- ---- the counted step: the two tests hold at j

  module _ (even : Even ok) {j : ℕ} (step : Step routes j) (b : ByLength ok routes j) where
    abbrev J : ℕ
    J = least_settled ok routes

    abbrev p : Pair
    p = best ok routes j

    J_step : Step routes J
    J_step = least_settled_step ok routes (omega (arith, step.from_one, step.to_N))

    J_early : J ≤ j
    J_early = J_le step (settled_by ok routes j b)

    -- J is j, or the two tests hold at J
    J_cases : (J ≡ j) ⊎ ByLength ok routes J
    J_cases = go (settled_cases ok routes J (least_settled_lem ok routes (omega (arith, J_step.from_one, J_step.to_N))).holds)
      where
        go : (J ≡ length routes) ⊎ ByLength ok routes J → (J ≡ j) ⊎ ByLength ok routes J
        go (inl e) = inl (omega (arith, J_early, step.to_N))
        go (inr c) = inr c

    main : Early no_route p.main routes j
    main = take_place no_route j routes (best_in ok routes j b.some).main_in_lem

    main_among : (n : ℕ) → main.at < n → Memᴰ p.main (take n routes)
    main_among n h = Memᴰ.cast main.is (get_or_take_mem no_route n routes main.at h main.inside)

    -- a settled step before the main has a pair with no more metres and an earlier main
    main_in_J : main.at < J
    unfolding total
    main_in_J = let no : J ≤ main.at → ⊥ = λ l. late l J_cases in omega arith
      where
        late : J ≤ main.at → (J ≡ j) ⊎ ByLength ok routes J → ⊥
        late l (inl e) = omega (arith, main.early)
        late l (inr c) =
            let n = best_in ok routes J c.some in
            let x = take_place no_route J routes n.main_in_lem in
            let short : (get_or routes (J - 1) no_route).metres ≤ p.main.metres = rw main.is (metres_mono routes strict (J - 1) main.at (omega arith) main.inside) in
            let ahead : precedes (best ok routes J).main p.main ≡ true = rw (x.is, main.is) (pairwise_at no_route routes strict x.at main.at (omega (arith, x.early)) main.inside) in
            true≢false
            (sym (judged_ahead (best ok routes J) p (c.meets_floor ∙ sym b.meets_floor) (omega (arith, c.long_enough, main_metres_lem even j b.some)) ahead)
            ∙ best_least ok routes j (take_more no_route routes J_early n.main_in_lem) n.standby_in_lem n.passes)

    -- J has the same best pair
    pub counted_best : best ok routes (least_settled ok routes) ≡ best ok routes j
    counted_best = best_same b.some J_early (main_among J main_in_J)

    -- route J is no shorter than half the total
    below_J : count (shorter (half p)) routes < J
    below_J = omega (arith, J_step.from_one, (shorter_place routes strict (half p) (J - 1) (omega (arith, J_step.from_one, J_step.to_N))).1 (omega (arith, go J_cases)))
      where
        go : (J ≡ j) ⊎ ByLength ok routes J → total p ≤ 2 * (get_or routes (J - 1) no_route).metres
        go (inl e) = rw e b.long_enough
        go (inr c) = omega (arith, c.long_enough, ap total counted_best)

    -- at the first step past the main and past all that are shorter, the two tests hold
    counted_at : J ≡ suc (max main.at (count (shorter (half p)) routes))
    counted_at = omega (arith, main_in_J, below_J, J_le (record { from_one = omega arith; to_N = omega (arith, inside, step.to_N) }) (settled_by ok routes next tests))
      where
        next : ℕ
        next = suc (max main.at (count (shorter (half p)) routes))

        inside : next ≤ j
        inside = omega (arith, main_in_J, below_J, J_early)

        same : best ok routes next ≡ p
        same = best_same b.some inside (main_among next (omega arith))

        tests : ByLength ok routes next
        tests =
            record {
              some = some_with ok routes next (main_among next (omega arith)) (best_in ok routes j b.some).standby_in_lem (best_in ok routes j b.some).passes;
              meets_floor = ap shared_count same ∙ b.meets_floor;
              long_enough = omega (arith, ap total same, (shorter_place routes strict (half p) (next - 1) (omega (arith, inside, step.to_N))).0 (omega arith));
            }

    -- J is one more than the main's place, or than the number of routes shorter than half the total, whichever is larger
    pub counted : (i : ℕ) → i < j → get_or routes i no_route ≡ (best ok routes j).main → least_settled ok routes ≡ suc (max i (count (shorter (half (best ok routes j))) routes))
    counted i l e = rw (place_unique precedes precedes_weak no_route routes strict i main.at (omega (arith, step.to_N)) main.inside (e ∙ main.is)) counted_at

    -- a main shorter than half the total is one of them
    pub counted_shorter : (best ok routes j).main.metres < half (best ok routes j) → least_settled ok routes ≡ suc (count (shorter (half (best ok routes j))) routes)
    counted_shorter l =
        let no : count (shorter (half p)) routes ≤ main.at → ⊥ = λ m. omega (arith, (shorter_place routes strict (half p) main.at main.inside).0 m, ap (λ (r : Route). r.metres) main.is) in
        omega (arith, counted_at)

    -- before a main of half the total stand all that are shorter
    pub counted_half : (i : ℕ) → i < j → get_or routes i no_route ≡ (best ok routes j).main → (best ok routes j).main.metres ≡ half (best ok routes j) → least_settled ok routes ≡ suc i
    counted_half i l e f =
        omega (arith, counted i l e, (shorter_place routes strict (half p) i (omega (arith, step.to_N))).1 (omega (arith, ap (λ (r : Route). r.metres) e)))

  -- ---- from J on

  -- from J on the best pair stays the same
  pub best_stays : Even ok → {j : ℕ} → Step routes j → least_settled ok routes ≤ j → best ok routes (least_settled ok routes) ≡ best ok routes j
  best_stays even {j} step l = go (settled_cases ok routes (least_settled ok routes) (least_settled_lem ok routes some).holds)
    where
      some : 0 < length routes
      some = omega (arith, step.from_one, step.to_N)

      go : (least_settled ok routes ≡ length routes) ⊎ ByLength ok routes (least_settled ok routes) → best ok routes (least_settled ok routes) ≡ best ok routes j
      go (inl e) = ap (best ok routes) (omega (arith, step.to_N))
      go (inr b) = counted_best even step (by_length_mono ok routes strict (least_settled_step ok routes some) l step.to_N b)

  -- the pair of the answer is the best of all mains within the allowance, also where fewer were ranked
  pub best_allowed : Even ok → (allowance : ℕ) → 0 < length routes → 0 < allowance → best ok routes (ranked ok routes allowance) ≡ best ok routes (min allowance (length routes))
  unfolding ranked
  best_allowed even allowance some pos = go (leb (least_settled ok routes) allowance) refl
    where
      all : Step routes (min allowance (length routes))
      all = record { from_one = omega arith; to_N = omega arith }

      go : (b : Bool) → leb (least_settled ok routes) allowance ≡ b → best ok routes (min (least_settled ok routes) allowance) ≡ best ok routes (min allowance (length routes))
      go true e =
          let h = leb-true (least_settled ok routes) allowance e in
          ap (best ok routes) (omega arith) ∙ best_stays even all (omega (arith, least_settled_inside ok routes some))
      go false e = let h = leb-false (least_settled ok routes) allowance e in ap (best ok routes) (omega (arith, least_settled_inside ok routes some))
