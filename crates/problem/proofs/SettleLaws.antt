-- Settled: once settled, settled from there on; J exists and is the least; what a settled step says of all pairs that pass. Assumes nothing.
use mathlib.Core.Path.{◌≡◌, refl, sym, ap, ◌∙◌}
use mathlib.Core.Logic.{◌⊎◌, inl, inr, ◌↔◌}
use mathlib.Core.Bool.{Bool, true, false, ◌||◌, true≢false}
use mathlib.Core.List.Memᴰ
use mathlib.Core.List.{List, Memᴰ}
use Prim.Native.Nat.{ℕ, ◌*◌, ◌-◌, ◌≤◌, ◌<◌, min}
use native.Mathlib.Omega.{arith}
use lib.Dec.{eqb, leb, ltb}
use lib.ListN.{length, get_or, take}
use borrow.Author.Tests.{eq-eqb, eqb-true, eqb-false, leb-true, leb-false, le-leb, ltb-true, ltb-false}
use Rattle.laws.proofs.BoolLaws.{both}
use Rattle.laws.proofs.FirstLaws.{Least, least_from_lem}
use Rattle.laws.proofs.ListLaws.{Place, Early, mem_place, take_place, get_or_take_mem, pairwise_at}
use Rattle.laws.proofs.SortLaws.{Strict, place_order}
use Rattle.problem.specs.Routes.{Route, precedes}
use Rattle.problem.specs.Pairs.{Pair, pair, shared_count, total, NoWorse, no_route, Step, floor, some_at, best, settled_by_length, settled, least_settled, ranked}
use Rattle.problem.proofs.RankingLaws.{precedes_weak, precedes_metres}
use Rattle.problem.proofs.PairLaws.{floor_le, judged_no_worse, swap_shared, swap_total, swap_judged}
use Rattle.problem.proofs.CandidateLaws.{Even, Candidate, best_least, best_in, best_main, best_mono, some_more, some_all}

-- the ranking is by length
pub metres_mono : (routes : List Route) → Strict precedes routes → (i k : ℕ) → i ≤ k → k < length routes → (get_or routes i no_route).metres ≤ (get_or routes k no_route).metres
metres_mono routes strict i k h b = go (eqb i k) refl
  where
    go : (s : Bool) → eqb i k ≡ s → (get_or routes i no_route).metres ≤ (get_or routes k no_route).metres
    go true e = omega (arith, ap (λ (n : ℕ). (get_or routes n no_route).metres) (eqb-true i k e))
    go false e = precedes_metres _ _ (pairwise_at no_route routes strict i k (omega (arith, eqb-false i k e)) b)

-- the two tests of 01's rule, as facts of a pair that there is
pub record ByLength (ok : Pair → Bool) (routes : List Route) (j : ℕ) : Type 0 where
  pub some : some_at ok routes j ≡ true
  pub meets_floor : shared_count (best ok routes j) ≡ floor routes
  pub long_enough : total (best ok routes j) ≤ 2 * (get_or routes (j - 1) no_route).metres

module _ (ok : Pair → Bool) (routes : List Route) where
  pub by_length : {j : ℕ} → settled_by_length ok routes j ≡ true → ByLength ok routes j
  unfolding settled_by_length
  by_length {j} h =
      let o = both (some_at ok routes j) _ h in
      let t = both (eqb (shared_count (best ok routes j)) (floor routes)) _ o.1 in
      record { some = o.0; meets_floor = eqb-true _ _ t.0; long_enough = leb-true _ _ t.1 }

  -- step j is settled exactly where j is N or the two tests hold
  pub settled_cases : (j : ℕ) → settled ok routes j ≡ true → (j ≡ length routes) ⊎ ByLength ok routes j
  unfolding settled
  settled_cases j h = go (eqb j (length routes)) refl
    where
      go : (b : Bool) → eqb j (length routes) ≡ b → (j ≡ length routes) ⊎ ByLength ok routes j
      go true e = inl (eqb-true j (length routes) e)
      go false e = inr (by_length (rw e at h))

  pub settled_last : settled ok routes (length routes) ≡ true
  unfolding settled
  settled_last = rw (eq-eqb (length routes) (length routes) refl)

  pub settled_by : (j : ℕ) → ByLength ok routes j → settled ok routes j ≡ true
  unfolding settled settled_by_length
  settled_by j b = rw (b.some, eq-eqb _ _ b.meets_floor, le-leb _ _ b.long_enough) (either (eqb j (length routes)))
    where
      either : (b : Bool) → (b || true) ≡ true
      either true = refl
      either false = refl

  -- a step with no pair yet is settled only at N
  pub settled_without : (j : ℕ) → some_at ok routes j ≡ false → (settled ok routes j ≡ true) ↔ (j ≡ length routes)
  settled_without j none = (λ h. go (settled_cases j h), λ e. ap (settled ok routes) e ∙ settled_last)
    where
      go : (j ≡ length routes) ⊎ ByLength ok routes j → j ≡ length routes
      go (inl e) = e
      go (inr b) = absurd (true≢false (sym b.some ∙ none))

  -- J is the least settled step, and at most N
  pub least_settled_lem : 0 < length routes → Least (settled ok routes) 1 (least_settled ok routes)
  unfolding least_settled
  least_settled_lem h = least_from_lem (settled ok routes) (length routes) 1 (length routes) (omega arith) (omega arith) settled_last

  pub least_settled_inside : 0 < length routes → least_settled ok routes ≤ length routes
  least_settled_inside h = go (ltb (length routes) (least_settled ok routes)) refl
    where
      go : (b : Bool) → ltb (length routes) (least_settled ok routes) ≡ b → least_settled ok routes ≤ length routes
      go true e = absurd (true≢false (sym settled_last ∙ (least_settled_lem h).none_before (length routes) (omega arith) (ltb-true _ _ e)))
      go false e = ltb-false _ _ e

  pub least_settled_step : 0 < length routes → Step routes (least_settled ok routes)
  least_settled_step h = record { from_one = (least_settled_lem h).from; to_N = least_settled_inside h }

  -- a pair within the allowance is within the step that is replied: before N a step is settled only with a pair
  pub some_ranked : (a : ℕ) → 0 < length routes → some_at ok routes a ≡ true → some_at ok routes (ranked ok routes a) ≡ true
  unfolding ranked
  some_ranked a h some = go (leb (least_settled ok routes) a) refl (settled_cases (least_settled ok routes) (least_settled_lem h).holds)
    where
      J : ℕ
      J = least_settled ok routes

      at_J : (J ≡ length routes) ⊎ ByLength ok routes J → some_at ok routes J ≡ true
      at_J (inl e) = some_all ok routes J a (omega arith) some
      at_J (inr b) = b.some

      go : (b : Bool) → leb J a ≡ b → (J ≡ length routes) ⊎ ByLength ok routes J → some_at ok routes (min J a) ≡ true
      go true e by = some_more ok routes (omega (arith, leb-true J a e)) (at_J by)
      go false e by = some_more ok routes (omega (arith, leb-false J a e)) some

  module _ (strict : Strict precedes routes) where
    floor_best : (j : ℕ) → some_at ok routes j ≡ true → floor routes ≤ shared_count (best ok routes j)
    floor_best j h = floor_le routes (best_main ok routes j h) (best_in ok routes j h).standby_in_lem

    -- best(j) cannot share less than the floor, its total only falls, and route j only gets longer
    pub by_length_mono : {i j : ℕ} → Step routes i → i ≤ j → j ≤ length routes → ByLength ok routes i → ByLength ok routes j
    by_length_mono {i} {j} s l b p = go (best_mono ok routes p.some l)
      where
        t : some_at ok routes j ≡ true
        t = some_more ok routes l p.some

        go : NoWorse (shared_count (best ok routes j)) (total (best ok routes j)) (shared_count (best ok routes i)) (total (best ok routes i)) → ByLength ok routes j
        go (NoWorse.fewer f) = absurd (omega (arith, floor_best j t, p.meets_floor))
        go (NoWorse.as_many e f) =
            record {
              some = t;
              meets_floor = e ∙ p.meets_floor;
              long_enough = omega (arith, p.long_enough, metres_mono routes strict (i - 1) (j - 1) (omega arith) (omega (arith, s.from_one)));
            }

    -- settled at i stays settled from i on
    pub settled_mono : {i j : ℕ} → Step routes i → i ≤ j → j ≤ length routes → settled ok routes i ≡ true → settled ok routes j ≡ true
    settled_mono {i} {j} s l b h = go (settled_cases i h)
      where
        go : (i ≡ length routes) ⊎ ByLength ok routes i → settled ok routes j ≡ true
        go (inl e) = let same : j ≡ length routes = omega arith in ap (settled ok routes) same ∙ settled_last
        go (inr p) = settled_by j (by_length_mono s l b p)

    -- the main's rank never exceeds the standby's
    pub main_not_after : Even ok → (j : ℕ) → some_at ok routes j ≡ true → precedes (best ok routes j).standby (best ok routes j).main ≡ false
    main_not_after even j some = go (precedes (best ok routes j).standby (best ok routes j).main) refl
      where
        c : Candidate ok routes j (best ok routes j)
        c = best_in ok routes j some

        main : Early no_route (best ok routes j).main routes j
        main = take_place no_route j routes c.main_in_lem

        standby : Place no_route (best ok routes j).standby routes
        standby = mem_place no_route c.standby_in_lem

        -- a standby of smaller rank would be among the first j too
        early : precedes (best ok routes j).standby (best ok routes j).main ≡ true → Memᴰ (best ok routes j).standby (take j routes)
        early e =
            let f : ltb standby.at main.at ≡ true = sym (place_order precedes precedes_weak no_route routes strict standby.at main.at standby.inside main.inside) ∙ rw (← standby.is, ← main.is) e in
            Memᴰ.cast standby.is (get_or_take_mem no_route j routes standby.at (omega (arith, main.early, ltb-true standby.at main.at f)) standby.inside)

        go : (b : Bool) → precedes (best ok routes j).standby (best ok routes j).main ≡ b → precedes (best ok routes j).standby (best ok routes j).main ≡ false
        go false e = e
        go true e = absurd (true≢false (sym (swap_judged (best ok routes j).main (best ok routes j).standby e) ∙ best_least ok routes j (early e) (best_main ok routes j some) (even _ _ ∙ c.passes)))

    -- where a step is settled, no pair of routes that passes is better than its best
    pub settled_no_better : Even ok → {j : ℕ} → Step routes j → settled ok routes j ≡ true → {m s : Route} → Memᴰ m routes → Memᴰ s routes → ok (pair m s) ≡ true
        → NoWorse (shared_count (best ok routes j)) (total (best ok routes j)) (shared_count (pair m s)) (total (pair m s))
    unfolding total
    settled_no_better even {j} step h {m} {s} p q passes = go (settled_cases j h)
      where
        Better : Route → Route → Type 0
        Better a b = NoWorse (shared_count (best ok routes j)) (total (best ok routes j)) (shared_count (pair a b)) (total (pair a b))

        -- with its main among the first j
        early : {a b : Route} (x : Place no_route a routes) → x.at < j → Memᴰ b routes → ok (pair a b) ≡ true → Better a b
        early {a} {b} x l y e = judged_no_worse (best ok routes j) (pair a b) (best_least ok routes j (Memᴰ.cast x.is (get_or_take_mem no_route j routes x.at l x.inside)) y e)

        turned : Better s m → Better m s
        turned (NoWorse.fewer l) = NoWorse.fewer (omega (arith, swap_shared m s))
        turned (NoWorse.as_many e l) = NoWorse.as_many (e ∙ swap_shared s m) (omega (arith, swap_total m s))

        -- with both past j, each is as long as route j
        late : ByLength ok routes j → (x : Place no_route m routes) (y : Place no_route s routes) → j ≤ x.at → j ≤ y.at → (b : Bool) → eqb (floor routes) (shared_count (pair m s)) ≡ b → Better m s
        late b x y u v true e =
            NoWorse.as_many (b.meets_floor ∙ eqb-true _ _ e)
            (omega (arith, b.long_enough, metres_mono routes strict (j - 1) x.at (omega arith) x.inside, metres_mono routes strict (j - 1) y.at (omega arith) y.inside, ap (λ (r : Route). r.metres) x.is, ap (λ (r : Route). r.metres) y.is))
        late b x y u v false e = NoWorse.fewer (omega (arith, b.meets_floor, floor_le routes p q, eqb-false (floor routes) (shared_count (pair m s)) e))

        by : ByLength ok routes j → (x : Place no_route m routes) (y : Place no_route s routes) → (b : Bool) → ltb x.at j ≡ b → (c : Bool) → ltb y.at j ≡ c → Better m s
        by b x y true e c f = early x (ltb-true _ _ e) q passes
        by b x y false e true f = turned (early y (ltb-true _ _ f) p (even s m ∙ passes))
        by b x y false e false f = late b x y (ltb-false _ _ e) (ltb-false _ _ f) (eqb (floor routes) (shared_count (pair m s))) refl

        go : (j ≡ length routes) ⊎ ByLength ok routes j → Better m s
        go (inl e) = let x = mem_place no_route p in early x (omega (arith, x.inside)) q passes
        go (inr b) = let x = mem_place no_route p in let y = mem_place no_route q in by b x y (ltb x.at j) refl (ltb y.at j) refl
