-- A pair's key: shared count, total and the main's length as one number, the least of which is the best pair's;
-- of the pairs with that key, ranks decide. Assumes nothing.
use mathlib.Core.Path.{◌≡◌, refl, sym, ap, ap₂, ◌∙◌}
use mathlib.Core.Logic.{◌⊎◌, inl, inr}
use mathlib.Core.Bool.{Bool, true, false, ◌||◌, ◌&&◌, not, true≢false}
use mathlib.Core.List.Memᴰ
use mathlib.Core.List.{List, [], ◌∷◌, Memᴰ}
use Prim.Native.Nat.{ℕ, ◌+◌, ◌^◌, ◌≤◌, ◌<◌}
use native.Mathlib.Omega.{arith}
use lib.Dec.{ltb}
use lib.ListN.{take}
use borrow.Author.Tests.{ltb-true, ltb-false, lt-ltb, le-ltb}
use Rattle.laws.specs.Choosing.{lex_by}
use Rattle.laws.proofs.ListLaws.{mem_place, take_place, get_or_take_mem}
use Rattle.laws.proofs.OrderLaws.{lex_false, lex_eq}
use Rattle.laws.proofs.SortLaws.{Strict}
use Rattle.problem.specs.Table.{hazards, most_reach}
use Rattle.problem.specs.Routes.{Mesh, Route, route_of, rank_key, precedes, ranking}
use Rattle.problem.specs.Pairs.{Pair, pair, shared_count, total, judge_key, judged, NoWorse, no_route, some_at, best}
use Rattle.problem.proofs.ExposureLaws.{sharing_le}
use Rattle.problem.proofs.RankingLaws.{key_total, ranking_out}
use Rattle.problem.proofs.PairLaws.{judged_no_worse}
use Rattle.problem.proofs.CandidateLaws.{Candidate, some_with, best_least, best_in, best_main}
use Rattle.keys.specs.Keys.{pair_key, key_of, shared_of, total_of, main_of, no_key}
use Rattle.problem.proofs.WindowLaws.{not_precedes_metres, judged_ahead, place_le, route_unique}

-- ---- the key says the three numbers, and compares as they do

module _ (shared total metres : ℕ) (t : total < 2 ^ 27) (m : metres < 2 ^ 26) where
  pair_key_shared : shared_of (pair_key shared total metres) ≡ shared
  unfolding shared_of pair_key
  pair_key_shared = omega arith

  pair_key_total : total_of (pair_key shared total metres) ≡ total
  unfolding total_of pair_key
  pair_key_total = omega arith

  pair_key_main : main_of (pair_key shared total metres) ≡ metres
  unfolding main_of pair_key
  pair_key_main = omega arith

  module _ (shared' total' metres' : ℕ) (t' : total' < 2 ^ 27) (m' : metres' < 2 ^ 26) where
    pub pair_key_unique : pair_key shared total metres ≡ pair_key shared' total' metres' → (shared ≡ shared') × (total ≡ total') × (metres ≡ metres')
    unfolding pair_key
    pair_key_unique e = (omega arith, omega arith, omega arith)

    pub pair_key_order : ltb (pair_key shared total metres) (pair_key shared' total' metres') ≡ lex_by ltb (shared ∷ total ∷ metres ∷ []) (shared' ∷ total' ∷ metres' ∷ [])
    unfolding pair_key lex_by
    pair_key_order = go (ltb shared shared') refl (ltb shared' shared) refl (ltb total total') refl (ltb total' total) refl (ltb metres metres') refl (ltb metres' metres) refl
      where
        key : ℕ
        key = pair_key shared total metres

        key' : ℕ
        key' = pair_key shared' total' metres'

        go : (a : Bool) → ltb shared shared' ≡ a → (b : Bool) → ltb shared' shared ≡ b → (c : Bool) → ltb total total' ≡ c → (d : Bool) → ltb total' total ≡ d
            → (x : Bool) → ltb metres metres' ≡ x → (y : Bool) → ltb metres' metres ≡ y → ltb key key' ≡ (a || (not b && (c || (not d && (x || (not y && false))))))
        go true p b q c r d u x v y w = lt-ltb key key' (omega (arith, ltb-true, ltb-false))
        go false p true q c r d u x v y w = le-ltb key key' (omega (arith, ltb-true, ltb-false))
        go false p false q true r d u x v y w = lt-ltb key key' (omega (arith, ltb-true, ltb-false))
        go false p false q false r true u x v y w = le-ltb key key' (omega (arith, ltb-true, ltb-false))
        go false p false q false r false u true v y w = lt-ltb key key' (omega (arith, ltb-true, ltb-false))
        go false p false q false r false u false v true w = le-ltb key key' (omega (arith, ltb-true, ltb-false))
        go false p false q false r false u false v false w = le-ltb key key' (omega (arith, ltb-true, ltb-false))

-- of two routes that are no longer than the largest reach
pub pair_key_parts : (shared main standby : ℕ) → main ≤ most_reach → standby ≤ most_reach
    → let key = pair_key shared (main + standby) main in (shared_of key ≡ shared) × (total_of key ≡ main + standby) × (main_of key ≡ main)
pair_key_parts shared main standby m s =
    (pair_key_shared shared (main + standby) main (omega arith) (omega arith), pair_key_total shared (main + standby) main (omega arith) (omega arith), pair_key_main shared (main + standby) main (omega arith) (omega arith))

-- ---- the key of a pair

-- no route is longer than the largest reach
abbrev pub InReach : List Route → Type 0
InReach routes = (r : Route) → Memᴰ r routes → r.metres ≤ most_reach

pub ranking_in_reach : (m : Mesh) → m.reach ≤ most_reach → InReach (ranking m)
unfolding route_of
ranking_in_reach m h r x =
    let l = ranking_out m x in
    omega (arith, l.route.within_reach, ap (λ (s : Route). s.metres) l.is)

-- a pair's total and its main's length have their places in the key
pub record Fits (p : Pair) : Type 0 where
  pub total_fits : total p < 2 ^ 27
  pub main_fits : p.main.metres < 2 ^ 26

pub key_of_unique : (p q : Pair) → Fits p → Fits q → key_of p ≡ key_of q → (shared_count p ≡ shared_count q) × (total p ≡ total q) × (p.main.metres ≡ q.main.metres)
unfolding key_of
key_of_unique p q f g e = pair_key_unique _ _ _ f.total_fits f.main_fits _ _ _ g.total_fits g.main_fits e

-- its key says a pair's shared count and its total
module _ (p : Pair) (f : Fits p) where
  pub key_of_shared : shared_of (key_of p) ≡ shared_count p
  unfolding key_of
  key_of_shared = pair_key_shared _ _ _ f.total_fits f.main_fits

  pub key_of_total : total_of (key_of p) ≡ total p
  unfolding key_of
  key_of_total = pair_key_total _ _ _ f.total_fits f.main_fits

-- noKey is more than the key of any pair, and says more shared than a pair can
pub key_of_below : (p : Pair) → Fits p → key_of p < no_key
unfolding key_of pair_key shared_count
key_of_below p f = omega (arith, f.total_fits, f.main_fits, sharing_le p.main.exposure p.standby.exposure)

pub no_key_shared : hazards < shared_of no_key
unfolding shared_of
no_key_shared = omega arith

-- a pair that the other is not judged before has no larger key
pub judged_key_of : (p q : Pair) → Fits p → judged q p ≡ false → key_of p ≤ key_of q
unfolding key_of pair_key
judged_key_of p q f h = go (judged_no_worse p q h)
  where
    by_main : shared_count p ≡ shared_count q → total q ≤ total p → (b : Bool) → precedes q.main p.main ≡ b → p.main.metres ≤ q.main.metres
    by_main e l true g = absurd (true≢false (sym (judged_ahead q p (sym e) l g) ∙ h))
    by_main e l false g = not_precedes_metres p.main q.main g

    go : NoWorse (shared_count p) (total p) (shared_count q) (total q) → key_of p ≤ key_of q
    go (NoWorse.fewer l) = omega (arith, f.total_fits, f.main_fits)
    go (NoWorse.as_many e l) =
        let no : key_of q < key_of p → ⊥ = λ k. omega (arith, by_main e (omega (arith, f.main_fits)) (precedes q.main p.main) refl) in
        omega arith

-- ---- the best pair by its key

-- of the candidates with the key of m and s, no main precedes m, and no standby of m precedes s
pub record Chosen (ok : Pair → Bool) (routes : List Route) (m s : Route) : Type 0 where
  pub main_in_lem : Memᴰ m routes
  pub standby_in_lem : Memᴰ s routes
  pub passes : ok (pair m s) ≡ true
  pub main_first : (m' s' : Route) → Memᴰ m' routes → Memᴰ s' routes → ok (pair m' s') ≡ true → m'.metres ≡ m.metres → key_of (pair m' s') ≡ key_of (pair m s) → precedes m' m ≡ false
  pub standby_first : (s' : Route) → Memᴰ s' routes → ok (pair m s') ≡ true → s'.metres ≡ s.metres → key_of (pair m s') ≡ key_of (pair m s) → precedes s' s ≡ false

pub pair_fits : (routes : List Route) → InReach routes → {m s : Route} → Memᴰ m routes → Memᴰ s routes → Fits (pair m s)
unfolding total
pair_fits routes low {m} {s} x y = record { total_fits = omega (arith, low m x, low s y); main_fits = omega (arith, low m x) }

module _ (ok : Pair → Bool) (routes : List Route) (low : InReach routes) where
  pub best_key_least : (j : ℕ) {m s : Route} → Memᴰ m (take j routes) → Memᴰ s routes → ok (pair m s) ≡ true → key_of (best ok routes j) ≤ key_of (pair m s)
  best_key_least j {m} {s} x y e =
      let some = some_with ok routes j x y e in
      judged_key_of (best ok routes j) (pair m s) (pair_fits routes low (best_main ok routes j some) (best_in ok routes j some).standby_in_lem) (best_least ok routes j x y e)

  -- of the candidates with the key of best(j), the first by main and then by standby is best(j)
  pub best_by_key : Strict precedes routes → (j : ℕ) → some_at ok routes j ≡ true → {m s : Route} → Chosen ok routes m s → key_of (pair m s) ≡ key_of (best ok routes j) → best ok routes j ≡ pair m s
  unfolding judged judge_key precedes total
  best_by_key strict j some {m} {s} c e = by_main (lex_false (lex_by ltb) key_total (rank_key m) (rank_key s ∷ []) (rank_key p.main) (rank_key p.standby ∷ []) behind)
    where
      p : Pair
      p = best ok routes j

      b : Candidate ok routes j (best ok routes j)
      b = best_in ok routes j some

      main_in_lem : Memᴰ p.main routes
      main_in_lem = best_main ok routes j some

      same : (shared_count (pair m s) ≡ shared_count p) × (total (pair m s) ≡ total p) × (m.metres ≡ p.main.metres)
      same = key_of_unique (pair m s) p (pair_fits routes low c.main_in_lem c.standby_in_lem) (pair_fits routes low main_in_lem b.standby_in_lem) e

      not_before : precedes p.main m ≡ false
      not_before = c.main_first p.main p.standby main_in_lem b.standby_in_lem b.passes (sym same.2) (sym e)

      early : Memᴰ m (take j routes)
      early =
          let x = mem_place no_route c.main_in_lem in
          let y = take_place no_route j routes b.main_in_lem in
          let l : x.at ≤ y.at = place_le routes strict x (record { at = y.at; inside = y.inside; is = y.is }) not_before in
          Memᴰ.cast x.is (get_or_take_mem no_route j routes x.at (omega (arith, y.early)) x.inside)

      -- so it is by the ranks of main and standby that best(j) is judged no later
      behind : lex_by (lex_by ltb) (rank_key m ∷ rank_key s ∷ []) (rank_key p.main ∷ rank_key p.standby ∷ []) ≡ false
      behind =
          sym (lex_eq (lex_by ltb) key_total (shared_count (pair m s) ∷ total (pair m s) ∷ []) _ (shared_count p ∷ total p ∷ []) _ (ap₂ (λ (a b : ℕ). a ∷ b ∷ []) same.0 same.1))
          ∙ best_least ok routes j early c.standby_in_lem c.passes

      by_standby : m ≡ p.main → (lex_by ltb (rank_key p.standby) (rank_key s) ≡ true) ⊎ ((rank_key s ≡ rank_key p.standby) × (lex_by (lex_by ltb) [] [] ≡ false)) → p ≡ pair m s
      by_standby f (inl g) =
          absurd (true≢false (sym g ∙ c.standby_first p.standby b.standby_in_lem (ap (λ (r : Route). ok (pair r p.standby)) f ∙ b.passes) (omega (arith, same.1, same.2)) (ap (λ (r : Route). key_of (pair r p.standby)) f ∙ sym e)))
      by_standby f (inr g) = sym (ap₂ pair f (route_unique routes strict c.standby_in_lem b.standby_in_lem g.0))

      by_main : (lex_by ltb (rank_key p.main) (rank_key m) ≡ true)
          ⊎ ((rank_key m ≡ rank_key p.main) × (lex_by (lex_by ltb) (rank_key s ∷ []) (rank_key p.standby ∷ []) ≡ false)) → p ≡ pair m s
      by_main (inl g) = absurd (true≢false (sym g ∙ not_before))
      by_main (inr g) = by_standby (route_unique routes strict c.main_in_lem main_in_lem g.0) (lex_false (lex_by ltb) key_total (rank_key s) [] (rank_key p.standby) [] g.1)
