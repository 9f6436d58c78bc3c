-- Candidates: the pairs that pass a test, with their mains among the first of the ranking; whether there are any, and the best of them. Assumes nothing.
use mathlib.Core.Path.{◌≡◌, refl, sym, ◌∙◌}
use mathlib.Core.Bool.{Bool, true, false, not, true≢false, false≢true}
use mathlib.Core.Logic.{◌↔◌}
use mathlib.Core.List.Memᴰ
use mathlib.Core.List.{List, [], ◌∷◌, Memᴰ}
use Prim.Native.Nat.{ℕ, ◌≤◌}
use native.Mathlib.Omega.{arith}
use lib.Dec.{eqb}
use lib.ListN.{length, take}
use borrow.Author.Tests.{ne_eqb}
use Rattle.laws.proofs.ListLaws.{mem_place, get_or_mem, get_or_take_mem, take_more, take_mem, keep_in, keep_out}
use Rattle.laws.proofs.FirstLaws.{first_mem, first_least}
use Rattle.problem.specs.Routes.{Route}
use Rattle.problem.specs.Pairs.{Pair, pair, shared_count, total, judged, NoWorse, pairs_of, no_route, Step, every, candidates, some_at, best}
use Rattle.problem.proofs.PairLaws.{pairs_in, pairs_out, judged_weak, judged_no_worse}

-- the test does not ask which of the two is the main
abbrev pub Even : (Pair → Bool) → Type 0
Even ok = (m s : Route) → ok (pair m s) ≡ ok (pair s m)

module _ (ok : Pair → Bool) (routes : List Route) where
  -- ---- who is among them

  pub candidate_in : (j : ℕ) {m s : Route} → Memᴰ m (take j routes) → Memᴰ s routes → ok (pair m s) ≡ true → Memᴰ (pair m s) (candidates ok routes j)
  unfolding candidates
  candidate_in j x y e = keep_in ok (pairs_of (take j routes) routes) (pairs_in x y) e

  pub record Candidate (j : ℕ) (p : Pair) : Type 0 where
    pub main_in_lem : Memᴰ p.main (take j routes)
    pub standby_in_lem : Memᴰ p.standby routes
    pub passes : ok p ≡ true

  candidate_out : (j : ℕ) {p : Pair} → Memᴰ p (candidates ok routes j) → Candidate j p
  unfolding candidates
  candidate_out j m =
      let o = keep_out ok (pairs_of (take j routes) routes) m in
      let q = pairs_out (take j routes) routes o.0 in
      record { main_in_lem = q.0; standby_in_lem = q.1; passes = o.1 }

  -- ---- some, or none

  some_by : (j : ℕ) {p : Pair} → Memᴰ p (candidates ok routes j) → some_at ok routes j ≡ true
  unfolding some_at
  some_by j m = rw (ne_eqb (length (candidates ok routes j)) 0 (λ e. empty (candidates ok routes j) m e))
    where
      empty : (l : List Pair) {p : Pair} → Memᴰ p l → length l ≡ 0 → ⊥
      empty [] m e = Memᴰ.not-nil m
      empty (a ∷ l) m e = omega arith

  some_is : (j : ℕ) → some_at ok routes j ≡ true → (p : Pair) × Memᴰ p (candidates ok routes j)
  unfolding some_at
  some_is j h = go (candidates ok routes j) h
    where
      go : (l : List Pair) → not (eqb (length l) 0) ≡ true → (p : Pair) × Memᴰ p l
      go [] e = absurd (false≢true e)
      go (a ∷ l) e = (a, Memᴰ.head refl)

  -- a pair that passes makes some
  pub some_with : (j : ℕ) {m s : Route} → Memᴰ m (take j routes) → Memᴰ s routes → ok (pair m s) ≡ true → some_at ok routes j ≡ true
  some_with j x y e = some_by j (candidate_in j x y e)

  -- ---- the best of them

  -- no candidate precedes best(j)
  pub best_least : (j : ℕ) {m s : Route} → Memᴰ m (take j routes) → Memᴰ s routes → ok (pair m s) ≡ true → judged (pair m s) (best ok routes j) ≡ false
  unfolding best
  best_least j x y e = first_least judged judged_weak (pair no_route no_route) (candidate_in j x y e)

  -- best(j) is one of them
  pub best_in : (j : ℕ) → some_at ok routes j ≡ true → Candidate j (best ok routes j)
  unfolding best
  best_in j h = candidate_out j (first_mem judged (pair no_route no_route) (some_is j h).1)

  pub best_main : (j : ℕ) → some_at ok routes j ≡ true → Memᴰ (best ok routes j).main routes
  best_main j h = take_mem no_route j (best_in j h).main_in_lem

  pub some_more : {i j : ℕ} → i ≤ j → some_at ok routes i ≡ true → some_at ok routes j ≡ true
  some_more {i} {j} l h = let c = best_in i h in some_with j (take_more no_route routes l c.main_in_lem) c.standby_in_lem c.passes

  -- from N on every route is a main, so there are no more
  pub some_among : (i : ℕ) → length routes ≤ i → {m s : Route} → Memᴰ m routes → Memᴰ s routes → ok (pair m s) ≡ true → some_at ok routes i ≡ true
  some_among i l x y e = let p = mem_place no_route x in some_with i (Memᴰ.cast p.is (get_or_take_mem no_route i routes p.at (omega (arith, p.inside)) p.inside)) y e

  pub some_all : (i j : ℕ) → length routes ≤ i → some_at ok routes j ≡ true → some_at ok routes i ≡ true
  some_all i j l h = let c = best_in j h in some_among i l (best_main j h) c.standby_in_lem c.passes

  -- there is none exactly where no pair with its main among the first j passes
  pub none_passes : (j : ℕ) → (some_at ok routes j ≡ false) ↔ ((m s : Route) → Memᴰ m (take j routes) → Memᴰ s routes → ok (pair m s) ≡ true → ⊥)
  none_passes j = (λ none m s x y e. true≢false (sym (some_with j x y e) ∙ none), λ f. go f (some_at ok routes j) refl)
    where
      go : ((m s : Route) → Memᴰ m (take j routes) → Memᴰ s routes → ok (pair m s) ≡ true → ⊥) → (b : Bool) → some_at ok routes j ≡ b → some_at ok routes j ≡ false
      go f true e = let c = best_in j e in absurd (f (best ok routes j).main (best ok routes j).standby c.main_in_lem c.standby_in_lem c.passes)
      go f false e = e

  -- with more mains the best pair is no worse
  pub best_mono : {i j : ℕ} → some_at ok routes i ≡ true → i ≤ j
      → NoWorse (shared_count (best ok routes j)) (total (best ok routes j)) (shared_count (best ok routes i)) (total (best ok routes i))
  best_mono {i} {j} h l =
      let c = best_in i h in
      judged_no_worse (best ok routes j) (best ok routes i) (best_least j (take_more no_route routes l c.main_in_lem) c.standby_in_lem c.passes)

-- ---- every pair: the test does not ask, and there is always one

pub every_even : Even every
every_even m s = refl

pub every_some : (routes : List Route) {j : ℕ} → Step routes j → some_at every routes j ≡ true
every_some routes {j} s = some_with every routes j (get_or_take_mem no_route j routes 0 s.from_one (omega (arith, s.from_one, s.to_N))) (get_or_mem no_route routes 0 (omega (arith, s.from_one, s.to_N))) refl
