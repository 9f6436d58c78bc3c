-- The key of a standby, and that better standbys make better pairs: the order of standby keys is that of the pairs they make with one main. Assumes nothing.
use mathlib.Core.Path.{◌≡◌, refl}
use mathlib.Core.Logic.{◌↔◌}
use mathlib.Core.Bool.{Bool, true, false}
use Prim.Native.Nat.{ℕ, ◌+◌, ◌*◌, ◌-◌, ◌/◌, ◌%◌, ◌^◌, ◌≤◌, ◌<◌}
use native.Mathlib.Omega.{arith}
use lib.Dec.{ltb}
use borrow.Author.Tests.{ltb-true, ltb-false, lt-ltb}
use Rattle.problem.specs.Table.{hazards, most_reach}
use Rattle.keys.specs.Keys.{standby_key, OfStandby, no_standby, raised, pair_key, shared_of, total_of, main_of, bound_for, pair_of}

-- more shared and more metres make no smaller key
pub standby_key_mono : {n n' m m' : ℕ} → n ≤ n' → m ≤ m' → standby_key n m ≤ standby_key n' m'
unfolding standby_key
standby_key_mono h l = omega arith

-- what is raised is no smaller
pub raised_more : (bound metres : ℕ) → bound ≤ raised bound metres
unfolding standby_key raised
raised_more bound metres = omega arith

-- the shared count and the metres of a standby's key are in their ranges
pub standby_parts : {key : ℕ} → OfStandby key → (key / 2 ^ 32 ≤ hazards) × (key % 2 ^ 32 ≤ most_reach)
unfolding standby_key
standby_parts {key} o =
    let q : key / 4294967296 ≡ o.shared = omega (arith, o.is, o.metres_range) in
    let r : key % 4294967296 ≡ o.metres = omega (arith, o.is, o.metres_range) in
    (omega (arith, o.shared_range), omega (arith, o.metres_range))

pub standby_below : {key : ℕ} → OfStandby key → key < no_standby
unfolding standby_key
standby_below o = omega (arith, o.is, o.shared_range, o.metres_range)

-- one more than a pair's key asks of a standby one more than the pair's own standby has
pub bound_next : (n x y : ℕ) → x ≤ most_reach → y ≤ most_reach → bound_for (pair_key n (x + y) x + 1) x ≡ standby_key n y + 1
unfolding bound_for shared_of total_of main_of pair_key standby_key
bound_next n x y xs ys =
    let m : ((n * 134217728 + (x + y)) * 67108864 + x + 1) % 67108864 ≡ x + 1 = omega arith in
    let q : ((n * 134217728 + (x + y)) * 67108864 + x + 1) / 67108864 ≡ n * 134217728 + (x + y) = omega arith in
    let sh : (n * 134217728 + (x + y)) / 134217728 ≡ n = omega arith in
    let su : (n * 134217728 + (x + y)) % 134217728 ≡ x + y = omega arith in
    rw (m, q, lt-ltb x (x + 1) (omega arith), sh, su) (omega arith)

module _ (x n m : ℕ) (xs : x ≤ most_reach) (ms : m ≤ most_reach) where
  pub pair_of_key : pair_of x (standby_key n m) ≡ pair_key n (x + m) x
  unfolding pair_of standby_key
  pair_of_key =
      let a : (n * 4294967296 + m) / 4294967296 ≡ n = omega arith in
      let b : (n * 4294967296 + m) % 4294967296 ≡ m = omega arith in
      rw (a, b)

  -- against a pair of S shared, T in total and a main of M metres: with as many shared, a total below `top` wins
  against : (S T M top : ℕ) → T < 2 ^ 27 → M < 2 ^ 26 → top ≤ T + 1 → (x + m < top) ↔ ((x + m) * 2 ^ 26 + x < T * 2 ^ 26 + M)
      → (standby_key n m < standby_key S (top - x)) ↔ (pair_key n (x + m) x < pair_key S T M)
  unfolding standby_key pair_key
  against S T M top ts mm small less = (λ l. to (ltb n S) refl l, λ l. from (ltb n S) refl l)
    where
      to : (b : Bool) → ltb n S ≡ b → n * 4294967296 + m < S * 4294967296 + (top - x) → (n * 134217728 + (x + m)) * 67108864 + x < (S * 134217728 + T) * 67108864 + M
      to true e l = let h = ltb-true n S e in omega arith
      to false e l =
          let h = ltb-false n S e in
          let same : n ≡ S = omega arith in
          let won : x + m < top = omega arith in
          omega (arith, same, less.0 won)

      from : (b : Bool) → ltb n S ≡ b → (n * 134217728 + (x + m)) * 67108864 + x < (S * 134217728 + T) * 67108864 + M → n * 4294967296 + m < S * 4294967296 + (top - x)
      from true e l = let h = ltb-true n S e in omega arith
      from false e l =
          let h = ltb-false n S e in
          let same : n ≡ S = omega arith in
          let won : x + m < top = less.1 (omega arith) in
          omega (arith, same, won)

  -- below the bound exactly where the pair is better than the best
  pub bound_better : (best : ℕ) → (standby_key n m < bound_for best x) ↔ (pair_key n (x + m) x < best)
  unfolding bound_for shared_of total_of main_of pair_key
  bound_better best = go (ltb x (main_of best)) refl
    where
      shared : ℕ
      shared = shared_of best

      sum : ℕ
      sum = total_of best

      main : ℕ
      main = main_of best

      parts : pair_key shared sum main ≡ best
      parts = omega arith

      go : (b : Bool) → ltb x (main_of best) ≡ b → (standby_key n m < bound_for best x) ↔ (pair_key n (x + m) x < best)
      go true e =
          let h = ltb-true x (main_of best) e in
          rw (e, bound_for) (rw parts at (against shared sum main (sum + 1) (omega arith) (omega arith) (omega arith) (λ l. omega arith, λ l. omega arith)))
      go false e =
          let h = ltb-false x (main_of best) e in
          rw (e, bound_for) (rw parts at (against shared sum main sum (omega arith) (omega arith) (omega arith) (λ l. omega arith, λ l. omega arith)))

  -- two standbys of one main compare as the pairs that they make
  pub pairs_better : (n' m' : ℕ) → m' ≤ most_reach → (standby_key n' m' < standby_key n m) ↔ (pair_key n' (x + m') x < pair_key n (x + m) x)
  unfolding standby_key pair_key
  pairs_better n' m' h = (λ l. omega arith, λ l. omega arith)
