-- The nearest of some nodes, looked for from the lowest on. Assumes nothing.
use mathlib.Core.Path.{◌≡◌, ap, ◌∙◌}
use mathlib.Core.List.{List}
use Prim.Native.Nat.{ℕ, ◌-◌, ◌≤◌, ◌<◌}
use native.Mathlib.Decide.{ℕ_discrete}
use native.Mathlib.Omega.{arith}
use lib.Bits.{bit_and}
use Rattle.laws.specs.Sets.{bit, Lowest}
use Rattle.laws.proofs.SetLaws.{bit_and_lem, bit_empty, bit_le_one, bit_but_lowest}
use Rattle.side.specs.declared.Distance.{Distance}
use Rattle.side.specs.Side.{metres_at}
use Rattle.side.specs.Relaxing.{Nearest}

-- best is the nearest of those that are not left in `rest`
pub record Passed (entries : List Distance) (among best rest : ℕ) : Type 0 where
  pub is_member : bit among best ≡ 1
  pub within : (u : ℕ) → bit rest u ≤ bit among u
  pub least : (u : ℕ) → bit among u ≡ 1 → bit rest u ≡ 0 → metres_at entries best ≤ metres_at entries u

module _ (entries : List Distance) (among : ℕ) where
  -- the lowest of the rest is passed: the next best is no farther than it and the best
  passed_more : (best rest v next : ℕ) → Passed entries among best rest → Lowest rest v → bit among next ≡ 1 → metres_at entries next ≤ metres_at entries best
      → metres_at entries next ≤ metres_at entries v → Passed entries among next (bit_and rest (rest - 1))
  passed_more best rest v next p low is_member by-best by-v = record {
    is_member = is_member;
    within = λ u. omega (arith, bit_and_lem rest (rest - 1) u, p.within u);
    least = λ u one passed. at u one passed (ℕ_discrete u v);
  }
    where
      at : (u : ℕ) → bit among u ≡ 1 → bit (bit_and rest (rest - 1)) u ≡ 0 → Dec (u ≡ v) → metres_at entries next ≤ metres_at entries u
      at u one passed (yes e) = omega (arith, ap (metres_at entries) e)
      at u one passed (no n) = omega (arith, p.least u one (omega (arith, bit_but_lowest rest v u low n)))

  pub passed_first : (v : ℕ) → Lowest among v → Passed entries among v (bit_and among (among - 1))
  passed_first v low =
      passed_more v among v v (record { is_member = low.is_member; within = λ u. omega arith; least = λ u one none. absurd (omega arith) }) low low.is_member (omega arith) (omega arith)

  module _ (best rest v : ℕ) (p : Passed entries among best rest) (low : Lowest rest v) where
    pub rest_in : bit among v ≡ 1
    rest_in = omega (arith, low.is_member, p.within v, bit_le_one among v)

    pub passed_nearer : metres_at entries v < metres_at entries best → Passed entries among v (bit_and rest (rest - 1))
    passed_nearer l = passed_more best rest v v p low rest_in (omega arith) (omega arith)

    pub passed_kept : metres_at entries best ≤ metres_at entries v → Passed entries among best (bit_and rest (rest - 1))
    passed_kept l = passed_more best rest v best p low p.is_member (omega arith) l

  pub passed_all : (best rest : ℕ) → rest ≡ 0 → Passed entries among best rest → Nearest entries among best
  passed_all best rest none p = record { is_member = p.is_member; least = λ u one. p.least u one (ap (λ (s : ℕ). bit s u) none ∙ bit_empty u) }
