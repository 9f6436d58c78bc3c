-- A set of nodes or of risks is a number: r is in it where its bit r is 1. Assumes nothing.
use Rattle.std.specs.Prelude.{ℕ, zero, suc, ◌+◌, ◌-◌, ◌/◌, ◌%◌, ◌^◌, ◌≤◌, ◌&&◌, List, [], ◌∷◌, ◌≡◌, eqb}
use Rattle.std.specs.Int.Bits.{bit_and, bit_or}
use Rattle.laws.specs.Choosing.{keep}

-- 1 where r is in the set, else 0
unfoldable pub bit : ℕ → ℕ → ℕ
bit set r = set / 2 ^ r % 2

-- the set and r
unfoldable pub with : ℕ → ℕ → ℕ
with set r = bit_or set (2 ^ r)

-- the set but for what is in another
unfoldable pub without : ℕ → ℕ → ℕ
without set other = set - bit_and set other

-- r is the lowest of the set
pub record Lowest (set r : ℕ) : Type 0 where
  pub is_member : bit set r ≡ 1
  pub least : (k : ℕ) → bit set k ≡ 1 → r ≤ k

-- how many of 0 to n - 1 are not in the set
unfoldable pub unmet : ℕ → ℕ → ℕ
unmet zero set = 0
unmet (suc n) set = (1 - bit set n) + unmet n set

-- the numbers below n, the highest first
unfoldable pub below : ℕ → List ℕ
below zero = []
below (suc n) = n ∷ below n

-- those of them that are in both sets
unfoldable pub in_both : ℕ → ℕ → ℕ → List ℕ
in_both n a b = keep (λ r. eqb (bit a r) 1 && eqb (bit b r) 1) (below n)
