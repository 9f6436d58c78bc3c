-- The arcs that a net says, and what a search over it has left: from one arc of a chain to the next nothing is lost. Assumes nothing.
use mathlib.Core.Path.{◌≡◌, refl, ap}
use mathlib.Core.List.{List, foldl}
use Prim.Native.Nat.{ℕ, zero, suc, ◌+◌, ◌<◌}
use native.Mathlib.Nat.{le_of_suc-le-suc, not-suc-le-zero}
use native.Mathlib.Omega.{arith}
use lib.ListN.{length}
use Rattle.problem.specs.declared.Arc.{Arc}
use Rattle.problem.specs.Routes.{arc_at, grow}
use Rattle.problem.proofs.GrowthLaws.{left_from}
use Rattle.chain.specs.Chain.{Next}
use Rattle.chain.proofs.ChainLaws.{sprout_next}
use Rattle.net.specs.declared.Net.{Net}
use Rattle.net.specs.Net.{arc_in, arcs_from, arcs_in}

length_from : (net : Net) (n k : ℕ) → length (arcs_from net n k) ≡ n
unfolding arcs_from
length_from net zero k = refl
length_from net (suc n) k = ap suc (length_from net n (suc k))

-- as many arcs as are counted
pub arcs_count : (net : Net) → length (arcs_in net) ≡ net.count
unfolding arcs_in
arcs_count net = length_from net net.count 0

from_at : (net : Net) (n k i : ℕ) → i < n → arc_at (arcs_from net n k) i ≡ arc_in net (k + i)
unfolding arcs_from
from_at net zero k i h = absurd (not-suc-le-zero h)
from_at net (suc n) k zero h = let e : k + 0 ≡ k = omega arith in rw e
from_at net (suc n) k (suc i) h = let e : suc k + i ≡ k + suc i = omega arith in rw (← e) (from_at net n (suc k) i (le_of_suc-le-suc h))

-- each by its number
pub arc_is : (net : Net) (k : ℕ) → k < length (arcs_in net) → arc_at (arcs_in net) k ≡ arc_in net k
unfolding arcs_in
arc_is net k h = let e : 0 + k ≡ k = omega arith in rw e at (from_at net net.count 0 k (omega (arith, arcs_count net)))

-- from one arc of the chain to the next
pub left_next : {S : Type 0} (arcs : List Arc) (terminal : ℕ) (visit : S → List ℕ → S) (n met at i j : ℕ) (s : S) → Next arcs at i j
    → left_from arcs terminal visit n met at i s ≡ left_from arcs terminal visit n met at j s
unfolding left_from
left_next arcs terminal visit n met at i j s e = ap (foldl visit s) (sprout_next (grow arcs terminal n) met at arcs i j e)
