-- The chain is invisible to what is found: arcs of another tail do not open, so passing over them leaves `sprout` the same. Assumes nothing.
use Prim.Native.Nat.{ℕ, zero, suc, ◌+◌, ◌-◌, ◌≤◌, ◌<◌}
use mathlib.Core.List.{List, []}
use mathlib.Core.Path.{◌≡◌, ap, ◌∙◌}
use native.Mathlib.Omega.{arith}
use lib.ListN.{length, drop}
use lib.Seq.{drop-cons}
use Rattle.problem.specs.declared.Arc.{Arc}
use Rattle.problem.specs.Routes.{arc_at, sprout}
use Rattle.problem.proofs.RouteLaws.{sprout_other}
use Rattle.chain.specs.Chain.{Next}

module _ (rest : ℕ → ℕ → List (List ℕ)) (met at : ℕ) where
  module _ (arcs : List Arc) where
    -- the d arcs from k on have another tail
    past : (d k : ℕ) → k + d ≤ length arcs → ((i : ℕ) → k ≤ i → i < k + d → (arc_at arcs i).tail ≡ at → ⊥)
        → sprout rest met at k (drop k arcs) ≡ sprout rest met at (k + d) (drop (k + d) arcs)
    past zero k h other = let e : k + 0 ≡ k = omega arith in rw e
    past (suc d) k h other =
        let e : suc k + d ≡ k + suc d = omega arith in
        rw (drop-cons arcs k (arc_at [] 0) (omega arith))
        (sprout_other rest met at k (arc_at arcs k) (drop (suc k) arcs) (other k (omega arith) (omega arith))
        ∙ past d (suc k) (omega arith) (λ i x y. other i (omega arith) (omega arith))
        ∙ ap (λ (j : ℕ). sprout rest met at j (drop j arcs)) e)

    pub sprout_past : (k j : ℕ) → k ≤ j → j ≤ length arcs → ((i : ℕ) → k ≤ i → i < j → (arc_at arcs i).tail ≡ at → ⊥)
        → sprout rest met at k (drop k arcs) ≡ sprout rest met at j (drop j arcs)
    sprout_past k j from to other =
        let e : k + (j - k) ≡ j = omega arith in
        past (j - k) k (omega arith) (λ i x y. other i x (omega arith)) ∙ ap (λ (i : ℕ). sprout rest met at i (drop i arcs)) e

    -- from one arc of the chain to the next
    pub sprout_next : (k j : ℕ) → Next arcs at k j → sprout rest met at k (drop k arcs) ≡ sprout rest met at j (drop j arcs)
    sprout_next k j n = sprout_past k j n.from n.to n.skipped
