-- What is left once risks are cleared or asked about: it holds every risk of every way, and of those decided no other; at the end it is `on_every`.
-- Assumes nothing.
use mathlib.Core.Path.{◌≡◌, refl, ◌∙◌}
use Prim.Native.Nat.{ℕ, zero, suc, ◌+◌, ◌≤◌, ◌<◌}
use native.Mathlib.Omega.{arith}
use borrow.Author.Count.{below_more}
use Rattle.problem.specs.declared.Exposure.{Exposure}
use Rattle.problem.specs.Table.{last_node, hazards}
use Rattle.problem.specs.Exposures.{exposed, to_all}
use Rattle.problem.specs.Routes.{Mesh, ranking}
use Rattle.problem.specs.Pairs.{on_every}
use Rattle.problem.proofs.ExposureLaws.{exposed_le_one, exposed_all, Inside, inside_all_ext}
use Rattle.problem.proofs.PathLaws.{LowHeads}
use Rattle.problem.proofs.PairLaws.{every_inside_all}
use Rattle.problem.proofs.WayLaws.{every_ways}
use Rattle.floor.specs.Floor.{OnEveryWay, Narrowed, Asked}

same_digit : (x y : ℕ) → x ≤ 1 → y ≤ 1 → (x ≡ 1 → y ≡ 1) → (y ≡ 1 → x ≡ 1) → x ≡ y
same_digit zero zero h k f g = refl
same_digit zero (suc y) h k f g = g (omega arith) ∙ omega arith
same_digit (suc x) y h k f g = omega (arith, f (omega arith))

module _ (m : Mesh) where
  -- once the risks below r are asked about
  pub record Left (left : Exposure) (r : ℕ) : Type 0 where
    pub within : Inside left to_all
    pub kept : (b : ℕ) → b < hazards → OnEveryWay m b → exposed left b ≡ 1
    pub decided : (b : ℕ) → b < r → exposed left b ≡ 1 → OnEveryWay m b

  -- at first, all that there is
  pub left_start : (all first : Exposure) → all ≡ to_all → Narrowed m all first → Left first 0
  left_start all first e n =
      let from : Narrowed m to_all first = rw e at n in
      record { within = from.fewer; kept = λ b h o. from.kept b h o (exposed_all b h); decided = λ b h. absurd (omega arith) }

  -- where all of it is known to lie on every way, nothing is left to ask
  pub left_sure : (left : Exposure) → Left left 0 → ((b : ℕ) → exposed left b ≡ 1 → OnEveryWay m b) → Left left hazards
  left_sure left s f = record { within = s.within; kept = s.kept; decided = λ b h. f b }

  pub left_on : (left : Exposure) (r : ℕ) (after : Exposure) → Left left r → Asked m left r after → Left after (r + 1)
  left_on left r after s a = record {
    within = λ b. omega (arith, a.narrowing.fewer b, s.within b);
    kept = λ b h o. a.narrowing.kept b h o (s.kept b h o);
    decided = below_more (λ (b : ℕ). exposed after b ≡ 1 → OnEveryWay m b) r
        (λ b h e. s.decided b h (omega (arith, e, a.narrowing.fewer b, exposed_le_one left b))) a.decided;
  }

  pub left_end : LowHeads m.arcs → m.source ≤ last_node → (left : Exposure) (r : ℕ) → r ≡ hazards → Left left r → left ≡ on_every (ranking m)
  left_end low node left r e s = inside_all_ext left (on_every (ranking m)) s.within (every_inside_all (ranking m)) same
    where
      same : (b : ℕ) → b < hazards → exposed left b ≡ exposed (on_every (ranking m)) b
      same b h =
          let c = every_ways m low node b h in
          same_digit _ _ (exposed_le_one left b) (exposed_le_one _ b) (λ q. c.1 (s.decided b (omega arith) q)) (λ q. s.kept b h (c.0 q))
