-- Labels that are true: none at all; those that a node's search found and left; and, by induction on the arcs ahead, what they and the nodes behind say
-- of a node itself. Assumes nothing.
use mathlib.Core.Path.{◌≡◌, sym, ap, subst}
use Prim.Native.Nat.{ℕ, zero, suc, ◌≤◌}
use native.Mathlib.Decide.{ℕ_discrete}
use native.Mathlib.Omega.{arith}
use Rattle.laws.specs.Sets.{bit}
use Rattle.laws.proofs.SetLaws.{bit_empty, bit_with_other}
use Rattle.problem.specs.declared.Exposure.{Exposure}
use Rattle.problem.specs.Table.{last_node}
use Rattle.problem.specs.Exposures.{common}
use Rattle.problem.proofs.ExposureLaws.{Inside, exposed_common}
use Rattle.exposure.proofs.WordLaws.{inside_at}
use Rattle.net.specs.declared.Behind.{Behind}
use Rattle.standby.specs.Ahead.{Quest, Ahead}
use Rattle.labels.specs.declared.Labels.{Labels}
use Rattle.labels.specs.Labels.{label_metres, label_exposure, Known, Cleared, Labelled}
use Rattle.standby.specs.Sought.{TrueLabels, Back}
use Rattle.standby.proofs.AheadLaws.{ahead_none, ahead_fewer, ahead_more}

-- what the main shares of it lies inside it
shared_inside : (main e : Exposure) → Inside (common main e) e
shared_inside main e r = rw exposed_common (omega arith)

module _ (q : Quest) where
  pub labels_none : (n x : ℕ) {labels : Labels} → Cleared labels → TrueLabels q n x labels
  labels_none n x c = record { told = λ v h b. absurd (omega (arith, b, ap (λ (s : ℕ). bit s v) c, bit_empty v)) }

  labels_fewer : {n x : ℕ} {labels : Labels} → TrueLabels q (suc n) x labels → TrueLabels q n x labels
  labels_fewer l = record { told = λ v h b. ahead_fewer q (l.told v h b) (omega arith) }

  pub labels_known : {n x v metres : ℕ} {e : Exposure} (labels : Labels) → v ≤ last_node → TrueLabels q n x labels → Known labels v metres e → Ahead q n x v metres e
  labels_known {v = v} {e = e} labels h l k =
      ahead_more q (label_exposure labels v) e (l.told v h k.labelled) k.no_longer
      (λ r. omega (arith, shared_inside q.main (label_exposure labels v) r, inside_at (label_exposure labels v) e k.no_more r))

  pub labels_kept : {n x v metres : ℕ} (e : Exposure) {before after : Labels} → TrueLabels q n x before → Ahead q n x v metres e
      → Labelled v metres (common q.main e) before after → TrueLabels q n x after
  labels_kept {n} {x} {v} {metres} e {before} {after} l a k = record {
    told = λ u h b. elim (ℕ_discrete u v) [
      | yes p ↦ own u p
      | no ne ↦ other u h ne (omega (arith, b, ap (λ (s : ℕ). bit s u) k.labelled, bit_with_other before.labelled v u ne))
    ];
  }
    where
      own : (u : ℕ) → u ≡ v → Ahead q n x u (label_metres after u) (label_exposure after u)
      own u p =
          subst (λ (y : ℕ). Ahead q n x y (label_metres after y) (label_exposure after y)) (sym p)
          (rw (k.metres_is, k.exposure_is) (ahead_more q e (common q.main e) a (omega arith) (λ r. omega arith)))

      other : (u : ℕ) → u ≤ last_node → (u ≡ v → ⊥) → bit before.labelled u ≡ 1 → Ahead q n x u (label_metres after u) (label_exposure after u)
      other u h ne b = rw (k.other_metres u h ne, k.other_exposure u h ne) (l.told u h b)

  -- ---- from the nodes behind to the node itself

  -- nothing on from the nodes met makes a key below x
  pub record Around (n x : ℕ) (b : Behind) : Type 0 where
    pub back : (u : ℕ) → bit b.met u ≡ 1 → bit q.off.nodes u ≡ 0 → Ahead q n x u b.metres b.exposure

  around : {n x at : ℕ} {b : Behind} → Back q n x at b → Ahead q n x at b.metres b.exposure → Around n x b
  around {n} {x} {at} {b} f a = record {
    back = λ u m o. elim (ℕ_discrete u at) [
      | yes e ↦ subst (λ (y : ℕ). Ahead q n x y b.metres b.exposure) (sym e) a
      | no ne ↦ f.back u m o ne
    ];
  }

  back_fewer : {n x at : ℕ} {b : Behind} → Back q (suc n) x at b → Back q n x at b
  back_fewer f = record { back = λ u m o ne. ahead_fewer q (f.back u m o ne) (omega arith) }

  module _ {x at : ℕ} {b : Behind} {before after : Labels} (on : at ≡ q.mesh.terminal → ⊥)
      (turn : (n : ℕ) → Around n x b → TrueLabels q n x before → Ahead q (suc n) x at b.metres b.exposure × TrueLabels q n x after) where
    own : (n : ℕ) → Back q n x at b → TrueLabels q n x before → Ahead q n x at b.metres b.exposure
    own zero f l = ahead_none q on
    own (suc n) f l = (turn n (around (back_fewer f) (own n (back_fewer f) (labels_fewer l))) (labels_fewer l)).0

    pub knot : (n : ℕ) → Back q n x at b → TrueLabels q n x before → Ahead q (suc n) x at b.metres b.exposure × TrueLabels q n x after
    knot n f l = turn n (around f (own n f l)) l
