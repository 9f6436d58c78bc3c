-- What a search that folds a visitor over all that grows from a node has left to do, arc by arc. The visitor is any function of a state and the arc
-- numbers that lead on from the node; behind arc i it becomes the visitor of i ∷ ks. Assumes nothing.
use mathlib.Core.Path.{◌≡◌, refl, ap, ap₂, ◌∙◌}
use mathlib.Core.Bool.{Bool, true, false}
use mathlib.Core.List.{List, [], ◌∷◌, ◌++◌, map, foldl, foldl-append, foldl-map, Memᴰ}
use Prim.Native.Nat.{ℕ, zero, suc, ◌+◌, ◌≤◌, ◌<◌, suc-le-suc}
use native.Mathlib.Numerals.{add-one}
use native.Mathlib.Omega.{arith}
use lib.Dec.{eqb}
use lib.ListN.{length, drop, drop_of_length-le}
use lib.Seq.{drop-cons}
use borrow.Author.Tests.{eq-eqb, ne_eqb}
use Rattle.laws.specs.Sets.{bit, with, unmet}
use Rattle.laws.proofs.SetLaws.{unmet_none, unmet_with}
use Rattle.problem.specs.declared.Arc.{Arc}
use Rattle.problem.specs.Table.{last_node, most_arcs}
use Rattle.problem.specs.Routes.{arc_at, Way, opens, sprout, grow}
use Rattle.problem.proofs.RouteLaws.{opens_new, grow_out, grown_way, unmet_source}

module _ {S : Type 0} where
  -- a visitor that changes nothing anywhere in a list may pass it over
  pub fold_idle : (visit : S → List ℕ → S) (s : S) (l : List (List ℕ)) → ((ks : List ℕ) → Memᴰ ks l → visit s ks ≡ s) → foldl visit s l ≡ s
  fold_idle visit s [] f = refl
  fold_idle visit s (ks ∷ l) f = rw (f ks (Memᴰ.head refl)) (fold_idle visit s l (λ x m. f x (Memᴰ.tail m)))

  pub fold_same : (visit other : S → List ℕ → S) (s : S) (l : List (List ℕ)) → ((t : S) (ks : List ℕ) → Memᴰ ks l → visit t ks ≡ other t ks) → foldl visit s l ≡ foldl other s l
  fold_same visit other s [] f = refl
  fold_same visit other s (ks ∷ l) f = rw (f s ks (Memᴰ.head refl)) (fold_same visit other (other s ks) l (λ t x m. f t x (Memᴰ.tail m)))

  module _ (arcs : List Arc) (terminal : ℕ) (visit : S → List ℕ → S) where
    -- at the terminal there is only the end
    pub fold_there : (n met at : ℕ) (s : S) → at ≡ terminal → foldl visit s (grow arcs terminal n met at) ≡ visit s []
    unfolding grow
    fold_there zero met at s e = rw (eq-eqb at terminal e, grow)
    fold_there (suc n) met at s e = rw (eq-eqb at terminal e, grow)

    module _ (n met at : ℕ) where
      -- what is left from arc i on
      unfoldable pub left_from : ℕ → S → S
      left_from i s = foldl visit s (sprout (grow arcs terminal n) met at i (drop i arcs))

      pub left_start : (s : S) → (at ≡ terminal → ⊥) → foldl visit s (grow arcs terminal (suc n) met at) ≡ left_from 0 s
      unfolding left_from grow
      left_start s ne = rw (ne_eqb at terminal ne, grow)

      pub left_end : (i : ℕ) (s : S) → length arcs ≤ i → left_from i s ≡ s
      unfolding left_from sprout
      left_end i s h = rw (drop_of_length-le arcs h)

      sprout_open : (i : ℕ) (a : Arc) (more : List Arc) → opens met at a ≡ true
          → sprout (grow arcs terminal n) met at i (a ∷ more) ≡ map (λ ks. i ∷ ks) (grow arcs terminal n (with met a.head) a.head) ++ sprout (grow arcs terminal n) met at (suc i) more
      unfolding sprout
      sprout_open i a more e = rw (e, sprout)

      sprout_shut : (i : ℕ) (a : Arc) (more : List Arc) → opens met at a ≡ false → sprout (grow arcs terminal n) met at i (a ∷ more) ≡ sprout (grow arcs terminal n) met at (suc i) more
      unfolding sprout
      sprout_shut i a more e = rw (e, sprout)

      -- an arc that opens: all that grows behind it, then the rest
      pub left_open : (i : ℕ) (s : S) → i < length arcs → opens met at (arc_at arcs i) ≡ true
          → left_from i s ≡ left_from (i + 1) (foldl (λ (t : S) (ks : List ℕ). visit t (i ∷ ks)) s (grow arcs terminal n (with met (arc_at arcs i).head) (arc_at arcs i).head))
      unfolding left_from
      left_open i s h e =
          rw (drop-cons arcs i (arc_at [] 0) h, add-one, sprout_open i (arc_at arcs i) (drop (suc i) arcs) e, foldl-append, foldl-map)

      pub left_shut : (i : ℕ) (s : S) → i < length arcs → opens met at (arc_at arcs i) ≡ false → left_from i s ≡ left_from (i + 1) s
      unfolding left_from
      left_shut i s h e = rw (drop-cons arcs i (arc_at [] 0) h, add-one, sprout_shut i (arc_at arcs i) (drop (suc i) arcs) e)

-- all that is grown from a node is a way from it
pub grow_way : (arcs : List Arc) (terminal n met at : ℕ) {ks : List ℕ} → Memᴰ ks (grow arcs terminal n met at) → Way arcs at terminal ks
grow_way arcs terminal n met at {ks} m = grown_way arcs terminal (grow_out arcs terminal n met at ks m)

-- ---- more fuel than there are unvisited nodes changes nothing

sprout_same : (rest other : ℕ → ℕ → List (List ℕ)) (met at k : ℕ) (arcs : List Arc)
    → ((i : ℕ) → i < length arcs → opens met at (arc_at arcs i) ≡ true → rest (with met (arc_at arcs i).head) (arc_at arcs i).head ≡ other (with met (arc_at arcs i).head) (arc_at arcs i).head)
    → sprout rest met at k arcs ≡ sprout other met at k arcs
unfolding sprout
sprout_same rest other met at k [] f = refl
sprout_same rest other met at k (a ∷ arcs) f = go (opens met at a) refl (sprout_same rest other met at (suc k) arcs (λ i h e. f (suc i) (suc-le-suc h) e))
  where
    go : (b : Bool) → opens met at a ≡ b → sprout rest met at (suc k) arcs ≡ sprout other met at (suc k) arcs → sprout rest met at k (a ∷ arcs) ≡ sprout other met at k (a ∷ arcs)
    go true e ih = rw (e, sprout) (ap₂ (λ (x y : List (List ℕ)). map (λ ks. k ∷ ks) x ++ y) (f 0 (omega arith) e) ih)
    go false e ih = rw (e, sprout) ih

sprout_none : (rest : ℕ → ℕ → List (List ℕ)) (met at k : ℕ) (arcs : List Arc) → ((i : ℕ) → i < length arcs → bit met (arc_at arcs i).head ≡ 1) → sprout rest met at k arcs ≡ []
unfolding sprout
sprout_none rest met at k [] f = refl
sprout_none rest met at k (a ∷ arcs) f = go (opens met at a) refl (sprout_none rest met at (suc k) arcs (λ i h. f (suc i) (suc-le-suc h)))
  where
    go : (b : Bool) → opens met at a ≡ b → sprout rest met at (suc k) arcs ≡ [] → sprout rest met at k (a ∷ arcs) ≡ []
    go true e ih = absurd (omega (arith, f 0 (omega arith), opens_new met at a e))
    go false e ih = rw (e, sprout) ih

module _ (arcs : List Arc) (terminal : ℕ) (low : (k : ℕ) → k < length arcs → (arc_at arcs k).head ≤ last_node) where
  pub grow_enough : (n met at : ℕ) → unmet 32 met ≤ n → grow arcs terminal (suc n) met at ≡ grow arcs terminal n met at
  unfolding grow
  grow_enough zero met at h = go (eqb at terminal) refl
    where
      go : (b : Bool) → eqb at terminal ≡ b → grow arcs terminal 1 met at ≡ grow arcs terminal 0 met at
      go true e = rw (e, grow)
      go false e = rw (e, grow) (sprout_none (grow arcs terminal 0) met at 0 arcs (λ i b. unmet_none 32 (arc_at arcs i).head met (omega arith) (omega (arith, low i b))))
  grow_enough (suc n) met at h = go (eqb at terminal) refl (grow_enough n)
    where
      go : (b : Bool) → eqb at terminal ≡ b → ((s x : ℕ) → unmet 32 s ≤ n → grow arcs terminal (suc n) s x ≡ grow arcs terminal n s x) → grow arcs terminal (suc (suc n)) met at ≡ grow arcs terminal (suc n) met at
      go true e ih = rw (e, grow)
      go false e ih =
          rw (e, grow)
          (sprout_same (grow arcs terminal (suc n)) (grow arcs terminal n) met at 0 arcs
          (λ i b o. ih (with met (arc_at arcs i).head) (arc_at arcs i).head (omega (arith, unmet_with 32 (arc_at arcs i).head met (omega (arith, low i b)) (opens_new met at (arc_at arcs i) o)))))

  -- from the source
  pub grow_source : (source : ℕ) → source ≤ last_node → grow arcs terminal (suc (unmet 32 (with 0 source))) (with 0 source) source ≡ grow arcs terminal most_arcs (with 0 source) source
  grow_source source node =
      ap (λ (n : ℕ). grow arcs terminal (suc n) (with 0 source) source) (unmet_source source node) ∙ grow_enough most_arcs (with 0 source) source (omega (arith, unmet_source source node))
