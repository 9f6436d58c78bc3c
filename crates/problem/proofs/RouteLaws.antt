-- Depth-first growth lists exactly the paths, none twice, none the beginning of another, each of no more arcs than there are nodes unmet. Assumes nothing.
use mathlib.Core.Path.{◌≡◌, refl, sym, ap, ◌∙◌, subst}
use mathlib.Core.Logic.{◌⊎◌, inl, inr, ◌↔◌}
use mathlib.Core.Bool.{Bool, true, false, false≢true}
use mathlib.Core.List.Memᴰ
use mathlib.Core.List.{List, [], ◌∷◌, ◌++◌, map, Memᴰ, head-eq_of_cons-eq, tail-eq_of_cons-eq}
use Prim.Native.Nat.{ℕ, zero, suc, ◌+◌, ◌≤◌, ◌<◌, suc-le-suc}
use native.Mathlib.Nat.{add-zero, zero-add, le_of_suc-le-suc, not-suc-le-zero}
use native.Mathlib.Omega.{arith}
use lib.Dec.{eqb}
use lib.ListN.{length}
use borrow.Author.Tests.{eqb-true, eqb-false, eq-eqb, ne_eqb}
use Rattle.laws.specs.Choosing.{Pairwise, Distinct}
use Rattle.laws.specs.Sets.{bit, with, unmet}
use Rattle.laws.proofs.ListLaws.{pairwise_append, pairwise_map, pairwise_head, pairwise_tail}
use Rattle.laws.proofs.SetLaws.{digit, bit_with, bit_single, bit_empty, unmet_empty, unmet_with}
use Rattle.problem.specs.declared.Arc.{Arc}
use Rattle.problem.specs.Table.{last_node}
use Rattle.problem.specs.Routes.{arc_at, nodes_from, Way, IsPath, opens, sprout, grow}

-- ---- the nodes that a list of arcs meets: the first one, and the heads

module _ (arcs : List Arc) where
  pub first_node : (v : ℕ) (ks : List ℕ) → Memᴰ v (nodes_from arcs v ks)
  unfolding nodes_from
  first_node v [] = Memᴰ.head refl
  first_node v (k ∷ ks) = Memᴰ.head refl

  pub head_met : {k : ℕ} (v : ℕ) {ks : List ℕ} → Memᴰ k ks → Memᴰ (arc_at arcs k).head (nodes_from arcs v ks)
  unfolding nodes_from
  head_met v (Memᴰ.head {x = j} {xs = js} e) = Memᴰ.tail (Memᴰ.cast (ap (λ (i : ℕ). (arc_at arcs i).head) e) (first_node (arc_at arcs j).head js))
  head_met v (Memᴰ.tail {x = j} m) = Memᴰ.tail (head_met (arc_at arcs j).head m)

  -- of a way: its end, and the tails
  pub way_end : {v to : ℕ} {ks : List ℕ} → Way arcs v to ks → Memᴰ to (nodes_from arcs v ks)
  unfolding nodes_from
  way_end (Way.there e) = Memᴰ.head (sym e)
  way_end (Way.over b t w) = Memᴰ.tail (way_end w)

  pub tail_met : {v to k : ℕ} {ks : List ℕ} → Way arcs v to ks → Memᴰ k ks → Memᴰ (arc_at arcs k).tail (nodes_from arcs v ks)
  unfolding nodes_from
  tail_met (Way.there e) m = absurd (Memᴰ.not-nil m)
  tail_met (Way.over b t w) (Memᴰ.head e) = Memᴰ.head (ap (λ (i : ℕ). (arc_at arcs i).tail) e ∙ t)
  tail_met (Way.over b t w) (Memᴰ.tail m) = Memᴰ.tail (tail_met w m)

-- ---- an arc that opens

pub opens_tail : (met at : ℕ) (a : Arc) → opens met at a ≡ true → a.tail ≡ at
unfolding opens
opens_tail met at a h = go (eqb a.tail at) refl
  where
    go : (b : Bool) → eqb a.tail at ≡ b → a.tail ≡ at
    go true e = eqb-true a.tail at e
    go false e = absurd (false≢true (rw e at h))

pub opens_new : (met at : ℕ) (a : Arc) → opens met at a ≡ true → bit met a.head ≡ 0
unfolding opens
opens_new met at a h = go (eqb a.tail at) refl
  where
    go : (b : Bool) → eqb a.tail at ≡ b → bit met a.head ≡ 0
    go true e = eqb-true _ _ (rw e at h)
    go false e = absurd (false≢true (rw e at h))

pub opens_by : (met at : ℕ) (a : Arc) → a.tail ≡ at → bit met a.head ≡ 0 → opens met at a ≡ true
unfolding opens
opens_by met at a p q = rw (eq-eqb a.tail at p, eq-eqb (bit met a.head) 0 q)

-- ---- sprouting: what is listed begins with an arc that opens

module _ (rest : ℕ → ℕ → List (List ℕ)) (met at : ℕ) where
  -- ks came about by the arc i of a list whose first arc has number k
  pub record Sprouted (k : ℕ) (arcs : List Arc) (ks : List ℕ) : Type 0 where
    pub i : ℕ
    pub more : List ℕ
    pub inside : i < length arcs
    pub is : ks ≡ (k + i) ∷ more
    pub open_arc : opens met at (arc_at arcs i) ≡ true
    pub goes_on : Memᴰ more (rest (with met (arc_at arcs i).head) (arc_at arcs i).head)

  -- an arc that opens is taken, and any other passed over, so each that has another tail
  pub sprout_over : (k : ℕ) (a : Arc) (arcs : List Arc) → opens met at a ≡ true
      → sprout rest met at k (a ∷ arcs) ≡ map (λ ks. k ∷ ks) (rest (with met a.head) a.head) ++ sprout rest met at (suc k) arcs
  unfolding sprout
  sprout_over k a arcs e = rw (e, sprout)

  pub sprout_past : (k : ℕ) (a : Arc) (arcs : List Arc) → opens met at a ≡ false → sprout rest met at k (a ∷ arcs) ≡ sprout rest met at (suc k) arcs
  unfolding sprout
  sprout_past k a arcs e = rw (e, sprout)

  pub sprout_other : (k : ℕ) (a : Arc) (arcs : List Arc) → (a.tail ≡ at → ⊥) → sprout rest met at k (a ∷ arcs) ≡ sprout rest met at (suc k) arcs
  unfolding opens
  sprout_other k a arcs other = sprout_past k a arcs (rw (ne_eqb a.tail at other))

  later : {k : ℕ} {a : Arc} {arcs : List Arc} {ks : List ℕ} → Sprouted (suc k) arcs ks → Sprouted k (a ∷ arcs) ks
  later {k} s =
      record { i = suc s.i; more = s.more; inside = suc-le-suc s.inside; is = s.is ∙ ap (λ (n : ℕ). n ∷ s.more) (omega arith); open_arc = s.open_arc; goes_on = s.goes_on }

  pub sprout_out : (k : ℕ) (arcs : List Arc) {ks : List ℕ} → Memᴰ ks (sprout rest met at k arcs) → Sprouted k arcs ks
  unfolding sprout
  sprout_out k [] m = absurd (Memᴰ.not-nil m)
  sprout_out k (a ∷ arcs) {ks} m = go (opens met at a) refl (λ q. sprout_out (suc k) arcs q)
    where
      onward : List (List ℕ)
      onward = rest (with met a.head) a.head

      first : opens met at a ≡ true → Memᴰ ks (map (λ l. k ∷ l) onward) → Sprouted k (a ∷ arcs) ks
      first e x =
          let o = Memᴰ.of_map (λ l. k ∷ l) onward x in
          record { i = 0; more = o.0; inside = omega arith; is = sym o.2 ∙ ap (λ (n : ℕ). n ∷ o.0) (omega arith); open_arc = e; goes_on = o.1 }

      cases : opens met at a ≡ true → (Memᴰ ks (sprout rest met at (suc k) arcs) → Sprouted (suc k) arcs ks)
          → Memᴰ ks (map (λ l. k ∷ l) onward) ⊎ Memᴰ ks (sprout rest met at (suc k) arcs) → Sprouted k (a ∷ arcs) ks
      cases e f (inl x) = first e x
      cases e f (inr x) = later (f x)

      go : (b : Bool) → opens met at a ≡ b → (Memᴰ ks (sprout rest met at (suc k) arcs) → Sprouted (suc k) arcs ks) → Sprouted k (a ∷ arcs) ks
      go true e f = cases e f (Memᴰ.append_cases (map (λ l. k ∷ l) onward) (rw (e, sprout) at m))
      go false e f = later (f (rw (e, sprout) at m))

  sprout_in : (k i : ℕ) (arcs : List Arc) (l : List ℕ) → i < length arcs → opens met at (arc_at arcs i) ≡ true
      → Memᴰ l (rest (with met (arc_at arcs i).head) (arc_at arcs i).head) → Memᴰ ((k + i) ∷ l) (sprout rest met at k arcs)
  unfolding sprout
  sprout_in k i [] l h e m = absurd (not-suc-le-zero h)
  sprout_in k zero (a ∷ arcs) l h e m = rw (e, sprout) (Memᴰ.append_left _ (Memᴰ.cast (ap (λ (n : ℕ). n ∷ l) (add-zero k)) (Memᴰ.map (λ r. k ∷ r) m)))
  sprout_in k (suc i) (a ∷ arcs) l h e m =
      go (opens met at a) refl (Memᴰ.cast (ap (λ (n : ℕ). n ∷ l) (omega arith)) (sprout_in (suc k) i arcs l (le_of_suc-le-suc h) e m))
    where
      go : (b : Bool) → opens met at a ≡ b → Memᴰ ((k + suc i) ∷ l) (sprout rest met at (suc k) arcs) → Memᴰ ((k + suc i) ∷ l) (sprout rest met at k (a ∷ arcs))
      go true q x = rw (q, sprout) (Memᴰ.append_right (map (λ r. k ∷ r) (rest (with met a.head) a.head)) x)
      go false q x = rw (q, sprout) x

  sprout_distinct : ((s x : ℕ) → Distinct (rest s x)) → (k : ℕ) (arcs : List Arc) → Distinct (sprout rest met at k arcs)
  unfolding sprout
  sprout_distinct d k [] = Pairwise.none
  sprout_distinct d k (a ∷ arcs) = go (opens met at a) refl (sprout_distinct d (suc k) arcs)
    where
      onward : List (List ℕ)
      onward = rest (with met a.head) a.head

      apart : (x y : List ℕ) → Memᴰ x (map (λ l. k ∷ l) onward) → Memᴰ y (sprout rest met at (suc k) arcs) → x ≡ y → ⊥
      apart x y u v e =
          let o = Memᴰ.of_map (λ l. k ∷ l) onward u in
          let s = sprout_out (suc k) arcs v in
          let q : k ≡ suc k + s.i = head-eq_of_cons-eq (o.2 ∙ e ∙ s.is) in
          omega arith

      go : (b : Bool) → opens met at a ≡ b → Distinct (sprout rest met at (suc k) arcs) → Distinct (sprout rest met at k (a ∷ arcs))
      go true e ih =
          rw (e, sprout)
          (pairwise_append _ (pairwise_map (λ l. k ∷ l) (λ x y n c p q. n (tail-eq_of_cons-eq (q ∙ sym p))) (d (with met a.head) a.head)) ih apart)
      go false e ih = rw (e, sprout) ih

-- ---- growth

module _ (arcs : List Arc) (terminal : ℕ) where
  -- ks leads from `at` to the terminal over arcs that open one after the other
  pub data Grown : ℕ → ℕ → List ℕ → Type 0 where
    done : {met at : ℕ} → at ≡ terminal → Grown met at []
    step : {met at k : ℕ} {ks : List ℕ} → k < length arcs → (at ≡ terminal → ⊥) → opens met at (arc_at arcs k) ≡ true
        → Grown (with met (arc_at arcs k).head) (arc_at arcs k).head ks → Grown met at (k ∷ ks)

  at_end : (met at : ℕ) (ks : List ℕ) → Memᴰ ks ([] ∷ []) → at ≡ terminal → Grown met at ks
  at_end met at ks m e = subst (λ (l : List ℕ). Grown met at l) (sym (Memᴰ.eq_of_singleton m)) (done e)

  pub grow_out : (n met at : ℕ) (ks : List ℕ) → Memᴰ ks (grow arcs terminal n met at) → Grown met at ks
  unfolding grow
  grow_out zero met at ks m = go (eqb at terminal) refl
    where
      go : (b : Bool) → eqb at terminal ≡ b → Grown met at ks
      go true e = at_end met at ks (rw (e, grow) at m) (eqb-true at terminal e)
      go false e = absurd (Memᴰ.not-nil (rw (e, grow) at m))
  grow_out (suc n) met at ks m = go (eqb at terminal) refl (grow_out n)
    where
      go : (b : Bool) → eqb at terminal ≡ b → ((s x : ℕ) (l : List ℕ) → Memᴰ l (grow arcs terminal n s x) → Grown s x l) → Grown met at ks
      go true e ih = at_end met at ks (rw (e, grow) at m) (eqb-true at terminal e)
      go false e ih =
          let s = sprout_out (grow arcs terminal n) met at 0 arcs (rw (e, grow) at m) in
          rw (s.is, zero-add) (step s.inside (eqb-false at terminal e) s.open_arc (ih _ _ _ s.goes_on))

  pub grow_in : (n : ℕ) {met at : ℕ} {ks : List ℕ} → length ks ≤ n → Grown met at ks → Memᴰ ks (grow arcs terminal n met at)
  unfolding grow
  grow_in zero {at = at} h (done e) = rw (eq-eqb at terminal e, grow) (Memᴰ.head refl)
  grow_in (suc n) {at = at} h (done e) = rw (eq-eqb at terminal e, grow) (Memᴰ.head refl)
  grow_in zero h (step b ne o g) = absurd (not-suc-le-zero h)
  grow_in (suc n) {met} {at} h (step {k = k} {ks = ks} b ne o g) =
      rw (ne_eqb at terminal ne, grow)
      (Memᴰ.cast (ap (λ (x : ℕ). x ∷ ks) (omega arith)) (sprout_in (grow arcs terminal n) met at 0 k arcs ks b o (grow_in n (le_of_suc-le-suc h) g)))

  -- no list of arcs is listed twice
  pub grow_distinct : (n met at : ℕ) → Distinct (grow arcs terminal n met at)
  unfolding grow
  grow_distinct zero met at = go (eqb at terminal) refl
    where
      go : (b : Bool) → eqb at terminal ≡ b → Distinct (grow arcs terminal zero met at)
      go true e = rw (e, grow) (Pairwise.one (λ x m. absurd (Memᴰ.not-nil m)) Pairwise.none)
      go false e = rw (e, grow) Pairwise.none
  grow_distinct (suc n) met at = go (eqb at terminal) refl (sprout_distinct (grow arcs terminal n) met at (grow_distinct n) 0 arcs)
    where
      go : (b : Bool) → eqb at terminal ≡ b → Distinct (sprout (grow arcs terminal n) met at 0 arcs) → Distinct (grow arcs terminal (suc n) met at)
      go true e d = rw (e, grow) (Pairwise.one (λ x m. absurd (Memᴰ.not-nil m)) Pairwise.none)
      go false e d = rw (e, grow) d

  -- none is the beginning of another
  pub grown_no_beginning : {met at : ℕ} {ks : List ℕ} (l : List ℕ) → Grown met at ks → Grown met at (ks ++ l) → l ≡ []
  grown_no_beginning [] g h = refl
  grown_no_beginning (j ∷ l) (done e) (step b ne o h) = absurd (ne e)
  grown_no_beginning (j ∷ l) (step b ne o g) (step b' ne' o' h) = grown_no_beginning (j ∷ l) g h

  -- each arc leaves one node fewer unvisited
  pub grown_short : ((k : ℕ) → k < length arcs → (arc_at arcs k).head ≤ last_node) → {met at : ℕ} {ks : List ℕ} → Grown met at ks → length ks ≤ unmet 32 met
  grown_short low (done e) = omega arith
  grown_short low {met} {at} (step {k = k} b ne o g) =
      omega (arith, unmet_with 32 (arc_at arcs k).head met (omega (arith, low k b)) (opens_new met at (arc_at arcs k) o), grown_short low g)

  -- ---- what is grown is a way that meets no node twice, and the other way round

  pub grown_way : {met at : ℕ} {ks : List ℕ} → Grown met at ks → Way arcs at terminal ks
  grown_way (done e) = Way.there e
  grown_way {met} {at} (step {k = k} b ne o g) = Way.over b (opens_tail met at (arc_at arcs k) o) (grown_way g)

  -- every node after the first is new
  grown_new : {met at k : ℕ} {ks : List ℕ} → Grown met at (k ∷ ks) → (h : ℕ) → Memᴰ h (nodes_from arcs (arc_at arcs k).head ks) → bit met h ≡ 0
  unfolding nodes_from
  grown_new {met} {at} {k} (step b ne o (done e)) h m = ap (bit met) (Memᴰ.eq_of_singleton m) ∙ opens_new met at (arc_at arcs k) o
  grown_new {met} {at} {k} (step b ne o (step {k = j} {ks = ks} b' ne' o' g)) h m = go (Memᴰ.cases_cons m) (grown_new (step b' ne' o' g) h)
    where
      go : (h ≡ (arc_at arcs k).head) ⊎ Memᴰ h (nodes_from arcs (arc_at arcs j).head ks)
          → (Memᴰ h (nodes_from arcs (arc_at arcs j).head ks) → bit (with met (arc_at arcs k).head) h ≡ 0) → bit met h ≡ 0
      go (inl e) f = ap (bit met) e ∙ opens_new met at (arc_at arcs k) o
      go (inr q) f = omega (arith, rw bit_with at (f q))

  pub grown_distinct : {met at : ℕ} {ks : List ℕ} → bit met at ≡ 1 → Grown met at ks → Distinct (nodes_from arcs at ks)
  unfolding nodes_from digit
  grown_distinct e (done p) = Pairwise.one (λ x m. absurd (Memᴰ.not-nil m)) Pairwise.none
  grown_distinct {met} {at} e (step {k = k} {ks = ks} b ne o g) =
      let h : ℕ = (arc_at arcs k).head in
      let now_met : bit (with met h) h ≡ 1 = rw (bit_with, eq-eqb h h refl) (omega (arith, opens_new met at (arc_at arcs k) o)) in
      Pairwise.one {a = at} {l = nodes_from arcs h ks} (λ x m q. omega (arith, ap (bit met) q, grown_new (step b ne o g) x m)) (grown_distinct now_met g)

  pub way_grown : {met at : ℕ} {ks : List ℕ} → Way arcs at terminal ks → Distinct (nodes_from arcs at ks)
      → ((h : ℕ) → Memᴰ h (nodes_from arcs at ks) → (at ≡ h → ⊥) → bit met h ≡ 0) → Grown met at ks
  unfolding nodes_from digit
  way_grown (Way.there e) d f = done e
  way_grown {met} {at} (Way.over {k = k} {ks = ks} b t w) d f =
      let h : ℕ = (arc_at arcs k).head in
      let other : (x : ℕ) → Memᴰ x (nodes_from arcs h ks) → at ≡ x → ⊥ = pairwise_head d in
      let new : bit met h ≡ 0 = f h (Memᴰ.tail (first_node arcs h ks)) (other h (first_node arcs h ks)) in
      step b (other terminal (way_end arcs w)) (opens_by met at (arc_at arcs k) t new)
      (way_grown {met = with met h} w (pairwise_tail d)
      (λ x m ne. rw (bit_with, ne_eqb x h (λ q. ne (sym q))) (omega (arith, f x (Memᴰ.tail m) (other x m)))))

  -- a list of arc numbers is grown from `source` exactly where it is a path that, but there, meets no node that was met
  pub grown_off : {met : ℕ} (source : ℕ) → bit met source ≡ 1 → (ks : List ℕ)
      → Grown met source ks ↔ (IsPath arcs source terminal ks × ((h : ℕ) → Memᴰ h (nodes_from arcs source ks) → (source ≡ h → ⊥) → bit met h ≡ 0))
  unfolding nodes_from
  grown_off {met} source here ks = (λ g. (record { way = grown_way g; no_node_twice = grown_distinct here g }, new ks g), λ p. way_grown p.0.way p.0.no_node_twice p.1)
    where
      later : {k : ℕ} {l : List ℕ} → Grown met source (k ∷ l) → (h : ℕ) → (h ≡ source) ⊎ Memᴰ h (nodes_from arcs (arc_at arcs k).head l) → (source ≡ h → ⊥) → bit met h ≡ 0
      later g h (inl e) ne = absurd (ne (sym e))
      later g h (inr m) ne = grown_new g h m

      new : (l : List ℕ) → Grown met source l → (h : ℕ) → Memᴰ h (nodes_from arcs source l) → (source ≡ h → ⊥) → bit met h ≡ 0
      new [] g h m ne = absurd (ne (sym (Memᴰ.eq_of_singleton m)))
      new (k ∷ l) g h m ne = later g h (Memᴰ.cases_cons m) ne

  -- and where only `source` was met, exactly where it is a path
  pub grown_exact : (source : ℕ) (ks : List ℕ) → Grown (with 0 source) source ks ↔ IsPath arcs source terminal ks
  unfolding digit
  grown_exact source ks =
      let off = grown_off {met = with 0 source} source (rw (bit_single, eq-eqb source source refl)) ks in
      (λ g. (off.0 g).0, λ p. off.1 (p, λ h m ne. rw (bit_single, ne_eqb h source (λ q. ne (sym q)))))

-- 31 nodes besides the source
pub unmet_source : (source : ℕ) → source ≤ last_node → unmet 32 (with 0 source) ≡ 31
unmet_source source low = omega (arith, unmet_with 32 source 0 (omega arith) (bit_empty source), unmet_empty 32)
