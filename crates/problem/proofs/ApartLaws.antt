-- T-05, pairs that meet in no building: the test says what `Apart` says in words, whichever of the two comes first; parts of two lists that are apart are apart; and two paths with only
-- their ends in common have no arc in common, unless both are one and the same arc. Assumes nothing.
use mathlib.Core.Path.{◌≡◌, refl, sym, ap, ap₂, ◌∙◌}
use mathlib.Core.Logic.{◌⊎◌, inl, inr, ◌↔◌}
use mathlib.Core.Bool.{Bool, true, false, ◌&&◌, ◌||◌, not, false≢true}
use mathlib.Core.List.Memᴰ
use mathlib.Core.List.{List, [], ◌∷◌, Memᴰ}
use Prim.Native.Nat.{ℕ}
use lib.Dec.{eqb}
use borrow.Author.Tests.{eqb-true, eqb-false, eq-eqb, ne_eqb, not-true}
use Rattle.laws.specs.Choosing.{Distinct}
use Rattle.laws.proofs.BoolLaws.{or_cases, neither, both, hold_together}
use Rattle.laws.proofs.ListLaws.{keep_in, keep_out, pairwise_head, pairwise_tail}
use Rattle.laws.proofs.PartLaws.{Part, part_mem}
use Rattle.problem.specs.declared.Arc.{Arc}
use Rattle.problem.specs.Routes.{Mesh, arc_at, nodes_from, Way, IsPath, route_of}
use Rattle.problem.specs.Pairs.{Pair, pair}
use Rattle.problem.specs.Apart.{Apart, is_in, none_in_both, inner_nodes, lists_apart, judges}
use Rattle.problem.proofs.RouteLaws.{first_node, head_met, way_end, tail_met}
use Rattle.problem.proofs.CandidateLaws.{Even}
use Rattle.problem.proofs.WayLaws.{part_nodes}

-- ---- what stands in a list, and what stands in two

pub in_exactly : (l : List ℕ) (x : ℕ) → (is_in l x ≡ true) ↔ Memᴰ x l
unfolding is_in
in_exactly [] x = (λ e. absurd (false≢true e), λ m. absurd (Memᴰ.not-nil m))
in_exactly (y ∷ l) x = (λ e. out (or_cases (eqb x y) (is_in l x) e) (in_exactly l x).0, λ m. into (Memᴰ.cases_cons m) (in_exactly l x).1 (eqb x y) refl)
  where
    out : (eqb x y ≡ true) ⊎ (is_in l x ≡ true) → (is_in l x ≡ true → Memᴰ x l) → Memᴰ x (y ∷ l)
    out (inl e) rest = Memᴰ.head (eqb-true x y e)
    out (inr e) rest = Memᴰ.tail (rest e)

    into : (x ≡ y) ⊎ Memᴰ x l → (Memᴰ x l → is_in l x ≡ true) → (b : Bool) → eqb x y ≡ b → (eqb x y || is_in l x) ≡ true
    into m rest true e = rw e
    into (inl q) rest false e = absurd (false≢true (sym e ∙ eq-eqb x y q))
    into (inr q) rest false e = rw e (rest q)

pub none_exactly : (l r : List ℕ) → (none_in_both l r ≡ true) ↔ ((x : ℕ) → Memᴰ x l → Memᴰ x r → ⊥)
unfolding none_in_both
none_exactly [] r = (λ e x m n. Memᴰ.not-nil m, λ f. refl)
none_exactly (y ∷ l) r = (λ e x m n. out e (none_exactly l r).0 (Memᴰ.cases_cons m) n, λ f. into f (none_exactly l r).1 (is_in r y) refl)
  where
    out : (not (is_in r y) && none_in_both l r) ≡ true → (none_in_both l r ≡ true → (x : ℕ) → Memᴰ x l → Memᴰ x r → ⊥) → {x : ℕ} → (x ≡ y) ⊎ Memᴰ x l → Memᴰ x r → ⊥
    out e rest (inl q) n = false≢true (sym (not-true (is_in r y) (both (not (is_in r y)) _ e).0) ∙ (in_exactly r y).1 (Memᴰ.cast (sym q) n))
    out e rest (inr q) n = rest (both (not (is_in r y)) _ e).1 _ q n

    into : ((x : ℕ) → Memᴰ x (y ∷ l) → Memᴰ x r → ⊥) → (((x : ℕ) → Memᴰ x l → Memᴰ x r → ⊥) → none_in_both l r ≡ true) → (b : Bool) → is_in r y ≡ b → (not (is_in r y) && none_in_both l r) ≡ true
    into f rest true e = absurd (f y (Memᴰ.head refl) ((in_exactly r y).0 e))
    into f rest false e = rw e (rest (λ x m. f x (Memᴰ.tail m)))

-- ---- the test is what the words say

module _ (m : Mesh) where
  -- the two ends are left out of a list's inner nodes, and no other
  inner_exactly : (ks : List ℕ) (v : ℕ) → Memᴰ v (inner_nodes m ks) ↔ (Memᴰ v (nodes_from m.arcs m.source ks) × ((v ≡ m.source) ⊎ (v ≡ m.terminal) → ⊥))
  unfolding inner_nodes
  inner_exactly ks v = (
    λ x. let o = keep_out inner (nodes_from m.arcs m.source ks) x in (o.0, not_end (neither (eqb v m.source) (eqb v m.terminal) (not-true _ o.1))),
    λ x. keep_in inner (nodes_from m.arcs m.source ks) x.0 (rw (ne_eqb v m.source (λ e. x.1 (inl e)), ne_eqb v m.terminal (λ e. x.1 (inr e)))),
  )
    where
      inner : ℕ → Bool
      inner u = not (eqb u m.source || eqb u m.terminal)

      not_end : (eqb v m.source ≡ false) × (eqb v m.terminal ≡ false) → (v ≡ m.source) ⊎ (v ≡ m.terminal) → ⊥
      not_end o (inl e) = eqb-false v m.source o.0 e
      not_end o (inr e) = eqb-false v m.terminal o.1 e

  -- a node is an end, or it is not
  end_or_not : (v : ℕ) → ((v ≡ m.source) ⊎ (v ≡ m.terminal)) ⊎ ((v ≡ m.source) ⊎ (v ≡ m.terminal) → ⊥)
  end_or_not v = go (eqb v m.source) refl (eqb v m.terminal) refl
    where
      go : (a : Bool) → eqb v m.source ≡ a → (b : Bool) → eqb v m.terminal ≡ b → ((v ≡ m.source) ⊎ (v ≡ m.terminal)) ⊎ ((v ≡ m.source) ⊎ (v ≡ m.terminal) → ⊥)
      go true e b f = inl (inl (eqb-true v m.source e))
      go false e true f = inl (inr (eqb-true v m.terminal f))
      go false e false f = inr (λ o. neither_end o)
        where
          neither_end : (v ≡ m.source) ⊎ (v ≡ m.terminal) → ⊥
          neither_end (inl q) = eqb-false v m.source e q
          neither_end (inr q) = eqb-false v m.terminal f q

  pub apart_exactly : (ks ls : List ℕ) → (lists_apart m ks ls ≡ true) ↔ Apart m ks ls
  unfolding lists_apart
  apart_exactly ks ls = (to, from)
    where
      to : (none_in_both ks ls && none_in_both (inner_nodes m ks) (inner_nodes m ls)) ≡ true → Apart m ks ls
      to e =
          let o = both (none_in_both ks ls) _ e in
          record { no_common_arc = (none_exactly ks ls).0 o.0; ends_only = λ v x y. ends v x y (end_or_not v) ((none_exactly (inner_nodes m ks) (inner_nodes m ls)).0 o.1) }
        where
          ends : (v : ℕ) → Memᴰ v (nodes_from m.arcs m.source ks) → Memᴰ v (nodes_from m.arcs m.source ls) → ((v ≡ m.source) ⊎ (v ≡ m.terminal)) ⊎ ((v ≡ m.source) ⊎ (v ≡ m.terminal) → ⊥)
              → ((u : ℕ) → Memᴰ u (inner_nodes m ks) → Memᴰ u (inner_nodes m ls) → ⊥) → (v ≡ m.source) ⊎ (v ≡ m.terminal)
          ends v x y (inl e) f = e
          ends v x y (inr n) f = absurd (f v ((inner_exactly ks v).1 (x, n)) ((inner_exactly ls v).1 (y, n)))

      from : Apart m ks ls → (none_in_both ks ls && none_in_both (inner_nodes m ks) (inner_nodes m ls)) ≡ true
      from a = rw ((none_exactly ks ls).1 a.no_common_arc) ((none_exactly (inner_nodes m ks) (inner_nodes m ls)).1 (λ v x y. let o = (inner_exactly ks v).0 x in o.1 (a.ends_only v o.0 ((inner_exactly ls v).0 y).0)))

  -- it does not matter which comes first
  pub turn_apart : {ks ls : List ℕ} → Apart m ks ls → Apart m ls ks
  turn_apart a = record { no_common_arc = λ k x y. a.no_common_arc k y x; ends_only = λ v x y. a.ends_only v y x }

  lists_even : (ks ls : List ℕ) → lists_apart m ks ls ≡ lists_apart m ls ks
  lists_even ks ls = hold_together (lists_apart m ks ls) (lists_apart m ls ks) (turned ks ls) (turned ls ks)
    where
      turned : (is js : List ℕ) → lists_apart m is js ≡ true → lists_apart m js is ≡ true
      turned is js e = (apart_exactly js is).1 (turn_apart ((apart_exactly is js).0 e))

  -- parts of two lists that are apart are apart
  pub part_apart : {is js ks ls : List ℕ} → Part is ks → Part js ls → Apart m ks ls → Apart m is js
  part_apart p q a =
      record { no_common_arc = λ k x y. a.no_common_arc k (part_mem p x) (part_mem q y); ends_only = λ v x y. a.ends_only v (part_nodes m.arcs m.source p x) (part_nodes m.arcs m.source q y) }

-- ---- the pairs that a call judges

module _ (m : Mesh) where
  -- every one, or those that are apart
  pub judges_apart : (p : Pair) → (judges m true p ≡ true) ↔ Apart m p.main.arcs p.standby.arcs
  unfolding judges
  judges_apart p = apart_exactly m p.main.arcs p.standby.arcs

  pub judges_even : (only : Bool) → Even (judges m only)
  unfolding judges
  judges_even true r s = lists_even m r.arcs s.arcs
  judges_even false r s = refl

  -- parts of two lists that it judges as a pair
  pub part_judged : (only : Bool) {is js ks ls : List ℕ} → Part is ks → Part js ls
      → judges m only (pair (route_of m.arcs ks) (route_of m.arcs ls)) ≡ true → judges m only (pair (route_of m.arcs is) (route_of m.arcs js)) ≡ true
  unfolding judges route_of
  part_judged true {is} {js} {ks} {ls} p q e = (apart_exactly m is js).1 (part_apart m p q ((apart_exactly m ks ls).0 e))
  part_judged false p q e = refl

-- ---- paths with only their ends in common

module _ (arcs : List Arc) (terminal : ℕ) where
  -- no arc of a path leaves its end
  tail_not_end : {v k : ℕ} {ks : List ℕ} → Way arcs v terminal ks → Distinct (nodes_from arcs v ks) → Memᴰ k ks → (arc_at arcs k).tail ≡ terminal → ⊥
  unfolding nodes_from
  tail_not_end (Way.there e) d m q = Memᴰ.not-nil m
  tail_not_end (Way.over b t w) d (Memᴰ.head e) q = pairwise_head d terminal (way_end arcs w) (sym t ∙ ap (λ (i : ℕ). (arc_at arcs i).tail) (sym e) ∙ q)
  tail_not_end (Way.over b t w) d (Memᴰ.tail m) q = tail_not_end w (pairwise_tail d) m q

  -- a path that begins at its end has no arc
  ends_at_once : {v : ℕ} {ks : List ℕ} → Way arcs v terminal ks → Distinct (nodes_from arcs v ks) → v ≡ terminal → ks ≡ []
  unfolding nodes_from
  ends_at_once (Way.there e) d q = refl
  ends_at_once (Way.over b t w) d q = absurd (pairwise_head d terminal (way_end arcs w) q)

  -- an arc of a path that leads from end to end is the whole path
  whole : {v k : ℕ} {ks : List ℕ} → Way arcs v terminal ks → Distinct (nodes_from arcs v ks) → Memᴰ k ks
      → ((arc_at arcs k).tail ≡ v) ⊎ ((arc_at arcs k).tail ≡ terminal) → ((arc_at arcs k).head ≡ v) ⊎ ((arc_at arcs k).head ≡ terminal) → ks ≡ k ∷ []
  unfolding nodes_from
  whole (Way.there e) d m t h = absurd (Memᴰ.not-nil m)
  whole (Way.over {k = j} {ks = js} b t w) d (Memᴰ.head e) p (inl q) =
      absurd (pairwise_head d (arc_at arcs j).head (first_node arcs (arc_at arcs j).head js) (sym q ∙ ap (λ (i : ℕ). (arc_at arcs i).head) e))
  whole (Way.over b t w) d (Memᴰ.head e) p (inr q) =
      ap₂ (λ (i : ℕ) (l : List ℕ). i ∷ l) (sym e) (ends_at_once w (pairwise_tail d) (ap (λ (i : ℕ). (arc_at arcs i).head) (sym e) ∙ q))
  whole {k = k} (Way.over b t w) d (Memᴰ.tail m) (inl p) q = absurd (pairwise_head d (arc_at arcs k).tail (tail_met arcs w m) (sym p))
  whole (Way.over b t w) d (Memᴰ.tail m) (inr p) q = absurd (tail_not_end w (pairwise_tail d) m p)

-- of two paths that meet nowhere but at their ends, an arc that both take is the whole of both
pub one_arc : (m : Mesh) {ks ls : List ℕ} → IsPath m.arcs m.source m.terminal ks → IsPath m.arcs m.source m.terminal ls
    → ((v : ℕ) → Memᴰ v (nodes_from m.arcs m.source ks) → Memᴰ v (nodes_from m.arcs m.source ls) → (v ≡ m.source) ⊎ (v ≡ m.terminal))
    → {k : ℕ} → Memᴰ k ks → Memᴰ k ls → (ks ≡ k ∷ []) × (ls ≡ k ∷ [])
one_arc m p q f {k} x y =
    let tail = f (arc_at m.arcs k).tail (tail_met m.arcs p.way x) (tail_met m.arcs q.way y) in
    let head = f (arc_at m.arcs k).head (head_met m.arcs m.source x) (head_met m.arcs m.source y) in
    (whole m.arcs m.terminal p.way p.no_node_twice x tail head, whole m.arcs m.terminal q.way q.no_node_twice y tail head)
