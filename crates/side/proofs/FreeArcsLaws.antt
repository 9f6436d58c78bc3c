-- The walk over the free arcs into a node: the chain passes over arcs of other heads, and the test over those exposed to something banned; and a fold over all
-- arcs, which leaves what others give as it is, is one over the free arcs into the node alone. Assumes nothing.
use mathlib.Core.Path.{◌≡◌, refl, sym, ap, ◌∙◌}
use mathlib.Core.Bool.{Bool, true, false, and-false}
use mathlib.Core.List.{List, [], ◌∷◌, foldl}
use Prim.Native.Nat.{ℕ, zero, suc, ◌+◌, ◌-◌, ◌≤◌, ◌<◌}
use native.Mathlib.Omega.{arith}
use native.Mathlib.Decide.{dec_lt}
use lib.Dec.{eqb}
use lib.ListN.{length, drop, drop_of_length-le}
use lib.Seq.{drop-cons}
use borrow.Author.Tests.{eqb-true, eq-eqb, ne_eqb}
use Rattle.std.specs.List.{All, filter}
use Rattle.std.proofs.lemmas.List.Elements.{All-nil, All-cons}
use Rattle.laws.proofs.BoolLaws.{both}
use Rattle.problem.specs.declared.Arc.{Arc}
use Rattle.problem.specs.declared.Exposure.{Exposure}
use Rattle.problem.specs.Table.{SoundArc}
use Rattle.problem.specs.Exposures.{of_arc, disjoint}
use Rattle.problem.specs.Routes.{arc_at}
use Rattle.chain.specs.declared.End.{End}
use Rattle.chain.specs.Chain.{end_of, NextBy}
use Rattle.side.specs.Relaxing.{free_into, frees_from}

-- ---- one arc

module _ (banned : Exposure) (v : ℕ) (a : Arc) where
  pub other_head : (a.head ≡ v → ⊥) → free_into banned v a ≡ false
  other_head n = rw (ne_eqb a.head v n)

  pub exposed : disjoint (of_arc a) banned ≡ false → free_into banned v a ≡ false
  exposed e = rw e (and-false (eqb a.head v))

  pub free_into_lem : a.head ≡ v → disjoint (of_arc a) banned ≡ true → free_into banned v a ≡ true
  free_into_lem here e = rw (eq-eqb a.head v here, e)

  pub free_head : free_into banned v a ≡ true → a.head ≡ v
  free_head e = eqb-true _ _ (both _ _ e).0

-- ---- lists of arcs

module _ (p : Arc → Bool) (a : Arc) (l : List Arc) where
  kept : p a ≡ true → filter p (a ∷ l) ≡ a ∷ filter p l
  kept e = rw e

  left_out : p a ≡ false → filter p (a ∷ l) ≡ filter p l
  left_out e = rw e

-- what is left out changes nothing
module _ {S : Type 0} (step : S → Arc → S) (p : Arc → Bool) (idle : (s : S) (a : Arc) → p a ≡ false → step s a ≡ s) where
  pub fold_filter : (arcs : List Arc) (s : S) → foldl step s (filter p arcs) ≡ foldl step s arcs
  fold_filter [] s = refl
  fold_filter (a ∷ l) s = at (p a) refl (fold_filter l)
    where
      at : (b : Bool) → p a ≡ b → ((t : S) → foldl step t (filter p l) ≡ foldl step t l) → foldl step s (filter p (a ∷ l)) ≡ foldl step s (a ∷ l)
      at true e rest = ap (foldl step s) (kept p a l e) ∙ rest (step s a)
      at false e rest = ap (foldl step s) (left_out p a l e) ∙ (rest s ∙ ap (λ (t : S). foldl step t l) (sym (idle s a e)))

pub each_sound : (arcs : List Arc) → ((k : ℕ) → k < length arcs → SoundArc (arc_at arcs k)) → All SoundArc arcs
each_sound [] s = All-nil SoundArc
each_sound (a ∷ l) s = All-cons SoundArc a l (s 0 (omega arith)) (each_sound l (λ k h. s (suc k) (omega arith)))

-- ---- along the chain

module _ (banned : Exposure) (arcs : List Arc) where
  -- the d arcs from i on lead elsewhere
  past : (v d i : ℕ) → i + d ≤ length arcs → ((k : ℕ) → i ≤ k → k < i + d → (arc_at arcs k).head ≡ v → ⊥)
      → filter (free_into banned v) (drop i arcs) ≡ filter (free_into banned v) (drop (i + d) arcs)
  past v zero i h n = let e : i + 0 ≡ i = omega arith in rw e
  past v (suc d) i h n =
      let e : suc i + d ≡ i + suc d = omega arith in
      rw (drop-cons arcs i (arc_at [] 0) (omega arith))
      (left_out (free_into banned v) (arc_at arcs i) (drop (suc i) arcs) (other_head banned v (arc_at arcs i) (n i (omega arith) (omega arith)))
      ∙ past v d (suc i) (omega arith) (λ k x y. n k (omega arith) (omega arith))
      ∙ ap (λ (j : ℕ). filter (free_into banned v) (drop j arcs)) e)

  -- none are left behind the last arc
  pub frees_end : (k : ℕ) → length arcs ≤ k → frees_from banned arcs k ≡ []
  unfolding frees_from
  frees_end k h = rw (drop_of_length-le arcs {i = k} h)

  -- those from i on into v are those from the next arc into v on
  frees_next : (v i j : ℕ) → NextBy (end_of End.Head) arcs v i j → filter (free_into banned v) (drop i arcs) ≡ frees_from banned arcs j
  unfolding end_of frees_from
  frees_next v i j n =
      let e : i + (j - i) ≡ j = omega (arith, n.from) in
      past v (j - i) i (omega (arith, n.to)) (λ k x y. n.skipped k x (omega arith))
      ∙ ap (λ (k : ℕ). filter (free_into banned v) (drop k arcs)) e
      ∙ elim (dec_lt j (length arcs)) [
        | yes l ↦ ap (λ (u : ℕ). filter (free_into banned u) (drop j arcs)) (sym (n.here l))
        | no l ↦ let none = drop_of_length-le arcs {i = j} (omega arith) in ap (filter (free_into banned v)) none ∙ sym (ap (filter (free_into banned (arc_at arcs j).head)) none)
      ]

  pub frees_first : (v k : ℕ) → NextBy (end_of End.Head) arcs v 0 k → frees_from banned arcs k ≡ filter (free_into banned v) arcs
  frees_first v k n = sym (frees_next v 0 k n)

  -- from arc k to the next of its head: k is one of them where it is free
  module _ (k j : ℕ) (a : Arc) (inside : k < length arcs) (is : a ≡ arc_at arcs k) (n : NextBy (end_of End.Head) arcs (end_of End.Head (arc_at arcs k)) (k + 1) j) where
    abbrev p : Arc → Bool
    p = free_into banned (arc_at arcs k).head

    here : frees_from banned arcs k ≡ filter p (arc_at arcs k ∷ drop (suc k) arcs)
    unfolding frees_from
    here = ap (filter p) (drop-cons arcs k (arc_at [] 0) inside)

    rest : filter p (drop (suc k) arcs) ≡ frees_from banned arcs j
    unfolding end_of
    rest = let e : suc k ≡ k + 1 = omega arith in ap (λ (i : ℕ). filter p (drop i arcs)) e ∙ frees_next (arc_at arcs k).head (k + 1) j n

    pub frees_found : disjoint (of_arc a) banned ≡ true → frees_from banned arcs k ≡ a ∷ frees_from banned arcs j
    frees_found e =
        here ∙ (kept p (arc_at arcs k) (drop (suc k) arcs) (free_into_lem banned (arc_at arcs k).head (arc_at arcs k) refl (rw is at e))
        ∙ (ap (λ (l : List Arc). arc_at arcs k ∷ l) rest ∙ ap (λ (b : Arc). b ∷ frees_from banned arcs j) (sym is)))

    pub frees_barred : disjoint (of_arc a) banned ≡ false → frees_from banned arcs k ≡ frees_from banned arcs j
    frees_barred e = here ∙ (left_out p (arc_at arcs k) (drop (suc k) arcs) (exposed banned (arc_at arcs k).head (arc_at arcs k) (rw is at e)) ∙ rest)
