-- A search over the words hands each path's end to what it is asked to find (`searched`): what lies behind an end, and what an arc of a node's chain does
-- to the search. Assumes nothing.
use mathlib.Core.Path.{◌≡◌, refl, sym, ap, ◌∙◌, subst}
use mathlib.Core.Logic.{◌⊎◌, inl, inr}
use mathlib.Core.Bool.{Bool, true, false}
use mathlib.Core.List.Memᴰ
use mathlib.Core.List.{List, [], ◌∷◌, map, foldl, Memᴰ}
use Prim.Native.Nat.{ℕ, suc, ◌+◌, ◌≤◌, ◌<◌}
use native.Mathlib.Nat.{add_assoc}
use native.Mathlib.Numerals.{add-one}
use native.Mathlib.Omega.{arith}
use lib.ListN.{length, drop}
use lib.Seq.{drop-cons}
use lib.Dec.{eqb}
use borrow.Author.Tests.{eqb-true, eqb-false, ne_eqb}
use Rattle.laws.specs.Sets.{bit, with, unmet}
use Rattle.laws.proofs.SetLaws.{bit_le_one, unmet_with}
use Rattle.problem.specs.declared.Arc.{Arc}
use Rattle.problem.specs.declared.Exposure.{Exposure}
use Rattle.problem.specs.Table.{last_node}
use Rattle.problem.specs.Exposures.{to_nothing, of_arc, joined}
use Rattle.problem.specs.Routes.{arc_at, metres_of, exposure_of, Way, opens, sprout, grow, paths}
use Rattle.problem.proofs.TableLaws.{sound_at}
use Rattle.problem.proofs.ExposureLaws.{joined_assoc, joined_nothing}
use Rattle.problem.proofs.RouteLaws.{opens_by, opens_new}
use Rattle.problem.proofs.GrowthLaws.{fold_idle, fold_same, fold_there, grow_way, grow_source, left_from, left_start, left_end, left_open, left_shut}
use Rattle.problem.proofs.PathLaws.{sound_heads}
use Rattle.chain.specs.Chain.{Next}
use Rattle.chain.proofs.ChainLaws.{sprout_next}
use Rattle.net.specs.declared.Behind.{Behind}
use Rattle.net.specs.declared.Net.{Net}
use Rattle.net.specs.Net.{first_at, lower_at, next_of, arcs_in, mesh_in, IsNet}
use Rattle.net.specs.Search.{behind, start, onto, along, last_of, no_arc, visit, onward, searched, searched_all}
use Rattle.net.proofs.NetLaws.{left_next}

-- what a test of membership said, at the arc's own head
pub has_met : (met : ℕ) {h a : ℕ} {b : Bool} → h ≡ a → b ≡ eqb (bit met h) 1 → b ≡ true → bit met a ≡ 1
has_met met {h} e f t = ap (bit met) (sym e) ∙ eqb-true (bit met h) 1 (sym f ∙ t)

pub has_not_met : (met : ℕ) {h a : ℕ} {b : Bool} → h ≡ a → b ≡ eqb (bit met h) 1 → b ≡ false → bit met a ≡ 0
has_not_met met {h} e f t = omega (arith, ap (bit met) e, eqb-false (bit met h) 1 (sym f ∙ t), bit_le_one met h)

-- what was read of an arc, put behind
pub onto_read : (b : Behind) (a : Arc) {met h m : ℕ} {e r : Exposure} → met ≡ with b.met h → h ≡ a.head → m ≡ a.metres → e ≡ joined b.exposure r → r ≡ of_arc a
    → behind met (b.metres + m) e ≡ onto b a
onto_read b a w h m j r = rw (w, h, m, j, r)

-- ---- what lies behind an end

module _ (arcs : List Arc) where
  pub along_metres : (b : Behind) (ks : List ℕ) → (along arcs b ks).metres ≡ b.metres + metres_of arcs ks
  unfolding along metres_of
  along_metres b [] = omega arith
  along_metres b (k ∷ ks) = along_metres (onto b (arc_at arcs k)) ks ∙ add_assoc b.metres (arc_at arcs k).metres (metres_of arcs ks)

  pub along_exposure : (b : Behind) (ks : List ℕ) → (along arcs b ks).exposure ≡ joined b.exposure (exposure_of arcs ks)
  unfolding along exposure_of
  along_exposure b [] = sym (joined_nothing b.exposure)
  along_exposure b (k ∷ ks) = along_exposure (onto b (arc_at arcs k)) ks ∙ joined_assoc b.exposure _ (exposure_of arcs ks)

  -- which nodes are met there only the nodes met before decide
  pub along_met : (b c : Behind) → b.met ≡ c.met → (ks : List ℕ) → (along arcs b ks).met ≡ (along arcs c ks).met
  unfolding along
  along_met b c e [] = e
  along_met b c e (k ∷ ks) = along_met (onto b (arc_at arcs k)) (onto c (arc_at arcs k)) (ap (λ (s : ℕ). with s (arc_at arcs k).head) e) ks

  -- what goes on from another node than the end has an arc, so that it ends with one of its own, whichever came before it
  pub last_own : (before : ℕ) (ks : List ℕ) {v to : ℕ} → (v ≡ to → ⊥) → Way arcs v to ks → last_of before ks ≡ last_of no_arc ks
  unfolding last_of
  last_own before [] on (Way.there t) = absurd (on t)
  last_own before (k ∷ ks) on w = refl

-- ---- a search from a node

module _ {S : Type 0} (net : Net) (end : S → Behind → ℕ → S) (b : Behind) (at : ℕ) where
  abbrev arcs : List Arc
  arcs = arcs_in net

  abbrev terminal : ℕ
  terminal = (mesh_in net).terminal

  abbrev met : ℕ
  met = b.met

  -- what is left from arc i on
  abbrev pub Left : ℕ → S → S
  Left i s = left_from arcs terminal (visit arcs end b) (unmet 32 met) met at i s

  -- behind arc i
  abbrev head : ℕ → ℕ
  head i = (arc_at arcs i).head

  abbrev pub over : ℕ → Behind
  over i = onto b (arc_at arcs i)

  abbrev through : ℕ → S → S
  through i s = foldl (λ (t : S) (ks : List ℕ). end t (along arcs (over i) ks) (last_of i ks)) s (grow arcs terminal (unmet 32 met) (with met (head i)) (head i))

  -- the same as a list
  abbrev pub list_from : ℕ → List (List ℕ)
  list_from i = sprout (grow arcs terminal (unmet 32 met)) met at i (drop i arcs)

  -- the search stands at arc i of the node's chain
  pub record Place (i : ℕ) : Type 0 where
    pub inside : i ≤ length arcs
    pub here : i < length arcs → (arc_at arcs i).tail ≡ at

  module _ (words : IsNet net) where
    pub place_first : at ≤ last_node → Place (first_at net at)
    place_first node = let f = words.first at node in record { inside = f.to; here = f.here }

    pub left_first : (s : S) → at ≤ last_node → (at ≡ terminal → ⊥) → Left (first_at net at) s ≡ searched (mesh_in net) end b at s
    left_first s node on =
        sym (left_start arcs terminal (visit arcs end b) (unmet 32 met) met at s on ∙ left_next arcs terminal (visit arcs end b) (unmet 32 met) met at 0 _ s (words.first at node))

    pub left_last : (i : ℕ) (s : S) → length arcs ≤ i → Left i s ≡ s
    left_last i s h = left_end arcs terminal (visit arcs end b) (unmet 32 met) met at i s h

    module _ {i : ℕ} (place : Place i) (l : i < length arcs) where
      pub next_arc : Next arcs at (i + 1) (next_of net i)
      next_arc = subst (λ (v : ℕ). Next arcs v (i + 1) (next_of net i)) (place.here l) (words.next i l)

      pub place_next : Place (next_of net i)
      place_next = record { inside = next_arc.to; here = next_arc.here }

      pub next_past : i < next_of net i
      next_past = omega (arith, next_arc.from)

      pub head_node : head i ≤ last_node
      head_node = (sound_at arcs words.sound i l).head_node

      pub fewer : bit met (head i) ≡ 0 → unmet 32 met ≡ suc (unmet 32 (with met (head i)))
      fewer e = unmet_with 32 (head i) met (omega (arith, head_node)) e

      further : (s : S) → Left (i + 1) s ≡ Left (next_of net i) s
      further s = left_next arcs terminal (visit arcs end b) (unmet 32 met) met at (i + 1) _ s next_arc

      -- a head that was met before
      pub left_met : (s : S) → bit met (head i) ≡ 1 → Left i s ≡ Left (next_of net i) s
      left_met s e = go (opens met at (arc_at arcs i)) refl
        where
          go : (o : Bool) → opens met at (arc_at arcs i) ≡ o → Left i s ≡ Left (next_of net i) s
          go true f = absurd (omega (arith, opens_new met at (arc_at arcs i) f))
          go false f = left_shut arcs terminal (visit arcs end b) (unmet 32 met) met at i s l f ∙ further s

      -- what all that goes over the arc makes of the state
      left_through : (s r : S) → bit met (head i) ≡ 0 → through i s ≡ r → Left i s ≡ Left (next_of net i) r
      unfolding along last_of
      left_through s r e f =
          left_open arcs terminal (visit arcs end b) (unmet 32 met) met at i s l (opens_by met at (arc_at arcs i) (place.here l) e)
          ∙ ap (Left (i + 1)) f ∙ further r

      -- nothing that goes over the arc changes the state
      pub left_idle : (s : S) → ((ks : List ℕ) → Way arcs (head i) terminal ks → lower_at net (head i) ≤ metres_of arcs ks → (k : ℕ) → end s (along arcs (over i) ks) k ≡ s)
          → Left i s ≡ Left (next_of net i) s
      left_idle s f = go (opens met at (arc_at arcs i)) refl
        where
          idle : (ks : List ℕ) → Way arcs (head i) terminal ks → end s (along arcs (over i) ks) (last_of i ks) ≡ s
          idle ks w = f ks w (words.lower (head i) head_node w) (last_of i ks)

          go : (o : Bool) → opens met at (arc_at arcs i) ≡ o → Left i s ≡ Left (next_of net i) s
          go true e = left_through s s (opens_new met at (arc_at arcs i) e) (fold_idle _ s _ (λ ks m. idle ks (grow_way arcs terminal (unmet 32 met) (with met (head i)) (head i) m)))
          go false e = left_shut arcs terminal (visit arcs end b) (unmet 32 met) met at i s l e ∙ further s

      -- the arc ends at the terminal
      pub left_there : (s : S) → bit met (head i) ≡ 0 → head i ≡ terminal → Left i s ≡ Left (next_of net i) (end s (over i) i)
      unfolding along last_of
      left_there s e t = left_through s _ e (fold_there arcs terminal _ (unmet 32 met) _ _ s t)

      -- the search goes on from the head: the fuel is one more than the nodes not met then
      pub left_onward : (s : S) → bit met (head i) ≡ 0 → (head i ≡ terminal → ⊥) → Left i s ≡ Left (next_of net i) (searched (mesh_in net) end (over i) (head i) s)
      left_onward s e on =
          left_through s _ e
          (fold_same _ (visit arcs end (over i)) s _ (λ t ks m. ap (end t (along arcs (over i) ks)) (last_own arcs i ks on (grow_way arcs terminal (unmet 32 met) (with met (head i)) (head i) m)))
          ∙ ap (λ (n : ℕ). foldl (visit arcs end (over i)) s (grow arcs terminal n (with met (head i)) (head i))) (fewer e))

    -- ---- members

    pub list_first : at ≤ last_node → (at ≡ terminal → ⊥) → onward (mesh_in net) b at ≡ list_from (first_at net at)
    unfolding grow
    list_first node on = rw (ne_eqb at terminal on, grow) (sprout_next (grow arcs terminal (unmet 32 met)) met at arcs 0 _ (words.first at node))

    -- a member goes over the arc, or is left from the next arc on
    pub list_next : {i : ℕ} (place : Place i) (l : i < length arcs) {ks : List ℕ} → Memᴰ ks (list_from i)
        → ((more : List ℕ) × (ks ≡ i ∷ more) × (bit met (head i) ≡ 0) × Memᴰ more (grow arcs terminal (unmet 32 met) (with met (head i)) (head i))) ⊎ Memᴰ ks (list_from (next_of net i))
    unfolding sprout
    list_next {i} place l {ks} m = go (opens met at (arc_at arcs i)) refl
      where
        Over : Type 0
        Over = (more : List ℕ) × (ks ≡ i ∷ more) × (bit met (head i) ≡ 0) × Memᴰ more (grow arcs terminal (unmet 32 met) (with met (head i)) (head i))

        here : Memᴰ ks (sprout (grow arcs terminal (unmet 32 met)) met at i (arc_at arcs i ∷ drop (suc i) arcs))
        here = rw (drop-cons arcs i (arc_at [] 0) l) at m

        on : sprout (grow arcs terminal (unmet 32 met)) met at (suc i) (drop (suc i) arcs) ≡ list_from (next_of net i)
        on = rw add-one at (sprout_next (grow arcs terminal (unmet 32 met)) met at arcs (i + 1) _ (next_arc place l))

        cases : opens met at (arc_at arcs i) ≡ true
            → Memᴰ ks (map (λ r. i ∷ r) (grow arcs terminal (unmet 32 met) (with met (head i)) (head i))) ⊎ Memᴰ ks (sprout (grow arcs terminal (unmet 32 met)) met at (suc i) (drop (suc i) arcs))
            → Over ⊎ Memᴰ ks (list_from (next_of net i))
        cases e (inl x) = let o = Memᴰ.of_map (λ r. i ∷ r) (grow arcs terminal (unmet 32 met) (with met (head i)) (head i)) x in inl (o.0, sym o.2, opens_new met at (arc_at arcs i) e, o.1)
        cases e (inr x) = inr (subst (λ (r : List (List ℕ)). Memᴰ ks r) on x)

        go : (o : Bool) → opens met at (arc_at arcs i) ≡ o → Over ⊎ Memᴰ ks (list_from (next_of net i))
        go true e = cases e (Memᴰ.append_cases (map (λ r. i ∷ r) (grow arcs terminal (unmet 32 met) (with met (head i)) (head i))) (rw (e, sprout) at here))
        go false e = inr (subst (λ (r : List (List ℕ)). Memᴰ ks r) on (rw (e, sprout) at here))

-- ---- from the source

-- what goes on from there are all paths
pub source_paths : (net : Net) → IsNet net → {at seen : ℕ} (metres : ℕ) (e : Exposure) → at ≡ (mesh_in net).source → seen ≡ with 0 at → onward (mesh_in net) (behind seen metres e) at ≡ paths (mesh_in net)
source_paths net words {at} {seen} metres e a s =
    same a (s ∙ ap (with 0) a) ∙ grow_source (arcs_in net) (mesh_in net).terminal (sound_heads (arcs_in net) words.sound) (mesh_in net).source words.source_node
  where
    same : at ≡ (mesh_in net).source → seen ≡ with 0 (mesh_in net).source → onward (mesh_in net) (behind seen metres e) at ≡ onward (mesh_in net) (start (mesh_in net)) (mesh_in net).source
    same p q = rw (p, q)

-- and what was found is found over all of them
pub from_source : {S : Type 0} (net : Net) → IsNet net → (end : S → Behind → ℕ → S) (s : S) {at seen : ℕ} {e : Exposure} {x : S} → at ≡ (mesh_in net).source → seen ≡ with 0 at → e ≡ to_nothing
    → x ≡ searched (mesh_in net) end (behind seen 0 e) at s → x ≡ searched_all (mesh_in net) end s
from_source {S} net words end s {at} {seen} {e} a m n h =
    h ∙ ap (foldl (visit (arcs_in net) end (behind seen 0 e)) s) (source_paths net words 0 e a m) ∙ same (m ∙ ap (with 0) a) n
  where
    same : seen ≡ with 0 (mesh_in net).source → e ≡ to_nothing → foldl (visit (arcs_in net) end (behind seen 0 e)) s (paths (mesh_in net)) ≡ searched_all (mesh_in net) end s
    same q r = rw (q, r)
