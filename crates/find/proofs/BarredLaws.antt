-- What a main bars its standbys from, gathered arc by arc: what is gathered so far, with the arcs still ahead, comes to what the whole main meets and ends with.
-- Assumes nothing.
use mathlib.Core.Path.{◌≡◌, refl, sym, ap, ap₂, ◌∙◌}
use mathlib.Core.Bool.{Bool}
use mathlib.Core.List.{List, [], ◌∷◌}
use Prim.Native.Nat.{ℕ, suc, ◌+◌, ◌≤◌, ◌<◌}
use native.Mathlib.Numerals.{add-one}
use lib.ListN.{length, get_or, drop, drop_of_length-le}
use lib.Seq.{drop-cons}
use Rattle.laws.specs.Sets.{with}
use Rattle.problem.specs.Exposures.{to_nothing}
use Rattle.problem.specs.Routes.{Mesh, arc_at}
use Rattle.net.specs.Search.{behind, start, onto, along, last_of, no_arc}
use Rattle.net.proofs.SearchLaws.{along_met}
use Rattle.bars.specs.declared.Barred.{Barred}
use Rattle.bars.specs.Bars.{barred_by, barred_by_list}

module _ (m : Mesh) (ks : List ℕ) where
  -- the nodes that are met where a list ends, had these been met before it
  abbrev met_by : ℕ → List ℕ → ℕ
  met_by met l = (along m.arcs (behind met 0 to_nothing) l).met

  -- before arc number i: the nodes met, and the arc gone over last
  pub record Gathered (met last i : ℕ) : Type 0 where
    pub nodes : (along m.arcs (behind met 0 to_nothing) (drop i ks)).met ≡ (along m.arcs (start m) ks).met
    pub ends : last_of last (drop i ks) ≡ last_of no_arc ks

  pub gathered_start : {at met : ℕ} → at ≡ m.source → met ≡ with 0 at → Gathered met no_arc 0
  gathered_start a e = record { nodes = ap (λ (s : ℕ). met_by s ks) (e ∙ ap (with 0) a); ends = refl }

  module _ {met last i : ℕ} (g : Gathered met last i) where
    pub gathered_next : i < length ks → {k head met' : ℕ} → k ≡ get_or ks i 0 → head ≡ (arc_at m.arcs k).head → met' ≡ with met head → Gathered met' k (i + 1)
    unfolding along last_of
    gathered_next more {k} {head} {met'} is e w =
        let next : k ∷ drop (i + 1) ks ≡ drop i ks = sym (rw add-one (drop-cons ks i 0 more ∙ ap (λ (x : ℕ). x ∷ drop (suc i) ks) (sym is))) in
        record {
          nodes =
              along_met m.arcs (behind met' 0 to_nothing) (onto (behind met 0 to_nothing) (arc_at m.arcs k)) (w ∙ ap (with met) e) (drop (i + 1) ks)
              ∙ ap (met_by met) next
              ∙ g.nodes;
          ends = ap (last_of last) next ∙ g.ends;
        }

    -- behind the last arc nothing is ahead
    pub gathered_end : length ks ≤ i → (only : Bool) {b : Barred} → b ≡ barred_by only m met last → b ≡ barred_by_list only m ks
    unfolding along last_of
    gathered_end h only e =
        let none : [] ≡ drop i ks = sym (drop_of_length-le ks {i = i} h) in
        e ∙ ap₂ (barred_by only m) (ap (met_by met) none ∙ g.nodes) (ap (last_of last) none ∙ g.ends)
