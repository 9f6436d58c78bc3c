-- Free ways, arc by arc: one arc more is free where the arc and the rest are, and only there. Assumes nothing.
use mathlib.Core.Path.{◌≡◌, refl}
use mathlib.Core.Bool.{true}
use mathlib.Core.List.{List, ◌∷◌}
use Prim.Native.Nat.{ℕ, ◌<◌}
use lib.ListN.{length}
use Rattle.problem.specs.declared.Arc.{Arc}
use Rattle.problem.specs.declared.Exposure.{Exposure}
use Rattle.problem.specs.Exposures.{of_arc, disjoint}
use Rattle.problem.specs.Routes.{arc_at, exposure_of, Way, FreeWay}
use Rattle.problem.proofs.ExposureLaws.{inside_joined, joined_inside, disjoint_inside, disjoint_joined}

module _ (arcs : List Arc) (banned : Exposure) (k : ℕ) (ks : List ℕ) where
  pub free_first : disjoint (exposure_of arcs (k ∷ ks)) banned ≡ true → disjoint (of_arc (arc_at arcs k)) banned ≡ true
  unfolding exposure_of
  free_first e = disjoint_inside _ _ banned (inside_joined (of_arc (arc_at arcs k)) (exposure_of arcs ks)) e

  pub free_rest : disjoint (exposure_of arcs (k ∷ ks)) banned ≡ true → disjoint (exposure_of arcs ks) banned ≡ true
  unfolding exposure_of
  free_rest e = disjoint_inside _ _ banned (joined_inside (of_arc (arc_at arcs k)) (exposure_of arcs ks)) e

  pub free_over : (terminal : ℕ) → k < length arcs → disjoint (of_arc (arc_at arcs k)) banned ≡ true
      → FreeWay arcs banned terminal (arc_at arcs k).head ks → FreeWay arcs banned terminal (arc_at arcs k).tail (k ∷ ks)
  unfolding exposure_of
  free_over terminal h f w = record { way = Way.over h refl w.way; free = disjoint_joined (of_arc (arc_at arcs k)) (exposure_of arcs ks) banned f w.free }
