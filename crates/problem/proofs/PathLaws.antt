-- Paths, ways that meet no node twice: those that are listed are exactly the paths; each has at most 31 arcs, of at most 2,000,000 metres in a sound table, and so is no longer
-- than the largest reach, whatever the reach is. Assumes nothing.
use mathlib.Core.Path.{◌≡◌}
use mathlib.Core.Bool.{true}
use mathlib.Core.Logic.{◌↔◌}
use mathlib.Core.List.{List, Memᴰ}
use Prim.Native.Nat.{ℕ, ◌*◌, ◌≤◌, ◌<◌}
use native.Mathlib.Omega.{arith}
use lib.ListN.{length}
use Rattle.laws.specs.Sets.{with}
use Rattle.problem.specs.declared.Arc.{Arc}
use Rattle.problem.specs.Table.{last_node, most_arcs, most_arc_metres, most_reach, all_sound}
use Rattle.problem.specs.Routes.{Mesh, arc_at, metres_of, Way, IsPath, IsRoute, paths_from}
use Rattle.problem.proofs.TableLaws.{sound_at}
use Rattle.problem.proofs.RouteLaws.{grow_out, grow_in, grown_exact, grown_short, unmet_source}

-- every head is one of the 32 nodes, as the check of the arcs has it
abbrev pub LowHeads : List Arc → Type 0
LowHeads arcs = (k : ℕ) → k < length arcs → (arc_at arcs k).head ≤ last_node

pub sound_heads : (arcs : List Arc) → all_sound arcs ≡ true → LowHeads arcs
sound_heads arcs h k l = (sound_at arcs h k l).head_node

-- ---- the listed paths

module _ (arcs : List Arc) {v to : ℕ} {ks : List ℕ} where
  -- from one of the 32 nodes a path has at most 31 arcs
  pub path_short : LowHeads arcs → v ≤ last_node → IsPath arcs v to ks → length ks ≤ most_arcs
  path_short low node p = omega (arith, grown_short arcs to low ((grown_exact arcs to v ks).1 p), unmet_source v node)

  -- what is listed is a path
  pub paths_out : Memᴰ ks (paths_from arcs to v) → IsPath arcs v to ks
  paths_out m = (grown_exact arcs to v ks).0 (grow_out arcs to most_arcs (with 0 v) v ks m)

  -- and every path is listed
  pub paths_in : LowHeads arcs → v ≤ last_node → IsPath arcs v to ks → Memᴰ ks (paths_from arcs to v)
  paths_in low node p = grow_in arcs to most_arcs (path_short low node p) ((grown_exact arcs to v ks).1 p)

-- ---- how long a path of a sound table can be

module _ (arcs : List Arc) (sound : all_sound arcs ≡ true) where
  -- each arc of a way adds at most 2,000,000 metres
  way_metres : {v to : ℕ} {ks : List ℕ} → Way arcs v to ks → metres_of arcs ks ≤ most_arc_metres * length ks
  unfolding metres_of
  way_metres (Way.there e) = omega arith
  way_metres (Way.over {k = k} b t w) = omega (arith, (sound_at arcs sound k b).metres_range, way_metres w)

  -- wherever a path begins, it has at most 31 arcs: the tail of its first arc is a node
  pub path_arcs : {v to : ℕ} {ks : List ℕ} → IsPath arcs v to ks → length ks ≤ most_arcs
  path_arcs p = go p.way p
    where
      go : {v to : ℕ} {ks : List ℕ} → Way arcs v to ks → IsPath arcs v to ks → length ks ≤ most_arcs
      go (Way.there e) p = omega arith
      go (Way.over {k = k} b t w) p = path_short arcs (sound_heads arcs sound) (omega (arith, (sound_at arcs sound k b).tail_node)) p

  -- so it is at most 31 times 2,000,000 metres long
  pub path_range : {v to : ℕ} {ks : List ℕ} → IsPath arcs v to ks → metres_of arcs ks ≤ most_reach
  path_range p = omega (arith, way_metres p.way, path_arcs p)

-- the largest reach sets no limit: there every path is a route
pub largest_reach : (m : Mesh) → all_sound m.arcs ≡ true → m.reach ≡ most_reach → (ks : List ℕ) → IsRoute m ks ↔ IsPath m.arcs m.source m.terminal ks
largest_reach m sound e ks = (λ r. r.path, λ p. record { path = p; within_reach = omega (arith, path_range m.arcs sound p) })
