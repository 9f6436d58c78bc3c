-- A search under way: what is found so far, and what the steps of the search make of it. Assumes nothing.
use Rattle.std.specs.Prelude.{ℕ, ◌+◌, ◌≤◌, ◌<◌, ◌≡◌, Bool, ltb, length, take, reverse}
use mathlib.Core.List.{List, [], ◌∷◌, Memᴰ}
use Rattle.laws.specs.Sets.{bit, unmet}
use Rattle.problem.specs.declared.Arc.{Arc}
use Rattle.problem.specs.declared.Exposure.{Exposure}
use Rattle.problem.specs.Table.{last_node}
use Rattle.problem.specs.Routes.{route_of}
use Rattle.net.specs.declared.Net.{Net}
use Rattle.net.specs.declared.Behind.{Behind}
use Rattle.net.specs.Net.{arcs_in, mesh_in, IsNet}
use Rattle.bars.specs.declared.Barred.{Barred}
use Rattle.find.specs.declared.Role.TheVariants.{Standby}
use Rattle.find.specs.declared.Want.{Want}
use Rattle.find.specs.declared.Run.{Run}
use Rattle.find.specs.Find.{barred_for, InRange, Sure, Sought, meet, sought_from, Trail}

-- as many as a track has
abbrev pub places : ℕ
places = 32

-- the route is found when an arc is put down
abbrev pub is_found : Run → Bool
is_found run = ltb 0 run.count

-- the arcs put down; the one put down last leads
unfoldable pub arcs_found : Run → List ℕ
arcs_found run = reverse (take run.count run.arcs)

-- the search so far
abbrev pub sought_so_far : List Arc → Run → Sought
sought_so_far arcs run = record { found = is_found run; passed = run.passed; route = route_of arcs (arcs_found run) }

-- what lies behind a search, handed on one by one
abbrev pub behind_by : (met metres risks low high : ℕ) → Behind
behind_by met metres risks low high = record { met = met; metres = metres; exposure = record { risks = risks; low = low; high = high } }

-- the search begins: nothing has passed, and nothing is found
pub record Begins (w : Want) (run : Run) : Type 0 where
  pub want : run.want ≡ w
  pub none_passed : run.passed ≡ 0
  pub none_yet : run.count ≡ 0

-- the search has found nothing yet
pub record UnderWay (run : Run) : Type 0 where
  pub range : InRange run.want
  pub none_yet : run.count ≡ 0

-- one more arc is put down, and what is wanted stays as it is
pub record PutDown (k : ℕ) (before after : Run) : Type 0 where
  pub want_same : after.want ≡ before.want
  pub passed_same : after.passed ≡ before.passed
  pub one_more : after.count ≡ before.count + 1
  pub put_in_front : arcs_found after ≡ k ∷ arcs_found before

-- no more arcs are put down than this, and all are arcs of the mesh
pub record ArcsKnown (net : Net) (run : Run) (most : ℕ) : Type 0 where
  pub few : run.count ≤ most
  pub inside : (k : ℕ) → Memᴰ k (arcs_found run) → k < length (arcs_in net)

-- a route ended with arc k, and `route` lies behind its end
pub record Meets (net : Net) (k : ℕ) (route : Behind) (before after : Run) : Type 0 where
  pub want_same : after.want ≡ before.want
  pub known : ArcsKnown net after 1
  pub sought : sought_so_far (arcs_in net) after ≡ meet net.apart (mesh_in net) before.want (sought_so_far (arcs_in net) before) route k (k ∷ [])

-- what a search may count on at a node, with b behind it
pub record Finding (net : Net) (run : Run) (at : ℕ) (b : Behind) : Type 0 where
  pub words : IsNet net
  pub under_way : UnderWay run
  pub node : at ≤ last_node
  pub goes_on : at ≡ (mesh_in net).terminal → ⊥
  pub not_past : b.metres ≤ run.want.metres
  pub barred_met : (u : ℕ) → bit (barred_for run.want.role).nodes u ≤ bit b.met u
  pub came : (main : Exposure) (off : Barred) → run.want.role ≡ Standby main off → Trail (mesh_in net) main off at b.metres b.exposure

-- all that grows from a node was searched, where a standby that is wanted is a best one; no more arcs are put down than there were nodes not met
pub record Seeks (net : Net) (at : ℕ) (b : Behind) (before after : Run) : Type 0 where
  pub want_same : after.want ≡ before.want
  pub known : ArcsKnown net after (unmet 32 b.met)
  pub sought : Sure (mesh_in net) before.want
      → sought_so_far (arcs_in net) after ≡ sought_from net.apart (mesh_in net) before.want at b (sought_so_far (arcs_in net) before)
