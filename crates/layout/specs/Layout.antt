-- A table laid out: the link of an arc, the stop of a node, and what all together say. Assumes nothing.
use Rattle.std.specs.Prelude.{ℕ, ◌≤◌, ◌<◌, Bool, true, List, ◌≡◌, length, get_or, if◌then◌else◌}
use Rattle.problem.specs.declared.Arc.{Arc}
use Rattle.problem.specs.declared.Exposure.{Exposure}
use Rattle.problem.specs.Table.{last_node, nodes}
use Rattle.problem.specs.Exposures.{of_arc}
use Rattle.problem.specs.Routes.{Mesh, arc_at}
use Rattle.side.specs.declared.Distance.{Distance}
use Rattle.side.specs.Side.{entry_at, reached_at, metres_at}
use Rattle.chain.specs.declared.Chain.{Chain}
use Rattle.chain.specs.Chain.{first_in, next_in}
use Rattle.net.specs.declared.Link.{Link}
use Rattle.net.specs.declared.Stop.{Stop}
use Rattle.net.specs.declared.Net.{Net}
use Rattle.net.specs.Net.{no_link, no_stop, lower_at, mesh_in, IsNet}

-- the link of an arc, chained by tails and by heads
abbrev pub link_of : Arc → (next next_in : ℕ) → Link
link_of a next next_in = record { metres = a.metres; tail = a.tail; head = a.head; next = next; next_in = next_in }

-- every arc is written: its link, what it is exposed to, and its span
pub record ArcsLaid (arcs : List Arc) (chain into : Chain) (links : List Link) (exposures : List Exposure) (spans : List ℕ) : Type 0 where
  pub link : (k : ℕ) → k < length arcs → get_or links k no_link ≡ link_of (arc_at arcs k) (next_in chain k) (next_in into k)
  pub exposure : (k : ℕ) → k < length arcs → get_or exposures k (record { risks = 0; low = 0; high = 0 }) ≡ of_arc (arc_at arcs k)
  pub span : (k : ℕ) → k < length arcs → get_or spans k 0 ≡ (arc_at arcs k).span

-- the lower bound where no way leads on: any number would hold, and this one is past every reach
abbrev pub far : ℕ
far = 4000000000

abbrev pub lower_of : Distance → ℕ
lower_of entry = if entry.reached then entry.metres else far

-- the stop of node v; and those of all nodes
abbrev pub stop_of : (chain : Chain) → List Distance → ℕ → Stop
stop_of chain side v = record { first = first_in chain v; lower = lower_of (entry_at side v) }

pub record StopsLaid (chain : Chain) (side : List Distance) (stops : List Stop) : Type 0 where
  pub size : length stops ≡ nodes
  pub here : (v : ℕ) → v ≤ last_node → get_or stops v no_stop ≡ stop_of chain side v

-- the net hangs together, and says this mesh and whether pairs must be apart; the source's lower bound is its length in the side table
pub record LaidOut (m : Mesh) (side : List Distance) (apart : Bool) (net : Net) : Type 0 where
  pub laid : IsNet net
  pub mesh_is : mesh_in net ≡ m
  pub apart_is : net.apart ≡ apart
  pub source_lower : reached_at side m.source ≡ true → lower_at net m.source ≡ metres_at side m.source
