-- What a search walks over: the arcs' links by number, the chain of each node, lower bounds, the request. Assumes nothing.
use Rattle.std.specs.Prelude.{ℕ, zero, suc, ◌+◌, ◌≤◌, ◌<◌, ◌^◌, Bool, true, false, List, [], ◌∷◌, ◌≡◌, length, get_or, replicate}
use Rattle.problem.specs.declared.Arc.{Arc}
use Rattle.problem.specs.declared.Exposure.{Exposure}
use Rattle.problem.specs.Table.{last_node, nodes, most_reach, most_in_table, all_sound}
use Rattle.problem.specs.Exposures.{of_arc}
use Rattle.problem.specs.Routes.{Mesh, mesh, arc_at, Way, metres_of, Route, ranking}
use Rattle.problem.specs.Pairs.{Pair}
use Rattle.problem.specs.Apart.{judges}
use Rattle.chain.specs.Chain.{NextBy, Next}
use Rattle.net.specs.declared.Link.{Link}
use Rattle.net.specs.declared.Stop.{Stop}
use Rattle.net.specs.declared.Net.{Net}

-- what stands where there is no link, and no stop
abbrev pub no_link : Link
no_link = record { metres = 0; tail = 0; head = 0; next = 0; next_in = 0 }

abbrev pub no_stop : Stop
no_stop = record { first = 0; lower = 0 }

abbrev pub link_at : Net → ℕ → Link
link_at net k = get_or net.links k no_link

abbrev pub exposure_at : Net → ℕ → Exposure
exposure_at net k = get_or net.exposures k (record { risks = 0; low = 0; high = 0 })

abbrev pub span_at : Net → ℕ → ℕ
span_at net k = get_or net.spans k 0

abbrev pub stop_at : Net → ℕ → Stop
stop_at net v = get_or net.stops v no_stop

abbrev pub next_of : Net → ℕ → ℕ
next_of net k = (link_at net k).next

abbrev pub next_in_of : Net → ℕ → ℕ
next_in_of net k = (link_at net k).next_in

abbrev pub first_at : Net → ℕ → ℕ
first_at net v = (stop_at net v).first

abbrev pub lower_at : Net → ℕ → ℕ
lower_at net v = (stop_at net v).lower

-- a net of no arc
abbrev pub blank_net : Net
blank_net = record {
  links = replicate most_in_table no_link;
  exposures = replicate most_in_table (record { risks = 0; low = 0; high = 0 });
  spans = replicate most_in_table 0;
  stops = replicate nodes no_stop;
  count = 0;
  source = 0;
  terminal = 0;
  first_door = 0;
  reach = 0;
  spanned = false;
  apart = false;
}

-- the arc of number k that a net says; n of them, from number k on; and all
abbrev pub arc_in : Net → ℕ → Arc
arc_in net k =
    record { tail = (link_at net k).tail; head = (link_at net k).head; span = span_at net k; metres = (link_at net k).metres; risks = (exposure_at net k).risks }

unfoldable pub arcs_from : Net → ℕ → ℕ → List Arc
arcs_from net zero k = []
arcs_from net (suc n) k = arc_in net k ∷ arcs_from net n (suc k)

unfoldable pub arcs_in : Net → List Arc
arcs_in net = arcs_from net net.count 0

-- the mesh that it says
abbrev pub mesh_in : Net → Mesh
mesh_in net = mesh (arcs_in net) net.source net.terminal net.reach

-- and its routes, in their ranking
abbrev pub routes_in : Net → List Route
routes_in net = ranking (mesh_in net)

-- the pairs that are judged
abbrev pub judged_in : Net → Pair → Bool
judged_in net = judges (mesh_in net) net.apart

-- what else holds of a net that says this mesh
pub record Chained (m : Mesh) (net : Net) : Type 0 where
  pub few : length m.arcs ≤ most_in_table
  pub counted : net.count ≡ length m.arcs
  pub sound : all_sound m.arcs ≡ true
  pub source_node : m.source ≤ last_node
  pub terminal_node : m.terminal ≤ last_node
  pub ends_differ : m.source ≡ m.terminal → ⊥
  pub reach_range : m.reach ≤ most_reach
  -- the chain of each node
  pub next : (k : ℕ) → k < length m.arcs → Next m.arcs (arc_at m.arcs k).tail (k + 1) (next_of net k)
  pub first : (v : ℕ) → v ≤ last_node → Next m.arcs v 0 (first_at net v)
  -- no way from a node to the terminal is shorter than its lower bound
  pub lower : (v : ℕ) → v ≤ last_node → {ks : List ℕ} → Way m.arcs v m.terminal ks → lower_at net v ≤ metres_of m.arcs ks
  pub lower_small : (v : ℕ) → v ≤ last_node → lower_at net v < 2 ^ 32
  pub lower_terminal : lower_at net m.terminal ≡ 0
  -- to what each arc is exposed; where no arc has a span, to none
  pub exposure : (k : ℕ) → k < length m.arcs → exposure_at net k ≡ of_arc (arc_at m.arcs k)
  pub plain : net.spanned ≡ false → (k : ℕ) → k < length m.arcs → ((of_arc (arc_at m.arcs k)).low ≡ 0) × ((of_arc (arc_at m.arcs k)).high ≡ 0)
  -- the arcs of one head, chained as well: those of the terminal are the doors
  pub next_into : (k : ℕ) → k < length m.arcs → NextBy (λ (a : Arc). a.head) m.arcs (arc_at m.arcs k).head (k + 1) (next_in_of net k)
  pub first_door : NextBy (λ (a : Arc). a.head) m.arcs m.terminal 0 net.first_door

-- a net hangs together
abbrev pub IsNet : Net → Type 0
IsNet net = Chained (mesh_in net) net
