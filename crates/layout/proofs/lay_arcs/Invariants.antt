-- `layout::lay_arcs` meets its contract. The invariant: the arcs below k are written. Assumes nothing.
use Rattle.std.proofs.Common.{ℕ, ◌<◌, ◌≡◌}
use Rattle.problem.specs.Table.{arcs_of}
use Rattle.problem.specs.Exposures.{of_arc}
use Rattle.problem.specs.Routes.{arc_at}
use Rattle.chain.specs.Chain.{next_in}
use Rattle.net.specs.Net.{link_at, exposure_at, span_at}
use Rattle.layout.specs.Layout.{link_of}
use Rattle.layout.proofs.lay_arcs.Given as goal

abbrev pub invariant-loop-k : goal.invariant-loop-k
invariant-loop-k l = record {
  link : (j : ℕ) → j < l.k → link_at l.net j ≡ link_of (arc_at (arcs_of l.table) j) (next_in l.chain j) (next_in l.into j);
  exposure : (j : ℕ) → j < l.k → exposure_at l.net j ≡ of_arc (arc_at (arcs_of l.table) j);
  span : (j : ℕ) → j < l.k → span_at l.net j ≡ (arc_at (arcs_of l.table) j).span;
}
