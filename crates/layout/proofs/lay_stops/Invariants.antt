-- `layout::lay_stops` meets its contract. The invariant: the stops of the nodes below v are written. Assumes nothing.
use Rattle.std.proofs.Common.{ℕ, ◌<◌, ◌≡◌, length, get_or}
use Rattle.problem.specs.Table.{nodes}
use Rattle.net.specs.Net.{no_stop}
use Rattle.layout.specs.Layout.{stop_of}
use Rattle.layout.proofs.lay_stops.Given as goal

abbrev pub invariant-loop-v : goal.invariant-loop-v
invariant-loop-v l = record {
  size : length l.stops ≡ nodes;
  here : (u : ℕ) → u < l.v → get_or l.stops u no_stop ≡ stop_of l.chain l.side u;
}
