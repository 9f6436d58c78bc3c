-- `cores::less_exposed` meets its contract. The invariant: what is left of the core holds for the same nodes and bound, and the cores of the store are as they were. Assumes nothing.
use Rattle.std.proofs.Common.{◌≡◌}
use Rattle.cores.specs.Cores.{CoreHolds, CoresKept}
use Rattle.cores.proofs.less_exposed.Given as goal

abbrev pub invariant-loop-r : goal.invariant-loop-r
invariant-loop-r l = record {
  holds : CoreHolds l.net l.least;
  nodes_same : l.least.nodes ≡ l.fn.core.nodes;
  bound_same : l.least.bound ≡ l.fn.core.bound;
  kept : CoresKept l.initial.store.cores l.store.cores;
}
