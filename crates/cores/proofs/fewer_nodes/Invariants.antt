-- `cores::fewer_nodes` meets its contract. The invariant: what is left of the core holds for the same exposure and bound, and the cores of the store are as they were. Assumes nothing.
use Rattle.std.proofs.Common.{◌≡◌}
use Rattle.cores.specs.Cores.{CoreHolds, CoresKept}
use Rattle.cores.proofs.fewer_nodes.Given as goal

abbrev pub invariant-loop-v : goal.invariant-loop-v
invariant-loop-v l = record {
  holds : CoreHolds l.net l.least;
  exposure_same : l.least.exposure ≡ l.fn.core.exposure;
  bound_same : l.least.bound ≡ l.fn.core.bound;
  kept : CoresKept l.initial.store.cores l.store.cores;
}
