-- `floor::start` meets its contract. The invariant: the nodes below v have their entries, and are exposed to all. Assumes nothing.
use Rattle.std.proofs.Common.{ℕ, ◌<◌, ◌≡◌, [], length, get_or}
use Rattle.problem.specs.Table.{nodes}
use Rattle.problem.specs.Exposures.{to_all}
use Rattle.side.specs.Side.{unreached}
use Rattle.floor.specs.Clearing.{held_at}
use Rattle.floor.proofs.start.Given as goal

abbrev pub invariant-loop-v : goal.invariant-loop-v
invariant-loop-v l = record {
  size : length l.ways ≡ nodes;
  here : (u : ℕ) → u < l.v → get_or l.ways u (held_at [] 0) ≡ record { entry = get_or l.fn.plain u unreached; exposure = to_all };
}
