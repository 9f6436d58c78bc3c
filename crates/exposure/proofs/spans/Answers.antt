-- `exposure::spans` meets its contract: how many ones both fields of spans have. Assumes nothing.
use mathlib.Core.Path.{◌≡◌}
use native.Mathlib.Omega.{arith}
use lib.Count.{ones_in}
use Rattle.problem.specs.declared.Exposure.{Exposure}
use Rattle.problem.specs.Exposures.{spans_in}
use Rattle.exposure.proofs.spans.Goals as goal

none : (e : Exposure) → e.low ≡ 0 → e.high ≡ 0 → 0 ≡ spans_in e
unfolding spans_in ones_in
none e low high = rw (low, high)

pub returns-then-is_spanless : goal.returns-then-is_spanless
returns-then-is_spanless c = let s = c.is_spanless.ensures c.if-is_spanless.true in (none _ s.0 s.1, omega arith)
