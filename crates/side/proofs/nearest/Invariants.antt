-- `side::nearest` meets its contract. The invariant: the best is the nearest of those that are not left in `rest`; the measure: `rest`, which loses its lowest.
-- Assumes nothing.
use Rattle.side.proofs.NearestLaws.{Passed}
use Rattle.side.proofs.nearest.Given as goal

abbrev pub invariant-loop-rest : goal.invariant-loop-rest
invariant-loop-rest l = Passed l.entries l.among l.best l.rest

abbrev pub decreases-loop-rest : goal.decreases-loop-rest
decreases-loop-rest l = l.rest
