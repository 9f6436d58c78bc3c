-- `sets::lowest` meets its contract: below the lowest of a set stand as many zeros as it is high. Assumes nothing.
use Rattle.laws.proofs.SetLaws.{lowest_trailing}
use Rattle.sets.proofs.lowest.Goals as goal

pub returns : goal.returns
returns c = lowest_trailing 64 c.args.set c.requires c.ranges.set.fits
