-- `sets::without` meets its contract: what is in the set and not in the other, with what is in both, makes the set. Assumes nothing.
use Rattle.std.proofs.Common.{◌-◌, arith}
use Rattle.std.proofs.lemmas.Nat.{and-not, and_comm}
use Rattle.laws.specs.Sets.{without}
use Rattle.sets.proofs.without.Goals as goal

pub returns : goal.returns
unfolding without
returns c =
    let s = c.args in
    omega (arith, and-not 64 s.other s.set c.ranges.other.fits c.ranges.set.fits, and_comm s.set s.other, and_comm s.set (18446744073709551615 - s.other))
