-- `closed::has` meets its contract: a bit is 1 where it is not 0. Assumes nothing.
use Rattle.std.proofs.Common.{arith}
use Rattle.std.proofs.lemmas.Bool.Decides.{nat_tests}
use Rattle.std.proofs.lemmas.Nat.{and_mask}
use Rattle.laws.specs.Sets.{bit}
use Rattle.closed.proofs.has.Goals as goal

pub returns : goal.returns
unfolding bit
returns c = rw (and_mask _ 1) (grind (arith, nat_tests))
