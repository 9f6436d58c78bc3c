-- `exposure::few_ones` meets its contract: each time around one is taken away. Assumes nothing.
use Rattle.std.proofs.Common.{◌-◌, arith}
use Rattle.std.proofs.lemmas.Nat.{and_le_r}
use Rattle.laws.proofs.SetLaws.{ones_less}
use Rattle.exposure.proofs.few_ones.Goals as goal

pub loop-left-preserved : goal.loop-left-preserved
loop-left-preserved c =
    let l = c.loop-left in
    let smaller = and_le_r l.left (l.left - 1) in
    (omega (arith, ones_less 64 l.left (omega arith) l.invariant.1, l.invariant.0), omega (arith, smaller, l.invariant.1))
