-- The invariant: once the numbers that are left are written too, all are (`Listed`). Assumes nothing.
use Rattle.std.proofs.Common.{arith}
use Rattle.problem.specs.Printed.{text}
use Rattle.print.proofs.FieldLaws.{listed_none, listed_more, listed_all}
use Rattle.print.proofs.numbers.Goals as goal

pub loop-byte-init : goal.loop-byte-init
loop-byte-init c = listed_none _ _ _

pub loop-byte-preserved : goal.loop-byte-preserved
loop-byte-preserved c =
    listed_more c.requires c.loop-byte.invariant c.loop-byte-test.true c.from.ensures (omega (arith, c.type_inv.bytes c.loop-byte.byte-index)) c.field-next.ensures.puts

pub returns : goal.returns
unfolding text
returns c =
    let done = listed_all c.requires c.loop-byte.invariant c.loop-byte-test.false c.put.ensures in
    record { puts = done.0; upper_bound = done.1 }
