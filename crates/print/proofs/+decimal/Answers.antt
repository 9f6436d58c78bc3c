-- `print::decimal` meets its contract: all digits but the last are those of the tenth (`digits_last`). Assumes nothing.
use Rattle.std.proofs.Common.{◌/◌, ◌^◌, ◌<◌, arith}
use Rattle.octets.proofs.PutLaws.{puts_then}
use Rattle.problem.proofs.DigitLaws.{digits_one, digits_last, digits_length}
use Rattle.print.proofs.+decimal.Goals as goal

pub returns-then-x-lt10 : goal.returns-then-x-lt10
returns-then-x-lt10 t c = rw (digits_one 9 c.args.x c.if-x-lt10.true) c.put.ensures

pub put-requires-2 : goal.put-requires-2
put-requires-2 t c =
    let tenth : c.args.x / 10 < 10 ^ 9 = omega (arith, c.ranges.x) in
    omega (arith, digits_length 8 10 (c.args.x / 10) tenth)

pub returns : goal.returns
returns t c = rw (digits_last c.args.x c.if-x-lt10.false (omega arith)) (puts_then (omega (arith, c.requires)) c.decimal-next.ensures c.put-2.ensures)
