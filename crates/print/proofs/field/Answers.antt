-- `print::field` meets its contract: the space, then the digits. Assumes nothing.
use Rattle.std.proofs.Common.{◌^◌, ◌<◌, arith}
use Rattle.problem.specs.Printed.{text}
use Rattle.octets.proofs.PutLaws.{puts_then}
use Rattle.problem.proofs.DigitLaws.{digits_length}
use Rattle.print.proofs.field.Goals as goal

pub returns : goal.returns
unfolding text
returns c =
    let long : c.args.x < 10 ^ 10 = omega (arith, c.ranges.x) in
    record {
      puts = puts_then (omega (arith, c.requires)) c.put-next.ensures c.decimal.ensures;
      upper_bound = omega (arith, digits_length 9 10 c.args.x long);
    }
