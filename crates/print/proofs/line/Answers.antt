-- `print::line` meets its contract: the word, the first number, the others and the line feed. Assumes nothing.
use Rattle.std.proofs.Common.{arith}
use Rattle.problem.specs.Printed.{fields}
use Rattle.octets.proofs.PutLaws.{puts_then}
use Rattle.print.proofs.line.Goals as goal

pub returns : goal.returns
unfolding fields
returns c = record {
  puts = puts_then (omega (arith, c.requires)) c.copy-next.ensures (puts_then (omega arith) c.field-next.ensures.puts c.numbers.ensures.puts);
  upper_bound = omega arith;
}
