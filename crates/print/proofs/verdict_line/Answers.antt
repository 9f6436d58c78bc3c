-- `print::verdict_line` meets its contract: the word, three numbers and the line feed. Assumes nothing.
use Rattle.std.proofs.Common.{arith}
use Rattle.problem.specs.Printed.{text}
use Rattle.print.proofs.LineLaws.{verdict_put}
use Rattle.print.proofs.verdict_line.Goals as goal

pub returns : goal.returns
unfolding text
returns c = record {
  puts = verdict_put c.args.reply.now c.from.ensures c.from-2.ensures c.number4.ensures (omega arith) (omega arith) (omega arith)
      c.verdict_word-next.ensures.puts c.field-next.ensures.puts c.field-next-2.ensures.puts c.field-next-3.ensures.puts c.put.ensures;
  upper_bound = omega arith;
}
