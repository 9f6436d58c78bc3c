-- `print::render` meets its contract: numbers 0 and 1 give the three lines, others the refusal. Assumes nothing.
use borrow.Author.Tests.{lt-ltb, le-ltb}
use Rattle.problem.specs.Printed.{text, printed}
use Rattle.print.proofs.render.Goals as goal

pub returns-then-number-lt2 : goal.returns-then-number-lt2
unfolding text printed
returns-then-number-lt2 c = rw (lt-ltb _ 2 c.if-number-lt2.true) c.lines.ensures

pub returns : goal.returns
unfolding text printed
returns c = rw (le-ltb _ 2 c.if-number-lt2.false) c.line.ensures.puts
