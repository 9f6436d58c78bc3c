-- `print::verdict_word` meets its contract: the test picks the word. Assumes nothing.
use borrow.Author.Tests.{eq-eqb, ne_eqb}
use Rattle.problem.specs.Printed.{text}
use Rattle.print.proofs.verdict_word.Goals.{then-verdict-eq0, else-verdict-eq0}
use Rattle.print.proofs.verdict_word.Goals as goal

pub returns-clause-puts : goal.returns-clause-puts
unfolding text
returns-clause-puts c =
    elim c.if-verdict-eq0.branch [
      | then-verdict-eq0 w ↦ rw (eq-eqb _ 0 w.if-verdict-eq0.true) (rw w.word-is at c.copy.ensures)
      | else-verdict-eq0 w ↦ rw (ne_eqb _ 0 w.if-verdict-eq0.false) (rw w.word-is at c.copy.ensures)
    ]
