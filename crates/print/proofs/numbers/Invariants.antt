-- The invariant: once the numbers that are left are written too, all are (`Listed`). Assumes nothing.
use Rattle.print.proofs.FieldLaws.{Listed}
use Rattle.print.proofs.numbers.Given as goal

abbrev pub invariant-loop-byte : goal.invariant-loop-byte
invariant-loop-byte l = Listed l.bytes l.initial.out l.at l.out l.next l.byte-index
