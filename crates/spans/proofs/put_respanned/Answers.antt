-- `spans::put_respanned` meets its contract: two bytes, the span and the rest, put one behind the other, are the record (`respanned_written`). Assumes nothing.
use native.Mathlib.Omega.{arith}
use lib.ListN.{length-take, length-drop}
use Rattle.problem.specs.Table.{bytes_of}
use Rattle.octets.proofs.PutLaws.{puts_then, puts_as}
use Rattle.spans.proofs.MarkLaws.{respanned_written}
use Rattle.spans.proofs.put_respanned.Goals as goal

pub copy-requires : goal.copy-requires
unfolding bytes_of
copy-requires c = simp (length-take, length-drop) (omega arith)

pub returns : goal.returns
returns c =
    puts_as (respanned_written c.args.bytes.now c.args.span c.requires.1) (puts_then (omega arith) (puts_then (omega arith) c.copy-next.ensures c.put_number-next.ensures) c.copy.ensures)
