-- `reply::write` meets its contract. Each call puts the next field behind those before it (`puts_next`), and all fields together are
-- the record (`record_written`). Assumes nothing.
use Prim.Native.Nat.{ℕ}
use mathlib.Core.List.{List, ◌++◌}
use mathlib.Core.Path.{◌≡◌, ap, ◌∙◌}
use native.Mathlib.Omega.{arith}
use lib.ListN.{length, drop}
use Rattle.problem.specs.Table.{reply_size, bytes_of}
use Rattle.problem.specs.Reply.{reply_of}
use Rattle.octets.specs.Puts.{Puts}
use Rattle.octets.proofs.PutLaws.{puts_next, puts_whole}
use Rattle.track.specs.Track.{pair_in}
use Rattle.reply.proofs.RecordLaws.{record_written, record_length}
use Rattle.reply.proofs.write.Goals.{After-copy}
use Rattle.reply.proofs.write.Goals as goal

-- the record that is to be written, and its length
abbrev record_at : After-copy → List ℕ
record_at c = reply_of c.args.verdict c.args.floor c.args.ranked (pair_in c.args.main c.args.standby)

size : (c : After-copy) → length (record_at c) ≡ reply_size
size c = record_length c.args.verdict c.args.floor c.args.ranked c.args.main c.args.standby c.requires.1 c.requires.2

-- all eight fields are put
whole : (c : After-copy) → Puts (record_at c) c.args.reply.now 0 c.copy.new.out c.copy.result
whole c =
    let two = puts_next c.copy-at.ensures c.put_number-at.ensures in
    let four = puts_next (puts_next two c.put_number-at-2.ensures) c.put_number-at-3.ensures in
    let six = puts_next (puts_next four c.put_number-at-4.ensures) c.put_number-at-5.ensures in
    rw (← record_written c.args.verdict c.args.floor c.args.ranked c.args.main c.args.standby c.requires.1 c.requires.2 _ c.common-both.ensures c.size-shared.ensures.0 c.spans-spans.ensures.0 c.risks.ensures)
    (puts_next (puts_next six c.copy-at-2.ensures) c.copy.ensures)

pub put_number-at-requires-2 : goal.put_number-at-requires-2
unfolding bytes_of
put_number-at-requires-2 c = omega arith

pub put_number-at-requires-3 : goal.put_number-at-requires-3
unfolding bytes_of
put_number-at-requires-3 c = omega arith

pub put_number-at-requires-4 : goal.put_number-at-requires-4
unfolding bytes_of
put_number-at-requires-4 c = omega arith

pub put_number-at-requires-5 : goal.put_number-at-requires-5
unfolding bytes_of
put_number-at-requires-5 c = omega arith

pub copy-at-requires-2 : goal.copy-at-requires-2
unfolding bytes_of
copy-at-requires-2 c = omega arith

pub copy-requires : goal.copy-requires
unfolding bytes_of
copy-requires c = omega arith

pub returns : goal.returns
returns c =
    let l = (goal.at.returns c).After-copy in
    puts_whole (whole l) ∙ ap (λ (n : ℕ). record_at l ++ drop n c.args.reply.now) (size l)
