-- `mend::put_lost` meets its contract: there is room for each field behind those before it (`room_left`), and together they are the record (`lost_written`).
-- Assumes nothing.
use Prim.Native.Nat.{◌≤◌}
use native.Mathlib.Omega.{arith}
use lib.ListN.{length}
use Rattle.problem.specs.Table.{bytes_of}
use Rattle.octets.proofs.PutLaws.{puts_as, puts_then}
use Rattle.mend.proofs.WrittenLaws.{room_left, lost_written}
use Rattle.mend.proofs.put_lost.Goals as goal

pub put-next-requires : goal.put-next-requires
unfolding bytes_of
put-next-requires c = omega (arith, room_left 14 c.put_number-next.ensures c.requires)

pub put-next-requires-2 : goal.put-next-requires-2
unfolding bytes_of
put-next-requires-2 c =
    let one = room_left 14 c.put_number-next.ensures c.requires in
    omega (arith, room_left 13 c.put-next.ensures one)

pub put_number-next-requires-2 : goal.put_number-next-requires-2
unfolding bytes_of
put_number-next-requires-2 c =
    let two = room_left 13 c.put-next.ensures (room_left 14 c.put_number-next.ensures c.requires) in
    omega (arith, room_left 12 c.put-next-2.ensures two)

pub put_number-requires : goal.put_number-requires
unfolding bytes_of
put_number-requires c =
    let two = room_left 13 c.put-next.ensures (room_left 14 c.put_number-next.ensures c.requires) in
    room_left 10 c.put_number-next-2.ensures (room_left 12 c.put-next-2.ensures two)

pub returns : goal.returns
returns c =
    let inside : c.args.at ≤ length c.args.list.now = omega (arith, c.requires) in
    let three = puts_then inside (puts_then inside c.put_number-next.ensures c.put-next.ensures) c.put-next-2.ensures in
    puts_as (lost_written c.args.old _ c.args.why c.from-reason.ensures) (puts_then inside (puts_then inside three c.put_number-next-2.ensures) c.put_number.ensures)
