-- `mend::note_torn` meets its contract: nothing where the input is whole, and else the record of its torn end. Assumes nothing.
use native.Mathlib.Omega.{arith}
use Rattle.octets.proofs.PutLaws.{puts_none, puts_as}
use Rattle.mend.proofs.WrittenLaws.{torn_none, torn_some, torn_room}
use Rattle.mend.proofs.note_torn.Goals as goal

pub returns-then-input-eq0 : goal.returns-then-input-eq0
returns-then-input-eq0 c = puts_as (torn_none c.args.input.now c.if-input-eq0.true) (puts_none c.args.list.now c.args.at)

pub put_lost-requires : goal.put_lost-requires
put_lost-requires c = omega (arith, c.requires, torn_room c.args.input.now c.if-input-eq0.false)

pub returns : goal.returns
returns c =
    puts_as (torn_some c.args.input.now c.if-input-eq0.false) c.put_lost.ensures
