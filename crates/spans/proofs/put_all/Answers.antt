-- `spans::put_all` meets its contract. The invariant: the records of the first k arcs are put, and those of the others are left. The measure: the arcs left.
-- Assumes nothing.
use Prim.Native.Nat.{suc, ◌+◌, ◌-◌, ◌/◌}
use mathlib.Core.Path.{◌≡◌, refl, ap, ◌∙◌}
use native.Mathlib.Omega.{arith}
use lib.ListN.{length}
use Rattle.octets.proofs.PutLaws.{none_put, more_put, all_put, puts_whole, puts_length}
use Rattle.spans.specs.Marks.{marked_from}
use Rattle.spans.proofs.MarkLaws.{record_length, marked_next, marked_end}
use Rattle.spans.proofs.put_all.Goals as goal

pub loop-k-init : goal.loop-k-init
loop-k-init c =
    let whole : length c.args.table.now / 16 - 0 ≡ length c.args.table.now / 16 = omega arith in
    (omega arith, refl, none_put _ (ap (marked_from c.args.table.now 0) whole))

pub put_marked-at-requires : goal.put_marked-at-requires
put_marked-at-requires c =
    (omega (arith, c.loop-k-test.true, c.loop-k.invariant.0, c.loop-k.invariant.1, c.requires.0), omega (arith, c.loop-k-test.true), c.requires.1)

pub loop-k-preserved : goal.loop-k-preserved
loop-k-preserved c =
    let table = c.args.table.now in
    let n = length table in
    let p = c.put_marked-at.ensures in
    let size = record_length table c.loop-k.k c.loop-k-test.true in
    let left : n / 16 - c.loop-k.k ≡ suc (n / 16 - (c.loop-k.k + 1)) = omega (arith, c.loop-k-test.true) in (
      omega (arith, p.place, size, c.loop-k.invariant.0),
      puts_length (omega (arith, p.place, size, c.loop-k.invariant.0, c.loop-k.invariant.1, c.requires.0, c.loop-k-test.true)) p ∙ c.loop-k.invariant.1,
      more_put c.loop-k.invariant.2 (ap (marked_from table c.loop-k.k) left ∙ marked_next table c.loop-k.k (n / 16 - (c.loop-k.k + 1))) p,
    )

pub shape_of-out : goal.shape_of-out
shape_of-out c = c.loop-k.invariant.1

pub returns : goal.returns
returns c =
    let table = c.args.table.now in
    let none : length table / 16 - c.loop-k.k ≡ 0 = omega (arith, c.loop-k-test.false) in
    puts_whole (all_put c.loop-k.invariant.2 (ap (marked_from table c.loop-k.k) none ∙ marked_end table c.loop-k.k))
