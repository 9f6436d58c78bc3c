-- `planner::read_checked` meets its contract: the arcs that are read, of the table or of the one written anew, are those that the call is planned over. Assumes nothing.
use mathlib.Core.Path.{◌≡◌, ap, ◌∙◌}
use mathlib.Core.Bool.{true≢false}
use mathlib.Core.List.{List}
use Prim.Native.Nat.{ℕ, ◌-◌}
use lib.ListN.{length, take, drop}
use Rattle.spans.specs.Marks.{marked_table}
use Rattle.planner.proofs.PlannerLaws.{reads_unspanned, checked_marked, reads_marked, part_marked}
use Rattle.planner.proofs.read_checked.Goals.{After-put_all}
use Rattle.planner.proofs.read_checked.Goals as goal

-- what the part of the buffer holds
part_is : (c : After-put_all) → take (length c.args.table.now - 0) (drop 0 c.put_all.new.out) ≡ marked_table c.args.table.now
part_is c =
    ap (λ (l : List ℕ). take (length c.args.table.now - 0) (drop 0 l)) c.put_all.ensures ∙ part_marked c.requires _

pub read_table-requires : goal.read_table-requires
read_table-requires c = (c.requires, (λ e. c.any.ensures.1 c.if-not-any.true))

pub returns-then-not-any : goal.returns-then-not-any
returns-then-not-any c = reads_unspanned c.args.table.now c.args.q _ _ _ (c.any.ensures.1 c.if-not-any.true) c.read_table.ensures

pub read_table-requires-2 : goal.read_table-requires-2
read_table-requires-2 c =
    let written = part_is (goal.at.read_table-requires-2 c).After-put_all in
    (rw written (checked_marked c.requires), (λ e. absurd (true≢false e)))

pub returns : goal.returns
returns c =
    let written = part_is (goal.at.returns c).After-put_all in
    reads_marked c.requires _ _ _ (rw written at c.read_table-2.ensures)
