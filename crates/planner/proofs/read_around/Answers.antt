-- `planner::read_around` meets its contract: the routes over the arcs that are read, closed ones turned round, are those over open arcs. Assumes nothing.
use mathlib.Core.Path.{◌≡◌, sym, ap, ◌∙◌}
use mathlib.Core.List.{List, ◌++◌}
use Prim.Native.Nat.{ℕ, ◌-◌, ◌≤◌}
use borrow.Author.Tests.{not-false, eqb-true}
use native.Mathlib.Omega.{arith}
use lib.ListN.{length, take, length-take, length-append}
use lib.Seq.{take_at}
use Rattle.problem.specs.Table.{arcs_of}
use Rattle.problem.specs.Spans.{marked_arcs}
use Rattle.closed.specs.Turned.{set_of, turned_in}
use Rattle.planner.proofs.PlannerLaws.{checked_turned, unspanned_turned, reads_turned, reads_open}
use Rattle.planner.proofs.read_around.Goals.{After-turn_all}
use Rattle.planner.proofs.read_around.Goals as goal

-- the part of the buffer that was turned: its length, and the arcs that it says
module _ (c : After-turn_all) where
  abbrev table : List ℕ
  table = c.args.table.now

  abbrev turned : List ℕ
  turned = c.turn_all.new.table

  size : length turned ≡ length table
  size = c.turn_all.auto.table ∙ rw length-take (omega (arith, c.write_marked-spanned.auto.out, c.requires.few_bytes))

  says : arcs_of turned ≡ turned_in (set_of c.args.set) c.args.q.terminal c.args.q.source (marked_arcs table)
  says =
      let all : length table - 0 ≡ length table = omega arith in
      let wrote = c.write_marked-spanned in
      c.turn_all.ensures ∙ ap (turned_in _ _ _) (ap (λ (n : ℕ). arcs_of (take n wrote.new.out)) all ∙ wrote.ensures.arcs)

  read : (behind : List ℕ) → take (length table - 0) (turned ++ behind) ≡ turned
  read behind = let all : length table - 0 ≡ length turned = omega (arith, size) in take_at turned behind (length table - 0) (sym all)

  inside : (behind : List ℕ) → length table ≤ length (turned ++ behind)
  inside behind = rw length-append (omega (arith, size))

pub returns-then-not-any : goal.returns-then-not-any
returns-then-not-any c =
    reads_open c.args.table.now c.args.q _ _ _ (eqb-true _ 0 (not-false _ (sym c.any.ensures ∙ c.if-not-any.true))) c.read_checked.ensures

pub write_marked-spanned-requires : goal.write_marked-spanned-requires
write_marked-spanned-requires c = (c.requires.few_bytes, c.requires.few_bytes, c.requires.has_whole_arcs)

pub slice_bounds-around-end : goal.slice_bounds-around-end
slice_bounds-around-end c = omega (arith, c.write_marked-spanned.auto.out, c.requires.few_bytes)

pub turn_all-requires : goal.turn_all-requires
turn_all-requires c = (rw length-take (omega (arith, c.requires.few_bytes)), c.requires.source_node, c.requires.terminal_node)

pub slice_bounds-read_table-end : goal.slice_bounds-read_table-end
slice_bounds-read_table-end c = inside (goal.at.slice_bounds-read_table-end c).After-turn_all _

pub read_table-requires : goal.read_table-requires
read_table-requires c =
    let t = (goal.at.read_table-requires c).After-turn_all in (
      rw (read t) (checked_turned c.requires _ _ (size t) (says t)),
      (λ e. rw (read t) (unspanned_turned c.requires _ _ (size t) (says t) (c.write_marked-spanned.ensures.spanned e))),
    )

pub returns : goal.returns
returns c =
    let t = (goal.at.returns c).After-turn_all in
    reads_turned c.requires _ _ (size t) (says t) _ _ _ (rw (read t) at c.read_table.ensures)
