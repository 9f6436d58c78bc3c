-- `planner::read_table` meets its contract: there is no route where the source's shortest way is missing or too long; else there is one, and the words say the arcs. Assumes nothing.
use mathlib.Core.Logic.{inl, inr}
use native.Mathlib.Omega.{arith}
use borrow.Author.Tests.{not-true, not-false}
use Rattle.problem.specs.Table.{arcs_of}
use Rattle.problem.specs.Exposures.{to_nothing}
use Rattle.chain.specs.declared.End.{End}
use Rattle.chain.proofs.BuiltLaws.{checked_chainable}
use Rattle.side.specs.Side.{SideTable}
use Rattle.planner.proofs.PlannerLaws.{floor_counted, read_some, read_none, some_routes}
use Rattle.planner.proofs.read_table.Goals.{After-side_table-side, then-not-entry-via-then-not-entry, then-not-entry-via-else-not-entry+then-q-entry}
use Rattle.planner.proofs.read_table.Goals as goal

-- the table that is asked has nothing banned
plain : (c : After-side_table-side) → SideTable (arcs_of c.args.table.now) c.args.q.terminal to_nothing c.side_table-side.result
plain c = rw c.nothing.ensures at c.side_table-side.ensures

pub chained-into-requires : goal.chained-into-requires
chained-into-requires c = checked_chainable _ c.requires.0

pub side_table-side-requires : goal.side_table-side-requires
side_table-side-requires c =
    let checked = c.requires.0 in
    record {
      terminal_le_last_node = omega (arith, checked.terminal_node);
      table_value = checked.sound;
      table_len_bound = (checked_chainable End.Head checked).few;
      chain = c.chained-into.ensures;
    }

pub returns-then-not-entry : goal.returns-then-not-entry
returns-then-not-entry c =
    let side = plain (goal.at.returns-then-not-entry c).After-side_table-side in
    elim c.then-not-entry.branch [
      | then-not-entry-via-then-not-entry w ↦ read_none c.requires.0 side (inl (not-true _ w.if-not-entry.true))
      | then-not-entry-via-else-not-entry+then-q-entry w ↦ read_none c.requires.0 side (inr w.if-q-entry.true)
    ]

pub common_exposure-common-requires : goal.common_exposure-common-requires
common_exposure-common-requires c = record {
  checked = (c.requires.0, c.chained-into.ensures);
  side_table = plain (goal.at.common_exposure-common-requires c).After-side_table-side;
}

pub lay_out-requires : goal.lay_out-requires
lay_out-requires c = record {
  checked = c.requires;
  chain = (c.chained-into.ensures, plain (goal.at.lay_out-requires c).After-side_table-side);
}

pub returns : goal.returns
returns c =
    let checked = c.requires.0 in
    read_some checked c.lay_out.ensures (some_routes checked (plain (goal.at.returns c).After-side_table-side) (not-false _ c.if-not-entry.false) c.if-q-entry.false)
    (floor_counted checked c.common_exposure-common.ensures c.size-floor.ensures.0)
