-- `floor::ask` meets its contract: the side table that bans r alone says whether a way within reach is free of r. Assumes nothing.
use mathlib.Core.Path.{sym, ◌∙◌}
use native.Mathlib.Omega.{arith}
use Rattle.chain.specs.declared.End.{End}
use Rattle.chain.proofs.BuiltLaws.{checked_chainable}
use Rattle.floor.proofs.AskLaws.{asked_out, asked_none, asked_free}
use Rattle.floor.proofs.ask.Goals as goal

pub returns-then-not-is_exposed : goal.returns-then-not-is_exposed
returns-then-not-is_exposed c = asked_out _ _ _ _ c.is_exposed.ensures c.if-not-is_exposed.true

pub side_table-s-requires : goal.side_table-s-requires
side_table-s-requires c =
    let checked = c.args.call.now.checked in
    record {
      terminal_le_last_node = omega (arith, checked.terminal_node);
      table_value = checked.sound;
      table_len_bound = (checked_chainable End.Head checked).few;
      chain = c.args.call.now.chained;
    }

pub bounds-s-q : goal.bounds-s-q
bounds-s-q c = omega (arith, c.args.call.now.checked.source_node)

pub returns-else-is_near : goal.returns-else-is_near
returns-else-is_near c =
    asked_none _ _ _ _ _ c.one-only.ensures c.side_table-s.ensures (sym c.is_near.ensures ∙ c.if-is_near.false)

pub returns-then-is_near : goal.returns-then-is_near
returns-then-is_near c =
    rw c.all_but.ensures (asked_free _ _ _ _ _ c.one-only.ensures c.side_table-s.ensures (sym c.is_near.ensures ∙ c.if-is_near.true))
