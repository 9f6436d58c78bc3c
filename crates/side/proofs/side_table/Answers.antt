-- `side::side_table` meets its contract. The invariant: the fill is under way from the terminal outward, and at its end, when nothing is open, the entries are the
-- side table. The measure: the nodes that are not finished. Assumes nothing.
use Prim.Native.Nat.{◌≤◌}
use native.Mathlib.Omega.{arith}
use Rattle.problem.specs.Table.{last_node}
use Rattle.problem.proofs.TableLaws.{sound_at}
use Rattle.side.proofs.RelaxLaws.{small_most}
use Rattle.side.proofs.OutwardLaws.{outward_start, open_nodes, nearest_node, outward_finish, finish_less, outward_end}
use Rattle.side.proofs.side_table.Goals.{After-nearest-v}
use Rattle.side.proofs.side_table.Goals as goal

-- what is finished is a node
node : (c : After-nearest-v) → c.nearest-v.result ≤ last_node
node c =
    nearest_node _ _ _ _ _ _ c.loop-opened.invariant (sound_at _ c.requires.table_value) _ c.nearest-v.ensures

pub loop-opened-init : goal.loop-opened-init
loop-opened-init c = rw (c.start-entries.ensures, c.with-opened.ensures) (outward_start _ _ _ c.requires.terminal_le_last_node)

pub nearest-v-requires : goal.nearest-v-requires
nearest-v-requires c = (omega (arith, c.loop-opened-test.true), open_nodes _ _ _ _ _ _ c.loop-opened.invariant)

pub finish-tails-requires : goal.finish-tails-requires
finish-tails-requires c =
    let small = c.loop-opened.invariant.fair.small in
    record {
      node = node (goal.at.finish-tails-requires c).After-nearest-v;
      size = small.entries_size;
      near = small_most small c.nearest-v.result;
    }

pub with-finished-requires : goal.with-finished-requires
with-finished-requires c = omega (arith, node (goal.at.with-finished-requires c).After-nearest-v)

pub loop-opened-smaller : goal.loop-opened-smaller
loop-opened-smaller c =
    rw c.with-finished.ensures (finish_less _ _ _ _ _ _ c.loop-opened.invariant (sound_at _ c.requires.table_value) _ c.nearest-v.ensures)

pub loop-opened-preserved : goal.loop-opened-preserved
loop-opened-preserved c =
    rw (c.without-opened.ensures, c.finish-tails.ensures.tails, c.with-finished.ensures, c.finish-tails.ensures.entries)
    (outward_finish _ _ _ _ _ _ c.loop-opened.invariant (sound_at _ c.requires.table_value) _ c.nearest-v.ensures)

pub returns : goal.returns
returns c = outward_end _ _ _ _ _ _ c.loop-opened.invariant c.loop-opened-test.false
