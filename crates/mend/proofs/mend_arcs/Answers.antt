-- `mend::mend_arcs` meets its contract. The invariant: the arcs below k are mended, and with what is left the outputs are what they will be (`Underway`).
-- Assumes nothing.
use native.Mathlib.Omega.{arith}
use Rattle.mend.proofs.WalkLaws.{underway_start, underway_ready, underway_next, underway_end}
use Rattle.mend.proofs.mend_arcs.Goals as goal

pub loop-k-init : goal.loop-k-init
loop-k-init c = underway_start c.args.input.now c.args.table.now c.args.list.now

pub mend_arc-requires : goal.mend_arc-requires
mend_arc-requires c =
    underway_ready c.args.input.now c.loop-k.invariant c.requires (omega arith)

pub loop-k-preserved : goal.loop-k-preserved
loop-k-preserved c =
    underway_next c.args.input.now c.loop-k.invariant c.requires (omega arith) c.mend_arc.ensures

pub shape_of-table : goal.shape_of-table
shape_of-table c = c.loop-k.invariant.table_keeps_size

pub shape_of-list : goal.shape_of-list
shape_of-list c = c.loop-k.invariant.list_keeps_size

pub returns : goal.returns
returns c = underway_end c.args.input.now c.loop-k.invariant (omega arith)
