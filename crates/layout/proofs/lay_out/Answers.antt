-- `layout::lay_out` meets its contract: the arcs, the stops and the request are written one after the other (`laid_out`). Assumes nothing.
use mathlib.Core.Path.{refl, sym}
use Rattle.problem.proofs.TableLaws.{arcs_length}
use Rattle.chain.proofs.BuiltLaws.{checked_chainable}
use Rattle.layout.proofs.LayoutLaws.{laid_out}
use Rattle.layout.proofs.lay_out.Goals as goal

pub chained-chain-requires : goal.chained-chain-requires
chained-chain-requires c = checked_chainable _ c.requires.checked.0

pub returns : goal.returns
returns c =
    laid_out _ c.requires.checked.0 c.requires.chain.1 c.chained-chain.ensures c.requires.chain.0 (record { link = c.lay_arcs.ensures.link; exposure = c.lay_arcs.ensures.exposure; span = c.lay_arcs.ensures.span }) c.lay_stops.ensures c.requires.checked.1
    (record { count_is = sym (arcs_length c.args.table.now); source_is = refl; terminal_is = refl; reach_is = refl; door_is = c.first-net.ensures })
