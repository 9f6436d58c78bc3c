-- `arcs::read_arc` meets its contract: each field is the number that the definition reads off the same bytes. Assumes nothing.
use Rattle.arcs.proofs.ArcLaws.{arc_read}
use Rattle.arcs.proofs.read_arc.Goals as goal

pub returns : goal.returns
returns c = arc_read _ _ _ _ c.number2.ensures c.number4.ensures c.number8.ensures
