-- `arcs::arc_at` meets its contract: the part from 16 * i to 16 * i + 16 holds arc i's bytes. Assumes nothing.
use mathlib.Core.Path.{◌∙◌}
use Rattle.arcs.proofs.ArcLaws.{arc_part}
use Rattle.arcs.proofs.arc_at.Goals as goal

pub returns : goal.returns
returns c = c.read_arc.ensures ∙ arc_part c.args.table.now c.args.i c.requires
