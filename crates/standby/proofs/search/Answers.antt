-- `standby::search` meets its contract: with no label to begin with, and only barred nodes behind the source, all that the search from there counts on is true.
-- Assumes nothing.
use mathlib.Core.Path.{sym, ◌∙◌}
use native.Mathlib.Omega.{arith}
use Rattle.standby.proofs.SeekLaws.{sought_least, sought_below}
use Rattle.standby.proofs.search.Goals as goal

pub seek-requires : goal.seek-requires
seek-requires g c =
    let at = c.source-source.ensures in (
      record { words = c.requires.0; doors = c.requires.2; node = at.1; onward = λ e. c.requires.0.ends_differ (sym at.0 ∙ e); in_reach = omega arith },
      c.requires.1,
      c.nothing.ensures.told c.args.main,
    )

pub returns : goal.returns
returns g c =
    let at = c.source-source.ensures.0 in
    let none = c.nothing.ensures.exposed in
    record {
      least = sought_least c.args.net.now c.args.main c.args.off c.args.bound at c.with.ensures none c.clear.ensures c.seek.ensures;
      below = sought_below c.args.net.now c.args.main c.args.off c.args.bound at c.with.ensures none c.clear.ensures c.seek.ensures;
    }
