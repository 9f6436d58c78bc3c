-- `cores::best` meets its contract: a covered main has no standby below the bound, nor has one that shares too much with every door; else the search says the least
-- key, and, where a core is learnt, that it holds. Assumes nothing.
use mathlib.Core.Path.{sym, ap, ◌∙◌}
use Prim.Native.Nat.{ℕ}
use native.Mathlib.Omega.{arith}
use Rattle.keys.specs.Keys.{standby_key}
use Rattle.net.specs.Net.{lower_at}
use Rattle.bars.specs.Bars.{barred}
use Rattle.standby.proofs.AheadLaws.{none_below_least}
use Rattle.standby.proofs.SeekLaws.{none_below_door}
use Rattle.cores.proofs.CoreLaws.{covered_least, core_below, kept_then, stored_kept}
use Rattle.cores.proofs.best.Goals as goal

pub returns-then-cover-clause-least : goal.returns-then-cover-clause-least
returns-then-cover-clause-least c = covered_least _ _ _ c.args.off _ c.requires.0 c.requires.1 (c.cover.ensures c.if-cover.true)

-- what every door shares, over the shortest way, is no better
pub returns-then-bound-standby_key-clause-least : goal.returns-then-bound-standby_key-clause-least
returns-then-bound-standby_key-clause-least c =
    let key = c.standby_key.ensures ∙ ap (standby_key c.door-door.result) (c.lower-shortest.ensures.0 ∙ ap (λ (v : ℕ). lower_at c.args.net.now v) c.source.ensures.0) in
    sym (none_below_least _ (none_below_door c.args.net.now c.args.main c.args.off c.requires.0 c.door-door.ensures (omega (arith, c.if-bound-standby_key.true, key))))

-- no arc was barred: what the search found is true of a core
pub less_exposed-less-requires : goal.less_exposed-less-requires
less_exposed-less-requires c =
    (c.requires.0, core_below _ _ _ (ap (barred c.args.off.nodes) c.if-off-ne-NO_ARC.false) (omega arith) c.search-key.ensures.below)

pub returns-clause-stored : goal.returns-clause-stored
returns-clause-stored c =
    let kept = kept_then (kept_then c.is_due.ensures c.less_exposed-less.ensures.kept) c.fewer_nodes-fewer.ensures.kept in
    c.remember.ensures.stored _ (stored_kept _ kept c.requires.1) c.fewer_nodes-fewer.ensures.holds
