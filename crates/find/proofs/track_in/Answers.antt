-- `find::track_in` meets its contract: at the end no arc is left, and the track holds the route. Assumes nothing.
use Rattle.std.proofs.Common.{arith}
use Rattle.std.proofs.lemmas.Grind.{common_steps}
use Rattle.find.proofs.TrackLaws.{tracked_start, tracked_end, next_known, next_room, next_metres, tracked_next}
use Rattle.find.proofs.track_in.Goals as goal

pub loop-k-init : goal.loop-k-init
loop-k-init c = tracked_start c.args.net.now c.args.run.now c.empty-t.ensures (grind (arith, common_steps))

pub over-t-requires : goal.over-t-requires
over-t-requires c =
    let v = c.loop-k.invariant in
    let e = c.in-Some.ensures.steps in
    (c.requires.0, next_known _ _ c.requires.0 c.requires.1 _ _ v e, v.held.fit, next_room _ _ c.requires.0 c.requires.1 _ _ v e, next_metres _ _ c.requires.0 c.requires.1 _ _ v e)

pub loop-k-preserved : goal.loop-k-preserved
loop-k-preserved c = tracked_next _ _ c.requires.0 c.requires.1 _ _ c.loop-k.invariant c.in-Some.ensures.steps c.over-t.ensures

pub returns : goal.returns
returns c = tracked_end _ _ c.loop-k.invariant c.in-None.ensures.steps.0
