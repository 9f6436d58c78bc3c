-- `find::barred_by` meets its contract: at the end no arc is ahead, and what is gathered is what the whole main bars. Assumes nothing.
use Rattle.laws.proofs.ListLaws.{get_or_mem}
use Rattle.track.specs.Track.{route_in}
use Rattle.find.proofs.BarredLaws.{gathered_start, gathered_next, gathered_end}
use Rattle.find.proofs.barred_by.Goals as goal

pub loop-k-init : goal.loop-k-init
loop-k-init c = gathered_start _ _ c.source.ensures.0 c.with-met.ensures

pub head-requires : goal.head-requires
unfolding route_in
head-requires c = (c.requires.0, c.requires.2 _ (rw c.from-last.ensures (get_or_mem _ _ _ c.loop-k-test.true)))

pub loop-k-preserved : goal.loop-k-preserved
loop-k-preserved c = gathered_next _ _ c.loop-k.invariant c.loop-k-test.true c.from-last.ensures c.head.ensures.0 c.with-met-in-loop-k.ensures

pub returns : goal.returns
unfolding route_in
returns c = gathered_end _ _ c.loop-k.invariant c.loop-k-test.false _ c.barred_by.ensures
