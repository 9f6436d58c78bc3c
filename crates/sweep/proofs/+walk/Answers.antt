-- `sweep::walk` meets its contract: each kind of arc has its law, of the arc in hand (`in_hand`), and so has the way out past the cap. Assumes nothing.
use Rattle.std.proofs.Common.{arith, ℕ, ◌-◌, ◌<◌, length}
use Rattle.net.specs.Net.{arcs_in}
use Rattle.net.specs.Search.{behind}
use Rattle.sweep.proofs.WalkLaws.{walking_start, walking_end, walking_over, InHand, walking_past, walking_met, walking_cut, route_in_reach, walking_ends, walking_leads}
use Rattle.sweep.proofs.+walk.Goals.{After-look}
use Rattle.sweep.proofs.+walk.Goals as goal

-- where an arc was looked at
in_hand : (t : ℕ) (c : After-look t)
    → InHand c.args.net.now c.args.at (behind c.args.met c.args.metres (record { risks = c.args.risks; low = c.args.low; high = c.args.high }))
    c.args.run.now c.loop-i.run c.loop-i.i c.look.result
in_hand t c =
    record {
      start = c.requires.0;
      walking = c.loop-i.invariant.1;
      is_not_over = c.loop-i.invariant.0;
      inside = omega (arith, c.loop-i-test.true, c.arc_count.ensures);
      seen = c.look.ensures;
    }

-- the arcs ahead get fewer
fewer_ahead : (t : ℕ) (c : After-look t) → length (arcs_in c.args.net.now) - c.next-i.result < length (arcs_in c.args.net.now) - c.loop-i.i
fewer_ahead t c = let h = in_hand t c in omega (arith, c.next-i.ensures, h.inside, walking_past h)

pub loop-i-init : goal.loop-i-init
loop-i-init t c = (c.requires.1, rw c.first-i.ensures (walking_start _ c.args.run.now c.requires.0), c.requires.2)

pub loop-i-smaller-in-Met : goal.loop-i-smaller-in-Met
loop-i-smaller-in-Met t c = fewer_ahead t (goal.at.loop-i-smaller-in-Met t c).After-look

pub loop-i-preserved-in-Met : goal.loop-i-preserved-in-Met
loop-i-preserved-in-Met t c =
    let h = in_hand t (goal.at.loop-i-preserved-in-Met t c).After-look in
    (h.is_not_over, rw c.next-i.ensures (walking_met h c.in-Met.is), c.loop-i.invariant.2)

pub loop-i-smaller-in-Past : goal.loop-i-smaller-in-Past
loop-i-smaller-in-Past t c = fewer_ahead t (goal.at.loop-i-smaller-in-Past t c).After-look

pub loop-i-preserved-in-Past : goal.loop-i-preserved-in-Past
loop-i-preserved-in-Past t c =
    let h = in_hand t (goal.at.loop-i-preserved-in-Past t c).After-look in
    rw (c.next-i.ensures, c.cut_at.ensures) (h.is_not_over, walking_cut h c.in-Past.is, c.loop-i.invariant.2)

pub meet_route-requires : goal.meet_route-requires
meet_route-requires t c =
    let h = in_hand t (goal.at.meet_route-requires t c).After-look in
    (h.start.words, route_in_reach h c.in-Ends.is, c.loop-i.invariant.2)

pub returns-then-run-clause-walks : goal.returns-then-run-clause-walks
returns-then-run-clause-walks t c =
    let h = in_hand t (goal.at.returns-then-run-clause-walks t c).After-look in
    walking_over (rw (← c.meet_route.ensures.met) at (walking_ends h c.in-Ends.is)) h.start.words c.if-run.true

pub loop-i-smaller-else-run : goal.loop-i-smaller-else-run
loop-i-smaller-else-run t c = fewer_ahead t (goal.at.loop-i-smaller-else-run t c).After-look

pub loop-i-preserved-else-run : goal.loop-i-preserved-else-run
loop-i-preserved-else-run t c =
    let h = in_hand t (goal.at.loop-i-preserved-else-run t c).After-look in
    (c.if-run.false, rw (c.next-i.ensures, c.meet_route.ensures.met) (walking_ends h c.in-Ends.is), c.meet_route.ensures.stored)

pub walk-requires : goal.walk-requires
walk-requires t c =
    let h = in_hand t (goal.at.walk-requires t c).After-look in
    let a = walking_leads h c.in-Leads.is in
    (omega (arith, c.decreases, a.fewer_nodes), (a.ready, h.is_not_over, c.loop-i.invariant.2))

pub returns-then-run-2-clause-walks : goal.returns-then-run-2-clause-walks
returns-then-run-2-clause-walks t c =
    let h = in_hand t (goal.at.returns-then-run-2-clause-walks t c).After-look in
    walking_over ((walking_leads h c.in-Leads.is).gives c.walk.ensures.walks) h.start.words c.if-run-2.true

pub loop-i-smaller : goal.loop-i-smaller
loop-i-smaller t c = fewer_ahead t (goal.at.loop-i-smaller t c).After-look

pub loop-i-preserved : goal.loop-i-preserved
loop-i-preserved t c =
    let w = (walking_leads (in_hand t (goal.at.loop-i-preserved t c).After-look) c.in-Leads.is).gives c.walk.ensures.walks in
    (c.if-run-2.false, rw c.next-i.ensures w, c.walk.ensures.stored)

pub returns-clause-walks : goal.returns-clause-walks
returns-clause-walks t c = walking_end c.loop-i.invariant.1 c.requires.0.words (omega (arith, c.arc_count.ensures, c.loop-i-test.false))

pub returns-clause-stored : goal.returns-clause-stored
returns-clause-stored t c = c.loop-i.invariant.2
