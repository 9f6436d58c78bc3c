-- `find::seek` meets its contract: each kind of arc has its law, of the arc in hand (`InHand`). Assumes nothing.
use mathlib.Core.Path.{sym, ◌∙◌}
use native.Mathlib.Omega.{arith}
use Prim.Native.Nat.{ℕ, ◌-◌, ◌<◌}
use lib.ListN.{length}
use Rattle.net.specs.Net.{arcs_in}
use Rattle.find.specs.Run.{behind_by}
use Rattle.find.proofs.RunLaws.{rest_start, rest_end, rest_found, rest_on, InHand, next_past, rest_met, rest_past, rest_ends, trails_tested, known_ends, leads_node, leads_fewer, rest_much, rest_late, arrived, leads_ready, trails_ahead, trails_behind, leads_room, leads_none, leads_found}
use Rattle.find.proofs.+seek.Goals.{After-look}
use Rattle.find.proofs.+seek.Goals as goal

-- the arc that was looked at is in hand
in_hand : (t : ℕ) (c : After-look t) → InHand c.args.net.now c.args.at (behind_by c.args.met c.args.metres c.args.risks c.args.low c.args.high) c.args.run.now c.loop-i.run c.loop-i.store c.loop-i.i c.look.result
in_hand t c = record {
  start = c.requires.finding;
  rest = c.loop-i.invariant.rest;
  under_way = c.loop-i.invariant.under_way;
  stored = c.loop-i.invariant.stored;
  trails = c.loop-i.invariant.trails;
  inside = omega (arith, c.arc_count.ensures, c.loop-i-test.true);
  seen = c.look.ensures;
}

-- the arcs ahead get fewer
fewer_ahead : (t : ℕ) (c : After-look t) → let n = length (arcs_in c.args.net.now) in n - c.next-i.result < n - c.loop-i.i
fewer_ahead t c = omega (arith, c.next-i.ensures, (in_hand t c).inside, next_past (in_hand t c))

pub loop-i-init : goal.loop-i-init
loop-i-init t c = record {
  under_way = c.requires.finding.under_way;
  rest = rw c.first-i.ensures (rest_start c.requires.finding);
  stored = c.requires.stored_2.0;
  trails = c.requires.stored_2.1;
}

pub loop-i-smaller-in-Met : goal.loop-i-smaller-in-Met
loop-i-smaller-in-Met t c = fewer_ahead t (goal.at.loop-i-smaller-in-Met t c).After-look

pub loop-i-preserved-in-Met : goal.loop-i-preserved-in-Met
loop-i-preserved-in-Met t c = record {
  under_way = c.loop-i.invariant.under_way;
  rest = rw c.next-i.ensures (rest_met (in_hand t (goal.at.loop-i-preserved-in-Met t c).After-look) c.in-Met.is);
  stored = c.loop-i.invariant.stored;
  trails = c.loop-i.invariant.trails;
}

pub loop-i-smaller-in-Past : goal.loop-i-smaller-in-Past
loop-i-smaller-in-Past t c = fewer_ahead t (goal.at.loop-i-smaller-in-Past t c).After-look

pub loop-i-preserved-in-Past : goal.loop-i-preserved-in-Past
loop-i-preserved-in-Past t c = record {
  under_way = c.loop-i.invariant.under_way;
  rest = rw c.next-i.ensures (rest_past (in_hand t (goal.at.loop-i-preserved-in-Past t c).After-look) c.in-Past.is);
  stored = c.loop-i.invariant.stored;
  trails = c.loop-i.invariant.trails;
}

pub meet-requires : goal.meet-requires
meet-requires t c =
    let h = in_hand t (goal.at.meet-requires t c).After-look in
    (h.start.words, h.under_way, h.stored, h.inside)

pub returns-then-is_found-clause-seeks : goal.returns-then-is_found-clause-seeks
returns-then-is_found-clause-seeks t c =
    let h = in_hand t (goal.at.returns-then-is_found-clause-seeks t c).After-look in
    rest_found (rest_ends h c.in-Ends.is c.meet.ensures.meets) (sym c.is_found.ensures ∙ c.if-is_found.true) (known_ends h c.in-Ends.is c.meet.ensures.meets)

pub returns-then-is_found-clause-trails : goal.returns-then-is_found-clause-trails
returns-then-is_found-clause-trails t c = trails_tested (in_hand t (goal.at.returns-then-is_found-clause-trails t c).After-look) c.meet.ensures.same

pub loop-i-smaller-else-is_found : goal.loop-i-smaller-else-is_found
loop-i-smaller-else-is_found t c = fewer_ahead t (goal.at.loop-i-smaller-else-is_found t c).After-look

pub loop-i-preserved-else-is_found : goal.loop-i-preserved-else-is_found
loop-i-preserved-else-is_found t c =
    let h = in_hand t (goal.at.loop-i-preserved-else-is_found t c).After-look in
    let r = rest_ends h c.in-Ends.is c.meet.ensures.meets in record {
      under_way = rest_on r c.requires.finding.under_way (sym c.is_found.ensures ∙ c.if-is_found.false);
      rest = rw c.next-i.ensures r;
      stored = c.meet.ensures.stored;
      trails = trails_tested h c.meet.ensures.same;
    }

pub loop-i-smaller-then-shares_too_much : goal.loop-i-smaller-then-shares_too_much
loop-i-smaller-then-shares_too_much t c = fewer_ahead t (goal.at.loop-i-smaller-then-shares_too_much t c).After-look

pub loop-i-preserved-then-shares_too_much : goal.loop-i-preserved-then-shares_too_much
loop-i-preserved-then-shares_too_much t c =
    let h = in_hand t (goal.at.loop-i-preserved-then-shares_too_much t c).After-look in record {
      under_way = c.loop-i.invariant.under_way;
      rest = rw c.next-i.ensures (rest_much h c.in-Leads.is (sym c.shares_too_much.ensures ∙ c.if-shares_too_much.true));
      stored = c.loop-i.invariant.stored;
      trails = c.loop-i.invariant.trails;
    }

pub comes_late-requires : goal.comes_late-requires
comes_late-requires t c = leads_node (in_hand t (goal.at.comes_late-requires t c).After-look) c.in-Leads.is

pub loop-i-smaller-then-comes_late : goal.loop-i-smaller-then-comes_late
loop-i-smaller-then-comes_late t c = fewer_ahead t (goal.at.loop-i-smaller-then-comes_late t c).After-look

pub loop-i-preserved-then-comes_late : goal.loop-i-preserved-then-comes_late
loop-i-preserved-then-comes_late t c =
    let h = in_hand t (goal.at.loop-i-preserved-then-comes_late t c).After-look in
    let z = arrived h c.in-Leads.is c.comes_late.ensures.arrived in record {
      under_way = c.loop-i.invariant.under_way;
      rest = rw c.next-i.ensures (rest_late h c.in-Leads.is (c.comes_late.ensures.late c.if-comes_late.true));
      stored = c.loop-i.invariant.stored;
      trails = z;
    }

pub seek-requires : goal.seek-requires
seek-requires t c =
    let h = in_hand t (goal.at.seek-requires t c).After-look in
    let z = arrived h c.in-Leads.is c.comes_late.ensures.arrived in
    (omega (arith, c.decreases, leads_fewer h c.in-Leads.is), (leads_ready h c.in-Leads.is, (h.stored, trails_ahead h c.in-Leads.is z)))

pub put_down-requires : goal.put_down-requires
put_down-requires t c = leads_room (in_hand t (goal.at.put_down-requires t c).After-look) c.in-Leads.is c.seek.ensures.seeks

pub returns-then-is_found-2-clause-seeks : goal.returns-then-is_found-2-clause-seeks
returns-then-is_found-2-clause-seeks t c = leads_found (in_hand t (goal.at.returns-then-is_found-2-clause-seeks t c).After-look) c.in-Leads.is c.seek.ensures.seeks (sym c.is_found-in-Leads.ensures ∙ c.if-is_found-2.true) c.put_down.ensures

pub returns-then-is_found-2-clause-trails : goal.returns-then-is_found-2-clause-trails
returns-then-is_found-2-clause-trails t c = trails_behind (in_hand t (goal.at.returns-then-is_found-2-clause-trails t c).After-look) c.in-Leads.is c.seek.ensures.trails

pub loop-i-smaller : goal.loop-i-smaller
loop-i-smaller t c = fewer_ahead t (goal.at.loop-i-smaller t c).After-look

pub loop-i-preserved : goal.loop-i-preserved
loop-i-preserved t c =
    let h = in_hand t (goal.at.loop-i-preserved t c).After-look in
    let r = leads_none h c.in-Leads.is c.seek.ensures.seeks (sym c.is_found-in-Leads.ensures ∙ c.if-is_found-2.false) in record {
      under_way = rest_on r c.requires.finding.under_way (sym c.is_found-in-Leads.ensures ∙ c.if-is_found-2.false);
      rest = rw c.next-i.ensures r;
      stored = c.seek.ensures.stored;
      trails = trails_behind h c.in-Leads.is c.seek.ensures.trails;
    }

pub returns-clause-seeks : goal.returns-clause-seeks
returns-clause-seeks t c = rest_end c.loop-i.invariant.rest c.loop-i.invariant.under_way (omega (arith, c.arc_count.ensures, c.loop-i-test.false))

pub returns-clause-stored : goal.returns-clause-stored
returns-clause-stored t c = c.loop-i.invariant.stored

pub returns-clause-trails : goal.returns-clause-trails
returns-clause-trails t c = c.loop-i.invariant.trails
