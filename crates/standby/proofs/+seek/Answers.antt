-- `standby::seek` meets its contract: each arc that is looked at is passed over, ends a standby or leads on, and so does the search stand at the next one (`Going`).
-- Assumes nothing.
use mathlib.Core.Path.{◌≡◌, ap, ◌∙◌, subst}
use Prim.Native.Nat.{ℕ}
use native.Mathlib.Omega.{arith}
use Rattle.problem.specs.Exposures.{common}
use Rattle.net.specs.declared.Behind.{Behind}
use Rattle.standby.specs.declared.Hop.TheVariants.{Leads}
use Rattle.standby.specs.Trail.{behind_by, hop_by, IfLeads}
use Rattle.standby.proofs.SeekLaws.{InHand, going_start, going_end, going_past, going_ends, Onto, going_leads}
use Rattle.standby.proofs.+seek.Given.{Over}
use Rattle.standby.proofs.+seek.Goals.{After-look}
use Rattle.standby.proofs.+seek.Goals as goal

module _ (g : Over) (t : ℕ) (c : After-look g t) where
  -- what lies behind the search
  abbrev b : Behind
  b = behind_by g.C.Carried.exposed_to c.args.trail.now

  -- the arc that was looked at is in hand
  in_hand : InHand c.args.net.now c.args.main.now.exposure c.args.main.now.last b c.args.at c.args.main.now.door c.args.bound c.args.labels.now c.loop-i.labels c.loop-i.least c.loop-i.i
  in_hand = record { start = c.requires.0; going = c.loop-i.invariant.going; inside = omega (arith, c.loop-i.invariant.count, c.loop-i-test.true) }

  -- an arc that leads on
  leads : {h : ℕ} {on : _} → c.look.result ≡ Leads h on
      → Onto c.args.net.now c.args.main.now.exposure c.args.main.now.last b c.args.at in_hand h (behind_by g.C.Carried.exposed_to on)
  leads q = going_leads _ _ _ _ _ in_hand c.look.ensures.is (ap (hop_by (behind_by g.C.Carried.exposed_to)) q)

pub loop-i-init : goal.loop-i-init
loop-i-init g t c = record { count = c.arc_count-n.ensures; going = rw c.first-i.ensures (going_start _ _ _ _ _ c.requires.0 _ _) }

pub loop-i-preserved-in-Passed : goal.loop-i-preserved-in-Passed
loop-i-preserved-in-Passed g t c =
    let k = (goal.at.loop-i-preserved-in-Passed g t c).After-look in
    record {
      count = c.loop-i.invariant.count;
      going = rw c.next-i.ensures (going_past _ _ _ _ _ (in_hand g t k) c.look.ensures.is (ap (hop_by (behind_by g.C.Carried.exposed_to)) c.in-Passed.is));
    }

pub loop-i-preserved-in-Ends : goal.loop-i-preserved-in-Ends
loop-i-preserved-in-Ends g t c =
    let k = (goal.at.loop-i-preserved-in-Ends g t c).After-look in
    record {
      count = c.loop-i.invariant.count;
      going = rw c.next-i.ensures (going_ends _ _ _ _ _ (in_hand g t k) c.look.ensures.is (ap (hop_by (behind_by g.C.Carried.exposed_to)) c.in-Ends.is));
    }

pub known-requires : goal.known-requires
known-requires g t c = (leads g t (goal.at.known-requires g t c).After-look c.in-Leads.is).seeking.node

pub seek-least-requires : goal.seek-least-requires
seek-least-requires g t c =
    let k = (goal.at.seek-least-requires g t c).After-look in
    let o = leads g t k c.in-Leads.is in
    let told = subst (IfLeads (λ on. g.C.Carried.told c.args.main.now.exposure on.carried)) c.in-Leads.is c.look.ensures.told in
    λ lives inside. (omega (arith, c.decreases, o.fewer_nodes), (inside, (o.seeking, c.requires.1, told)))

pub loop-i-preserved-then-not-known : goal.loop-i-preserved-then-not-known
loop-i-preserved-then-not-known g t c =
    let k = (goal.at.loop-i-preserved-then-not-known g t c).After-look in
    record { count = c.loop-i.invariant.count; going = rw c.next-i.ensures ((leads g t k c.in-Leads.is).gives _ _ c.seek-least.ensures) }

pub loop-i-preserved : goal.loop-i-preserved
loop-i-preserved g t c =
    let k = (goal.at.loop-i-preserved g t c).After-look in
    record {
      count = c.loop-i.invariant.count;
      going = rw c.next-i.ensures ((leads g t k c.in-Leads.is).by_label (rw c.exposure.ensures at (c.known.ensures c.if-not-known.false)));
    }

pub returns : goal.returns
returns g t c =
    let kept = c.common.ensures ∙ ap (common c.args.main.now.exposure) c.exposure-2.ensures in
    going_end _ _ _ _ _ c.requires.0 c.loop-i.invariant.going (omega (arith, c.loop-i.invariant.count, c.loop-i-test.false)) (rw kept at c.keep.ensures)
