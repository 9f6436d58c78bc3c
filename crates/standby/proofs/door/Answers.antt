-- `standby::door` meets its contract. The invariant: the main shares at least `least` with each door below arc k. The measure: the arcs ahead.
-- Assumes nothing.
use native.Mathlib.Omega.{arith}
use Rattle.standby.proofs.DoorLaws.{doors_first, doors_next, doors_past, doors_all, door_none}
use Rattle.standby.proofs.door.Goals as goal

pub loop-k-init : goal.loop-k-init
loop-k-init c = (c.arc_count-n.ensures, rw c.first_door-k.ensures (doors_first _ _ c.requires))

pub shared_with-shared-requires : goal.shared_with-shared-requires
shared_with-shared-requires c = (c.requires, omega (arith, c.loop-k.invariant.0))

pub returns-then-shared-eq0 : goal.returns-then-shared-eq0
returns-then-shared-eq0 c = door_none _ _

pub next_in-k-requires : goal.next_in-k-requires
next_in-k-requires c = (c.requires, omega (arith, c.loop-k.invariant.0))

pub loop-k-smaller : goal.loop-k-smaller
loop-k-smaller c =
    omega (arith, c.loop-k.invariant.0, c.next_in-k.ensures, c.loop-k-test.true, doors_past c.args.net.now c.args.main {k = c.loop-k.k} c.requires (omega (arith, c.loop-k.invariant.0)))

pub loop-k-preserved : goal.loop-k-preserved
loop-k-preserved c =
    (c.loop-k.invariant.0, rw c.next_in-k.ensures (doors_next _ _ c.requires (omega (arith, c.loop-k.invariant.0)) c.loop-k.invariant.1 c.shared_with-shared.ensures.0 c.min-least.ensures))

pub returns : goal.returns
returns c = doors_all _ _ (omega (arith, c.loop-k.invariant.0)) c.loop-k.invariant.1
