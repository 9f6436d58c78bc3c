-- `plan::plan` meets its contract. The invariant: the tally is that of all routes shorter than `cur`, within the allowance and not met (`Going`);
-- all that the store holds is true.
-- The measure is what is left of the reach, and within one place the window's width. Assumes nothing.
use mathlib.Core.Path.{◌≡◌}
use Prim.Native.Nat.{◌+◌, ◌*◌, ◌-◌}
use Rattle.net.specs.Net.{mesh_in}
use Rattle.cores.specs.Cores.{Stored}
use Rattle.plan.proofs.PlanLaws.{Going}
use Rattle.plan.proofs.plan.Given as goal

abbrev pub invariant-loop-next : goal.invariant-loop-next
invariant-loop-next l = record {
  reach_is : l.reach ≡ (mesh_in l.net).reach;
  going : Going l.net l.allowance l.floor l.next.tally l.next.cur l.next.width;
  stored : Stored l.net l.store;
}

abbrev pub decreases-loop-next : goal.decreases-loop-next
decreases-loop-next l = (l.reach + 1 - l.next.cur) * 100000000 + l.next.width
