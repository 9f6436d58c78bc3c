-- `aim::pick` meets its contract: what is left only falls, and no length passes the stretch's end. Assumes nothing.
use Prim.Native.Nat.{◌≤◌}
use Rattle.aim.proofs.pick.Given as goal

abbrev pub invariant-loop-n : goal.invariant-loop-n
invariant-loop-n l = (l.s.from ≤ l.from) × (l.from ≤ l.s.to) × (l.left ≤ l.s.left)
