-- `aim::find_end` meets its contract: each count leaves a shorter part of the stretch (`Closer`), which is the measure. Assumes nothing.
use Prim.Native.Nat.{◌-◌}
use Rattle.aim.specs.Aim.{Between}
use Rattle.aim.proofs.find_end.Given as goal

abbrev pub invariant-loop-s : goal.invariant-loop-s
invariant-loop-s l = Between l.net l.s

abbrev pub decreases-loop-s : goal.decreases-loop-s
decreases-loop-s l = l.s.to - l.s.from
