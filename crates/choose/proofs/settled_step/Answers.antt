-- `choose::settled_step` meets its contract, by the test that led to each return. Assumes nothing.
use borrow.Author.Tests.{eq-eqb, ne_eqb}
use native.Mathlib.Omega.{arith}
use Rattle.choose.specs.Choose.{step_by}
use Rattle.choose.proofs.settled_step.Goals as goal

pub returns-then-main-half : goal.returns-then-main-half
unfolding step_by
returns-then-main-half c = rw (eq-eqb _ _ c.if-main-half.true, step_by) (omega (arith, c.count_shorter-shorter.ensures))

pub returns : goal.returns
unfolding step_by
returns c = rw (ne_eqb _ _ c.if-main-half.false, step_by) (omega (arith, c.count_shorter-shorter.ensures))
