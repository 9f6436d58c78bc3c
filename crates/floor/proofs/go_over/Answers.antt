-- `floor::go_over` meets its contract: where the tail has nothing left, it can avoid no more, and what is stored is what the definition says. Assumes nothing.
use mathlib.Core.Path.{refl}
use native.Mathlib.Omega.{arith}
use borrow.Author.Tests.{not-false}
use Rattle.problem.specs.Exposures.{to_nothing}
use Rattle.floor.specs.Clearing.{cleared_by}
use Rattle.floor.proofs.ClearLaws.{nothing_over}
use Rattle.floor.proofs.go_over.Goals as goal

pub returns-then-is_nothing : goal.returns-then-is_nothing
unfolding to_nothing
returns-then-is_nothing c = (refl, λ r. nothing_over c.args.ways.now c.args.a (c.is_nothing.ensures.0 c.if-is_nothing.true))

pub returns : goal.returns
unfolding cleared_by to_nothing
returns c = (rw (c.max.ensures, c.left_over-new.ensures) refl, not-false _ c.if-not-to.false, omega (arith, c.if-metres-reach.false))
