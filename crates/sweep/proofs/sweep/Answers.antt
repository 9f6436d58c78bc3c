-- `sweep::sweep` meets its contract: past the cap nothing changes; else a walk from the source sweeps all paths. Assumes nothing.
use mathlib.Core.Path.{◌≡◌, refl}
use native.Mathlib.Omega.{arith}
use Rattle.problem.specs.declared.Exposure.{Exposure}
use Rattle.problem.specs.Exposures.{to_nothing}
use Rattle.sweep.proofs.SweepLaws.{over_all}
use Rattle.sweep.proofs.WalkLaws.{walk_sweeps}
use Rattle.sweep.proofs.sweep.Goals as goal

-- nothing lies behind the source
none : ◌≡◌ {A = Exposure} (record { risks = 0; low = 0; high = 0 }) to_nothing
unfolding to_nothing
none = refl

pub returns-then-t-clause-swept : goal.returns-then-t-clause-swept
returns-then-t-clause-swept c = over_all _ _ c.args.w c.args.t _ (omega (arith, c.requires.0.reach_range, c.requires.1)) c.if-t.true

pub returns-clause-swept : goal.returns-clause-swept
returns-clause-swept c =
    walk_sweeps c.requires.0 c.args.w c.args.t _ (omega (arith, c.requires.0.reach_range, c.requires.1)) c.source-source.ensures.0 c.with-met.ensures none c.walk.ensures.walks
