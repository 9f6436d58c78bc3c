-- `exposure::left_over` meets its contract: where no span is left, none is left over. Assumes nothing.
use mathlib.Core.Path.{◌≡◌}
use lib.Bits.{bit_and, bit_or}
use Rattle.problem.specs.declared.Arc.{Arc}
use Rattle.problem.specs.declared.Exposure.{Exposure}
use Rattle.problem.specs.Exposures.{field_of, of_arc, joined, common}
use Rattle.exposure.proofs.WordLaws.{common_spanless}
use Rattle.exposure.proofs.left_over.Goals as goal

risks_over : (left : Exposure) (a : Arc) (on : Exposure) → left.low ≡ 0 → left.high ≡ 0
    → ◌≡◌ {A = Exposure} (record { risks = bit_and left.risks (bit_or a.risks on.risks); low = 0; high = 0 }) (common left (joined (of_arc a) on))
unfolding of_arc joined field_of
risks_over left a on low high = common_spanless left (joined (of_arc a) on) low high

pub returns-then-is_spanless : goal.returns-then-is_spanless
returns-then-is_spanless c =
    let s = c.is_spanless.ensures c.if-is_spanless.true in
    risks_over _ _ _ s.0 s.1
