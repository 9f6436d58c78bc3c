-- `floor::common_exposure` meets its contract. What clearing leaves has every risk of every way within reach, and no other where it is sure. Else the
-- loop's invariant: so has what is left, and of those below r no other. Assumes nothing.
use mathlib.Core.Path.{refl}
use native.Mathlib.Omega.{arith}
use Rattle.problem.specs.Table.{hazards, arcs_of}
use Rattle.problem.specs.Reply.{mesh_over}
use Rattle.problem.proofs.PathLaws.{sound_heads}
use Rattle.floor.proofs.AskLaws.{narrowed_says, narrowed_sure}
use Rattle.floor.proofs.CommonLaws.{Left, left_start, left_sure, left_on, left_end}
use Rattle.floor.proofs.common_exposure.Goals.{After-narrow-left}
use Rattle.floor.proofs.common_exposure.Goals as goal

-- what clearing leaves
begun : (c : After-narrow-left) → Left (mesh_over (arcs_of c.args.table.now) c.args.q) c.narrow-left.result 0
begun c = left_start _ _ _ c.all.ensures (rw c.narrow-left.ensures (narrowed_says _ _ _ _ (c.clear-is_sure.ensures c.args.side c.requires.side_table (record { size = omega arith; start = c.start-ways.ensures })).clearing))

pub loop-r-init : goal.loop-r-init
loop-r-init c = begun (goal.at.loop-r-init c).After-narrow-left

pub loop-r-preserved : goal.loop-r-preserved
loop-r-preserved c = left_on _ _ _ _ c.loop-r.invariant c.ask-left.ensures

pub returns-after-loop-r : goal.returns-after-loop-r
returns-after-loop-r c =
    let checked = c.requires.checked.0 in
    left_end _ (sound_heads _ checked.sound) checked.source_node _ c.loop-r.r (omega arith) c.loop-r.invariant

pub returns-else-not-is_sure : goal.returns-else-not-is_sure
returns-else-not-is_sure c =
    let checked = c.requires.checked.0 in
    left_end _ (sound_heads _ checked.sound) checked.source_node _ hazards refl
    (left_sure _ _ (begun (goal.at.returns-else-not-is_sure c).After-narrow-left)
    (rw c.narrow-left.ensures (narrowed_sure _ _ _ _ c.requires.side_table (rw c.if-not-is_sure.false at (c.clear-is_sure.ensures c.args.side c.requires.side_table (record { size = omega arith; start = c.start-ways.ensures }))))))
