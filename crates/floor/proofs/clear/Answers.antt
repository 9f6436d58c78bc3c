-- `floor::clear` meets its contract. The invariant: what clearing says of ways holds, and of the arcs that are not due none lets its tail avoid more (`Between`).
-- Assumes nothing.
use mathlib.Core.Path.{◌≡◌, sym, subst}
use mathlib.Core.List.{List}
use Prim.Native.Nat.{◌+◌, ◌<◌}
use native.Mathlib.Omega.{arith}
use lib.ListN.{length}
use borrow.Author.Tests.{not-true}
use Rattle.laws.proofs.SetLaws.{bit_inside}
use Rattle.problem.specs.Table.{nodes, arcs_of, SoundArc}
use Rattle.problem.specs.Exposures.{to_nothing}
use Rattle.problem.specs.Routes.{arc_at}
use Rattle.problem.specs.declared.Arc.{Arc}
use Rattle.problem.proofs.TableLaws.{arcs_length, sound_at}
use Rattle.chain.specs.Chain.{end_of, NextBy}
use Rattle.side.specs.declared.Distance.{Distance}
use Rattle.floor.specs.Clearing.{Begun, Clearing}
use Rattle.floor.proofs.ClearLaws.{clearing_start, clearing_over, between_start, between_node, between_idle, between_cut, between_over, between_settled, idle_same, finished_settled, finished_clear, finished_unsure}
use Rattle.floor.proofs.clear.Goals.{After-arc_at-a, After-lowest-head, After-next-k, At-loop, in-Same, in-More, in-OutOfReach}
use Rattle.floor.proofs.clear.Goals as goal

-- what is held at the loop's test
module _ (l : At-loop) (plain : List Distance) (begun : Begun plain l.args.call.now.q.terminal l.args.ways.now) where
  at_test : Clearing (arcs_of l.args.call.now.table.now) l.args.call.now.q.terminal l.args.call.now.q.reach plain l.loop.ways
  at_test =
      l.loop.invariant.2 plain
      (subst (Clearing (arcs_of l.args.call.now.table.now) l.args.call.now.q.terminal l.args.call.now.q.reach plain) (sym begun.start)
      (clearing_start _ _ begun.size l.args.call.now.checked.terminal_node _ _))

-- the node that is taken is one
node : (c : After-lowest-head) → c.lowest-head.result < nodes
node c = bit_inside nodes _ _ c.loop.invariant.1.few c.lowest-head.ensures.is_member

-- the arc of this turn, and the next arc of its head
inside : (c : After-arc_at-a) → c.loop.k < length (arcs_of c.args.call.now.table.now)
inside c = omega (arith, c.loop.invariant.0, c.if-n-k.false)

sound : (c : After-arc_at-a) → SoundArc c.arc_at-a.result
sound c = rw c.arc_at-a.ensures (sound_at _ c.args.call.now.checked.sound c.loop.k (inside c))

next : (c : After-next-k) → let arcs = arcs_of c.args.call.now.table.now in NextBy (λ (a : Arc). a.head) arcs (arc_at arcs c.loop.k).head (c.loop.k + 1) c.next-k.result
unfolding end_of
next c =
    let arcs = arcs_of c.args.call.now.table.now in
    subst (NextBy (λ (a : Arc). a.head) arcs (arc_at arcs c.loop.k).head (c.loop.k + 1)) (sym c.next-k.ensures) (c.args.call.now.chained.next c.loop.k (omega (arith, c.loop.invariant.0, c.if-n-k.false)))

pub loop-init : goal.loop-init
loop-init c =
    let t = c.args.call.now.table.now in
    let checked = c.args.call.now.checked in
    (sym (arcs_length t), rw (c.requires.1.start, c.with-pending.ensures, ← arcs_length t) (between_start _ _ _ c.requires.1.size checked.sound checked.terminal_node), λ plain held. held)

pub returns-then-pending-eq0 : goal.returns-then-pending-eq0
returns-then-pending-eq0 c =
    let i = c.loop.invariant in
    λ plain side begun. finished_settled _ _ side _ (at_test (goal.at.returns-then-pending-eq0 c).At-loop plain begun) _ (λ e. between_settled _ i.1 c.if-pending-eq0.true (omega (arith, i.0, c.if-n-k.true)) (not-true _ e))

pub returns-then-is_nothing : goal.returns-then-is_nothing
unfolding to_nothing
returns-then-is_nothing c =
    λ plain side begun. finished_clear _ _ side _ (at_test (goal.at.returns-then-is_nothing c).At-loop plain begun) (c.is_nothing.ensures.0 c.if-is_nothing.true)

pub first-k-requires : goal.first-k-requires
first-k-requires c = omega (arith, node (goal.at.first-k-requires c).After-lowest-head)

pub loop-preserved-then-n-k : goal.loop-preserved-then-n-k
unfolding end_of
loop-preserved-then-n-k c =
    let i = c.loop.invariant in
    let chain = subst (NextBy (λ (a : Arc). a.head) (arcs_of c.args.call.now.table.now) c.lowest-head.result 0) (sym c.first-k.ensures) (c.args.call.now.chained.first c.lowest-head.result (omega (arith, node (goal.at.loop-preserved-then-n-k c).After-lowest-head))) in
    (i.0, between_node _ i.1 (omega (arith, i.0, c.if-n-k.true)) c.lowest-head.ensures chain, i.2)

pub go_over-requires : goal.go_over-requires
go_over-requires c = sound (goal.at.go_over-requires c).After-arc_at-a

pub with-pending-requires-in-More : goal.with-pending-requires-in-More
with-pending-requires-in-More c = omega (arith, (sound (goal.at.with-pending-requires-in-More c).After-arc_at-a).tail_node)

pub loop-preserved : goal.loop-preserved
loop-preserved c =
    let i = c.loop.invariant in
    let at = goal.at.loop-preserved c in
    let is = c.arc_at-a.ensures in
    let k_inside = inside at.After-arc_at-a in
    let k_sound = sound at.After-arc_at-a in
    let held = at_test at.At-loop c.requires.0 c.requires.1 in
    elim c.match-go_over.branch [
      | in-Same w ↦ (
        i.0,
        rw (w.pending-is, w.cut-is, w.in-Same.ensures.0) (between_idle _ i.1 k_inside (next at.After-next-k) (λ r. idle_same (arcs_of c.args.call.now.table.now) c.loop.ways c.loop.k c.arc_at-a.result is (w.in-Same.ensures.1 (rw is r)))),
        rw w.in-Same.ensures.0 i.2,
      )
      | in-More w ↦ (
        i.0,
        rw (w.pending-is, w.cut-is, w.in-More.ensures.0, w.with-pending-in-More.ensures) (between_over _ i.1 k_inside (next at.After-next-k) (rw is at k_sound) held.size _ _ is),
        λ plain begun. rw w.in-More.ensures.0 (clearing_over _ _ _ _ _ c.loop.k _ _ is k_inside k_sound w.in-More.ensures.1 w.in-More.ensures.2 (omega arith) (i.2 plain begun)),
      )
      | in-OutOfReach w ↦ (i.0, rw (w.pending-is, w.cut-is, w.in-OutOfReach.ensures) (between_cut _ i.1 k_inside (next at.After-next-k)), rw w.in-OutOfReach.ensures i.2)
    ]

pub returns : goal.returns
returns c = λ plain side begun. finished_unsure _ _ side _ (at_test (goal.at.returns c).At-loop plain begun)
