-- `side::finish` meets its contract. The invariant: `Underway`, what is left of it. Assumes nothing.
use mathlib.Core.List.{◌∷◌}
use Rattle.problem.specs.Table.{arcs_of}
use Rattle.side.specs.Relaxing.{frees_from, finished_in, tails_into}
use Rattle.side.proofs.FinishLaws.{Underway, underway_first, underway_fits, underway_next}
use Rattle.side.proofs.finish.Goals.{In-Some}
use Rattle.side.proofs.finish.Goals as goal

-- this arc is the first of those that are left
left : (c : In-Some) → let arcs = arcs_of c.args.arcs.now.table.now in let banned = c.args.arcs.now.banned in
    Underway banned c.args.v (finished_in banned c.args.v c.args.entries.now arcs) (tails_into banned c.args.v arcs) c.loop-a.entries c.loop-a.tails
    (c.in-Some.a ∷ frees_from c.next.new.self.arcs.banned (arcs_of c.next.new.self.arcs.table.now) c.next.new.self.next)
left c = rw c.in-Some.ensures.steps at c.loop-a.invariant.2

pub loop-a-init : goal.loop-a-init
loop-a-init c =
    (tt, tt, underway_first _ _ _ _ _ c.args.arcs.now.sound c.requires (rw c.into_iter-a-iterator.ensures.into_iter_gives c.free_into-a-items.ensures))

pub relax-requires : goal.relax-requires
relax-requires c = underway_fits (left (goal.at.relax-requires c).In-Some)

pub loop-a-preserved : goal.loop-a-preserved
loop-a-preserved c =
    (tt, tt, rw (c.relax.ensures, c.with-tails.ensures) (underway_next (left (goal.at.loop-a-preserved c).In-Some)))
