-- The invariant: the first k arcs are turned where they are closed (`Turning`). Assumes nothing.
use Rattle.closed.specs.Turned.{set_of}
use Rattle.closed.proofs.TurnedLaws.{Turning}
use Rattle.closed.proofs.turn_all.Given as goal

abbrev pub invariant-loop-k : goal.invariant-loop-k
invariant-loop-k l = Turning (set_of l.set) l.q.terminal l.q.source l.initial.table l.table l.k
