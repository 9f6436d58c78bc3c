-- `find::track_in` meets its contract. The invariant: the track holds the route of all the arcs put down but those that are left (`Tracked`). Assumes nothing.
use Rattle.find.proofs.TrackLaws.{Tracked}
use Rattle.find.proofs.track_in.Given as goal

abbrev pub invariant-loop-k : goal.invariant-loop-k
invariant-loop-k l = Tracked l.net l.run l.t l.k-iterator.iter.rest.now
