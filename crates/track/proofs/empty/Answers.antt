-- `track::empty` meets its contract: no place is taken, and all hold 255. Assumes nothing.
use mathlib.Core.Path.{refl}
use native.Mathlib.Omega.{arith}
use Rattle.track.specs.Track.{route_in}
use Rattle.track.proofs.empty.Goals as goal

pub returns : goal.returns
unfolding route_in
returns c = record { fit = record { few = omega arith; size = refl; small = λ i h. absurd (omega arith); blank = refl }; route = rw c.nothing.ensures }
