-- The route that a track holds, and the pair that two hold. Assumes nothing.
use Rattle.std.specs.Prelude.{ℕ, ◌+◌, ◌-◌, ◌≤◌, ◌<◌, [], ◌∷◌, ◌++◌, ◌≡◌, length, get_or, take, drop, replicate}
use Rattle.problem.specs.declared.Exposure.{Exposure}
use Rattle.problem.specs.Table.{most_arcs, most_in_table}
use Rattle.problem.specs.Exposures.{joined}
use Rattle.problem.specs.Routes.{Route}
use Rattle.problem.specs.Pairs.{Pair, pair}
use Rattle.track.specs.declared.Track.{Track}

unfoldable pub route_in : Track → Route
route_in t = record { arcs = take t.count t.arcs; metres = t.metres; exposure = t.exposure }

abbrev pub pair_in : (main standby : Track) → Pair
pair_in main standby = pair (route_in main) (route_in standby)

-- a track as every function of this crate leaves it
pub record Fit (t : Track) : Type 0 where
  pub few : t.count ≤ most_arcs
  pub size : length t.arcs ≡ 32
  pub small : (i : ℕ) → i < t.count → get_or t.arcs i 0 < most_in_table
  pub blank : drop t.count t.arcs ≡ replicate (32 - t.count) 255

-- the track holds the route
pub record Holds (t : Track) (r : Route) : Type 0 where
  pub fit : Fit t
  pub route : route_in t ≡ r

-- the route that goes on over arc number k, of so many metres and exposed to this
unfoldable pub onward : Route → (k metres : ℕ) → Exposure → Route
onward r k metres e = record { arcs = r.arcs ++ k ∷ []; metres = r.metres + metres; exposure = joined r.exposure e }
