-- What a call whose checks have passed is read into, and what planning makes of it. Assumes nothing.
use Rattle.std.specs.Prelude.{ℕ, ◌<◌, Bool, ◌≡◌, length, Option, Some, None, Result, Ok, Err}
use mathlib.Core.List.{List, [], Memᴰ}
use Rattle.problem.specs.declared.Refusal.{Refusal}
use Rattle.problem.specs.declared.Refusal.TheVariants.{NoRoute}
use Rattle.problem.specs.Routes.{Mesh, Route, ranking}
use Rattle.problem.specs.Pairs.{Pair, pair, floor}
use Rattle.problem.specs.Apart.{judges}
use Rattle.choose.specs.Choose.{PairChosen, NoneChosen}
use Rattle.net.specs.declared.Net.{Net}
use Rattle.net.specs.Net.{IsNet, routes_in, judged_in}
use Rattle.planner.specs.declared.Made.{Made}

-- where there is a route: a net that says the routes of this mesh and, of their pairs, the same that are judged; and the floor
pub record Laid (only : Bool) (m : Mesh) (net : Net) (low : ℕ) : Type 0 where
  pub words : IsNet net
  pub routes_are : routes_in net ≡ ranking m
  pub judged_are : (r s : Route) → Memᴰ r (ranking m) → Memᴰ s (ranking m) → judged_in net (pair r s) ≡ judges m only (pair r s)
  pub some_route : 0 < length (ranking m)
  pub floor_is : low ≡ floor (ranking m)

-- that, or that there is none
abbrev pub Reads : (only : Bool) → Mesh → (net : Net) → Option ℕ → Type 0
Reads only m net (Some low) = Laid only m net low
Reads only m net None = ranking m ≡ []

-- there is a pair, and so a route: the floor, and what else a reply says
pub record PairMade (ok : Pair → Bool) (routes : List Route) (allowance : ℕ) (m : Made) : Type 0 where
  pub some_route : 0 < length routes
  pub floor_is : m.floor ≡ floor routes
  pub chosen : PairChosen ok routes allowance m.choice

-- there is no route, or some and no pair
pub data NoneMade (ok : Pair → Bool) (routes : List Route) (allowance : ℕ) : Refusal → Type 0 where
  no_route : routes ≡ [] → NoneMade ok routes allowance NoRoute
  no_pair : {r : Refusal} → 0 < length routes → NoneChosen ok routes allowance r → NoneMade ok routes allowance r

-- what planning makes of these routes
abbrev pub Planned : (ok : Pair → Bool) → List Route → ℕ → Result Made Refusal → Type 0
Planned ok routes allowance (Ok m) = PairMade ok routes allowance m
Planned ok routes allowance (Err r) = NoneMade ok routes allowance r

-- of the pairs of a mesh that are judged
abbrev pub PlannedOver : (only : Bool) → Mesh → ℕ → Result Made Refusal → Type 0
PlannedOver only m = Planned (judges m only) (ranking m)
