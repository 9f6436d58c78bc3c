-- The first route of a wanted length that passes a test, in depth-first order, and, of mains, how many of that length stand before it. Assumes nothing.
use Rattle.std.specs.Prelude.{ℕ, ◌+◌, ◌≤◌, ◌<◌, min, Bool, true, false, ◌&&◌, not, ◌≡◌, eqb, ltb, length, if◌then◌else◌, Result, Ok, Err}
use mathlib.Core.List.{List, ◌∷◌, ◌++◌, foldl, Memᴰ}
use Rattle.laws.specs.Choosing.{keep}
use Rattle.laws.specs.Sets.{bit}
use Rattle.problem.specs.declared.Arc.{Arc}
use Rattle.problem.specs.declared.Exposure.{Exposure}
use Rattle.problem.specs.Table.{last_node, most_reach, most_allowance}
use Rattle.problem.specs.Exposures.{exposed, of_arc, common, sharing}
use Rattle.problem.specs.Routes.{Mesh, metres_of, exposure_of, Way, Route, route_of}
use Rattle.keys.specs.Keys.{standby_key, no_standby}
use Rattle.net.specs.declared.Behind.{Behind}
use Rattle.net.specs.Search.{along, last_of, no_arc, onward}
use Rattle.bars.specs.declared.Barred.{Barred}
use Rattle.bars.specs.Bars.{barred_by, start_barred, unbarred, Avoids}
use Rattle.standby.specs.Ahead.{quest, NoneBelow, least_of}
use Rattle.labels.specs.declared.Labels.{Labels}
use Rattle.labels.specs.Labels.{label_metres, label_exposure, Labelled}
use Rattle.track.specs.Track as track
use Rattle.track.specs.Track.{route_in}
use Rattle.find.specs.declared.Role.{Role}
use Rattle.find.specs.declared.Role.TheVariants.{Main, Standby}
use Rattle.find.specs.declared.Want.{Want}
use Rattle.find.specs.declared.Found.{Found}

-- ---- what is wanted

abbrev pub IsStandby : Role → Type 0
IsStandby (Main off) = ⊥
IsStandby (Standby main off) = Unit {0}

-- what a route in this role keeps off
abbrev pub barred_for : Role → Barred
barred_for (Main off) = off
barred_for (Standby main off) = off

-- whether a route of the wanted length, at the end of which this lies behind and which ends with arc `last`, is the wanted one: as a main, where the least key of
-- its standbys is the key; as a standby of `main`, where its own key is and the arc is not barred
unfoldable pub is_wanted : (only : Bool) → Mesh → Want → Behind → (last : ℕ) → Bool
is_wanted only m w route last = elim w.role [
  | Main off ↦ eqb (least_of (quest m route.exposure (barred_by only m route.met last)) (w.key + 1)) w.key
  | Standby main off ↦ not (eqb last off.last) && eqb (standby_key (sharing main route.exposure) w.metres) w.key
]

-- whether what is exposed to this shares more with the main than the key of a wanted standby says: then nothing that goes on from there is wanted
unfoldable pub shares_too_much : Want → Exposure → Bool
shares_too_much w e = elim w.role [ Main off ↦ false | Standby main off ↦ ltb w.key (standby_key (sharing main e) 0) ]

-- no route and no key is larger
pub record InRange (w : Want) : Type 0 where
  pub metres_range : w.metres ≤ most_reach
  pub key_range : w.key < no_standby

-- if a standby is wanted, it is of the least key that a standby of that main has which keeps off what is barred, and within reach: only then may a search for it
-- leave out what comes late
pub record Sure (m : Mesh) (w : Want) : Type 0 where
  pub in_reach : IsStandby w.role → w.metres ≤ m.reach
  pub least : (main : Exposure) (off : Barred) → w.role ≡ Standby main off → NoneBelow (quest m main off) w.key

-- ---- what is found

-- the search so far: whether the route was found, how many of the wanted length came before it (only mains are counted), and the route, as far as it lies
-- ahead of where the search set out
pub record Sought : Type 0 where
  pub found : Bool
  pub passed : ℕ
  pub route : Route

-- how many of a list have so many metres, as far as they are counted: no allowance is larger
abbrev pub count_of : List Arc → ℕ → List (List ℕ) → ℕ
count_of arcs metres l = min (length (keep (λ ks. eqb (metres_of arcs ks) metres) l)) most_allowance

module _ (only : Bool) (m : Mesh) (w : Want) where
  -- whether a list is the wanted one, if it has the wanted length
  abbrev pub passes_by : List ℕ → Bool
  passes_by ks = is_wanted only m w (along m.arcs (start_barred m (barred_for w.role)) ks) (last_of no_arc ks)

  -- no list of the wanted length passes
  abbrev pub NonePasses : List (List ℕ) → Type 0
  NonePasses l = (ks : List ℕ) → Memᴰ ks l → metres_of m.arcs ks ≡ w.metres → passes_by ks ≡ false

  -- the first list of the wanted length that passes
  pub record First (all : List (List ℕ)) : Type 0 where
    pub before : List (List ℕ)
    pub ks : List ℕ
    pub after : List (List ℕ)
    pub place : all ≡ before ++ ks ∷ after
    pub length_is : metres_of m.arcs ks ≡ w.metres
    pub passes : passes_by ks ≡ true
    pub none_before : NonePasses before

  -- how many of the wanted length are in a list: only mains are counted
  abbrev pub passed_in : List (List ℕ) → ℕ
  passed_in l = elim w.role [ Main off ↦ count_of m.arcs w.metres l | Standby main off ↦ 0 ]

  -- what a search over all of them comes to: the route of the first that passes, and what passed before it; or, where none passes, what passed
  pub data Outcome (all : List (List ℕ)) : Result Found ℕ → Type 0 where
    first : (f : First all) (u : Found) → u.passed ≡ passed_in f.before → route_in u.track ≡ route_of m.arcs f.ks → Outcome all (Ok u)
    nowhere : NonePasses all → (p : ℕ) → p ≡ passed_in all → Outcome all (Err p)

-- over all paths of the mesh that meet no barred node
abbrev pub OutcomeOverAll : (only : Bool) → Mesh → Want → Result Found ℕ → Type 0
OutcomeOverAll only m w result = Outcome only m w (unbarred m (barred_for w.role)) result

-- ---- the search, route by route

-- of routes that are not wanted, only mains are counted
abbrev pub passed_over : Role → Sought → Sought
passed_over (Main off) s = record { found = false; passed = min (s.passed + 1) most_allowance; route = s.route }
passed_over (Standby main off) s = s

-- after one more route, at the end of which this lies behind and which ends with arc `last`, with the arcs ks ahead of where the search set out: once found,
-- nothing changes
unfoldable pub meet : (only : Bool) → Mesh → Want → Sought → Behind → (last : ℕ) → List ℕ → Sought
meet only m w s e last ks =
    if s.found then s
    else (if eqb e.metres w.metres
    then (if is_wanted only m w e last
    then record { found = true; passed = s.passed; route = route_of m.arcs ks }
    else passed_over w.role s)
    else s)

-- after one more list: b lies behind, ks ahead
unfoldable pub seek : (only : Bool) → Mesh → Want → Behind → Sought → List ℕ → Sought
seek only m w b s ks = meet only m w s (along m.arcs b ks) (last_of no_arc ks) ks

-- after all that goes on from a node
abbrev pub sought_from : (only : Bool) → Mesh → Want → ℕ → Behind → Sought → Sought
sought_from only m w at b s = foldl (seek only m w b) s (onward m b at)

-- the route that goes on over arc number k, which is a
abbrev pub over_arc : Route → ℕ → Arc → Route
over_arc r k a = track.onward r k a.metres (of_arc a)

-- ---- what came to a node

-- a way leads to v that keeps off what is barred, no longer than this and, of what the main is exposed to, exposed to no more
pub record Trail (m : Mesh) (main : Exposure) (off : Barred) (v metres : ℕ) (e : Exposure) : Type 0 where
  pub list : List ℕ
  pub way : Way m.arcs m.source v list
  pub keeps_off : Avoids m off list
  pub no_longer : metres_of m.arcs list ≤ metres
  pub no_more : (r : ℕ) → exposed (common main (exposure_of m.arcs list)) r ≤ exposed e r

-- where a standby is wanted, each label tells of such a way
pub record Trails (m : Mesh) (w : Want) (labels : Labels) : Type 0 where
  pub told : (main : Exposure) (off : Barred) → w.role ≡ Standby main off → (v : ℕ) → v ≤ last_node → bit labels.labelled v ≡ 1
      → Trail m main off v (label_metres labels v) (label_exposure labels v)

-- the labels once something came to v: as they were, or, for a standby, with one that tells of it
pub data Arrived (w : Want) (v metres : ℕ) (e : Exposure) (before after : Labels) : Type 0 where
  same : after ≡ before → Arrived w v metres e before after
  labelled : (main : Exposure) (off : Barred) → w.role ≡ Standby main off → Labelled v metres (common main e) before after → Arrived w v metres e before after
