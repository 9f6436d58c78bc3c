-- Clearing: for each node, what no way found so far avoids; the other risks are cleared. Assumes nothing.
use Rattle.std.specs.Prelude.{◌≡◌, Bool, true, List, ℕ, ◌+◌, ◌≤◌, ◌<◌, max, map, length, get_or, set}
use Rattle.problem.specs.declared.Arc.{Arc}
use Rattle.problem.specs.declared.Exposure.{Exposure}
use Rattle.problem.specs.Table.{nodes, hazards}
use Rattle.problem.specs.Exposures.{exposed, to_nothing, to_all, of_arc, joined, common}
use Rattle.problem.specs.Routes.{Mesh, metres_of, exposure_of, Way}
use Rattle.side.specs.declared.Distance.{Distance}
use Rattle.side.specs.Side.{unreached, entry_at, reached_at, metres_at}
use Rattle.floor.specs.declared.Held.{Held}
use Rattle.floor.specs.declared.Over.{Over}

-- what is held of v: its entry, and what no way found from v avoids
abbrev pub held_at : List Held → ℕ → Held
held_at s v = get_or s v (record { entry = unreached; exposure = to_nothing })

abbrev pub reached_from : List Held → ℕ → Bool
reached_from s v = (held_at s v).entry.reached

abbrev pub metres_from : List Held → ℕ → ℕ
metres_from s v = (held_at s v).entry.metres

abbrev pub exposure_at : List Held → ℕ → Exposure
exposure_at s v = (held_at s v).exposure

-- before any arc: nothing is known to be avoided, but everything at the terminal
unfoldable pub start_of : (plain : List Distance) (terminal : ℕ) → List Held
start_of plain terminal =
    set (map (λ (e : Distance). record { entry = e; exposure = to_all }) plain) terminal (record { entry = entry_at plain terminal; exposure = to_nothing })

-- the ways are as they begin with these entries
pub record Begun (plain : List Distance) (terminal : ℕ) (ways : List Held) : Type 0 where
  pub size : length plain ≡ nodes
  pub start : ways ≡ start_of plain terminal

-- what the arc's tail is exposed to, less what the arc and ways from its head are free of
abbrev pub exposure_over : List Held → Arc → Exposure
exposure_over s a = common (exposure_at s a.tail) (joined (of_arc a) (exposure_at s a.head))

-- the tail's place made anew, with the given length
unfoldable pub cleared_by : List Held → Arc → ℕ → List Held
cleared_by s a metres = set s a.tail (record { entry = record { metres = metres; reached = reached_from s a.tail }; exposure = exposure_over s a })

-- what going over an arc leaves
abbrev pub GoneOver : (reach : ℕ) → List Held → Arc → Over → List Held → Type 0
GoneOver reach s a Over.Same t = (t ≡ s) × (reached_from s a.head ≡ true → exposure_over s a ≡ exposure_at s a.tail)
GoneOver reach s a Over.More t =
    (t ≡ cleared_by s a (max (metres_from s a.tail) (metres_from s a.head + a.metres))) × (reached_from s a.head ≡ true) × (metres_from s a.head + a.metres ≤ reach)
GoneOver reach s a Over.OutOfReach t = t ≡ s

module _ (arcs : List Arc) (terminal : ℕ) where
  -- a way from v that is free of risk b and no longer than the given length
  pub record Avoids (v b metres : ℕ) : Type 0 where
    pub list : List ℕ
    pub way : Way arcs v terminal list
    pub free : exposed (exposure_of arcs list) b ≡ 0
    pub short : metres_of arcs list ≤ metres

  -- begun with the entries of `plain`: a risk that a reached node is not exposed to can be avoided from there; lengths that have grown are within reach
  pub record Clearing (reach : ℕ) (plain : List Distance) (s : List Held) : Type 0 where
    pub size : length s ≡ nodes
    pub same_reached : (v : ℕ) → reached_from s v ≡ reached_at plain v
    pub avoids : (v : ℕ) → reached_from s v ≡ true → (b : ℕ) → b < hazards → exposed (exposure_at s v) b ≡ 0 → Avoids v b (metres_from s v)
    pub within : (v : ℕ) → metres_from s v ≤ max reach (metres_at plain v)
    pub terminal_clear : exposure_at s terminal ≡ to_nothing

-- the end of it: where that is sure, every risk that the source is exposed to lies on every way, of whatever length
pub record Finished (m : Mesh) (plain : List Distance) (s : List Held) (sure : Bool) : Type 0 where
  pub clearing : Clearing m.arcs m.terminal m.reach plain s
  pub is_on_every : sure ≡ true → (b : ℕ) → exposed (exposure_at s m.source) b ≡ 1 → (ks : List ℕ) → Way m.arcs m.source m.terminal ks → exposed (exposure_of m.arcs ks) b ≡ 1
