-- What the standbys of a main keep off: nodes that they must not meet, and an arc that they must not end with. Assumes nothing.
use Rattle.std.specs.Prelude.{ℕ, Bool, List, [], ◌∷◌, ◌≡◌, eqb, if◌then◌else◌}
use Rattle.laws.specs.Sets.{bit, with, without}
use Rattle.problem.specs.Exposures.{to_nothing}
use Rattle.problem.specs.Routes.{Mesh, arc_at}
use Rattle.net.specs.declared.Behind.{Behind}
use Rattle.net.specs.Search.{behind, start, along, last_of, no_arc, onward}
use Rattle.bars.specs.declared.Barred.{Barred}

abbrev pub barred : (nodes last : ℕ) → Barred
barred nodes last = record { nodes = nodes; last = last }

-- nothing, as where every pair is judged
abbrev pub nothing_barred : Barred
nothing_barred = barred 0 no_arc

-- the two ends as a set
abbrev pub ends_of : Mesh → ℕ
ends_of m = with (with 0 m.source) m.terminal

-- what a main bars that meets the nodes `met` and ends with arc `last`, where pairs must be apart: the nodes between the ends; of a main of one arc, which has none, the arc itself
unfoldable pub barred_by : (only : Bool) → Mesh → (met last : ℕ) → Barred
barred_by only m met last =
    if only
    then (if eqb (without met (ends_of m)) 0 then barred 0 last else barred (without met (ends_of m)) no_arc)
    else nothing_barred

-- what the main of these arcs bars
abbrev pub barred_by_list : (only : Bool) → Mesh → List ℕ → Barred
barred_by_list only m ks = barred_by only m (along m.arcs (start m) ks).met (last_of no_arc ks)

-- where the search for a standby begins: the source is met, and what is barred counts as met
abbrev pub start_barred : Mesh → Barred → Behind
start_barred m b = behind (with b.nodes m.source) 0 to_nothing

-- the lists that meet no barred node, from the source to the terminal
abbrev pub unbarred : Mesh → Barred → List (List ℕ)
unbarred m b = onward m (start_barred m b) m.source

-- no arc of a list leads to a barred node, or to the terminal where it is barred itself
pub data Avoids (m : Mesh) (b : Barred) : List ℕ → Type 0 where
  none : Avoids m b []
  one : {k : ℕ} {ks : List ℕ} → bit b.nodes (arc_at m.arcs k).head ≡ 0 → ((arc_at m.arcs k).head ≡ m.terminal → k ≡ b.last → ⊥) → Avoids m b ks → Avoids m b (k ∷ ks)
