-- A sweep: every route of a window of lengths, met in any order, is tried as a main and brings a tally up to date. Assumes nothing.
use Rattle.std.specs.Prelude.{ℕ, ◌+◌, ◌≤◌, ◌<◌, Bool, false, ◌≡◌, ltb, if◌then◌else◌}
use mathlib.Core.List.{List, Memᴰ}
use Rattle.problem.specs.Table.{last_node, most_reach}
use Rattle.problem.specs.Routes.{Mesh, metres_of, paths}
use Rattle.net.specs.declared.Net.{Net}
use Rattle.net.specs.declared.Behind.{Behind}
use Rattle.net.specs.Net.{mesh_in, IsNet}
use Rattle.net.specs.Search.{onward, searched, searched_all}
use Rattle.tally.specs.declared.Tally.{Tally}
use Rattle.mains.specs.Mains.{tried}
use Rattle.sweep.specs.declared.Swept.{Swept}
use Rattle.sweep.specs.declared.Window.{Window}

-- the tally after a route ended with arc `last`, no longer than the window's end
unfoldable pub ended : (only : Bool) → Mesh → Window → Behind → (last : ℕ) → Tally → Tally
ended only m w route last t = if ltb route.metres w.lo then t else tried only m w.cap route last t

-- after a route was met: it is a main if its length lies in the window
unfoldable pub met : (only : Bool) → Mesh → Window → Tally → Behind → ℕ → Tally
met only m w t route last = if ltb w.hi route.metres then t else ended only m w route last t

-- after all routes
abbrev pub swept_tally : (only : Bool) → Mesh → Window → Tally → Tally
swept_tally only m w t = searched_all m (met only m w) t

-- what a sweep may count on at a node
pub record Sweeping (net : Net) (hi at metres : ℕ) : Type 0 where
  pub words : IsNet net
  pub node : at ≤ last_node
  pub onward : at ≡ (mesh_in net).terminal → ⊥
  pub hi_range : hi ≤ most_reach
  pub in_window : metres ≤ hi

-- what a sweep over all that grows from a node makes of a tally, and what it cut off: nothing lies between hi and the cut
pub record Sweeps (net : Net) (w : Window) (at : ℕ) (b : Behind) (s r : Swept) : Type 0 where
  pub tally_is : r.tally ≡ searched (mesh_in net) (met net.apart (mesh_in net) w) b at s.tally
  pub cut_falls : r.cut ≤ s.cut
  pub cut_past : w.hi < s.cut → w.hi < r.cut
  pub none_between : r.tally.over ≡ false → (ks : List ℕ) → Memᴰ ks (onward (mesh_in net) b at)
      → w.hi < b.metres + metres_of (mesh_in net).arcs ks → r.cut ≤ b.metres + metres_of (mesh_in net).arcs ks

-- what a sweep over all paths makes of a tally
pub record SweptAll (only : Bool) (m : Mesh) (w : Window) (t : Tally) (r : Swept) : Type 0 where
  pub tally_is : r.tally ≡ swept_tally only m w t
  pub cut_past : w.hi < r.cut
  pub none_between : r.tally.over ≡ false → (ks : List ℕ) → Memᴰ ks (paths m) → w.hi < metres_of m.arcs ks → r.cut ≤ metres_of m.arcs ks
