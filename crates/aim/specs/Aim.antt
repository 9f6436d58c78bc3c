-- What the search for a window's end keeps to. Assumes nothing.
use Rattle.std.specs.Prelude.{◌-◌, ◌≤◌, ◌<◌}
use Rattle.problem.specs.Table.{most_allowance}
use Rattle.net.specs.declared.Net.{Net}
use Rattle.net.specs.Net.{mesh_in}
use Rattle.aim.specs.declared.Stretch.{Stretch}
use Rattle.aim.specs.declared.End.{End}
use Rattle.aim.specs.declared.End.TheVariants.{At, Past}

-- a stretch of lengths within the reach
pub record Between (net : Net) (s : Stretch) : Type 0 where
  pub ordered : s.from ≤ s.to
  pub in_reach : s.to ≤ (mesh_in net).reach
  pub few : s.left ≤ most_allowance

-- what is left of a stretch, and it is shorter
pub record Closer (s r : Stretch) : Type 0 where
  pub ordered : r.from ≤ r.to
  pub inside : r.to ≤ s.to
  pub shorter : r.to - r.from < s.to - s.from
  pub few : r.left ≤ s.left

-- the end that was found, or the length up to which there is none, is within the reach
abbrev pub InReach : (net : Net) → End → Type 0
InReach net (At x) = x ≤ (mesh_in net).reach
InReach net (Past x) = x ≤ (mesh_in net).reach
