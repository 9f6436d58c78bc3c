-- A sweep under way: what the steps of a walk make of it. Assumes nothing.
use Rattle.std.specs.Prelude.{ℕ, min, Bool, ◌≡◌}
use Rattle.problem.specs.Routes.{Mesh}
use Rattle.net.specs.declared.Net.{Net}
use Rattle.net.specs.declared.Behind.{Behind}
use Rattle.sweep.specs.declared.Run.{Run}
use Rattle.sweep.specs.Sweep.{ended, Sweeps}

-- after something was cut off at a length
abbrev pub cut_run : (to : ℕ) → Run → Run
cut_run to run = record run { swept = record run.swept { cut = min run.swept.cut to } }

-- after a route ended with arc `last`, no longer than the window's end
abbrev pub ended_run : (only : Bool) → Mesh → (route : Behind) (last : ℕ) → Run → Run
ended_run only m route last run = record run { swept = record run.swept { tally = ended only m run.window route last run.swept.tally } }

-- all that grows from a node was swept
pub record Walks (net : Net) (at : ℕ) (b : Behind) (before after : Run) : Type 0 where
  pub window_same : after.window ≡ before.window
  pub sweeps : Sweeps net before.window at b before.swept after.swept
