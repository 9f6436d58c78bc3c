-- What a search by risks alone counts on. Assumes nothing.
use Rattle.std.specs.Prelude.{◌≡◌, ℕ, false}
use Rattle.problem.specs.declared.Exposure.{Exposure}
use Rattle.net.specs.declared.Net.{Net}

-- exposed to these risks and to no span
abbrev pub by_risks : ℕ → Exposure
by_risks risks = record { risks = risks; low = 0; high = 0 }

-- no arc of the net has a span
abbrev pub Plain : Net → Type 0
Plain net = net.spanned ≡ false
