-- What an arc is to a search. Assumes nothing.
use Rattle.std.specs.Prelude.{ℕ, ◌+◌, eqb, ltb, if◌then◌else◌}
use Rattle.laws.specs.Sets.{bit}
use Rattle.problem.specs.declared.Arc.{Arc}
use Rattle.problem.specs.Routes.{arc_at}
use Rattle.net.specs.declared.Net.{Net}
use Rattle.net.specs.declared.Behind.{Behind}
use Rattle.net.specs.Net.{arcs_in, mesh_in, lower_at}
use Rattle.net.specs.Search.{onto}
use Rattle.look.specs.declared.Leg.{Leg}
use Rattle.look.specs.declared.Leg.TheVariants.{Met, Past, Ends, Leads}

-- arc a, which leads on by at least `lower` metres, to a search for routes of at most hi metres
unfoldable pub leg_of : (terminal hi lower : ℕ) → Behind → Arc → Leg
leg_of terminal hi lower b a =
    if eqb (bit b.met a.head) 1 then Met
    else (if ltb hi (b.metres + a.metres + lower) then Past (b.metres + a.metres + lower)
    else (if eqb a.head terminal then Ends (onto b a)
    else Leads a.head (onto b a)))

-- arc i of the net
abbrev pub leg_at : (net : Net) (hi : ℕ) → Behind → ℕ → Leg
leg_at net hi b i = leg_of (mesh_in net).terminal hi (lower_at net (arc_at (arcs_in net) i).head) b (arc_at (arcs_in net) i)
