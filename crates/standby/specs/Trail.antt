-- What lies behind a search that carries of its exposure what a type of its own says (`Carried`). Assumes nothing.
use Rattle.problem.specs.declared.Exposure.{Exposure}
use Rattle.net.specs.declared.Behind.{Behind}
use Rattle.net.specs.Search.{behind}
use Rattle.standby.specs.declared.Hop.{Hop}
use Rattle.standby.specs.declared.Hop.TheVariants.{Passed, Ends, Leads}
use Rattle.standby.specs.declared.Trail.{Trail}

-- where what is carried says to what that is exposed
abbrev pub behind_by : {C : Type 0} → (C → Exposure) → Trail C → Behind
behind_by exposed_to t = behind t.met t.metres (exposed_to t.carried)

-- an arc looked at, where what lies behind it is read so
abbrev pub hop_by : {A B : Type 0} → (A → B) → Hop A → Hop B
hop_by f Passed = Passed
hop_by f (Ends key) = Ends key
hop_by f (Leads head b) = Leads head (f b)

-- where it leads on, this is true of what lies behind it then
abbrev pub IfLeads : {B : Type 0} → (B → Type 0) → Hop B → Type 0
IfLeads P Passed = Unit {0}
IfLeads P (Ends key) = Unit {0}
IfLeads P (Leads head b) = P b
