-- Request T-09, Empty risk lists: a planner who does not know the risks of a span leaves their field blank, and the pair then looks wonderfully separate.
-- A blank is no fault of the arc (`HasFault`): the mender leaves it for a person, who has to find out what the span runs through. Assumes nothing.
use Rattle.std.specs.Prelude.{ℕ, ◌<◌, Bool, ◌&&◌, List, ◌≡◌, eqb, ltb, if◌then◌else◌}
use Rattle.problem.specs.declared.Arc.{Arc}
use Rattle.problem.specs.Table.{first_told}

-- an arc of more than 0 metres for which no risk is listed; its span number does not matter
pub record Blank (a : Arc) : Type 0 where
  pub some_metres : 0 < a.metres
  pub no_risk : a.risks ≡ 0

unfoldable pub is_blank : Arc → Bool
is_blank a = ltb 0 a.metres && eqb a.risks 0

-- its number; 0 for an arc that is not blank
abbrev pub blank_number : Arc → ℕ
blank_number a = if is_blank a then 24 else 0

-- the number returned for the lowest blank arc: 24, and 256 times the arc's number; 0 where none is blank
unfoldable pub blanks_number : List Arc → ℕ
blanks_number arcs = first_told blank_number 0 arcs

-- each arc of more than 0 metres has a risk listed
unfoldable pub none_blank : List Arc → Bool
none_blank arcs = eqb (blanks_number arcs) 0
