-- Why a call mends nothing, and how a call ends. Assumes nothing.
use Rattle.std.specs.Prelude.{ℕ, Result, Ok, Err}
use mathlib.Core.List.{List}
use Rattle.problem.specs.Mending.{Mends}
use Rattle.mend.specs.declared.Refusal.{Refusal}
use Rattle.mend.specs.declared.Refusal.TheVariants.{InputTooLong, OutputTooShort}
use Rattle.mend.specs.declared.Written.{Written}

-- the number of a refusal
abbrev pub refusal_number : Refusal → ℕ
refusal_number InputTooLong = 2
refusal_number OutputTooShort = 13

-- the number of what the checks come to: 0 where none refuses
abbrev pub told : {A : Type 0} → Result A Refusal → ℕ
told (Ok _) = 0
told (Err r) = refusal_number r

-- what a call does, by what it comes to: so much is written, or it is refused
abbrev pub Outcome : (input table₀ list₀ : List ℕ) → Result Written Refusal → (table list : List ℕ) → Type 0
Outcome input table₀ list₀ (Ok w) table list = Mends input table₀ list₀ 0 w.table_len w.list_len table list
Outcome input table₀ list₀ (Err r) table list = Mends input table₀ list₀ (refusal_number r) 0 0 table list
