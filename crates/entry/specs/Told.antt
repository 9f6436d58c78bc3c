-- The number that a host in C is told. Assumes nothing.
use Rattle.std.specs.Prelude.{ℕ, Result, Ok, Err}
use Rattle.problem.specs.declared.Refusal.{Refusal}
use Rattle.problem.specs.declared.Verdict.{Verdict}
use Rattle.problem.specs.Refusals.{refusal_number, verdict_number}

-- the verdict's or the refusal's
abbrev pub number_told : Result Verdict Refusal → ℕ
number_told (Ok v) = verdict_number v
number_told (Err r) = refusal_number r
