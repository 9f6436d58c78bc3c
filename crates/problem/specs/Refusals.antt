-- The numbers of refusals and of verdicts, and the number that a result of either kind is told by. Assumes nothing.
use Rattle.std.specs.Prelude.{ℕ, ◌+◌, ◌*◌, Result, Ok, Err}
use Rattle.problem.specs.declared.Refusal.{Refusal}
use Rattle.problem.specs.declared.Refusal.TheVariants.{TableTooLong, TableTorn, ReplyTooShort, NodeTooHigh, EndsEqual, ReachTooFar, BadAllowance, FaultyArc, BlankArc, BadClosedSet, NoRoute, NoPair, NoPairYet}
use Rattle.problem.specs.declared.Verdict.{Verdict}
use Rattle.problem.specs.declared.Verdict.TheVariants.{Settled, Stopped}
use Rattle.problem.specs.Table.{fault_number}

-- the number of a refusal; of an arc's, 256 times the arc's number more
abbrev pub refusal_number : Refusal → ℕ
refusal_number TableTooLong = 2
refusal_number TableTorn = 3
refusal_number ReplyTooShort = 4
refusal_number NodeTooHigh = 5
refusal_number EndsEqual = 6
refusal_number ReachTooFar = 7
refusal_number BadAllowance = 8
refusal_number (FaultyArc f k) = fault_number f + 256 * k
refusal_number (BlankArc k) = 24 + 256 * k
refusal_number BadClosedSet = 16
refusal_number NoRoute = 10
refusal_number NoPair = 14
refusal_number NoPairYet = 15

-- the number of a verdict
abbrev pub verdict_number : Verdict → ℕ
verdict_number Settled = 0
verdict_number Stopped = 1

-- the number of what checks come to: 0 where none refuses
abbrev pub told : {A : Type 0} → Result A Refusal → ℕ
told (Ok _) = 0
told (Err r) = refusal_number r
