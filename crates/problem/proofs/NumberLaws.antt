-- No refusal has the number 0, so the number told of a result says whether there is one. Assumes nothing.
use Rattle.std.specs.Prelude.{Result, Ok, Err, IsOk}
use mathlib.Core.Path.{◌≡◌, refl}
use Prim.Native.Nat.{◌≤◌}
use native.Mathlib.Omega.{arith}
use Rattle.problem.specs.declared.Refusal.{Refusal}
use Rattle.problem.specs.declared.Refusal.TheVariants.{TableTooLong, TableTorn, ReplyTooShort, NodeTooHigh, EndsEqual, ReachTooFar, BadAllowance, FaultyArc, BlankArc, BadClosedSet, NoRoute, NoPair, NoPairYet}
use Rattle.problem.specs.Refusals.{refusal_number, told}
use Rattle.problem.proofs.FaultLaws.{fault_range}

pub past_one : (r : Refusal) → 2 ≤ refusal_number r
past_one TableTooLong = omega arith
past_one TableTorn = omega arith
past_one ReplyTooShort = omega arith
past_one NodeTooHigh = omega arith
past_one EndsEqual = omega arith
past_one ReachTooFar = omega arith
past_one BadAllowance = omega arith
past_one (FaultyArc f k) = omega (arith, (fault_range f).0)
past_one (BlankArc k) = omega arith
past_one BadClosedSet = omega arith
past_one NoRoute = omega arith
past_one NoPair = omega arith
past_one NoPairYet = omega arith

pub refused_some : (r : Refusal) → refusal_number r ≡ 0 → ⊥
refused_some r z = omega (arith, past_one r)

pub none_refused : {A : Type 0} (o : Result A Refusal) → told o ≡ 0 → IsOk o
none_refused (Ok x) z = refl
none_refused (Err r) z = absurd (refused_some r z)
