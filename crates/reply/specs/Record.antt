-- The reply of what planning has made. Assumes nothing.
use Rattle.std.specs.Prelude.{ℕ, List}
use Rattle.problem.specs.Refusals.{verdict_number}
use Rattle.problem.specs.Reply.{reply_of}
use Rattle.track.specs.Track.{pair_in}
use Rattle.planner.specs.declared.Made.{Made}

-- the 96 bytes
abbrev pub record_of : Made → List ℕ
record_of m = reply_of (verdict_number m.choice.verdict) m.floor m.choice.ranked (pair_in m.choice.main m.choice.standby)
