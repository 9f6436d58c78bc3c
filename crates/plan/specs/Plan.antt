-- Windows of lengths, one after the other, until a step is settled, all routes are ranked, or the allowance ends. Assumes nothing.
use Rattle.std.specs.Prelude.{ℕ, ◌*◌, ◌≤◌, ◌<◌, Bool, true, false, ◌&&◌, ◌≡◌, eqb, leb, length, if◌then◌else◌}
use Rattle.std.specs.declared.ops.ControlFlow.{ControlFlow}
use Rattle.std.specs.declared.ops.ControlFlow.TheVariants.{Continue, Break}
use Rattle.problem.specs.Table.{most_reach, most_allowance}
use Rattle.problem.specs.Routes.{count, shorter}
use Rattle.problem.specs.Pairs.{floor, settled_by_length}
use Rattle.keys.specs.Keys.{shared_of, total_of}
use Rattle.net.specs.declared.Net.{Net}
use Rattle.net.specs.Net.{mesh_in, routes_in, judged_in}
use Rattle.tally.specs.declared.Tally.{Tally}
use Rattle.mains.specs.Mains.{Stepped}
use Rattle.plan.specs.declared.Run.{Run}
use Rattle.plan.specs.declared.Run.TheVariants.{ByLength, AllRanked, AtAllowance}
use Rattle.plan.specs.declared.Next.{Next}

-- the length test on a tally: the best pair shares exactly the floor, and twice the last main's length is at least its total. No floor is as large as what no pair's key says
unfoldable pub met_by : Tally → ℕ → Bool
met_by t floor = eqb (shared_of t.best) floor && leb (total_of t.best) (2 * t.last)

-- a tally that gave up, as that of the mains it took
abbrev pub not_over : Tally → Tally
not_over t = record t { over = false }

-- the end of a run whose last window gave up at the allowance
unfoldable pub ended_at : Tally → ℕ → Run
ended_at t floor = if met_by (not_over t) floor then ByLength (not_over t) else AtAllowance (not_over t)

-- what planning may count on
pub record Planning (net : Net) (allowance low : ℕ) : Type 0 where
  pub some_route : 0 < length (routes_in net)
  pub some_allowance : 0 < allowance
  pub few : allowance ≤ most_allowance
  pub floor_is : low ≡ floor (routes_in net)

-- the tally of a step within the allowance
pub record AtStep (net : Net) (allowance step : ℕ) (t : Tally) : Type 0 where
  pub tally_is : Stepped (judged_in net) (routes_in net) step t
  pub some : 0 < step
  pub allowed : step ≤ allowance

-- where planning ends: with the tally of a step that is settled by length, is the last, or is the allowance
pub data Ended (net : Net) (allowance : ℕ) : Run → Type 0 where
  by_length : {t : Tally} (j : ℕ) → AtStep net allowance j t → settled_by_length (judged_in net) (routes_in net) j ≡ true → Ended net allowance (ByLength t)
  all_ranked : {t : Tally} (j : ℕ) → AtStep net allowance j t → j ≡ length (routes_in net) → settled_by_length (judged_in net) (routes_in net) j ≡ false → Ended net allowance (AllRanked t)
  at_allowance : {t : Tally} (j : ℕ) → AtStep net allowance j t → j ≡ allowance → j < length (routes_in net) → settled_by_length (judged_in net) (routes_in net) j ≡ false
      → Ended net allowance (AtAllowance t)

-- before a turn: the tally is that of all routes shorter than `cur`
pub record Turning (net : Net) (allowance : ℕ) (t : Tally) (cur width : ℕ) : Type 0 where
  pub tally_is : Stepped (judged_in net) (routes_in net) (count (shorter cur) (routes_in net)) t
  pub allowed : t.ranked ≤ allowance
  pub cur_range : cur ≤ (mesh_in net).reach
  pub width_range : width ≤ most_reach

-- after a turn
pub data Turned (net : Net) (allowance floor : ℕ) (t : Tally) (cur width : ℕ) : ControlFlow Run Next → Type 0 where
  -- to be gone on with from a greater length
  further : {n : Next} → Stepped (judged_in net) (routes_in net) (count (shorter n.cur) (routes_in net)) n.tally → n.tally.ranked ≤ allowance → met_by n.tally floor ≡ false
      → cur < n.cur → n.width ≤ most_reach → Turned net allowance floor t cur width (Continue n)
  -- to be tried again with a narrower window
  again : {n : Next} → n.tally ≡ t → n.cur ≡ cur → n.width < width → Turned net allowance floor t cur width (Continue n)
  -- ended
  stopped : {r : Run} → Ended net allowance r → Turned net allowance floor t cur width (Break r)
