-- From the end of a run to the reply: the pair's own routes, the number ranked, the verdict. Assumes nothing.
use Rattle.std.specs.Prelude.{ℕ, ◌+◌, ◌-◌, ◌/◌, ◌≤◌, ◌<◌, Bool, true, false, List, Result, Ok, Err, ◌≡◌, eqb, leb, length, get_or, if◌then◌else◌}
use Rattle.problem.specs.declared.Refusal.{Refusal}
use Rattle.problem.specs.declared.Verdict.{Verdict}
use Rattle.problem.specs.Table.{hazards, most_reach, most_allowance}
use Rattle.problem.specs.Routes.{Route, count, shorter}
use Rattle.problem.specs.Pairs.{Pair, no_route, some_at, best, ranked, verdict}
use Rattle.problem.specs.Refusals.{refusal_number, verdict_number}
use Rattle.keys.specs.Keys.{standby_key, pair_key, key_of, shared_of, total_of, main_of, no_key}
use Rattle.net.specs.declared.Net.{Net}
use Rattle.net.specs.Net.{mesh_in, routes_in}
use Rattle.tally.specs.declared.Tally.{Tally}
use Rattle.track.specs.Track.{route_in, pair_in, Fit}
use Rattle.choose.specs.declared.Choice.{Choice}
use Rattle.choose.specs.declared.Numbers.{Numbers}
use Rattle.choose.specs.declared.Pairing.{Pairing}

-- a pair is judged whose main is within the allowance: what a reply says besides the floor
pub record PairChosen (ok : Pair → Bool) (routes : List Route) (allowance : ℕ) (c : Choice) : Type 0 where
  pub some : some_at ok routes allowance ≡ true
  pub verdict_is : verdict_number c.verdict ≡ verdict ok routes allowance
  pub ranked_is : c.ranked ≡ ranked ok routes allowance
  pub pair_is : pair_in c.main c.standby ≡ best ok routes (ranked ok routes allowance)
  pub main_fit : Fit c.main
  pub standby_fit : Fit c.standby

-- the number where there is none (T-05): every route was a main, or not yet
abbrev pub no_pair : List Route → ℕ → ℕ
no_pair routes allowance = if leb (length routes) allowance then 14 else 15

-- there is none: why
pub record NoneChosen (ok : Pair → Bool) (routes : List Route) (allowance : ℕ) (r : Refusal) : Type 0 where
  pub none : some_at ok routes allowance ≡ false
  pub number_is : refusal_number r ≡ no_pair routes allowance

-- that pair, or why there is none
abbrev pub Chosen : (ok : Pair → Bool) → List Route → ℕ → Result Choice Refusal → Type 0
Chosen ok routes allowance (Ok c) = PairChosen ok routes allowance c
Chosen ok routes allowance (Err r) = NoneChosen ok routes allowance r

-- the key of a pair of routes, and the numbers read off it
pub record Readable (key : ℕ) : Type 0 where
  pub shared : ℕ
  pub main : ℕ
  pub standby : ℕ
  pub shared_range : shared ≤ hazards
  pub main_range : main ≤ most_reach
  pub standby_range : standby ≤ most_reach
  pub is : key ≡ pair_key shared (main + standby) main

pub record ReadOff (key : ℕ) (n : Numbers) : Type 0 where
  pub key_is : n.key ≡ standby_key (shared_of key) n.standby
  pub main_is : n.main ≡ main_of key
  pub standby_is : n.standby ≡ total_of key - main_of key

-- a step whose best pair has the key
pub record OfStep (ok : Pair → Bool) (routes : List Route) (key step : ℕ) : Type 0 where
  pub to_N : step ≤ length routes
  pub few : step ≤ most_allowance
  pub some : some_at ok routes step ≡ true
  pub is : key ≡ key_of (best ok routes step)

-- the best pair of a step, and where its main stands in the ranking: behind the shorter routes and those of its length that came before it
pub record BestOf (ok : Pair → Bool) (routes : List Route) (step : ℕ) (p : Pairing) : Type 0 where
  pub pair_is : pair_in p.main p.standby ≡ best ok routes step
  pub place_is : get_or routes (count (shorter p.main.metres) routes + p.passed) no_route ≡ route_in p.main
  pub early : count (shorter p.main.metres) routes + p.passed < step

-- what is found by a key: the best pair of every step that has it
pub record ByKey (ok : Pair → Bool) (routes : List Route) (key : ℕ) (p : Pairing) : Type 0 where
  pub main_fit : Fit p.main
  pub standby_fit : Fit p.standby
  pub best_of : {j : ℕ} → OfStep ok routes key j → BestOf ok routes j p

-- the tally of a run that ranked no more than it replies, with its verdict, and with why there is no pair where it says none
pub record AsRanked (ok : Pair → Bool) (routes : List Route) (allowance : ℕ) (t : Tally) (v : Verdict) (r : Refusal) : Type 0 where
  pub of_step : (t.best ≡ no_key → ⊥) → OfStep ok routes t.best t.ranked
  pub none : t.best ≡ no_key → some_at ok routes allowance ≡ false
  pub ranked_is : t.ranked ≡ ranked ok routes allowance
  pub verdict_is : verdict_number v ≡ verdict ok routes allowance
  pub number_is : refusal_number r ≡ no_pair routes allowance

-- the counted step of a pair of so many metres in total, whose main stands behind `passed` routes of its length
unfoldable pub step_by : List Route → ℕ → ℕ → ℕ → ℕ
step_by routes main total passed =
    if eqb main ((total + 1) / 2) then count (shorter ((total + 1) / 2)) routes + passed + 1 else count (shorter ((total + 1) / 2)) routes + 1

-- what the count may rely on
pub record Halved (net : Net) (allowance main total passed : ℕ) : Type 0 where
  pub in_reach : (total + 1) / 2 ≤ (mesh_in net).reach
  pub few : count (shorter ((total + 1) / 2)) (routes_in net) ≤ allowance
  pub allowance_range : allowance ≤ most_allowance
  pub passed_range : passed ≤ most_allowance
