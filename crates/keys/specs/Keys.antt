-- The judgement as one number, so that code compares pairs, and the standbys of one main, by one comparison. Assumes nothing.
use Rattle.std.specs.Prelude.{ℕ, ◌+◌, ◌*◌, ◌-◌, ◌/◌, ◌%◌, ◌^◌, ◌≤◌, max, ◌≡◌, ltb, if◌then◌else◌}
use Rattle.problem.specs.Table.{hazards, most_reach}
use Rattle.problem.specs.Pairs.{Pair, shared_count, total}

-- a standby of a given main: shared count, then metres
unfoldable pub standby_key : ℕ → ℕ → ℕ
standby_key shared metres = shared * 2 ^ 32 + metres

-- the key of a standby that is no longer than the largest reach
pub record OfStandby (key : ℕ) : Type 0 where
  pub shared : ℕ
  pub metres : ℕ
  pub shared_range : shared ≤ hazards
  pub metres_range : metres ≤ most_reach
  pub is : key ≡ standby_key shared metres

-- more than the key of any of them
abbrev pub no_standby : ℕ
no_standby = (hazards + 1) * 2 ^ 32

-- a bound with at least so many metres: where no standby is shorter, no key lies between the two
unfoldable pub raised : ℕ → ℕ → ℕ
raised bound metres = standby_key (bound / 2 ^ 32) (max (bound % 2 ^ 32) metres)

-- a pair: the judgement's first three places, shared count, total, the main's metres; a total has 27 bits, a length 26
unfoldable pub pair_key : ℕ → ℕ → ℕ → ℕ
pair_key shared total metres = (shared * 2 ^ 27 + total) * 2 ^ 26 + metres

unfoldable pub key_of : Pair → ℕ
key_of p = pair_key (shared_count p) (total p) p.main.metres

-- what a pair's key says
unfoldable pub shared_of : ℕ → ℕ
shared_of key = key / 2 ^ 26 / 2 ^ 27

unfoldable pub total_of : ℕ → ℕ
total_of key = key / 2 ^ 26 % 2 ^ 27

unfoldable pub main_of : ℕ → ℕ
main_of key = key % 2 ^ 26

-- more than the key of any pair
abbrev pub no_key : ℕ
no_key = (hazards + 1) * 2 ^ 53

-- what a number of 64 bits has room for as a shared count
abbrev pub shared_room : ℕ
shared_room = 2 ^ 11

-- what the key of a standby must stay below so that a main of so many metres makes a better pair: an equal total is better only behind an earlier main
unfoldable pub bound_for : ℕ → ℕ → ℕ
bound_for best metres =
    if ltb metres (main_of best) then standby_key (shared_of best) (total_of best + 1 - metres) else standby_key (shared_of best) (total_of best - metres)

-- the key of the pair that a main of so many metres makes with a standby of that key
unfoldable pub pair_of : ℕ → ℕ → ℕ
pair_of metres key = pair_key (key / 2 ^ 32) (metres + key % 2 ^ 32) metres
