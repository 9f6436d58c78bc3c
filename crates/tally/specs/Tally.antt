-- The tally of a run. Assumes nothing.
use Rattle.std.specs.Prelude.{ℕ, ◌+◌, max, false}
use Rattle.tally.specs.declared.Tally.{Tally}

-- after one more main of so many metres, with which the best pair's key is `best`
unfoldable pub counted : (metres best : ℕ) → Tally → Tally
counted metres best t = record { ranked = t.ranked + 1; last = max t.last metres; best = best; over = false }
