-- An exposure in words, among others: how many it takes, what they say, and the words once it is put there. Assumes nothing.
use Rattle.std.specs.Prelude.{ℕ, ◌+◌, List, get_or, set}
use Rattle.problem.specs.declared.Exposure.{Exposure}

abbrev pub exposure_words : ℕ
exposure_words = 3

-- what the words from a place on say
unfoldable pub exposure_at : List ℕ → ℕ → Exposure
exposure_at words at = record { risks = get_or words at 0; low = get_or words (at + 1) 0; high = get_or words (at + 2) 0 }

unfoldable pub put_at : List ℕ → ℕ → Exposure → List ℕ
put_at words at e = set (set (set words at e.risks) (at + 1) e.low) (at + 2) e.high
