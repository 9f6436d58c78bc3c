-- A route tried as a main: with every standby that it does not bar, and counted in the tally; and what the tally of a step is. Assumes nothing.
use Rattle.std.specs.Prelude.{ℕ, ◌+◌, ◌≤◌, ◌<◌, min, Bool, true, false, List, ◌≡◌, eqb, leb, length, if◌then◌else◌}
use Rattle.problem.specs.Exposures.{sharing}
use Rattle.problem.specs.Routes.{Mesh, Route}
use Rattle.problem.specs.Pairs.{Pair, of_rank, some_at, best}
use Rattle.keys.specs.Keys.{pair_key, key_of, no_key}
use Rattle.net.specs.declared.Behind.{Behind}
use Rattle.net.specs.Search.{searched}
use Rattle.bars.specs.declared.Barred.{Barred}
use Rattle.bars.specs.Bars.{barred_by, start_barred}
use Rattle.tally.specs.declared.Tally.{Tally}
use Rattle.tally.specs.Tally.{counted}

-- the best pair's key after one more standby for a main: each is known by what lies behind its end; past the reach it is no standby, nor where it ends with the barred arc
unfoldable pub paired : Mesh → (main : Behind) (last : ℕ) → ℕ → (standby : Behind) → ℕ → ℕ
paired m main last best s k =
    if eqb k last then best
    else (if leb s.metres m.reach then min best (pair_key (sharing main.exposure s.exposure) (main.metres + s.metres) main.metres) else best)

-- after every standby that keeps off what is barred
unfoldable pub best_with : Mesh → (main : Behind) → Barred → ℕ → ℕ
best_with m main off best = searched m (paired m main off.last) (start_barred m off) m.source best

-- the tally after one more main, which ends with arc `last`; past the cap it only says that there was one more
unfoldable pub tried : (only : Bool) → Mesh → (cap : ℕ) (main : Behind) (last : ℕ) → Tally → Tally
tried only m cap main last t =
    if t.over then t
    else (if leb cap t.ranked then record t { over = true }
    else counted main.metres (best_with m main (barred_by only m main.met last) t.best) t)

-- the tally before any main
abbrev pub no_tally : Tally
no_tally = record { ranked = 0; last = 0; best = no_key; over = false }

-- the key of the best pair of step j; where no pair is judged that has its main among the first j, no pair's
unfoldable pub best_key : (Pair → Bool) → List Route → ℕ → ℕ
best_key ok routes j = if some_at ok routes j then key_of (best ok routes j) else no_key

-- t is the tally of step j; where j is 0, of no step
pub record Stepped (ok : Pair → Bool) (routes : List Route) (j : ℕ) (t : Tally) : Type 0 where
  pub to_N : j ≤ length routes
  pub ranked_is : t.ranked ≡ j
  pub last_is : 0 < j → t.last ≡ (of_rank routes j).metres
  pub last_none : j ≡ 0 → t.last ≡ 0
  pub best_is : t.best ≡ best_key ok routes j
  pub is_not_over : t.over ≡ false
