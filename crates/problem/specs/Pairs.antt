-- 01, Routes and their ranking, When a reply is settled: pairs and their judgement, best(j), the floor, settled, J. Ranks are counted from 1.
-- All of it speaks of the pairs that pass a test `ok`; 01 has every pair (`every`). Assumes nothing.
use Rattle.std.specs.Prelude.{ℕ, ◌+◌, ◌*◌, ◌-◌, ◌≤◌, ◌<◌, min, Bool, true, ◌&&◌, ◌||◌, not, List, [], ◌∷◌, ◌++◌, map, ◌≡◌, eqb, leb, ltb, length, get_or, take, if◌then◌else◌}
use Rattle.laws.specs.Choosing.{keep, least_from, lex_by, first_by}
use Rattle.problem.specs.declared.Exposure.{Exposure}
use Rattle.problem.specs.Exposures.{to_nothing, to_all, common, spans_in, size, sharing}
use Rattle.problem.specs.Routes.{Route, rank_key}

-- main and standby may be the same route
pub record Pair : Type 0 where
  pub main : Route
  pub standby : Route

abbrev pub pair : Route → Route → Pair
pair m s = record { main = m; standby = s }

-- how many risks lie on both routes, and spans that both cross (T-03)
unfoldable pub shared_count : Pair → ℕ
shared_count p = sharing p.main.exposure p.standby.exposure

-- the field of those risks: bit r for risk r
unfoldable pub shared_risks : Pair → ℕ
shared_risks p = (common p.main.exposure p.standby.exposure).risks

-- how many those spans alone are
unfoldable pub shared_spans : Pair → ℕ
shared_spans p = spans_in (common p.main.exposure p.standby.exposure)

unfoldable pub total : Pair → ℕ
total p = p.main.metres + p.standby.metres

-- judged by shared count, then total length, then the main's place in the ranking, then the standby's
unfoldable pub judge_key : Pair → List (List ℕ)
judge_key p = (shared_count p ∷ total p ∷ []) ∷ rank_key p.main ∷ rank_key p.standby ∷ []

unfoldable pub judged : Pair → Pair → Bool
judged p q = lex_by (lex_by ltb) (judge_key p) (judge_key q)

-- one shared count and total against another: fewer shared, or as many and no longer
pub data NoWorse (shared metres shared' metres' : ℕ) : Type 0 where
  fewer : shared < shared' → NoWorse shared metres shared' metres'
  as_many : shared ≡ shared' → metres ≤ metres' → NoWorse shared metres shared' metres'

-- each main with each standby
unfoldable pub pairs_of : List Route → List Route → List Pair
pairs_of [] standbys = []
pairs_of (m ∷ mains) standbys = map (λ s. pair m s) standbys ++ pairs_of mains standbys

-- what stands for a route where there is none
abbrev pub no_route : Route
no_route = record { arcs = []; metres = 0; exposure = to_nothing }

-- a rank, and a step of the ranking: 1 to N
pub record Step (routes : List Route) (j : ℕ) : Type 0 where
  pub from_one : 0 < j
  pub to_N : j ≤ length routes

-- the route of rank j
abbrev pub of_rank : List Route → ℕ → Route
of_rank routes j = get_or routes (j - 1) no_route

-- the judgement as 01 says it, of the pair of ranks m and s: shared count, total length, rank of the main, rank of the standby (`judged` comes to the same: `judged_by_rank`)
abbrev pub ranked_key : List Route → ℕ → ℕ → List ℕ
ranked_key routes m s = let p : Pair = pair (of_rank routes m) (of_rank routes s) in shared_count p ∷ total p ∷ m ∷ s ∷ []

-- what lies on every route, and how many that is
unfoldable pub on_every : List Route → Exposure
on_every [] = to_all
on_every (r ∷ routes) = common r.exposure (on_every routes)

unfoldable pub floor : List Route → ℕ
floor routes = size (on_every routes)

-- 01's candidates: every pair
abbrev pub every : Pair → Bool
every p = true

module _ (ok : Pair → Bool) (routes : List Route) where
  -- the candidates at step j: main of rank at most j, any route as standby
  unfoldable pub candidates : ℕ → List Pair
  candidates j = keep ok (pairs_of (take j routes) routes)

  -- whether there is one; with every pair there always is
  unfoldable pub some_at : ℕ → Bool
  some_at j = not (eqb (length (candidates j)) 0)

  -- best(j): the first of them
  unfoldable pub best : ℕ → Pair
  best j = first_by judged (pair no_route no_route) (candidates j)

  -- there is one, best(j) shares exactly the floor, and twice the length of route j is at least its total
  unfoldable pub settled_by_length : ℕ → Bool
  settled_by_length j = some_at j && (eqb (shared_count (best j)) (floor routes) && leb (total (best j)) (2 * (of_rank routes j).metres))

  -- step j is settled
  unfoldable pub settled : ℕ → Bool
  settled j = eqb j (length routes) || settled_by_length j

  -- J: the least settled step
  unfoldable pub least_settled : ℕ
  least_settled = least_from settled (length routes) 1

  unfoldable pub ranked : ℕ → ℕ
  ranked allowance = min least_settled allowance

  -- 0 settled, 1 stopped
  unfoldable pub verdict : ℕ → ℕ
  verdict allowance = if leb least_settled allowance then 0 else 1
