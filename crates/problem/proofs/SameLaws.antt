-- Two tests that say the same of every pair of routes have the same best pairs, settle at the same step and give the same verdict; and two meshes in which routes meet the same nodes
-- have the same pairs apart. Assumes nothing.
use Rattle.std.specs.Prelude.{if◌then◌else◌}
use mathlib.Core.Path.{◌≡◌, ap, ap₂, ◌∙◌}
use mathlib.Core.Bool.{Bool, ◌&&◌, ◌||◌, not}
use mathlib.Core.List.{List, Memᴰ}
use Prim.Native.Nat.{ℕ, ◌*◌, min}
use lib.Dec.{eqb, leb}
use lib.ListN.{length, take}
use Rattle.laws.specs.Choosing.{keep, first_by}
use Rattle.laws.proofs.ListLaws.{take_mem}
use Rattle.laws.proofs.FoldLaws.{keep_same}
use Rattle.laws.proofs.FirstLaws.{least_same}
use Rattle.problem.specs.Routes.{Mesh, nodes_from, Route}
use Rattle.problem.specs.Pairs.{Pair, pair, shared_count, total, judged, pairs_of, no_route, of_rank, floor, candidates, some_at, best, settled_by_length, settled, least_settled, ranked, verdict}
use Rattle.problem.specs.Apart.{none_in_both, inner_nodes, lists_apart, judges}
use Rattle.problem.proofs.PairLaws.{pairs_out}

module _ (ok ok' : Pair → Bool) (routes : List Route) (same : (r s : Route) → Memᴰ r routes → Memᴰ s routes → ok (pair r s) ≡ ok' (pair r s)) where
  same_candidates : (j : ℕ) → candidates ok routes j ≡ candidates ok' routes j
  unfolding candidates
  same_candidates j =
      keep_same ok ok' (pairs_of (take j routes) routes) (λ p x. let o = pairs_out (take j routes) routes x in same p.main p.standby (take_mem no_route j o.0) o.1)

  pub same_some : (j : ℕ) → some_at ok routes j ≡ some_at ok' routes j
  unfolding some_at
  same_some j = ap (λ (l : List Pair). not (eqb (length l) 0)) (same_candidates j)

  pub same_best : (j : ℕ) → best ok routes j ≡ best ok' routes j
  unfolding best
  same_best j = ap (first_by judged (pair no_route no_route)) (same_candidates j)

  same_settled : (j : ℕ) → settled ok routes j ≡ settled ok' routes j
  unfolding settled settled_by_length
  same_settled j = ap₂ (λ (b : Bool) (p : Pair). eqb j (length routes) || (b && (eqb (shared_count p) (floor routes) && leb (total p) (2 * (of_rank routes j).metres)))) (same_some j) (same_best j)

  same_least : least_settled ok routes ≡ least_settled ok' routes
  unfolding least_settled
  same_least = least_same (settled ok routes) (settled ok' routes) same_settled (length routes) 1

  pub same_ranked : (a : ℕ) → ranked ok routes a ≡ ranked ok' routes a
  unfolding ranked
  same_ranked a = ap (λ (j : ℕ). min j a) same_least

  pub same_verdict : (a : ℕ) → verdict ok routes a ≡ verdict ok' routes a
  unfolding verdict
  same_verdict a = ap (λ (j : ℕ). if leb j a then 0 else 1) same_least

-- two lists that meet the same nodes in either mesh, from the same source to the same terminal, are apart in both or in neither
pub judges_same : (m m' : Mesh) (only : Bool) → m.source ≡ m'.source → m.terminal ≡ m'.terminal → (p : Pair)
    → nodes_from m.arcs m.source p.main.arcs ≡ nodes_from m'.arcs m'.source p.main.arcs
    → nodes_from m.arcs m.source p.standby.arcs ≡ nodes_from m'.arcs m'.source p.standby.arcs → judges m only p ≡ judges m' only p
unfolding judges lists_apart inner_nodes
judges_same m m' only s t p e f =
    ap₂ (λ (x y : List ℕ). not only || (none_in_both p.main.arcs p.standby.arcs && none_in_both (between x) (between y))) e f ∙ ap₂ (λ (a b : ℕ). judged_by a b) s t
  where
    between : List ℕ → List ℕ
    between = keep (λ v. not (eqb v m.source || eqb v m.terminal))

    judged_by : ℕ → ℕ → Bool
    judged_by a b =
        not only || (none_in_both p.main.arcs p.standby.arcs
        && none_in_both (keep (λ v. not (eqb v a || eqb v b)) (nodes_from m'.arcs m'.source p.main.arcs)) (keep (λ v. not (eqb v a || eqb v b)) (nodes_from m'.arcs m'.source p.standby.arcs)))
