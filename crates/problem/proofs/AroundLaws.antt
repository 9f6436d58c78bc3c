-- Calls with a closed set: their ways and routes are those over open arcs, and lists are apart as over all arcs; a set that passes its check changes no other check, and one that closes
-- nothing, or nothing that lies on a route, changes no answer. Assumes nothing.
use mathlib.Core.Path.{◌≡◌, refl, sym, ap, ap₂, ◌∙◌, subst, fun_ext}
use mathlib.Core.Bool.{Bool, true, false, ◌&&◌, ◌||◌, not, true≢false}
use mathlib.Core.Logic.{inl, ◌↔◌}
use mathlib.Core.List.{List, Memᴰ}
use Prim.Native.Nat.{ℕ, zero, suc, ◌≤◌, ◌^◌}
use native.Mathlib.Omega.{arith}
use lib.Dec.{eqb}
use lib.ListN.{length}
use lib.Pow.{pow_pos}
use borrow.Author.Tests.{lt-ltb, eqb-false, eq-eqb}
use Rattle.laws.specs.Choosing.{keep}
use Rattle.laws.specs.Sets.{bit}
use Rattle.laws.proofs.SetLaws.{bit_empty}
use Rattle.laws.proofs.SortLaws.{strict_unique}
use Rattle.problem.specs.declared.Arc.{Arc}
use Rattle.problem.specs.declared.Exposure.{Exposure}
use Rattle.problem.specs.declared.Request.{Request}
use Rattle.problem.specs.Table.{last_node, arcs_of, all_sound}
use Rattle.problem.specs.Spans.{marked_arcs}
use Rattle.problem.specs.Closed.{closed_size, closed_in, is_open, AllOpen, none_closed, planned_arcs}
use Rattle.problem.specs.Exposures.{disjoint}
use Rattle.problem.specs.Routes.{metres_of, IsWay, IsRoute, Route, route_of, precedes, FreeWay}
use Rattle.problem.specs.Pairs.{Pair}
use Rattle.problem.specs.Apart.{Apart, none_in_both, inner_nodes, lists_apart, judges}
use Rattle.problem.specs.Reply.{mesh_over, mesh_of, first_number, size_checks, request_checks, arc_checks, blank_checks, closed_checks, plain_checks, refusal, ClosedSet, planned, planned_unless, answer_among, answer}
use Rattle.problem.specs.Calls.{routes_of, RouteOf, WayOf, Applies, ClosesAside, answer_over_all}
use Rattle.problem.proofs.ClosedLaws.{shut_metres_of, shut_exposure_of, shut_route, shut_nodes, none_closed_lem, planned_heads, planned_ways, planned_paths, planned_unclosed}
use Rattle.problem.proofs.RankingLaws.{Listed, precedes_weak, ranking_in, ranking_out, ranking_strict}
use Rattle.problem.proofs.ApartLaws.{apart_exactly}
use Rattle.problem.proofs.RefusalLaws.{turn_sixteen}
use Rattle.problem.proofs.ReplyLaws.{refusal_passed}
use Rattle.problem.proofs.CallLaws.{numbered}

-- ---- ways and routes

module _ (table closed : List ℕ) (q : Request) (sound : all_sound (arcs_of table) ≡ true) where
  metres_same : (ks : List ℕ) → metres_of (planned_arcs table closed) ks ≡ metres_of (marked_arcs table) ks
  metres_same = shut_metres_of (closed_in closed) (marked_arcs table)

  pub ways_open : q.source ≤ last_node → (ks : List ℕ) → WayOf table closed q ks ↔ (IsWay (mesh_over (marked_arcs table) q) ks × AllOpen (closed_in closed) ks)
  ways_open node ks =
      let w = planned_ways table closed sound node ks in (
        λ i. let o = w.0 i.way in (record { way = o.0; within_reach = omega (arith, metres_same ks, i.within_reach) }, o.1),
        λ i. record { way = w.1 (i.0.way, i.1); within_reach = omega (arith, metres_same ks, i.0.within_reach) },
      )

  pub routes_open : q.source ≤ last_node → (ks : List ℕ) → RouteOf table closed q ks ↔ (IsRoute (mesh_over (marked_arcs table) q) ks × AllOpen (closed_in closed) ks)
  routes_open node ks =
      let p = planned_paths table closed sound node ks in (
        λ i. let o = p.0 i.path in (record { path = o.0; within_reach = omega (arith, metres_same ks, i.within_reach) }, o.1),
        λ i. record { path = p.1 (i.0.path, i.1); within_reach = omega (arith, metres_same ks, i.0.within_reach) },
      )

-- and so are the ways by which a distance is given
pub free_open : (table closed : List ℕ) → all_sound (arcs_of table) ≡ true → (banned : Exposure) (terminal v : ℕ) → v ≤ last_node → (ks : List ℕ)
    → FreeWay (planned_arcs table closed) banned terminal v ks ↔ (FreeWay (marked_arcs table) banned terminal v ks × AllOpen (closed_in closed) ks)
free_open table closed sound banned terminal v node ks =
    let w = planned_ways table closed sound node ks in
    let same = ap (λ (e : Exposure). disjoint e banned) (shut_exposure_of (closed_in closed) (marked_arcs table) ks) in (
      λ f. let o = w.0 f.way in (record { way = o.0; free = sym same ∙ f.free }, o.1),
      λ f. record { way = w.1 (f.0.way, f.1); free = same ∙ f.0.free },
    )

-- ---- which lists are apart

-- a closed arc keeps its head, so lists meet the same nodes
module _ (table closed : List ℕ) (q : Request) where
  lists_around : (ks ls : List ℕ) → lists_apart (mesh_of table closed q) ks ls ≡ lists_apart (mesh_over (marked_arcs table) q) ks ls
  unfolding lists_apart inner_nodes
  lists_around ks ls =
      ap₂ (λ (x y : List ℕ). none_in_both ks ls && none_in_both (keep inner x) (keep inner y)) (shut_nodes (closed_in closed) (marked_arcs table) q.source ks) (shut_nodes (closed_in closed) (marked_arcs table) q.source ls)
    where
      inner : ℕ → Bool
      inner v = not (eqb v q.source || eqb v q.terminal)

  judges_around : (only : Bool) → judges (mesh_of table closed q) only ≡ judges (mesh_over (marked_arcs table) q) only
  unfolding judges
  judges_around only = fun_ext (λ (p : Pair). ap (λ (b : Bool). not only || b) (lists_around p.main.arcs p.standby.arcs))

  pub apart_around : (ks ls : List ℕ) → Apart (mesh_of table closed q) ks ls ↔ Apart (mesh_over (marked_arcs table) q) ks ls
  apart_around ks ls =
      let one = apart_exactly (mesh_of table closed q) ks ls in
      let other = apart_exactly (mesh_over (marked_arcs table) q) ks ls in
      (λ a. other.0 (sym (lists_around ks ls) ∙ one.1 a), λ a. one.0 (lists_around ks ls ∙ other.1 a))

-- ---- the check of the set

-- a set that passes its check leaves the first number to the other checks
pub set_quiet : {table closed : List ℕ} → ClosedSet table closed → (q : Request) (size : ℕ)
    → refusal table closed q size ≡ first_number (plain_checks table q size)
unfolding refusal size_checks request_checks arc_checks blank_checks closed_checks first_number
set_quiet {table} {closed} s q size = rw (eq-eqb (length closed) closed_size s.whole, lt-ltb (closed_in closed) (2 ^ length (arcs_of table)) s.inside)

pub none_set : (table : List ℕ) → ClosedSet table none_closed
none_set table = record { whole = refl; inside = omega (arith, none_closed_lem, pow_pos (length (arcs_of table))) }

-- with nothing closed: the answer over all arcs
pub over_all : (table : List ℕ) (q : Request) (size : ℕ) → answer table q size ≡ answer_over_all table q size
unfolding answer_among
over_all table q size =
    ap (λ (n : ℕ). planned_unless false n (planned_arcs table none_closed) q) (set_quiet (none_set table) q size)
    ∙ ap (λ (arcs : List Arc). planned_unless false (first_number (plain_checks table q size)) arcs q) (planned_unclosed table)

pub never_sixteen : (table : List ℕ) (q : Request) (size : ℕ) → (answer table q size).number ≡ 16 → ⊥
never_sixteen table q size e =
    let told = (numbered false table none_closed q size 16 (omega arith) (inl refl)).0 e in
    go (subst (λ (t : ℕ). Applies table none_closed q size t 16) (turn_sixteen table none_closed q size told.applies) told.applies)
  where
    go : {i : ℕ} → Applies table none_closed q size 11 i → ⊥
    go (Applies.set_not_whole h) = h refl
    go (Applies.set_past_table k b h) = eqb-false _ 0 h (ap (λ (set : ℕ). bit set k) none_closed_lem ∙ bit_empty k)

-- ---- closing what lies on no route

module _ {table closed more : List ℕ} {q : Request} (c : ClosesAside table closed more q) (sound : all_sound (arcs_of table) ≡ true) (node : q.source ≤ last_node) where
  still_open : (ks : List ℕ) → RouteOf table closed q ks → AllOpen (closed_in closed) ks → AllOpen (closed_in more) ks
  still_open ks r free k m = go (is_open (closed_in more) k) refl
    where
      go : (b : Bool) → is_open (closed_in more) k ≡ b → is_open (closed_in more) k ≡ true
      go true e = e
      go false e = absurd (c.aside k (free k m) e ks r m)

  open_before : (ks : List ℕ) → AllOpen (closed_in more) ks → AllOpen (closed_in closed) ks
  open_before ks free k m = go (is_open (closed_in closed) k) refl
    where
      go : (b : Bool) → is_open (closed_in closed) k ≡ b → is_open (closed_in closed) k ≡ true
      go true e = e
      go false e = absurd (true≢false (sym (free k m) ∙ c.still_closed k e))

  same_routes : (ks : List ℕ) → RouteOf table closed q ks ↔ RouteOf table more q ks
  same_routes ks =
      let one = routes_open table closed q sound node ks in
      let other = routes_open table more q sound node ks in
      (λ r. other.1 ((one.0 r).0, still_open ks r (one.0 r).1), λ r. one.1 ((other.0 r).0, open_before ks (other.0 r).1))

  -- a route of one ranking stands in the other, where the routes are the same
  listed_too : (one other : List ℕ) → ((ks : List ℕ) → RouteOf table one q ks → RouteOf table other q ks) → {r : Route} → Memᴰ r (routes_of table one q) → Memᴰ r (routes_of table other q)
  listed_too one other into {r} m = go (ranking_out (mesh_of table one q) m)
    where
      same : (ks : List ℕ) → route_of (planned_arcs table other) ks ≡ route_of (planned_arcs table one) ks
      same ks = shut_route (closed_in other) (marked_arcs table) ks ∙ sym (shut_route (closed_in one) (marked_arcs table) ks)

      go : Listed (mesh_of table one q) r → Memᴰ r (routes_of table other q)
      go o =
          subst (λ (s : Route). Memᴰ s (routes_of table other q)) (same o.list ∙ sym o.is)
          (ranking_in (mesh_of table other q) (planned_heads table other sound) node (into o.list o.route))

  pub same_ranking : routes_of table more q ≡ routes_of table closed q
  same_ranking = strict_unique precedes precedes_weak _ _ (ranking_strict (mesh_of table more q)) (ranking_strict (mesh_of table closed q)) (λ r. (
    λ m. listed_too more closed (λ ks. (same_routes ks).1) m,
    λ m. listed_too closed more (λ ks. (same_routes ks).0) m,
  ))

pub aside_same : (only : Bool) {table closed more : List ℕ} {q : Request} → ClosedSet table closed → ClosedSet table more → ClosesAside table closed more q → (size : ℕ)
    → answer_among only table more q size ≡ answer_among only table closed q size
unfolding answer_among planned_unless
aside_same only {table} {closed} {more} {q} s t c size = ap (λ (n : ℕ). planned_unless only n (planned_arcs table more) q) same ∙ go (refusal table closed q size) refl
  where
    same : refusal table more q size ≡ refusal table closed q size
    same = set_quiet t q size ∙ sym (set_quiet s q size)

    go : (n : ℕ) → refusal table closed q size ≡ n → planned_unless only n (planned_arcs table more) q ≡ planned_unless only n (planned_arcs table closed) q
    go zero e =
        let p = refusal_passed table closed q size e in
        ap₂ (λ (ok : Pair → Bool) (routes : List Route). planned ok routes q.allowance) (judges_around table more q only ∙ sym (judges_around table closed q only))
        (same_ranking c p.checked.sound p.checked.source_node)
    go (suc n) e = refl
