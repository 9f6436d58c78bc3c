-- Two ways, one after the other. A way with loops holds a route that is a part of it: some of its arcs, in their order. So it is no shorter, is exposed to no less, meets its nodes and
-- goes over its arcs; and ways do no better than routes, in reach, for the floor and for shortest lengths. The route is the way with its loops cut out from the far end on. Assumes nothing.
use mathlib.Core.Path.{◌≡◌, refl, sym, ap, ◌∙◌, subst}
use mathlib.Core.Logic.{◌⊎◌, inl, inr, ◌↔◌}
use mathlib.Core.List.Memᴰ
use mathlib.Core.List.{List, [], ◌∷◌, ◌++◌, Memᴰ}
use Prim.Native.Nat.{ℕ, ◌+◌, ◌≤◌, ◌<◌}
use native.Mathlib.Omega.{arith}
use lib.Dec.{ltb}
use borrow.Author.Tests.{ltb-false}
use Rattle.laws.specs.Choosing.{Pairwise, Distinct, keep, first_by}
use Rattle.laws.proofs.ListLaws.{keep_in, keep_out, pairwise_tail}
use Rattle.laws.proofs.PartLaws.{Part, part_whole, part_trans, part_mem, mem_or_not}
use Rattle.laws.proofs.OrderLaws.{ltb_total, total_weak}
use Rattle.laws.proofs.FirstLaws.{first_mem, first_least}
use Rattle.problem.specs.declared.Arc.{Arc}
use Rattle.problem.specs.declared.Exposure.{Exposure}
use Rattle.problem.specs.Table.{last_node, hazards}
use Rattle.problem.specs.Exposures.{exposed, of_arc, joined, disjoint}
use Rattle.problem.specs.Routes.{Mesh, arc_at, metres_of, exposure_of, nodes_from, Way, IsWay, IsPath, paths_from, Route, route_of, routes_from, ranking, FreeWay, free_lengths, shortest}
use Rattle.problem.specs.Pairs.{pair, shared_count, total, on_every}
use Rattle.problem.proofs.ExposureLaws.{exposed_le_one, exposed_joined, joined_assoc, nothing_joined, Inside, disjoint_inside}
use Rattle.problem.proofs.RouteLaws.{first_node, head_met}
use Rattle.problem.proofs.PathLaws.{LowHeads, paths_out, paths_in}
use Rattle.problem.proofs.RankingLaws.{ranking_in, ranking_out}
use Rattle.problem.proofs.PairLaws.{shared_mono, every_inside, every_all}

-- ---- two ways, one after the other

module _ (arcs : List Arc) where
  pub way_append : {v u to : ℕ} {ks : List ℕ} (js : List ℕ) → Way arcs v u ks → Way arcs u to js → Way arcs v to (ks ++ js)
  way_append {to = to} js (Way.there e) w = subst (λ (x : ℕ). Way arcs x to js) (sym e) w
  way_append js (Way.over {k = k} b t x) w = Way.over {k = k} b t (way_append js x w)

  pub metres_append : (ks js : List ℕ) → metres_of arcs (ks ++ js) ≡ metres_of arcs ks + metres_of arcs js
  unfolding metres_of
  metres_append [] js = omega arith
  metres_append (k ∷ ks) js = omega (arith, metres_append ks js)

  pub exposure_append : (ks js : List ℕ) → exposure_of arcs (ks ++ js) ≡ joined (exposure_of arcs ks) (exposure_of arcs js)
  unfolding exposure_of
  exposure_append [] js = sym (nothing_joined (exposure_of arcs js))
  exposure_append (k ∷ ks) js = ap (joined (of_arc (arc_at arcs k))) (exposure_append ks js) ∙ sym (joined_assoc (of_arc (arc_at arcs k)) (exposure_of arcs ks) (exposure_of arcs js))

-- ---- what a part of a list of arcs has

module _ (arcs : List Arc) where
  pub part_metres : {l r : List ℕ} → Part l r → metres_of arcs l ≤ metres_of arcs r
  unfolding metres_of
  part_metres Part.none = omega arith
  part_metres (Part.past p) = omega (arith, part_metres p)
  part_metres (Part.with_it p) = omega (arith, part_metres p)

  pub part_exposure : {l r : List ℕ} → Part l r → Inside (exposure_of arcs l) (exposure_of arcs r)
  unfolding exposure_of
  part_exposure Part.none b = omega arith
  part_exposure (Part.past p) b = rw exposed_joined (omega (arith, part_exposure p b))
  part_exposure (Part.with_it p) b = simp exposed_joined (omega (arith, part_exposure p b))

  -- a list meets no node that another does not, where it begins at such a node and all its arcs are the other's
  met_too : (v : ℕ) (r : List ℕ) (u : ℕ) (l : List ℕ) → Memᴰ u (nodes_from arcs v r) → ((k : ℕ) → Memᴰ k l → Memᴰ k r) → {x : ℕ} → Memᴰ x (nodes_from arcs u l) → Memᴰ x (nodes_from arcs v r)
  unfolding nodes_from
  met_too v r u [] n f m = Memᴰ.cast (Memᴰ.eq_of_singleton m) n
  met_too v r u (k ∷ l) n f {x} m = go (Memᴰ.cases_cons m) (λ q. met_too v r (arc_at arcs k).head l (head_met arcs v (f k (Memᴰ.head refl))) (λ i y. f i (Memᴰ.tail y)) q)
    where
      go : (x ≡ u) ⊎ Memᴰ x (nodes_from arcs (arc_at arcs k).head l) → (Memᴰ x (nodes_from arcs (arc_at arcs k).head l) → Memᴰ x (nodes_from arcs v r)) → Memᴰ x (nodes_from arcs v r)
      go (inl e) later = Memᴰ.cast e n
      go (inr q) later = later q

  pub part_nodes : (v : ℕ) {l r : List ℕ} → Part l r → {x : ℕ} → Memᴰ x (nodes_from arcs v l) → Memᴰ x (nodes_from arcs v r)
  part_nodes v {l} {r} p m = met_too v r v l (first_node arcs v r) (λ k y. part_mem p y) m

  -- two of them as a pair
  pub part_shared : {is js ks ls : List ℕ} → Part is ks → Part js ls → shared_count (pair (route_of arcs is) (route_of arcs js)) ≤ shared_count (pair (route_of arcs ks) (route_of arcs ls))
  unfolding route_of
  part_shared {is} {js} {ks} {ls} p q = shared_mono (pair (route_of arcs is) (route_of arcs js)) (pair (route_of arcs ks) (route_of arcs ls)) (part_exposure p) (part_exposure q)

  pub part_total : {is js ks ls : List ℕ} → Part is ks → Part js ls → total (pair (route_of arcs is) (route_of arcs js)) ≤ total (pair (route_of arcs ks) (route_of arcs ls))
  unfolding total route_of
  part_total p q = omega (arith, part_metres p, part_metres q)

-- ---- loops cut out

module _ (arcs : List Arc) (terminal : ℕ) where
  -- what ks holds: a part of it that is a path from v to the terminal
  pub record Held (v : ℕ) (ks : List ℕ) : Type 0 where
    pub list : List ℕ
    pub path : IsPath arcs v terminal list
    pub part : Part list ks

  held_in : {u v : ℕ} {ks ls : List ℕ} → v ≡ u → Part ks ls → Held u ks → Held v ls
  held_in {ls = ls} e p h = subst (λ (x : ℕ). Held x ls) (sym e) (record { list = h.list; path = h.path; part = part_trans h.part p })

  held_whole : {v : ℕ} {ks : List ℕ} → Way arcs v terminal ks → Distinct (nodes_from arcs v ks) → Held v ks
  held_whole {v} {ks} w d = record { list = ks; path = record { way = w; no_node_twice = d }; part = part_whole ks }

  -- from a node that is met, the rest leads on
  held_from : {u : ℕ} {ks : List ℕ} (v : ℕ) → Way arcs u terminal ks → Distinct (nodes_from arcs u ks) → Memᴰ v (nodes_from arcs u ks) → Held v ks
  unfolding nodes_from
  held_from {u} v (Way.there e) d m = go (Memᴰ.cases_cons m)
    where
      go : (v ≡ u) ⊎ Memᴰ v [] → Held v []
      go (inl q) = held_in q Part.none (held_whole (Way.there e) d)
      go (inr q) = absurd (Memᴰ.not-nil q)
  held_from {u} v (Way.over {k = k} {ks = ks} b t w) d m = go (Memᴰ.cases_cons m) (λ q. held_from v w (pairwise_tail d) q)
    where
      go : (v ≡ u) ⊎ Memᴰ v (nodes_from arcs (arc_at arcs k).head ks) → (Memᴰ v (nodes_from arcs (arc_at arcs k).head ks) → Held v ks) → Held v (k ∷ ks)
      go (inl q) f = held_in q (part_whole (k ∷ ks)) (held_whole (Way.over {k = k} b t w) d)
      go (inr q) f = held_in refl (Part.past (part_whole ks)) (f q)

  pub way_held : {v : ℕ} {ks : List ℕ} → Way arcs v terminal ks → Held v ks
  unfolding nodes_from
  way_held {v} (Way.there e) = held_whole (Way.there e) (Pairwise.one (λ x m. absurd (Memᴰ.not-nil m)) Pairwise.none)
  way_held {v} (Way.over {k = k} {ks = ks} b t w) = go (way_held w)
    where
      put : (h : Held (arc_at arcs k).head ks) → Memᴰ v (nodes_from arcs (arc_at arcs k).head h.list) ⊎ (Memᴰ v (nodes_from arcs (arc_at arcs k).head h.list) → ⊥) → Held v (k ∷ ks)
      put h (inl m) = held_in refl (Part.past h.part) (held_from v h.path.way h.path.no_node_twice m)
      put h (inr n) =
          record {
            list = k ∷ h.list;
            path = record { way = Way.over {k = k} b t h.path.way; no_node_twice = Pairwise.one (λ x m q. n (Memᴰ.cast q m)) h.path.no_node_twice };
            part = Part.with_it h.part;
          }

      go : Held (arc_at arcs k).head ks → Held v (k ∷ ks)
      go h = put h (mem_or_not v (nodes_from arcs (arc_at arcs k).head h.list))

-- ---- ways within reach, and the ranking

-- a route of the ranking that is a part of a way
pub record RoutePart (m : Mesh) (ks : List ℕ) : Type 0 where
  pub list : List ℕ
  pub ranked : Memᴰ (route_of m.arcs list) (ranking m)
  pub part : Part list ks

module _ (m : Mesh) (low : LowHeads m.arcs) (node : m.source ≤ last_node) where
  pub way_route : {ks : List ℕ} → IsWay m ks → RoutePart m ks
  way_route w =
      let h = way_held m.arcs m.terminal w.way in
      record {
        list = h.list;
        ranked = ranking_in m low node (record { path = h.path; within_reach = omega (arith, part_metres m.arcs h.part, w.within_reach) });
        part = h.part;
      }

  -- what lies on every route is just what every way within reach is exposed to
  pub every_ways : (b : ℕ) → b < hazards → (exposed (on_every (ranking m)) b ≡ 1) ↔ ((ks : List ℕ) → IsWay m ks → exposed (exposure_of m.arcs ks) b ≡ 1)
  unfolding route_of
  every_ways b h = (
    λ e ks w. let f = way_route w in omega (arith, exposed_le_one (exposure_of m.arcs ks) b, part_exposure m.arcs f.part b, every_inside (ranking m) f.ranked b),
    λ f. every_all (ranking m) b h
        (λ r x. let o = ranking_out m x in ap (λ (s : Route). exposed s.exposure b) o.is ∙ f o.list (record { way = o.route.path.way; within_reach = o.route.within_reach })),
  )

-- ---- the shortest length free of what is banned

module _ (arcs : List Arc) (banned : Exposure) (terminal v : ℕ) where
  -- each length that is listed is that of a free way
  pub free_length_way : {x : ℕ} → Memᴰ x (free_lengths arcs banned terminal v) → (ks : List ℕ) × FreeWay arcs banned terminal v ks × (metres_of arcs ks ≡ x)
  unfolding free_lengths routes_from route_of
  free_length_way m =
      let o = Memᴰ.of_map (λ (r : Route). r.metres) (keep (λ (r : Route). disjoint r.exposure banned) (routes_from arcs terminal v)) m in
      let k = keep_out (λ (r : Route). disjoint r.exposure banned) (routes_from arcs terminal v) o.1 in
      let p = Memᴰ.of_map (route_of arcs) (paths_from arcs terminal v) k.0 in (
        p.0,
        record { way = (paths_out arcs p.1).way; free = ap (λ (r : Route). disjoint r.exposure banned) p.2 ∙ k.1 },
        ap (λ (r : Route). r.metres) p.2 ∙ o.2,
      )

  -- every free way is as long as one that is listed
  pub free_way_length : LowHeads arcs → v ≤ last_node → {ks : List ℕ} → FreeWay arcs banned terminal v ks → (x : ℕ) × Memᴰ x (free_lengths arcs banned terminal v) × (x ≤ metres_of arcs ks)
  unfolding free_lengths routes_from route_of
  free_way_length low node {ks} w =
      let h = way_held arcs terminal w.way in (
        metres_of arcs h.list,
        Memᴰ.map (λ (r : Route). r.metres)
            (keep_in (λ (r : Route). disjoint r.exposure banned) (routes_from arcs terminal v) (Memᴰ.map (route_of arcs) (paths_in arcs low node h.path))
            (disjoint_inside (exposure_of arcs h.list) (exposure_of arcs ks) banned (part_exposure arcs h.part) w.free)),
        part_metres arcs h.part,
      )

  -- the shortest length is that of a free way, where there is one
  pub shortest_way : {x : ℕ} → Memᴰ x (free_lengths arcs banned terminal v) → (ks : List ℕ) × FreeWay arcs banned terminal v ks × (metres_of arcs ks ≡ shortest arcs banned terminal v)
  unfolding shortest
  shortest_way m = free_length_way (first_mem ltb 0 m)

  -- and no free way is shorter
  pub shortest_least : LowHeads arcs → v ≤ last_node → {ks : List ℕ} → FreeWay arcs banned terminal v ks → shortest arcs banned terminal v ≤ metres_of arcs ks
  unfolding shortest
  shortest_least low node w =
      let x = free_way_length low node w in
      omega (arith, x.2, ltb-false x.0 (first_by ltb 0 (free_lengths arcs banned terminal v)) (first_least ltb (total_weak ltb_total) 0 x.1))
