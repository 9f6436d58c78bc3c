-- The ranking: exactly the routes, in a strict order, so that places are ranks; those no longer than a length are a beginning of it. Assumes nothing.
use mathlib.Core.Path.{◌≡◌, refl, sym, ap, ◌∙◌, subst}
use mathlib.Core.Logic.{◌⊎◌, inl, inr, ◌↔◌}
use mathlib.Core.Bool.{Bool, true, false}
use mathlib.Core.List.Memᴰ
use mathlib.Core.List.{List, [], ◌++◌, Memᴰ, tail-eq_of_cons-eq}
use Prim.Native.Nat.{ℕ, ◌≤◌}
use native.Mathlib.Omega.{arith}
use lib.Dec.{ltb}
use lib.ListN.{length, take}
use borrow.Author.Tests.{ltb-true, leb-true, le-leb}
use Rattle.laws.specs.Choosing.{lex_by, keep}
use Rattle.laws.specs.Sets.{with}
use Rattle.laws.proofs.ListLaws.{pairwise_map, pairwise_keep, keep_in, keep_out}
use Rattle.laws.proofs.OrderLaws.{Total, Weak, total_weak, keyed_weak, ltb_total, lex_total, lex_true}
use Rattle.laws.proofs.SortLaws.{Strict, sort_mem, sort_strict, keep_beginning}
use Rattle.problem.specs.Table.{last_node, most_arcs}
use Rattle.problem.specs.Routes.{Mesh, metres_of, Way, IsRoute, paths, Route, route_of, routes_from, rank_key, precedes, within, ranking}
use Rattle.problem.proofs.RouteLaws.{Grown, grow_distinct, grown_exact, grown_no_beginning}
use Rattle.problem.proofs.PathLaws.{LowHeads, path_short, paths_out, paths_in}

-- ---- the order of routes

pub key_total : Total (lex_by ltb)
key_total = lex_total ltb ltb_total

pub precedes_weak : Weak precedes
unfolding precedes
precedes_weak = keyed_weak rank_key (total_weak key_total)

-- rank is always decided: routes that neither precedes the other have the same arcs
pub precedes_tri : (r s : Route) → precedes r s ≡ false → precedes s r ≡ false → r.arcs ≡ s.arcs
unfolding precedes rank_key
precedes_tri r s p q = tail-eq_of_cons-eq (key_total.tri (rank_key r) (rank_key s) p q)

pub precedes_metres : (r s : Route) → precedes r s ≡ true → r.metres ≤ s.metres
unfolding precedes rank_key
precedes_metres r s e = go (lex_true ltb ltb_total _ _ _ _ e)
  where
    go : (ltb r.metres s.metres ≡ true) ⊎ ((r.metres ≡ s.metres) × (lex_by ltb r.arcs s.arcs ≡ true)) → r.metres ≤ s.metres
    go (inl l) = omega (arith, ltb-true r.metres s.metres l)
    go (inr l) = omega arith

-- ---- the ranking

module _ (m : Mesh) where
  -- who stands in the ranking: a route of the definition, with its length and what it is exposed to
  pub record Listed (r : Route) : Type 0 where
    pub list : List ℕ
    pub is : r ≡ route_of m.arcs list
    pub route : IsRoute m list

  -- those of all paths that fit the reach
  pub ranking_among : {r : Route} → Memᴰ r (ranking m) ↔ (Memᴰ r (routes_from m.arcs m.terminal m.source) × (within m.reach r ≡ true))
  unfolding ranking
  ranking_among {r} =
      let all = routes_from m.arcs m.terminal m.source in
      (λ x. keep_out (within m.reach) all ((sort_mem precedes _ r).1 x), λ p. (sort_mem precedes _ r).0 (keep_in (within m.reach) all p.0 p.1))

  pub ranking_out : {r : Route} → Memᴰ r (ranking m) → Listed r
  unfolding routes_from within route_of
  ranking_out {r} x =
      let k = ranking_among.0 x in
      let o = Memᴰ.of_map (route_of m.arcs) (paths m) k.0 in
      record { list = o.0; is = sym o.2; route = record { path = paths_out m.arcs o.1; within_reach = short o.0 o.2 k.1 } }
    where
      short : (l : List ℕ) → route_of m.arcs l ≡ r → within m.reach r ≡ true → metres_of m.arcs l ≤ m.reach
      short l e w = omega (arith, leb-true r.metres m.reach w, ap (λ (s : Route). s.metres) e)

  -- it is made of its own arc numbers
  pub ranking_own : {r : Route} → Memᴰ r (ranking m) → IsRoute m r.arcs × (route_of m.arcs r.arcs ≡ r)
  unfolding route_of
  ranking_own {r} x = go (ranking_out x)
    where
      go : Listed r → IsRoute m r.arcs × (route_of m.arcs r.arcs ≡ r)
      go o =
          let e : o.list ≡ r.arcs = ap (λ (s : Route). s.arcs) (sym o.is) in
          (subst (IsRoute m) e o.route, ap (route_of m.arcs) (sym e) ∙ sym o.is)

  pub ranking_in : LowHeads m.arcs → m.source ≤ last_node → {ks : List ℕ} → IsRoute m ks → Memᴰ (route_of m.arcs ks) (ranking m)
  unfolding routes_from within route_of
  ranking_in low s {ks} r =
      ranking_among.1 (Memᴰ.map (route_of m.arcs) (paths_in m.arcs low s r.path), le-leb (metres_of m.arcs ks) m.reach r.within_reach)

  -- the listed routes are exactly the routes of the definition
  pub ranking_exact : LowHeads m.arcs → m.source ≤ last_node → (ks : List ℕ) → Memᴰ (route_of m.arcs ks) (ranking m) ↔ IsRoute m ks
  unfolding route_of
  ranking_exact low s ks = (λ x. from (ranking_out x), λ r. ranking_in low s r)
    where
      from : Listed (route_of m.arcs ks) → IsRoute m ks
      from o = subst (λ (l : List ℕ). IsRoute m l) (sym (ap (λ (r : Route). r.arcs) o.is)) o.route

  -- no two stand at one place, so each stands before all later ones
  pub ranking_strict : Strict precedes (ranking m)
  unfolding ranking routes_from route_of
  ranking_strict =
      sort_strict precedes precedes_weak
      (pairwise_keep (within m.reach) (pairwise_map (route_of m.arcs) untied (grow_distinct m.arcs m.terminal most_arcs (with 0 m.source) m.source)))
    where
      untied : (a b : List ℕ) → (a ≡ b → ⊥) → (s : Route) → route_of m.arcs b ≡ s → precedes (route_of m.arcs a) s ≡ false → precedes s (route_of m.arcs a) ≡ true
      untied a b ne s e p = go (precedes s (route_of m.arcs a)) refl
        where
          go : (t : Bool) → precedes s (route_of m.arcs a) ≡ t → precedes s (route_of m.arcs a) ≡ true
          go true q = q
          go false q = absurd (ne (precedes_tri (route_of m.arcs a) s p q ∙ ap (λ (x : Route). x.arcs) (sym e)))

  -- the routes no longer than x are a beginning of the ranking
  pub ranking_beginning : (x : ℕ) → keep (within x) (ranking m) ≡ take (length (keep (within x) (ranking m))) (ranking m)
  unfolding within
  ranking_beginning x = keep_beginning precedes (within x) ranking_strict down
    where
      down : (a b : Route) → precedes a b ≡ true → within x b ≡ true → within x a ≡ true
      down a b p w = le-leb a.metres x (omega (arith, precedes_metres a b p, leb-true b.metres x w))

  -- a route has 1 to 31 arcs
  pub route_some : (m.source ≡ m.terminal → ⊥) → {ks : List ℕ} → IsRoute m ks → 1 ≤ length ks
  route_some ne {ks} r = go r.path.way
    where
      go : {ls : List ℕ} → Way m.arcs m.source m.terminal ls → 1 ≤ length ls
      go (Way.there e) = absurd (ne e)
      go (Way.over b t w) = omega arith

  pub route_short : LowHeads m.arcs → m.source ≤ last_node → {ks : List ℕ} → IsRoute m ks → length ks ≤ most_arcs
  route_short low s r = path_short m.arcs low s r.path

  -- no route is the beginning of another
  pub route_no_beginning : {ks ls more : List ℕ} → IsRoute m ks → IsRoute m ls → ls ≡ ks ++ more → more ≡ []
  route_no_beginning {ks} {ls} {more} r s e =
      grown_no_beginning m.arcs m.terminal more ((grown_exact m.arcs m.terminal m.source ks).1 r.path)
      (subst (λ (l : List ℕ). Grown m.arcs m.terminal (with 0 m.source) m.source l) e ((grown_exact m.arcs m.terminal m.source ls).1 s.path))
