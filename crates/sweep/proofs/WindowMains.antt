-- The mains of a window: the routes of lo to hi metres, in the order of growth. With those that are shorter they are the routes of the ranking up to hi,
-- as many and the same ones; of one length, in the same order. Assumes nothing.
use mathlib.Core.Path.{◌≡◌, refl, sym, ap, ◌∙◌}
use mathlib.Core.Logic.{◌⊎◌, inl, inr, ◌↔◌}
use mathlib.Core.Bool.{Bool, true, false, ◌&&◌, true≢false}
use mathlib.Core.List.Memᴰ
use mathlib.Core.List.{List, [], ◌∷◌, ◌++◌, Memᴰ}
use Prim.Native.Nat.{ℕ, ◌+◌, ◌≤◌, ◌<◌}
use native.Mathlib.Omega.{arith}
use lib.Dec.{leb, ltb}
use lib.ListN.{length, take, length-take}
use borrow.Author.Tests.{leb-true, leb-false, le-leb, lt-leb, ltb-true, ltb-false, lt-ltb, le-ltb}
use Rattle.laws.specs.Choosing.{lex_by, keep}
use Rattle.laws.specs.Sets.{with}
use Rattle.laws.proofs.FoldLaws.{keep_same, keep_all, keep_keep, count_cons, count_sort, pairwise_members, strict_same}
use Rattle.laws.proofs.ListLaws.{keep_in, keep_out, keep_none, pairwise_append, pairwise_keep, pairwise_map}
use Rattle.laws.proofs.OrderLaws.{ltb_total, lex_lt}
use Rattle.laws.proofs.SetLaws.{digit}
use Rattle.laws.proofs.SortLaws.{Strict, keep_beginning}
use Rattle.problem.specs.Table.{most_arcs}
use Rattle.problem.specs.Routes.{Mesh, metres_of, paths, Route, route_of, routes_from, rank_key, precedes, within, ranking, count, shorter}
use Rattle.problem.proofs.GrowthOrder.{precedes_same_length, grow_in_order}
use Rattle.problem.proofs.RankingLaws.{precedes_weak, precedes_metres, ranking_among, ranking_strict, ranking_beginning}
use Rattle.sweep.specs.declared.Window.{Window}

-- ---- a length between two others

unfoldable pub between : ℕ → ℕ → Route → Bool
between lo hi r = leb lo r.metres && leb r.metres hi

pub between_by : (lo hi : ℕ) (r : Route) → lo ≤ r.metres → r.metres ≤ hi → between lo hi r ≡ true
unfolding between
between_by lo hi r l h = rw (le-leb lo r.metres l, le-leb r.metres hi h)

between_from : (lo hi : ℕ) (r : Route) → between lo hi r ≡ true → (lo ≤ r.metres) × (r.metres ≤ hi)
unfolding between
between_from lo hi r e = go (leb lo r.metres) refl (leb r.metres hi) refl e
  where
    go : (a : Bool) → leb lo r.metres ≡ a → (b : Bool) → leb r.metres hi ≡ b → (a && b) ≡ true → (lo ≤ r.metres) × (r.metres ≤ hi)
    go true p true q f = (leb-true lo r.metres p, leb-true r.metres hi q)
    go true p false q f = absurd (true≢false (sym f))
    go false p b q f = absurd (true≢false (sym f))

-- up to hi are those below lo, and those from lo to hi
between_digit : (lo hi : ℕ) → lo ≤ hi → (r : Route) → digit (within hi r) ≡ digit (shorter lo r) + digit (between lo hi r)
unfolding digit within between
between_digit lo hi wide r = go (ltb r.metres lo) refl (leb r.metres hi) refl
  where
    go : (a : Bool) → ltb r.metres lo ≡ a → (b : Bool) → leb r.metres hi ≡ b → digit (within hi r) ≡ digit (shorter lo r) + digit (between lo hi r)
    go true p b q = let l = ltb-true r.metres lo p in rw (p, le-leb r.metres hi (omega arith), lt-leb lo r.metres l)
    go false p true q = rw (p, q, le-leb lo r.metres (ltb-false r.metres lo p))
    go false p false q = rw (p, q, le-leb lo r.metres (ltb-false r.metres lo p))

between_count : (lo hi : ℕ) → lo ≤ hi → (l : List Route) → count (within hi) l ≡ count (shorter lo) l + count (between lo hi) l
unfolding keep
between_count lo hi wide [] = refl
between_count lo hi wide (r ∷ l) =
    omega (arith, count_cons (within hi) r l, count_cons (shorter lo) r l, count_cons (between lo hi) r l, between_digit lo hi wide r, between_count lo hi wide l)

-- ---- the routes of the ranking

-- the mains of a window
abbrev pub mains : Mesh → Window → List Route
mains m w = keep (between w.lo w.hi) (routes_from m.arcs m.terminal m.source)

precedes_shorter : (r s : Route) → r.metres < s.metres → precedes r s ≡ true
unfolding precedes rank_key
precedes_shorter r s h = lex_lt ltb ltb_total r.metres r.arcs s.metres s.arcs (lt-ltb r.metres s.metres h)

module _ (m : Mesh) where
  abbrev routes : List Route
  routes = ranking m

  abbrev listed : List Route
  listed = routes_from m.arcs m.terminal m.source

  ranking_count : (test : Route → Bool) → ((r : Route) → test r ≡ true → within m.reach r ≡ true) → count test routes ≡ count test listed
  unfolding ranking
  ranking_count test f = count_sort precedes test (keep (within m.reach) listed) ∙ ap length (keep_keep test (within m.reach) f listed)

  -- those that are shorter are the first ones
  pub shorter_beginning : (x : ℕ) → keep (shorter x) routes ≡ take (count (shorter x) routes) routes
  shorter_beginning x =
      keep_beginning precedes (shorter x) (ranking_strict m) (λ a b p e. lt-ltb a.metres x (omega (arith, precedes_metres a b p, ltb-true b.metres x e)))

  pub within_inside : (x : ℕ) → count (within x) routes ≤ length routes
  within_inside x = omega (arith, ap length (ranking_beginning m x), length-take (count (within x) routes) routes)

  -- ---- a window

  module _ (w : Window) (wide : w.lo ≤ w.hi) (near : w.hi ≤ m.reach) where
    pub window_count : count (within w.hi) routes ≡ count (shorter w.lo) routes + length (mains m w)
    unfolding within
    window_count =
        omega (
          arith,
          ranking_count (within w.hi) (λ r e. le-leb r.metres m.reach (omega (arith, leb-true r.metres w.hi e))),
          ranking_count (shorter w.lo) (λ r e. le-leb r.metres m.reach (omega (arith, ltb-true r.metres w.lo e))),
          between_count w.lo w.hi wide listed,
        )

    pub window_members : (r : Route) → Memᴰ r (keep (shorter w.lo) routes ++ mains m w) ↔ Memᴰ r (keep (within w.hi) routes)
    unfolding within
    window_members r = (λ x. into (Memᴰ.append_cases (keep (shorter w.lo) routes) x), λ x. out (keep_out (within w.hi) routes x) (ltb r.metres w.lo) refl)
      where
        short : r.metres ≤ w.hi → within w.hi r ≡ true
        short h = le-leb r.metres w.hi h

        into : Memᴰ r (keep (shorter w.lo) routes) ⊎ Memᴰ r (mains m w) → Memᴰ r (keep (within w.hi) routes)
        into (inl x) = let k = keep_out (shorter w.lo) routes x in keep_in (within w.hi) routes k.0 (short (omega (arith, ltb-true r.metres w.lo k.1)))
        into (inr x) =
            let k = keep_out (between w.lo w.hi) listed x in
            let b = between_from w.lo w.hi r k.1 in
            keep_in (within w.hi) routes ((ranking_among m).1 (k.0, le-leb r.metres m.reach (omega arith))) (short b.1)

        out : Memᴰ r routes × (within w.hi r ≡ true) → (s : Bool) → ltb r.metres w.lo ≡ s → Memᴰ r (keep (shorter w.lo) routes ++ mains m w)
        out k true e = Memᴰ.append_left (mains m w) (keep_in (shorter w.lo) routes k.0 e)
        out k false e =
            Memᴰ.append_right (keep (shorter w.lo) routes)
            (keep_in (between w.lo w.hi) listed ((ranking_among m).0 k.0).0 (between_by w.lo w.hi r (ltb-false r.metres w.lo e) (leb-true r.metres w.hi k.1)))

    -- of one length the order of growth is that of the ranking
    pub window_in_order : w.hi ≡ w.lo → keep (within w.hi) routes ≡ keep (shorter w.lo) routes ++ mains m w
    unfolding routes_from route_of
    window_in_order one =
        strict_same precedes precedes_weak (pairwise_keep (within w.hi) strict) (pairwise_append (mains m w) (pairwise_keep (shorter w.lo) strict) in_order ahead)
        (λ r. ((window_members r).1, (window_members r).0))
      where
        strict : Strict precedes routes
        strict = ranking_strict m

        length_in_lem : {r : Route} → Memᴰ r (mains m w) → (w.lo ≤ r.metres) × (r.metres ≤ w.hi)
        length_in_lem {r} x = between_from w.lo w.hi r (keep_out (between w.lo w.hi) listed x).1

        in_order : Strict precedes (mains m w)
        in_order =
            pairwise_members (λ a b x y p. precedes_same_length a b (omega (arith, length_in_lem x, length_in_lem y)) ∙ p)
            (pairwise_keep (between w.lo w.hi)
            (pairwise_map {S = λ a b. lex_by ltb a.arcs b.arcs ≡ true} (route_of m.arcs) (λ a b p c q. rw (← q) p) (grow_in_order m.arcs m.terminal most_arcs (with 0 m.source) m.source)))

        ahead : (a b : Route) → Memᴰ a (keep (shorter w.lo) routes) → Memᴰ b (mains m w) → precedes a b ≡ true
        ahead a b x y = precedes_shorter a b (omega (arith, ltb-true a.metres w.lo (keep_out (shorter w.lo) routes x).1, length_in_lem y))

  -- ---- a cut: no route is longer than hi and shorter than it

  path_of : {r : Route} → Memᴰ r routes → (ks : List ℕ) × Memᴰ ks (paths m) × (metres_of m.arcs ks ≡ r.metres)
  unfolding routes_from route_of
  path_of x =
      let o = Memᴰ.of_map (route_of m.arcs) (paths m) ((ranking_among m).0 x).0 in
      (o.0, o.1, ap (λ (s : Route). s.metres) o.2)

  -- the first window may begin at the cut
  pub cut_none : (cut : ℕ) → ((ks : List ℕ) → Memᴰ ks (paths m) → cut ≤ metres_of m.arcs ks) → count (shorter cut) routes ≡ 0
  cut_none cut f = ap length (keep_none (shorter cut) routes (λ r x. let g = path_of x in le-ltb r.metres cut (omega (arith, f g.0 g.1, g.2))))

  module _ (hi cut : ℕ) (none_between : (ks : List ℕ) → Memᴰ ks (paths m) → hi < metres_of m.arcs ks → cut ≤ metres_of m.arcs ks) where
    past_cut : (r : Route) → Memᴰ r routes → hi < r.metres → cut ≤ r.metres
    past_cut r x h = let g = path_of x in omega (arith, g.2, none_between g.0 g.1 (omega (arith, g.2)))

    -- the next window may begin at the cut
    pub cut_count : hi < cut → count (shorter cut) routes ≡ count (within hi) routes
    unfolding within
    cut_count l = ap length (keep_same (shorter cut) (within hi) routes (λ r x. go r x (leb r.metres hi) refl))
      where
        go : (r : Route) → Memᴰ r routes → (b : Bool) → leb r.metres hi ≡ b → shorter cut r ≡ within hi r
        go r x true e = lt-ltb r.metres cut (omega (arith, leb-true r.metres hi e)) ∙ sym e
        go r x false e = le-ltb r.metres cut (past_cut r x (leb-false r.metres hi e)) ∙ sym e

    -- past the reach there is no next window
    pub cut_all : m.reach < cut → count (within hi) routes ≡ length routes
    unfolding within
    cut_all l = ap length (keep_all (within hi) routes (λ r x. le-leb r.metres hi (short r x)))
      where
        short : (r : Route) → Memᴰ r routes → r.metres ≤ hi
        short r x =
            let no : hi < r.metres → ⊥ = λ h. omega (arith, past_cut r x h, leb-true r.metres m.reach ((ranking_among m).0 x).1) in
            omega arith
