-- The tally of some mains is their number, the length of the longest and the least key of their judged pairs, so it depends on who they are and not on the order in
-- which they were tried; that of the first j routes of the ranking is the tally of step j. Assumes nothing.
use Rattle.std.specs.Prelude.{if◌then◌else◌}
use mathlib.Core.Path.{◌≡◌, refl, sym, ap, ◌∙◌, subst}
use mathlib.Core.Logic.{inl, inr, ◌↔◌}
use mathlib.Core.Bool.{Bool, true, false, true≢false}
use mathlib.Core.List.Memᴰ
use mathlib.Core.List.{List, [], ◌∷◌, ◌++◌, foldl, foldl-append, Memᴰ}
use Prim.Native.Nat.{ℕ, zero, suc, ◌+◌, ◌-◌, ◌≤◌, ◌<◌, min, max}
use native.Mathlib.Nat.{add-zero, zero-add}
use native.Mathlib.Omega.{arith}
use lib.Dec.{eqb, leb, ltb}
use lib.ListN.{length, get_or, take, length-append}
use lib.Seq.{take-nil, length-take-le}
use borrow.Author.Tests.{eqb-true, eqb-false, leb-true, leb-false, le-leb, lt-leb, ltb-true, ltb-false, lt-ltb, le-ltb}
use Rattle.laws.specs.Choosing.{keep}
use Rattle.laws.proofs.FoldLaws.{AtLeast, smaller, larger, FirstOf, min_first, max_first, Given, first_same, first_unique, first_fold, first_members}
use Rattle.laws.proofs.ListLaws.{get_or_mem, get_or_take_mem, take_place, take_mem}
use Rattle.problem.specs.Table.{most_reach}
use Rattle.problem.specs.Routes.{Mesh, IsPath, Route, route_of, routes_from, within, ranking}
use Rattle.problem.specs.Pairs.{Pair, pair, shared_count, total, pairs_of, no_route, Step, candidates, some_at, best}
use Rattle.problem.specs.Apart.{judges}
use Rattle.problem.proofs.ExposureLaws.{nothing_joined}
use Rattle.problem.proofs.PathLaws.{paths_in}
use Rattle.problem.proofs.RankingLaws.{ranking_among, ranking_out, ranking_strict}
use Rattle.problem.proofs.CandidateLaws.{some_with, best_in, best_main}
use Rattle.problem.proofs.SettleLaws.{metres_mono}
use Rattle.keys.specs.Keys.{key_of, no_key}
use Rattle.keys.proofs.ChoiceLaws.{InReach, pair_fits, ranking_in_reach, key_of_below, best_key_least}
use Rattle.net.specs.declared.Behind.{Behind}
use Rattle.net.specs.Search.{start, along, last_of, no_arc, visit}
use Rattle.net.proofs.SearchLaws.{along_metres, along_exposure}
use Rattle.bars.specs.declared.Barred.{Barred}
use Rattle.bars.specs.Bars.{nothing_barred, barred_by_list, start_barred, unbarred}
use Rattle.bars.proofs.BarsLaws.{Regular, standbys_exactly}
use Rattle.tally.specs.declared.Tally.{Tally}
use Rattle.tally.specs.Tally.{counted}
use Rattle.mains.specs.Mains.{paired, best_with, tried, no_tally, best_key, Stepped}

-- ---- a route's end

module _ (m : Mesh) where
  -- what lies behind the end of a list that keeps off what is barred has the length of its route, and is exposed to as much
  end_metres : (off : Barred) (ks : List ℕ) → (along m.arcs (start_barred m off) ks).metres ≡ (route_of m.arcs ks).metres
  unfolding route_of
  end_metres off ks = along_metres m.arcs (start_barred m off) ks ∙ zero-add _

  pub end_exposure : (off : Barred) (ks : List ℕ) → (along m.arcs (start_barred m off) ks).exposure ≡ (route_of m.arcs ks).exposure
  unfolding route_of
  end_exposure off ks = along_exposure m.arcs (start_barred m off) ks ∙ nothing_joined _

  -- what lies behind the end of a main
  abbrev pub end_of : Route → Behind
  end_of r = along m.arcs (start m) r.arcs

  pub main_metres_lem : (ks : List ℕ) → (along m.arcs (start m) ks).metres ≡ (route_of m.arcs ks).metres
  main_metres_lem = end_metres nothing_barred

  -- a listed route is made of its own arcs
  pub listed_made : {r : Route} → Memᴰ r (ranking m) → r ≡ route_of m.arcs r.arcs
  unfolding route_of
  listed_made x = let o = ranking_out m x in o.is ∙ ap (route_of m.arcs) (sym (ap (λ (s : Route). s.arcs) o.is))

  pub listed_path : {r : Route} → Memᴰ r (ranking m) → IsPath m.arcs m.source m.terminal r.arcs
  unfolding route_of
  listed_path {r} x = let o = ranking_out m x in subst (IsPath m.arcs m.source m.terminal) (ap (λ (s : Route). s.arcs) (sym o.is)) o.route.path

  pub listed_metres : {r : Route} → Memᴰ r (ranking m) → (end_of r).metres ≡ r.metres
  listed_metres {r} x = main_metres_lem r.arcs ∙ ap (λ (s : Route). s.metres) (sym (listed_made x))

ltb_suc : (a b : ℕ) → ltb (suc a) (suc b) ≡ ltb a b
ltb_suc a b = go (ltb a b) refl
  where
    go : (s : Bool) → ltb a b ≡ s → ltb (suc a) (suc b) ≡ s
    go true e = lt-ltb (suc a) (suc b) (omega (arith, ltb-true a b e))
    go false e = le-ltb (suc a) (suc b) (omega (arith, ltb-false a b e))

module _ (only : Bool) (m : Mesh) where
  abbrev routes : List Route
  routes = ranking m

  -- ---- what one main does to the best key

  -- what the main bars, and the best key after it
  abbrev off_of : Route → Barred
  off_of r = barred_by_list only m r.arcs

  abbrev pub better : ℕ → Route → ℕ
  better b r = best_with m (end_of m r) (off_of r) b

  -- the key of a pair of a main with a list that keeps off what it bars
  abbrev Offered : Route → List ℕ → ℕ → Type 0
  Offered r ls n = (last_of no_arc ls ≡ (off_of r).last → ⊥) × (within m.reach (route_of m.arcs ls) ≡ true) × (n ≡ key_of (pair (route_of m.arcs r.arcs) (route_of m.arcs ls)))

  abbrev Offers : Route → ℕ → Type 0
  Offers r = Given (Offered r) (unbarred m (off_of r))

  offers_first : (r : Route) (b : ℕ) → FirstOf ◌≤◌ b (Offers r) (better b r)
  unfolding best_with paired key_of shared_count total within
  offers_first r b = first_fold smaller (Offered r) (visit m.arcs (paired m (end_of m r) (off_of r).last) (start_barred m (off_of r))) offered b (unbarred m (off_of r))
    where
      key : List ℕ → ℕ
      key ls = key_of (pair (route_of m.arcs r.arcs) (route_of m.arcs ls))

      fits : List ℕ → Bool
      fits ls = within m.reach (route_of m.arcs ls)

      offered : (c : ℕ) (ls : List ℕ) → FirstOf ◌≤◌ c (Offered r ls) (visit m.arcs (paired m (end_of m r) (off_of r).last) (start_barred m (off_of r)) c ls)
      offered c ls = rw (end_metres m (off_of r) ls, end_exposure m (off_of r) ls, end_metres m nothing_barred r.arcs, end_exposure m nothing_barred r.arcs) (go (eqb (last_of no_arc ls) (off_of r).last) refl (fits ls) refl)
        where
          none : ((n : ℕ) → Offered r ls n → ⊥) → FirstOf ◌≤◌ c (Offered r ls) c
          none never = record { from_start = omega arith; from_each = λ n q. absurd (never n q); is_one = inl refl }

          go : (a : Bool) → eqb (last_of no_arc ls) (off_of r).last ≡ a → (s : Bool) → fits ls ≡ s → FirstOf ◌≤◌ c (Offered r ls) (if a then c else (if s then min c (key ls) else c))
          go true e s f = none (λ n q. q.0 (eqb-true _ _ e))
          go false e false f = none (λ n q. true≢false (sym q.1 ∙ f))
          go false e true f = first_same smaller (λ n. (λ q. (eqb-false _ _ e, f, q), λ q. q.2)) (min_first c (key ls))

  -- the key of a judged pair with this main
  abbrev pub KeyWith : Route → ℕ → Type 0
  KeyWith r = Given (λ s n. (judges m only (pair r s) ≡ true) × (n ≡ key_of (pair r s))) routes

  -- of a listed main, the lists that keep off what it bars are the routes of the judged pairs
  offers_keys : Regular m → {r : Route} → Memᴰ r routes → (n : ℕ) → Offers r n ↔ KeyWith r n
  unfolding routes_from
  offers_keys regular {r} x n = (into, out)
    where
      made : r ≡ route_of m.arcs r.arcs
      made = listed_made m x

      Keyed : Route → Route → Type 0
      Keyed u s = (judges m only (pair u s) ≡ true) × (n ≡ key_of (pair u s))

      exactly : (ls : List ℕ) → (Memᴰ ls (unbarred m (off_of r)) × (last_of no_arc ls ≡ (off_of r).last → ⊥)) ↔ (IsPath m.arcs m.source m.terminal ls × (judges m only (pair (route_of m.arcs r.arcs) (route_of m.arcs ls)) ≡ true))
      exactly = standbys_exactly only m regular (listed_path m x)

      into : Offers r n → KeyWith r n
      into g =
          let o = (exactly g.by).0 (g.listed, g.gives.0) in
          record {
            by = route_of m.arcs g.by;
            listed = (ranking_among m).1 (Memᴰ.map (route_of m.arcs) (paths_in m.arcs regular.heads regular.source_node o.0), g.gives.1);
            gives = subst (λ (s : Route). Keyed s (route_of m.arcs g.by)) (sym made) (o.1, g.gives.2);
          }

      out : KeyWith r n → Offers r n
      out g =
          let s = listed_made m g.listed in
          let k = subst (λ (u : Route). Keyed u (route_of m.arcs g.by.arcs)) made (subst (Keyed r) s g.gives) in
          let o = (exactly g.by.arcs).1 (listed_path m g.listed, k.0) in
          record { by = g.by.arcs; listed = o.0; gives = (o.1, subst (λ (u : Route). within m.reach u ≡ true) s ((ranking_among m).0 g.listed).1, k.1) }

  pub best_with_lem : Regular m → {r : Route} → Memᴰ r routes → (b : ℕ) → FirstOf ◌≤◌ b (KeyWith r) (better b r)
  best_with_lem regular {r} x b = first_same smaller (offers_keys regular x) (offers_first r b)

  -- ---- the tally after some more mains

  abbrev longer : ℕ → Route → ℕ
  longer x r = max x (end_of m r).metres

  unfoldable pub after : Bool → Tally → List Route → Tally
  after over t ms = record { ranked = t.ranked + length ms; last = foldl longer t.last ms; best = foldl better t.best ms; over = over }

  pub last_first : (x : ℕ) (ms : List Route) → FirstOf AtLeast x (Given (λ r n. n ≡ (end_of m r).metres) ms) (foldl longer x ms)
  last_first = first_fold larger (λ r n. n ≡ (end_of m r).metres) longer (λ x r. max_first x (end_of m r).metres)

  pub best_first : (b : ℕ) (ms : List Route) → FirstOf ◌≤◌ b (Given Offers ms) (foldl better b ms)
  best_first = first_fold smaller Offers better (λ b r. offers_first r b)

  -- only the members and their number count
  pub after_members : (t : Tally) (ms ns : List Route) → length ms ≡ length ns → ((r : Route) → Memᴰ r ms ↔ Memᴰ r ns) → after false t ms ≡ after false t ns
  unfolding after
  after_members t ms ns n same =
      let last = first_members larger same (last_first t.last ms) (last_first t.last ns) in
      let best = first_members smaller same (best_first t.best ms) (best_first t.best ns) in
      rw (n, last, best)

  after_none : (t : Tally) → t.over ≡ false → t ≡ after false t []
  unfolding after
  after_none t e = rw add-zero (ap (λ (b : Bool). record { ranked = t.ranked; last = t.last; best = t.best; over = b }) e)

  pub after_append : (over b : Bool) (t : Tally) (ms ns : List Route) → after over (after b t ms) ns ≡ after over t (ms ++ ns)
  unfolding after
  after_append over b t ms ns =
      let n : t.ranked + length ms + length ns ≡ t.ranked + length (ms ++ ns) = simp length-append (omega arith) in
      rw (n, foldl-append longer, foldl-append better)

  -- ---- mains met one after the other

  module _ (cap : ℕ) where
    abbrev pub try : Tally → Route → Tally
    try t r = tried only m cap (end_of m r) (last_of no_arc r.arcs) t

    -- a main is known by its route
    pub tried_route : (t : Tally) (ks : List ℕ) → tried only m cap (along m.arcs (start m) ks) (last_of no_arc ks) t ≡ try t (route_of m.arcs ks)
    unfolding route_of
    tried_route t ks = refl

    try_more : (t : Tally) (r : Route) → t.over ≡ false → t.ranked < cap → try t r ≡ after false t (r ∷ [])
    unfolding tried after counted
    try_more t r o h = rw (o, lt-leb cap t.ranked h)

    try_past : (t : Tally) (r : Route) → t.over ≡ false → cap ≤ t.ranked → try t r ≡ after true t []
    unfolding tried after counted
    try_past t r o h = rw (o, le-leb cap t.ranked h, add-zero)

    try_over : (t : Tally) (r : Route) → t.over ≡ true → try t r ≡ t
    unfolding tried
    try_over t r o = pick t.over t _ o
      where
        pick : (b : Bool) (u v : Tally) → b ≡ true → (if b then u else v) ≡ u
        pick true u v e = refl
        pick false u v e = absurd (true≢false (sym e))

    tries_over : (t : Tally) (ms : List Route) → t.over ≡ true → foldl try t ms ≡ t
    tries_over t [] o = refl
    tries_over t (r ∷ ms) o = ap (λ (u : Tally). foldl try u ms) (try_over t r o) ∙ tries_over t ms o

    -- those up to the cap count, and one more marks the tally
    pub tries : (t : Tally) (ms : List Route) → t.over ≡ false → foldl try t ms ≡ after (ltb (cap - t.ranked) (length ms)) t (take (cap - t.ranked) ms)
    unfolding after
    tries t [] o = rw (le-ltb (cap - t.ranked) 0 (omega arith), take-nil (cap - t.ranked)) (after_none t o)
    tries t (r ∷ ms) o = go (leb cap t.ranked) refl (tries (after false t (r ∷ [])) ms refl)
      where
        go : (b : Bool) → leb cap t.ranked ≡ b
            → foldl try (after false t (r ∷ [])) ms ≡ after (ltb (cap - (t.ranked + 1)) (length ms)) (after false t (r ∷ [])) (take (cap - (t.ranked + 1)) ms)
            → foldl try t (r ∷ ms) ≡ after (ltb (cap - t.ranked) (suc (length ms))) t (take (cap - t.ranked) (r ∷ ms))
        go true e ih =
            let none : cap - t.ranked ≡ 0 = omega (arith, leb-true cap t.ranked e) in
            ap (λ (u : Tally). foldl try u ms) (try_past t r o (leb-true cap t.ranked e))
            ∙ tries_over (after true t []) ms refl ∙ sym (rw (none, lt-ltb 0 (suc (length ms)) (omega arith)))
        go false e ih =
            let some : cap - t.ranked ≡ suc (cap - (t.ranked + 1)) = omega (arith, leb-false cap t.ranked e) in
            ap (λ (u : Tally). foldl try u ms) (try_more t r o (leb-false cap t.ranked e))
            ∙ ih ∙ after_append _ false t (r ∷ []) (take (cap - (t.ranked + 1)) ms) ∙ rw (some, ltb_suc)

-- ---- the tally of a step

-- before any main no pair is judged
pub none_first : (ok : Pair → Bool) (routes : List Route) → best_key ok routes 0 ≡ no_key
unfolding best_key some_at candidates pairs_of keep
none_first ok rs = refl

pub stepped_start : (ok : Pair → Bool) (routes : List Route) → Stepped ok routes 0 no_tally
stepped_start ok routes =
    record {
      to_N = omega arith;
      ranked_is = refl;
      last_is = λ h. absurd (omega arith);
      last_none = λ e. refl;
      best_is = sym (none_first ok routes);
      is_not_over = refl;
    }

-- there is one tally of a step
pub stepped_unique : {ok : Pair → Bool} {routes : List Route} (j : ℕ) {t u : Tally} → Stepped ok routes j t → Stepped ok routes j u → t ≡ u
stepped_unique {ok} {routes} j {t} {u} s r = fields (s.ranked_is ∙ sym r.ranked_is) (last j s r) (s.best_is ∙ sym r.best_is) (s.is_not_over ∙ sym r.is_not_over)
  where
    fields : {n n' l l' k k' : ℕ} {o o' : Bool} → n ≡ n' → l ≡ l' → k ≡ k' → o ≡ o'
        → ◌≡◌ {A = Tally} (record { ranked = n; last = l; best = k; over = o }) (record { ranked = n'; last = l'; best = k'; over = o' })
    fields a b c d = cc

    last : (j : ℕ) → Stepped ok routes j t → Stepped ok routes j u → t.last ≡ u.last
    last zero s r = s.last_none refl ∙ sym (r.last_none refl)
    last (suc j) s r = s.last_is (omega arith) ∙ sym (r.last_is (omega arith))

module _ (only : Bool) (m : Mesh) (regular : Regular m) (low : m.reach ≤ most_reach) where
  -- the tally of some mains
  abbrev pub tallied : List Route → Tally
  tallied ms = after only m false no_tally ms

  abbrev ok : Pair → Bool
  ok = judges m only

  -- ---- the first j mains

  -- the longest of them is the last
  tallied_last : {j : ℕ} → Step (ranking m) j → (tallied (take j (ranking m))).last ≡ (get_or (ranking m) (j - 1) no_route).metres
  unfolding after
  tallied_last {j} s =
      first_unique larger (last_first only m 0 (take j (ranking m)))
      (record {
        from_start = omega arith;
        from_each = λ n g.
            let p = take_place no_route j (ranking m) g.listed in
            omega (arith, g.gives, listed_metres m (take_mem no_route j g.listed), ap (λ (r : Route). r.metres) p.is, metres_mono (ranking m) (ranking_strict m) p.at (j - 1) (omega (arith, p.early)) inside);
        is_one = inr (record { by = get_or (ranking m) (j - 1) no_route; listed = get_or_take_mem no_route j (ranking m) (j - 1) (omega (arith, s.from_one)) inside; gives = sym (listed_metres m (get_or_mem no_route (ranking m) (j - 1) inside)) });
      })
    where
      inside : j - 1 < length (ranking m)
      inside = omega (arith, s.from_one, s.to_N)

  -- the least key of their judged pairs is that of the best one
  tallied_best : (j : ℕ) → (tallied (take j (ranking m))).best ≡ best_key ok (ranking m) j
  unfolding after best_key
  tallied_best j = first_unique smaller (best_first only m no_key (take j (ranking m))) (go (some_at ok (ranking m) j) refl)
    where
      in_reach : InReach (ranking m)
      in_reach = ranking_in_reach m low

      -- a key that some main offers is that of a judged pair with it
      key_of_lem : {n : ℕ} (g : Given (Offers only m) (take j (ranking m)) n) → KeyWith only m g.by n
      key_of_lem {n} g = (offers_keys only m regular (take_mem no_route j g.listed) n).0 g.gives

      go : (b : Bool) → some_at ok (ranking m) j ≡ b → FirstOf ◌≤◌ no_key (Given (Offers only m) (take j (ranking m))) (if b then key_of (best ok (ranking m) j) else no_key)
      go true some =
          let b = best_in ok (ranking m) j some in
          let main_in_lem = best_main ok (ranking m) j some in
          record {
            from_start = omega (arith, key_of_below (best ok (ranking m) j) (pair_fits (ranking m) in_reach main_in_lem b.standby_in_lem));
            from_each = λ n g. let k = key_of_lem g in rw k.gives.1 (best_key_least ok (ranking m) in_reach j g.listed k.listed k.gives.0);
            is_one = inr (record { by = (best ok (ranking m) j).main; listed = b.main_in_lem; gives = (offers_keys only m regular main_in_lem _).1 (record { by = (best ok (ranking m) j).standby; listed = b.standby_in_lem; gives = (b.passes, refl) }) });
          }
      go false none = record {
        from_start = omega arith;
        from_each = λ n g. let k = key_of_lem g in absurd (true≢false (sym (some_with ok (ranking m) j g.listed k.listed k.gives.0) ∙ none));
        is_one = inl refl;
      }

  pub tallied_stepped : (j : ℕ) → j ≤ length (ranking m) → Stepped ok (ranking m) j (tallied (take j (ranking m)))
  unfolding after
  tallied_stepped j h =
      record {
        to_N = h;
        ranked_is = zero-add (length (take j (ranking m))) ∙ length-take-le j (ranking m) h;
        last_is = λ l. tallied_last (record { from_one = l; to_N = h });
        last_none = λ e. rw e;
        best_is = tallied_best j;
        is_not_over = refl;
      }

  pub stepped_tallied : (j : ℕ) {t : Tally} → Stepped ok (ranking m) j t → t ≡ tallied (take j (ranking m))
  stepped_tallied j s = stepped_unique j s (tallied_stepped j s.to_N)
