-- The best pair's own routes, from its key: the main is the first route of its length, in depth-first order, whose best standby makes the best
-- pair's key; the standby is the first of its length that makes that key with the main. Assumes nothing.
use mathlib.Core.Path.{◌≡◌, refl, sym, ap, ap₂, ◌∙◌, subst}
use mathlib.Core.Logic.{◌⊎◌, inl, inr, ◌↔◌}
use mathlib.Core.Bool.{Bool, true, false, not, true≢false}
use mathlib.Core.List.Memᴰ
use mathlib.Core.List.{List, [], ◌∷◌, ◌++◌, map, map-append, Memᴰ}
use Prim.Native.Nat.{ℕ, ◌+◌, ◌≤◌, ◌<◌}
use native.Mathlib.Omega.{arith}
use lib.Dec.{eqb, ltb}
use lib.ListN.{length, get_or, take, length-append}
use lib.Seq.{get_or-take, get_or-append-add, get_or-append_seam}
use borrow.Author.Tests.{ltb-true, ltb-false, leb-true, le-leb, lt-leb, eqb-true, eqb-false, eq-eqb, ne_eqb, not-true}
use Rattle.laws.specs.Choosing.{keep, lex_by, Pairwise}
use Rattle.laws.specs.Sets.{with}
use Rattle.laws.proofs.BoolLaws.{both}
use Rattle.laws.proofs.FoldLaws.{FirstOf, count_cons}
use Rattle.laws.proofs.ListLaws.{Place, length_keep, mem_place, take_place, take_mem, get_or_take_mem, keep_append, keep_first, pairwise_head, pairwise_tail}
use Rattle.laws.proofs.OrderLaws.{weak_asym}
use Rattle.laws.proofs.SortLaws.{place_unique}
use Rattle.laws.proofs.SetLaws.{digit}
use Rattle.problem.specs.declared.Arc.{Arc}
use Rattle.problem.specs.Table.{hazards, most_reach}
use Rattle.problem.specs.Exposures.{sharing}
use Rattle.problem.specs.Routes.{Mesh, IsPath, paths, Route, route_of, routes_from, metres_of, within, precedes, ranking, count, shorter}
use Rattle.problem.specs.Pairs.{Pair, pair, no_route, shared_count, total, some_at, best}
use Rattle.problem.specs.Apart.{judges}
use Rattle.problem.proofs.ExposureLaws.{sharing_le}
use Rattle.problem.proofs.PathLaws.{paths_in, paths_out}
use Rattle.problem.proofs.RankingLaws.{key_total, precedes_weak, ranking_in, ranking_among, ranking_strict, ranking_beginning}
use Rattle.problem.proofs.CandidateLaws.{best_in, best_main}
use Rattle.problem.proofs.GrowthOrder.{grow_in_order, precedes_same_length}
use Rattle.problem.proofs.WindowLaws.{place_le}
use Rattle.keys.specs.Keys.{standby_key, pair_key, key_of, bound_for, pair_of}
use Rattle.keys.proofs.BoundLaws.{pair_of_key, bound_next}
use Rattle.keys.proofs.ChoiceLaws.{InReach, ranking_in_reach, pair_fits, pair_key_unique, key_of_unique, best_key_least, best_by_key}
use Rattle.net.specs.declared.Behind.{Behind}
use Rattle.net.specs.Search.{along, last_of, no_arc}
use Rattle.bars.specs.declared.Barred.{Barred}
use Rattle.bars.specs.Bars.{nothing_barred, barred_by, barred_by_list, start_barred, unbarred}
use Rattle.bars.proofs.BarsLaws.{Regular, unbarred_all, standbys_exactly}
use Rattle.standby.specs.Ahead.{quest, least_of}
use Rattle.mains.specs.Mains.{best_with}
use Rattle.mains.proofs.TryLaws.{Beside, beside_all, beside_made}
use Rattle.mains.proofs.TallyLaws.{end_of, end_exposure, listed_made, listed_path, listed_metres, better, KeyWith, best_with_lem}
use Rattle.sweep.proofs.WindowMains.{between, between_by, window_in_order}
use Rattle.find.specs.declared.Role.TheVariants.{Main, Standby}
use Rattle.find.specs.declared.Want.{Want}
use Rattle.find.specs.Find.{is_wanted, passes_by, NonePasses, First}
use Rattle.choose.specs.Choose.{OfStep}

-- a list of arcs of so many metres
abbrev pub as_long : List Arc → ℕ → List ℕ → Bool
as_long arcs metres ks = eqb (metres_of arcs ks) metres

-- ---- lists in order

split_order : {A : Type 0} {R : A → A → Type 0} (before : List A) {a : A} {after : List A} → Pairwise R (before ++ a ∷ after) → (x : A) → Memᴰ x after → R a x
split_order [] p x i = pairwise_head p x i
split_order (b ∷ before) p x i = split_order before (pairwise_tail p) x i

-- what stands before a member of a list in order stands in the part before it
before_in : {all : List (List ℕ)} (before after : List (List ℕ)) (ks : List ℕ) {ls : List ℕ} → Pairwise (λ (a b : List ℕ). lex_by ltb a b ≡ true) all → all ≡ before ++ ks ∷ after → Memᴰ ls all → lex_by ltb ls ks ≡ true → Memᴰ ls before
before_in {all} before after ks {ls} p e i h = go (Memᴰ.append_cases before (subst (λ (l : List (List ℕ)). Memᴰ ls l) e i))
  where
    rest : (ls ≡ ks) ⊎ Memᴰ ls after → Memᴰ ls before
    rest (inl q) = absurd (true≢false (sym h ∙ ap (λ (x : List ℕ). lex_by ltb x ks) q ∙ key_total.irrefl ks))
    rest (inr q) = absurd (true≢false (sym (key_total.trans ls ks ls h (split_order before (subst (λ (l : List (List ℕ)). Pairwise (λ (a b : List ℕ). lex_by ltb a b ≡ true) l) e p) ls q)) ∙ key_total.irrefl ls))

    go : Memᴰ ls before ⊎ Memᴰ ls (ks ∷ after) → Memᴰ ls before
    go (inl q) = q
    go (inr q) = rest (Memᴰ.cases_cons q)

module _ (only : Bool) (m : Mesh) (regular : Regular m) (near : m.reach ≤ most_reach) where
  abbrev routes : List Route
  routes = ranking m

  abbrev ok : Pair → Bool
  ok = judges m only

  low : InReach routes
  low = ranking_in_reach m near

  -- a listed route, as a path of its own arcs
  listed_here : {r : Route} → Memᴰ r routes → Memᴰ r.arcs (paths m)
  listed_here i = paths_in m.arcs regular.heads regular.source_node (listed_path m i)

  listed_route : {ks : List ℕ} → IsPath m.arcs m.source m.terminal ks → metres_of m.arcs ks ≤ m.reach → Memᴰ (route_of m.arcs ks) routes
  listed_route p h = ranking_in m regular.heads regular.source_node (record { path = p; within_reach = h })

  pub within_reach : {r : Route} → Memᴰ r routes → r.metres ≤ m.reach
  unfolding within
  within_reach {r} i = leb-true r.metres m.reach ((ranking_among m).0 i).1

  -- an earlier route of the same length stands earlier in depth-first order, among whatever is listed so
  earlier_listed : (off : Barred) (before after : List (List ℕ)) (ks : List ℕ) (r : Route) → unbarred m off ≡ before ++ ks ∷ after → Memᴰ r.arcs (unbarred m off) → r.metres ≡ metres_of m.arcs ks
      → precedes r (route_of m.arcs ks) ≡ true → Memᴰ r.arcs before
  unfolding route_of
  earlier_listed off before after ks r e i same h =
      before_in before after ks (grow_in_order m.arcs m.terminal _ (with off.nodes m.source) m.source) e i (sym (precedes_same_length r (route_of m.arcs ks) same) ∙ h)

  module _ {j top : ℕ} (o : OfStep ok routes top j) where
    some : some_at ok routes j ≡ true
    some = o.some

    abbrev pub b : Pair
    b = best ok routes j

    abbrev pub x : ℕ
    x = b.main.metres

    abbrev pub y : ℕ
    y = b.standby.metres

    abbrev pub n : ℕ
    n = shared_count b

    main_in_lem : Memᴰ b.main routes
    main_in_lem = best_main ok routes j some

    pub standby_in_lem : Memᴰ b.standby routes
    standby_in_lem = (best_in ok routes j some).standby_in_lem

    pub x_range : x ≤ most_reach
    x_range = low b.main main_in_lem

    pub y_range : y ≤ most_reach
    y_range = low b.standby standby_in_lem

    pub n_range : n ≤ hazards
    unfolding shared_count
    n_range = sharing_le b.main.exposure b.standby.exposure

    pub best_key : top ≡ pair_key n (x + y) x
    unfolding key_of total
    best_key = o.is

    abbrev pub key : ℕ
    key = standby_key n y

    abbrev pub wanted_as_main : Want
    wanted_as_main = record { metres = x; key = key; role = Main nothing_barred }

    -- ---- the test of a main: its best pair has the best pair's key

    module _ (main : Behind) (last : ℕ) (e : main.metres ≡ x) where
      abbrev off : Barred
      off = barred_by only m main.met last

      -- the best pair's key after it were tried next, and the least key of its standbys
      abbrev after : ℕ
      after = best_with m main off (top + 1)

      abbrev least : ℕ
      least = least_of (quest m main.exposure off) (key + 1)

      range : main.metres ≤ most_reach
      range = omega (arith, e, x_range)

      bound_is : key + 1 ≡ bound_for (top + 1) main.metres
      bound_is = sym (ap₂ (λ (k z : ℕ). bound_for (k + 1) z) best_key e ∙ bound_next n x y x_range y_range)

      abbrev BesideIt : Type 0
      BesideIt = Beside m main (top + 1) near range least after

      beside : BesideIt
      beside = beside_all m main (top + 1) near range off bound_is refl

      test_key : is_wanted only m wanted_as_main main last ≡ true → after ≡ top
      unfolding is_wanted
      test_key w =
          let k = eqb-true least key w in
          let below : least < bound_for (top + 1) main.metres = omega (arith, k, bound_is) in
          sym (beside_made m main (top + 1) near range beside below).is ∙ ap₂ pair_of e k ∙ pair_of_key x n y x_range y_range ∙ sym best_key

      key_test : after ≡ top → is_wanted only m wanted_as_main main last ≡ true
      unfolding is_wanted
      key_test w = eq-eqb _ key (go beside)
        where
          go : BesideIt → least ≡ key
          go (Beside.kept p q) = absurd (omega arith)
          go (Beside.better n' y' ns ys p q l) =
              let u = pair_key_unique n' (main.metres + y') main.metres (omega (arith, range, near)) (omega (arith, range)) n (x + y) x (omega (arith, x_range, y_range)) (omega (arith, x_range)) (sym q ∙ w ∙ best_key) in
              let same : y' ≡ y = omega (arith, u.1, e) in
              p ∙ ap₂ standby_key u.0 same

    -- whether a route is the wanted main, if it has its length
    abbrev passes_as_main : Route → Bool
    passes_as_main r = is_wanted only m wanted_as_main (end_of m r) (last_of no_arc r.arcs)

    long_as : {r : Route} → Memᴰ r routes → r.metres ≡ x → (end_of m r).metres ≡ x
    long_as i e = listed_metres m i ∙ e

    -- a main of that length that passes has a standby that makes the key
    passes_gives : {r : Route} → Memᴰ r routes → r.metres ≡ x → passes_as_main r ≡ true → (s : Route) × Memᴰ s routes × (ok (pair r s) ≡ true) × (key_of (pair r s) ≡ top)
    passes_gives {r} i e p = go (best_with_lem only m regular i (top + 1)).is_one
      where
        is : better only m (top + 1) r ≡ top
        is = test_key (end_of m r) (last_of no_arc r.arcs) (long_as i e) p

        go : (better only m (top + 1) r ≡ top + 1) ⊎ KeyWith only m r (better only m (top + 1) r) → (s : Route) × Memᴰ s routes × (ok (pair r s) ≡ true) × (key_of (pair r s) ≡ top)
        go (inl q) = absurd (omega (arith, is))
        go (inr g) = (g.by, g.listed, g.gives.0, sym g.gives.1 ∙ is)

    -- a main among the first j that has one passes
    tried_passes : {r s : Route} → Memᴰ r (take j routes) → Memᴰ s routes → ok (pair r s) ≡ true → r.metres ≡ x → key_of (pair r s) ≡ top → passes_as_main r ≡ true
    tried_passes {r} {s} p q a e k = key_test (end_of m r) (last_of no_arc r.arcs) (long_as i e) (go w.is_one)
      where
        i : Memᴰ r routes
        i = take_mem no_route j p

        found : ℕ
        found = better only m (top + 1) r

        w : FirstOf ◌≤◌ (top + 1) (KeyWith only m r) found
        w = best_with_lem only m regular i (top + 1)

        small : found ≤ top
        small = omega (arith, w.from_each (key_of (pair r s)) (record { by = s; listed = q; gives = (a, refl) }), k)

        go : (found ≡ top + 1) ⊎ KeyWith only m r found → found ≡ top
        go (inl z) = absurd (omega (arith, small))
        go (inr g) = omega (arith, small, g.gives.1, best_key_least ok routes low j p g.listed g.gives.0, o.is)

    -- ---- the main

    best_passes : passes_as_main b.main ≡ true
    best_passes = tried_passes (best_in ok routes j some).main_in_lem standby_in_lem (best_in ok routes j some).passes refl (sym o.is)

    -- some main passes
    pub main_somewhere : NonePasses only m wanted_as_main (unbarred m nothing_barred) → ⊥
    unfolding route_of
    main_somewhere none =
        let p = listed_made m main_in_lem in
        let e = none b.main.arcs (subst (λ (l : List (List ℕ)). Memᴰ b.main.arcs l) (sym (unbarred_all m regular)) (listed_here main_in_lem)) (sym (ap (λ (r : Route). r.metres) p)) in
        true≢false (sym best_passes ∙ e)

    long_test : (ks : List ℕ) → between x x (route_of m.arcs ks) ≡ as_long m.arcs x ks
    unfolding between route_of
    long_test ks = go (eqb (metres_of m.arcs ks) x) refl
      where
        go : (c : Bool) → eqb (metres_of m.arcs ks) x ≡ c → between x x (route_of m.arcs ks) ≡ as_long m.arcs x ks
        go true e = let q = eqb-true (metres_of m.arcs ks) x e in rw (le-leb x (metres_of m.arcs ks) (omega arith), le-leb (metres_of m.arcs ks) x (omega arith), e)
        go false e = other (ltb (metres_of m.arcs ks) x) refl
          where
            other : (c : Bool) → ltb (metres_of m.arcs ks) x ≡ c → between x x (route_of m.arcs ks) ≡ as_long m.arcs x ks
            other true q = rw (e, lt-leb x (metres_of m.arcs ks) (ltb-true _ _ q))
            other false q =
                let no : metres_of m.arcs ks ≡ x → ⊥ = eqb-false (metres_of m.arcs ks) x e in
                let l = ltb-false (metres_of m.arcs ks) x q in
                rw (e, le-leb x (metres_of m.arcs ks) l, lt-leb (metres_of m.arcs ks) x (omega (arith, no)))

    -- of a length, as paths and as routes
    long_count : (l : List (List ℕ)) → length (keep (between x x) (map (route_of m.arcs) l)) ≡ length (keep (as_long m.arcs x) l)
    unfolding keep
    long_count [] = refl
    long_count (ks ∷ l) = omega (arith, count_cons (between x x) (route_of m.arcs ks) (map (route_of m.arcs) l), count_cons (as_long m.arcs x) ks l, long_count l, ap digit (long_test ks))

    module _ (f : First only m wanted_as_main (unbarred m nothing_barred)) where
      abbrev pub main : Route
      main = route_of m.arcs f.ks

      all : paths m ≡ f.before ++ f.ks ∷ f.after
      all = sym (unbarred_all m regular) ∙ f.place

      main_path : IsPath m.arcs m.source m.terminal f.ks
      main_path = paths_out m.arcs (subst (λ (l : List (List ℕ)). Memᴰ f.ks l) (sym all) (Memᴰ.append_right f.before (Memᴰ.head refl)))

      metres_is : main.metres ≡ x
      unfolding route_of
      metres_is = f.length_is

      listed : Memᴰ main routes
      listed = listed_route main_path (omega (arith, f.length_is, within_reach main_in_lem))

      passes : passes_as_main main ≡ true
      unfolding route_of
      passes = f.passes

      -- a route of the same length that passes is not earlier
      not_earlier : {r : Route} → Memᴰ r routes → r.metres ≡ x → passes_as_main r ≡ true → precedes r main ≡ false
      unfolding route_of
      not_earlier {r} i e p = go (precedes r main) refl
        where
          go : (c : Bool) → precedes r main ≡ c → precedes r main ≡ false
          go false h = h
          go true h =
              let here = subst (λ (l : List (List ℕ)). Memᴰ r.arcs l) (sym (unbarred_all m regular)) (listed_here i) in
              let l = earlier_listed nothing_barred f.before f.after f.ks r f.place here (e ∙ sym f.length_is) h in
              let z = f.none_before r.arcs l (sym (ap (λ (q : Route). q.metres) (listed_made m i)) ∙ e) in
              absurd (true≢false (sym p ∙ z))

      -- whatever is not after the main is among the first j
      tried : {r : Route} → Memᴰ r routes → precedes main r ≡ false → Memᴰ r (take j routes)
      tried {r} i h =
          let early = take_place no_route j routes (best_in ok routes j some).main_in_lem in
          let pb : Place no_route b.main routes = record { at = early.at; inside = early.inside; is = early.is } in
          let pm = mem_place no_route listed in
          let pr = mem_place no_route i in
          let before_best = place_le routes (ranking_strict m) pm pb (not_earlier main_in_lem refl best_passes) in
          let before_main = place_le routes (ranking_strict m) pr pm h in
          Memᴰ.cast pr.is (get_or_take_mem no_route j routes pr.at (omega (arith, before_best, before_main, early.early)) pr.inside)

      main_first : (r s : Route) → Memᴰ r routes → Memᴰ s routes → ok (pair r s) ≡ true → r.metres ≡ main.metres → key_of (pair r s) ≡ top → precedes r main ≡ false
      main_first r s i q a e k = go (precedes r main) refl
        where
          go : (c : Bool) → precedes r main ≡ c → precedes r main ≡ false
          go false h = h
          go true h = not_earlier i (e ∙ metres_is) (tried_passes (tried i (weak_asym precedes_weak r main h)) q a (e ∙ metres_is) k)

      -- ---- the standby

      -- what the main bars
      abbrev pub off_main : Barred
      off_main = barred_by_list only m f.ks

      abbrev pub wanted_as_standby : Want
      wanted_as_standby = record { metres = y; key = key; role = Standby main.exposure off_main }

      made : (r : Route) → r.metres ≡ y → key_of (pair main r) ≡ pair_key (shared_count (pair main r)) (x + y) x
      unfolding key_of total
      made r e = ap₂ (λ (u v : ℕ). pair_key (shared_count (pair main r)) (u + v) u) metres_is e

      same_shared : (c d z : ℕ) → standby_key c z ≡ standby_key d z → c ≡ d
      unfolding standby_key
      same_shared c d z e = omega arith

      -- the standbys of the main that are judged
      standbys : (ls : List ℕ) → (Memᴰ ls (unbarred m off_main) × (last_of no_arc ls ≡ off_main.last → ⊥)) ↔ (IsPath m.arcs m.source m.terminal ls × (ok (pair main (route_of m.arcs ls)) ≡ true))
      standbys = standbys_exactly only m regular main_path

      -- whether a list is the wanted standby, if it has its length
      abbrev passes_as_standby : List ℕ → Bool
      passes_as_standby ls = passes_by only m wanted_as_standby ls

      standby_exposure : (ls : List ℕ) → sharing main.exposure (along m.arcs (start_barred m off_main) ls).exposure ≡ shared_count (pair main (route_of m.arcs ls))
      unfolding shared_count
      standby_exposure ls = ap (sharing main.exposure) (end_exposure m off_main ls)

      -- a list of the standby's length passes exactly where it makes the key with the main, and does not end with what is barred
      standby_made : (ls : List ℕ) → metres_of m.arcs ls ≡ y → passes_as_standby ls ≡ true → (last_of no_arc ls ≡ off_main.last → ⊥) × (key_of (pair main (route_of m.arcs ls)) ≡ top)
      unfolding is_wanted route_of
      standby_made ls e p =
          let q = both (not (eqb (last_of no_arc ls) off_main.last)) _ p in
          let c = same_shared _ n y (ap (λ (z : ℕ). standby_key z y) (sym (standby_exposure ls)) ∙ eqb-true _ key q.1) in
          (eqb-false _ _ (not-true _ q.0), made (route_of m.arcs ls) e ∙ ap (λ (z : ℕ). pair_key z (x + y) x) c ∙ sym best_key)

      made_standby : (ls : List ℕ) → metres_of m.arcs ls ≡ y → (last_of no_arc ls ≡ off_main.last → ⊥) → key_of (pair main (route_of m.arcs ls)) ≡ top → passes_as_standby ls ≡ true
      unfolding is_wanted route_of
      made_standby ls e ne k =
          let r = route_of m.arcs ls in
          let u = pair_key_unique (shared_count (pair main r)) (x + y) x (omega (arith, x_range, y_range)) (omega (arith, x_range)) n (x + y) x (omega (arith, x_range, y_range)) (omega (arith, x_range)) (sym (made r e) ∙ k ∙ best_key) in
          rw (ne_eqb _ _ ne) (eq-eqb _ key (ap (λ (z : ℕ). standby_key z y) (standby_exposure ls ∙ u.0)))

      -- the standby of a pair with that key has that length
      key_metres : {r : Route} → Memᴰ r routes → key_of (pair main r) ≡ top → r.metres ≡ y
      unfolding total
      key_metres {r} i k =
          let u = key_of_unique (pair main r) b (pair_fits routes low listed i) (pair_fits routes low main_in_lem standby_in_lem) (k ∙ o.is) in
          omega (arith, u.1, metres_is)

      -- a listed route that makes the key with the main passes
      record Passes (s : Route) : Type 0 where
        here : Memᴰ s.arcs (unbarred m off_main)
        long : metres_of m.arcs s.arcs ≡ y
        passed : passes_as_standby s.arcs ≡ true

      route_passes : {s : Route} → Memᴰ s routes → ok (pair main s) ≡ true → key_of (pair main s) ≡ top → Passes s
      unfolding route_of
      route_passes {s} i a k =
          let is = listed_made m i in
          let l = (standbys s.arcs).1 (listed_path m i, subst (λ (r : Route). ok (pair main r) ≡ true) is a) in
          let e = sym (ap (λ (r : Route). r.metres) is) ∙ key_metres i k in
          record { here = l.0; long = e; passed = made_standby s.arcs e l.1 (subst (λ (r : Route). key_of (pair main r) ≡ top) is k) }

      pub standby_somewhere : NonePasses only m wanted_as_standby (unbarred m off_main) → ⊥
      standby_somewhere none =
          let g = passes_gives listed metres_is passes in
          let p = route_passes g.1 g.2 g.3 in
          true≢false (sym p.passed ∙ none g.0.arcs p.here p.long)

      -- the two first ones are the best pair
      pub best_is_pair : (g : First only m wanted_as_standby (unbarred m off_main)) → best ok routes j ≡ pair main (route_of m.arcs g.ks)
      unfolding route_of
      best_is_pair g =
          best_by_key ok routes low (ranking_strict m) j some
          (record { main_in_lem = listed; standby_in_lem = r_in; passes = is_standby.1; main_first = λ m' s' i q p e k. main_first m' s' i q p e (k ∙ g_made.1); standby_first = λ s' i p e k. first s' i p e k })
          (g_made.1 ∙ o.is)
        where
          r : Route
          r = route_of m.arcs g.ks

          g_made : (last_of no_arc g.ks ≡ off_main.last → ⊥) × (key_of (pair main r) ≡ top)
          g_made = standby_made g.ks g.length_is g.passes

          is_standby : IsPath m.arcs m.source m.terminal g.ks × (ok (pair main r) ≡ true)
          is_standby = (standbys g.ks).0 (subst (λ (l : List (List ℕ)). Memᴰ g.ks l) (sym g.place) (Memᴰ.append_right g.before (Memᴰ.head refl)), g_made.0)

          r_in : Memᴰ r routes
          r_in = listed_route is_standby.0 (omega (arith, g.length_is, within_reach standby_in_lem))

          first : (s : Route) → Memᴰ s routes → ok (pair main s) ≡ true → s.metres ≡ r.metres → key_of (pair main s) ≡ key_of (pair main r) → precedes s r ≡ false
          first s i a e k = go (precedes s r) refl
            where
              go : (c : Bool) → precedes s r ≡ c → precedes s r ≡ false
              go false h = h
              go true h =
                  let p = route_passes i a (k ∙ g_made.1) in
                  let l = earlier_listed off_main g.before g.after g.ks s g.place p.here e h in
                  absurd (true≢false (sym p.passed ∙ g.none_before s.arcs l p.long))

      -- ---- the main's place

      -- in the ranking it stands behind the shorter routes and those of its length that came before it in depth-first order
      abbrev pub place : ℕ
      place = count (shorter x) routes + length (keep (as_long m.arcs x) f.before)

      abbrev earlier : List Route
      earlier = keep (between x x) (map (route_of m.arcs) f.before)

      abbrev later : List Route
      later = keep (between x x) (map (route_of m.arcs) f.after)

      block : keep (within x) routes ≡ keep (shorter x) routes ++ (earlier ++ main ∷ later)
      unfolding routes_from
      block =
          window_in_order m (record { lo = x; hi = x; cap = 0 }) (omega arith) (within_reach main_in_lem) refl
          ∙ ap (λ (l : List Route). keep (shorter x) routes ++ l)
          (ap (λ (l : List (List ℕ)). keep (between x x) (map (route_of m.arcs) l)) all
          ∙ ap (keep (between x x)) (map-append (route_of m.arcs) f.before (f.ks ∷ f.after))
          ∙ keep_append (between x x) (map (route_of m.arcs) f.before) (main ∷ map (route_of m.arcs) f.after)
          ∙ ap (λ (l : List Route). earlier ++ l) (keep_first (between x x) main (map (route_of m.arcs) f.after) (between_by x x main (omega (arith, metres_is)) (omega (arith, metres_is)))))

      before_count : length earlier ≡ length (keep (as_long m.arcs x) f.before)
      before_count = long_count f.before

      pub main_place : get_or routes place no_route ≡ main
      main_place =
          let l = keep (within x) routes in
          let c = simp length-append at (ap length block) in
          sym (get_or-take (length l) routes place no_route (omega (arith, c, before_count)))
          ∙ ap (λ (q : List Route). get_or q place no_route) (sym (ranking_beginning m x) ∙ block)
          ∙ ap (λ (k : ℕ). get_or (keep (shorter x) routes ++ (earlier ++ main ∷ later)) (count (shorter x) routes + k) no_route) (sym before_count)
          ∙ get_or-append-add (keep (shorter x) routes) (earlier ++ main ∷ later) (length earlier) no_route
          ∙ get_or-append_seam earlier main later no_route

      place_inside : place < length routes
      place_inside = omega (arith, simp length-append at (ap length block), before_count, length_keep (within x) routes)

      pub main_early : place < j
      main_early =
          let e = take_place no_route j routes (tried listed (precedes_weak.irrefl main)) in
          omega (arith, e.early, place_unique precedes precedes_weak no_route routes (ranking_strict m) place e.at place_inside e.inside (main_place ∙ e.is))
