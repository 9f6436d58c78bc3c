-- A sweep is one fold over the mains of its window, up to the cap. Assumes nothing.
use mathlib.Core.Path.{◌≡◌, refl, sym, ap, ◌∙◌}
use mathlib.Core.Bool.{Bool, true, false}
use mathlib.Core.List.{List, map, foldl-map}
use Prim.Native.Nat.{ℕ, ◌+◌, ◌-◌, ◌≤◌, ◌<◌, max}
use native.Mathlib.Omega.{arith}
use lib.Dec.{ltb}
use lib.ListN.{length, take, length-take}
use lib.Seq.{take_all}
use borrow.Author.Tests.{le-leb, lt-leb, ltb-true, ltb-false}
use Rattle.std.specs.Prelude.{if◌then◌else◌}
use Rattle.laws.proofs.FoldLaws.{fold_keep}
use Rattle.problem.specs.Routes.{Mesh, paths, Route, route_of, routes_from, within, ranking, count, shorter}
use Rattle.problem.proofs.GrowthLaws.{fold_same}
use Rattle.net.specs.Search.{start, along, visit}
use Rattle.tally.specs.declared.Tally.{Tally}
use Rattle.mains.proofs.TallyLaws.{main_metres_lem, tried_route, after, best_first, try, tries}
use Rattle.sweep.specs.declared.Window.{Window}
use Rattle.sweep.specs.Sweep.{ended, met, swept_tally}
use Rattle.sweep.proofs.WindowMains.{between, mains, window_count}

module _ (only : Bool) (m : Mesh) (w : Window) where
  -- a route's end tries it as a main where its length lies in the window
  met_is : (t : Tally) (ks : List ℕ) → visit m.arcs (met only m w) (start m) t ks ≡ (if between w.lo w.hi (route_of m.arcs ks) then try only m w.cap t (route_of m.arcs ks) else t)
  unfolding met ended between
  met_is t ks = go (ltb length_of w.lo) refl (ltb w.hi length_of) refl
    where
      length_of : ℕ
      length_of = (route_of m.arcs ks).metres

      same : (along m.arcs (start m) ks).metres ≡ (route_of m.arcs ks).metres
      same = main_metres_lem m ks

      short : {a : Bool} → ltb length_of w.lo ≡ a → ltb (along m.arcs (start m) ks).metres w.lo ≡ a
      short p = ap (λ (x : ℕ). ltb x w.lo) same ∙ p

      far : {a : Bool} → ltb w.hi length_of ≡ a → ltb w.hi (along m.arcs (start m) ks).metres ≡ a
      far q = ap (ltb w.hi) same ∙ q

      go : (a : Bool) → ltb length_of w.lo ≡ a → (b : Bool) → ltb w.hi length_of ≡ b
          → visit m.arcs (met only m w) (start m) t ks ≡ (if between w.lo w.hi (route_of m.arcs ks) then try only m w.cap t (route_of m.arcs ks) else t)
      go true p true q = rw (far q, lt-leb w.lo length_of (ltb-true _ _ p))
      go true p false q = rw (far q, short p, lt-leb w.lo length_of (ltb-true _ _ p))
      go false p true q = rw (far q, le-leb w.lo length_of (ltb-false _ _ p), lt-leb length_of w.hi (ltb-true _ _ q))
      go false p false q = rw (far q, short p, le-leb w.lo length_of (ltb-false _ _ p), le-leb length_of w.hi (ltb-false _ _ q)) (tried_route only m w.cap t ks)

  swept_is : (t : Tally) → t.over ≡ false → swept_tally only m w t ≡ after only m (ltb (w.cap - t.ranked) (length (mains m w))) t (take (w.cap - t.ranked) (mains m w))
  unfolding routes_from
  swept_is t o =
      fold_same _ _ t (paths m) (λ u ks x. met_is u ks)
      ∙ sym (foldl-map (route_of m.arcs) (λ (u : Tally) (r : Route). if between w.lo w.hi r then try only m w.cap u r else u) (paths m) t)
      ∙ fold_keep (between w.lo w.hi) (try only m w.cap) t (map (route_of m.arcs) (paths m)) ∙ tries only m w.cap t (mains m w) o

  module _ (t r : Tally) (o : t.over ≡ false) (e : r ≡ swept_tally only m w t) where
    abbrev room : ℕ
    room = w.cap - t.ranked

    abbrev ms : List Route
    ms = mains m w

    is : r ≡ after only m (ltb room (length ms)) t (take room ms)
    is = e ∙ swept_is t o

    -- a sweep that did not give up took all mains
    pub swept_all : r.over ≡ false → r ≡ after only m false t ms
    unfolding after
    swept_all f =
        let all : ltb room (length ms) ≡ false = sym (ap (λ (u : Tally). u.over) is) ∙ f in
        is ∙ rw (all, take_all room ms (ltb-false room (length ms) all))

    -- one that gave up took those that there was room for
    pub swept_some : r.over ≡ true → (room < length ms) × (r ≡ after only m true t (take room ms))
    unfolding after
    swept_some f =
        let more : ltb room (length ms) ≡ true = sym (ap (λ (u : Tally). u.over) is) ∙ f in
        (ltb-true room (length ms) more, is ∙ rw more)

    pub swept_cap : r.ranked ≤ max w.cap t.ranked
    unfolding after
    swept_cap = omega (arith, ap (λ (u : Tally). u.ranked) is, length-take room ms)

    -- the best key only falls: where it is 0 a sweep only counts
    pub swept_best : r.best ≤ t.best
    unfolding after
    swept_best = rw (ap (λ (u : Tally). u.best) is) (best_first only m t.best (take room ms)).from_start

    -- ---- what is counted

    module _ (wide : w.lo ≤ w.hi) (near : w.hi ≤ m.reach) where
      pub swept_count : r.over ≡ false → r.ranked + count (shorter w.lo) (ranking m) ≡ t.ranked + count (within w.hi) (ranking m)
      unfolding after
      swept_count f = omega (arith, ap (λ (u : Tally). u.ranked) (swept_all f), window_count m w wide near)

      pub swept_over : r.over ≡ true → w.cap + count (shorter w.lo) (ranking m) < t.ranked + count (within w.hi) (ranking m)
      swept_over f = omega (arith, (swept_some f).0, window_count m w wide near)
