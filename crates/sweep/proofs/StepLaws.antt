-- After a sweep from the tally of all routes shorter than its window the tally is that of all routes up to the window's end. A sweep of one length that gave up
-- took the next routes of the ranking, up to the cap. Assumes nothing.
use mathlib.Core.Path.{◌≡◌, sym, ap, ◌∙◌}
use mathlib.Core.Bool.{Bool, false, true}
use mathlib.Core.List.{List, ◌++◌}
use Prim.Native.Nat.{ℕ, ◌+◌, ◌-◌, ◌≤◌, ◌<◌}
use native.Mathlib.Omega.{arith}
use lib.ListN.{length, take, length-append}
use lib.Seq.{take-take, take-append-add}
use Rattle.laws.specs.Choosing.{keep}
use Rattle.problem.specs.Table.{most_reach}
use Rattle.problem.specs.Routes.{Mesh, Route, within, ranking, count, shorter}
use Rattle.problem.specs.Apart.{judges}
use Rattle.problem.proofs.RankingLaws.{ranking_beginning}
use Rattle.bars.proofs.BarsLaws.{Regular}
use Rattle.tally.specs.declared.Tally.{Tally}
use Rattle.mains.specs.Mains.{no_tally, Stepped}
use Rattle.mains.proofs.TallyLaws.{after, after_members, after_append, tallied, tallied_stepped, stepped_tallied}
use Rattle.sweep.specs.declared.Window.{Window}
use Rattle.sweep.specs.Sweep.{swept_tally}
use Rattle.sweep.proofs.WindowMains.{mains, shorter_beginning, within_inside, window_count, window_members, window_in_order}
use Rattle.sweep.proofs.SweptLaws.{swept_all, swept_some, swept_cap, swept_over}

module _ (only : Bool) (m : Mesh) (regular : Regular m) (low : m.reach ≤ most_reach) (w : Window) (wide : w.lo ≤ w.hi) (near : w.hi ≤ m.reach) (t r : Tally)
    (s : Stepped (judges m only) (ranking m) (count (shorter w.lo) (ranking m)) t) (e : r ≡ swept_tally only m w t) where
  abbrev before : List Route
  before = keep (shorter w.lo) (ranking m)

  abbrev ms : List Route
  ms = mains m w

  from_before : t ≡ tallied only m regular low before
  from_before = stepped_tallied only m regular low _ s ∙ ap (tallied only m regular low) (sym (shorter_beginning m w.lo))

  pub stepped_window : r.over ≡ false → Stepped (judges m only) (ranking m) (count (within w.hi) (ranking m)) r
  stepped_window f = rw (joined ∙ same) (tallied_stepped only m regular low _ (within_inside m w.hi))
    where
      joined : r ≡ tallied only m regular low (before ++ ms)
      joined =
          swept_all only m w t r s.is_not_over e f
          ∙ ap (λ (u : Tally). after only m false u ms) from_before ∙ after_append only m false false no_tally before ms

      same : tallied only m regular low (before ++ ms) ≡ tallied only m regular low (take (count (within w.hi) (ranking m)) (ranking m))
      same =
          after_members only m no_tally (before ++ ms) (keep (within w.hi) (ranking m))
          (simp length-append (sym (window_count m w wide near))) (window_members m w wide near)
          ∙ ap (tallied only m regular low) (ranking_beginning m w.hi)

  -- the cap was enough, or it was not
  pub stepped_cap : t.ranked ≤ w.cap → r.over ≡ false → count (within w.hi) (ranking m) ≤ w.cap
  stepped_cap h f = omega (arith, (stepped_window f).ranked_is, swept_cap only m w t r s.is_not_over e)

  pub over_some : r.over ≡ true → w.cap < count (within w.hi) (ranking m)
  over_some f = omega (arith, s.ranked_is, swept_over only m w t r s.is_not_over e wide near f)

  -- a sweep of one length that gave up
  pub stepped_stopped : w.hi ≡ w.lo → t.ranked ≤ w.cap → r.over ≡ true → Stepped (judges m only) (ranking m) w.cap (record { ranked = r.ranked; last = r.last; best = r.best; over = false })
  unfolding after
  stepped_stopped one h f =
      rw (stopped ∙ ap (tallied only m regular low) (sym first)) (tallied_stepped only m regular low w.cap (omega (arith, over_some f, within_inside m w.hi)))
    where
      room : ℕ
      room = w.cap - t.ranked

      cap_is : w.cap ≡ length before + room
      cap_is = omega (arith, s.ranked_is)

      first : take w.cap (ranking m) ≡ before ++ take room ms
      first =
          sym (take-take w.cap (count (within w.hi) (ranking m)) (ranking m) (omega (arith, over_some f)))
          ∙ ap (take w.cap) (sym (ranking_beginning m w.hi) ∙ window_in_order m w wide near one)
          ∙ ap (λ (n : ℕ). take n (before ++ ms)) cap_is ∙ take-append-add before ms room

      stopped : record { ranked = r.ranked; last = r.last; best = r.best; over = false } ≡ tallied only m regular low (before ++ take room ms)
      stopped =
          ap (λ (u : Tally). record { ranked = u.ranked; last = u.last; best = u.best; over = false }) (swept_some only m w t r s.is_not_over e f).1
          ∙ ap (λ (u : Tally). after only m false u (take room ms)) from_before
          ∙ after_append only m false false no_tally before (take room ms)
