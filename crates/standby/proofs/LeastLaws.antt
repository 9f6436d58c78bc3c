-- Where a main's best standby has a key, no way, loops allowed, makes a smaller one: a way holds a route, which is no longer, shares no more and keeps off what the way
-- does, and every route that keeps off what is barred is offered to the search. Assumes nothing.
use mathlib.Core.Path.{◌≡◌, ap}
use mathlib.Core.Logic.{◌⊎◌, inl, inr}
use mathlib.Core.List.Memᴰ
use mathlib.Core.List.{List, [], ◌∷◌, foldl, Memᴰ}
use Prim.Native.Nat.{ℕ, ◌+◌, ◌≤◌}
use native.Mathlib.Omega.{arith}
use borrow.Author.Tests.{ne_eqb, le-leb}
use Rattle.problem.specs.declared.Arc.{Arc}
use Rattle.problem.specs.declared.Exposure.{Exposure}
use Rattle.problem.specs.Exposures.{to_nothing, joined}
use Rattle.problem.specs.Routes.{Mesh, metres_of, exposure_of, Way}
use Rattle.problem.proofs.ExposureLaws.{exposed_joined, sharing_mono}
use Rattle.problem.proofs.PathLaws.{LowHeads}
use Rattle.problem.proofs.WayLaws.{part_metres, part_exposure, way_held}
use Rattle.keys.proofs.BoundLaws.{standby_key_mono}
use Rattle.net.specs.declared.Behind.{Behind}
use Rattle.net.specs.Search.{last_of, no_arc, visit}
use Rattle.net.proofs.SearchLaws.{along_metres, along_exposure}
use Rattle.bars.specs.declared.Barred.{Barred}
use Rattle.bars.specs.Bars.{start_barred, unbarred, Avoids}
use Rattle.standby.specs.Standby.{offered}
use Rattle.standby.specs.Ahead.{Quest, quest, key_by, Onward, NoneBelow, least_of}
use Rattle.standby.proofs.AvoidLaws.{avoids_part, avoids_last, avoids_listed}
use Rattle.standby.proofs.AheadLaws.{fold_less}

module _ (q : Quest) (b : Behind) where
  abbrev arcs : List Arc
  arcs = q.mesh.arcs

  abbrev offers : ℕ → List ℕ → ℕ
  offers = visit arcs (offered q.mesh q.main q.off.last) b

  -- what is offered within reach, and does not end with the barred arc, is not above the least
  offer_least : (bound : ℕ) (ks : List ℕ) → (last_of no_arc ks ≡ q.off.last → ⊥) → b.metres + metres_of arcs ks ≤ q.mesh.reach → offers bound ks ≤ key_by q b.metres b.exposure ks
  unfolding offered
  offer_least bound ks ne h =
      rw (ne_eqb (last_of no_arc ks) q.off.last ne, along_exposure arcs b ks, along_metres arcs b ks, le-leb (b.metres + metres_of arcs ks) q.mesh.reach h, offered) (omega arith)

  fold_least : (bound : ℕ) (l : List (List ℕ)) {ks : List ℕ} → Memᴰ ks l → (last_of no_arc ks ≡ q.off.last → ⊥) → b.metres + metres_of arcs ks ≤ q.mesh.reach → foldl offers bound l ≤ key_by q b.metres b.exposure ks
  fold_least bound [] i ne h = absurd (Memᴰ.not-nil i)
  fold_least bound (js ∷ l) {ks} i ne h = go (Memᴰ.cases_cons i) (λ j. fold_least (offers bound js) l j ne h)
    where
      go : (ks ≡ js) ⊎ Memᴰ ks l → (Memᴰ ks l → foldl offers (offers bound js) l ≤ key_by q b.metres b.exposure ks) → foldl offers bound (js ∷ l) ≤ key_by q b.metres b.exposure ks
      go (inl e) f = omega (arith, fold_less q b (offers bound js) l, offer_least bound ks ne h, ap (offers bound) e)
      go (inr j) f = f j

module _ (m : Mesh) (low : LowHeads m.arcs) (differ : m.source ≡ m.terminal → ⊥) (main : Exposure) (off : Barred) where
  -- what leads from end to end has a last arc
  last_free : (ks : List ℕ) → Way m.arcs m.source m.terminal ks → Avoids m off ks → last_of no_arc ks ≡ off.last → ⊥
  unfolding last_of
  last_free [] (Way.there e) o = absurd (differ e)
  last_free (k ∷ ks) w o = avoids_last m off k ks w o

  pub least_below : (bound : ℕ) {key : ℕ} → least_of (quest m main off) bound ≡ key → NoneBelow (quest m main off) key
  unfolding least_of
  least_below bound {key} e = record { ahead = λ n. record { above = λ ks o l. over ks o } }
    where
      over : (ks : List ℕ) → Onward (quest m main off) m.source 0 ks → key ≤ key_by (quest m main off) 0 to_nothing ks
      over ks o =
          let h = way_held m.arcs m.terminal o.way in
          let keeps_off = avoids_part m off h.part o.avoids in
          let no_longer = part_metres m.arcs h.part in
          let short = exposure_of m.arcs h.list in
          let long = exposure_of m.arcs ks in
          let less = fold_least (quest m main off) (start_barred m off) bound (unbarred m off) (avoids_listed m off low h.path keeps_off) (last_free h.list h.path.way keeps_off)
          (omega (arith, no_longer, o.within_reach)) in
          let shares = sharing_mono main (joined to_nothing short) main (joined to_nothing long) (λ r. omega arith) (λ r. simp exposed_joined (omega (arith, part_exposure m.arcs h.part r))) in
          omega (arith, e, less, standby_key_mono {m = 0 + metres_of m.arcs h.list} {m' = 0 + metres_of m.arcs ks} shares (omega (arith, no_longer)))
