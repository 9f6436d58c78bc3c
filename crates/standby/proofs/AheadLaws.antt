-- What is ahead of a node (`Ahead`): with more behind it, over an arc, over one arc more; and what it says of all standbys. Assumes nothing.
use mathlib.Core.Path.{◌≡◌, refl, sym, ap, ap₂, subst}
use mathlib.Core.Bool.{Bool, true, false}
use mathlib.Core.List.{List, [], ◌∷◌, foldl, Memᴰ}
use Prim.Native.Nat.{ℕ, suc, ◌+◌, ◌≤◌, ◌<◌, min}
use native.Mathlib.Nat.{add_assoc}
use native.Mathlib.Omega.{arith}
use lib.Dec.{eqb, leb}
use lib.ListN.{length}
use borrow.Author.Tests.{eqb-false, leb-true}
use Rattle.laws.specs.Sets.{bit}
use Rattle.laws.proofs.SetLaws.{bit_with}
use Rattle.problem.specs.declared.Arc.{Arc}
use Rattle.problem.specs.declared.Exposure.{Exposure}
use Rattle.problem.specs.Exposures.{to_nothing, of_arc, joined, common, sharing}
use Rattle.problem.specs.Routes.{Mesh, arc_at, metres_of, exposure_of, Way}
use Rattle.problem.proofs.ExposureLaws.{Inside, joined_assoc, sharing_mono, sharing_part}
use Rattle.problem.proofs.RouteLaws.{grow_out, grown_way}
use Rattle.keys.specs.Keys.{standby_key}
use Rattle.keys.proofs.BoundLaws.{standby_key_mono}
use Rattle.net.specs.declared.Behind.{Behind}
use Rattle.net.specs.Search.{along, last_of, no_arc, visit, onward, searched}
use Rattle.net.proofs.SearchLaws.{along_metres, along_exposure}
use Rattle.bars.specs.declared.Barred.{Barred}
use Rattle.bars.specs.Bars.{start_barred, unbarred, Avoids}
use Rattle.standby.specs.Standby.{offered}
use Rattle.standby.specs.Ahead.{Quest, quest, key_by, Ahead, NoneBelow, least_of}
use Rattle.standby.proofs.AvoidLaws.{Milder, avoids_milder, grown_avoids}

-- ---- ahead

module _ (q : Quest) where
  abbrev arcs : List Arc
  arcs = q.mesh.arcs

  -- nothing is ahead over no arc, but at the terminal
  pub ahead_none : {x v metres : ℕ} {e : Exposure} → (v ≡ q.mesh.terminal → ⊥) → Ahead q 0 x v metres e
  ahead_none {x} {v} {metres} {e} ne = record { above = λ ks o h. go ks o.way h }
    where
      go : (ks : List ℕ) → Way arcs v q.mesh.terminal ks → length ks ≤ 0 → x ≤ key_by q metres e ks
      go [] (Way.there at) h = absurd (ne at)
      go (k ∷ ks) w h = absurd (omega arith)

  pub ahead_fewer : {n k x v metres : ℕ} {e : Exposure} → Ahead q n x v metres e → k ≤ n → Ahead q k x v metres e
  ahead_fewer a s = record { above = λ ks o h. a.above ks o (omega arith) }

  -- as far and farther, exposed to all that the main shares of it
  pub ahead_more : {n x v metres far : ℕ} (e f : Exposure) → Ahead q n x v metres e → metres ≤ far → Inside (common q.main e) f → Ahead q n x v far f
  ahead_more {n} {x} {v} {metres} {far} e f a l i = record {
    above = λ ks o h.
        omega (
          arith,
          a.above ks (record { way = o.way; avoids = o.avoids; within_reach = omega (arith, o.within_reach) }) h,
          standby_key_mono {m = metres + metres_of arcs ks} {m' = far + metres_of arcs ks} (sharing_part q.main e f (exposure_of arcs ks) i) (omega arith),
        );
  }

  -- all that is ahead is past the reach
  pub ahead_far : {n x v metres : ℕ} {e : Exposure} (lower : ℕ) → ((ks : List ℕ) → Way arcs v q.mesh.terminal ks → lower ≤ metres_of arcs ks) → q.mesh.reach < metres + lower
      → Ahead q n x v metres e
  ahead_far lower low far = record { above = λ ks o h. absurd (omega (arith, low ks o.way, o.within_reach)) }

  -- all that is ahead is as long and shares as many
  pub ahead_no_better : {n x v metres : ℕ} {e : Exposure} (lower shared : ℕ) → ((ks : List ℕ) → Way arcs v q.mesh.terminal ks → lower ≤ metres_of arcs ks)
      → ((ks : List ℕ) → Way arcs v q.mesh.terminal ks → shared ≤ sharing q.main (joined e (exposure_of arcs ks)))
      → x ≤ standby_key shared (metres + lower) → Ahead q n x v metres e
  ahead_no_better {metres = metres} lower shared low least h = record {
    above = λ ks o l.
        omega (arith, h, standby_key_mono {m = metres + lower} {m' = metres + metres_of arcs ks} (least ks o.way) (omega (arith, low ks o.way)));
  }

  -- one arc more
  pub ahead_step : {n x v metres : ℕ} {e : Exposure} → (v ≡ q.mesh.terminal → ⊥)
      → ((k : ℕ) → k < length arcs → (arc_at arcs k).tail ≡ v → bit q.off.nodes (arc_at arcs k).head ≡ 0 → ((arc_at arcs k).head ≡ q.mesh.terminal → k ≡ q.off.last → ⊥)
      → Ahead q n x (arc_at arcs k).head (metres + (arc_at arcs k).metres) (joined e (of_arc (arc_at arcs k))))
      → Ahead q (suc n) x v metres e
  unfolding metres_of exposure_of
  ahead_step {n} {x} {v} {metres} {e} ne f = record { above = λ ks o h. go ks o.way o.avoids o.within_reach h }
    where
      go : (ks : List ℕ) → Way arcs v q.mesh.terminal ks → Avoids q.mesh q.off ks → metres + metres_of arcs ks ≤ q.mesh.reach → length ks ≤ suc n → x ≤ key_by q metres e ks
      go [] (Way.there at) o r h = absurd (ne at)
      go (k ∷ ks) (Way.over i t w) (Avoids.one p z o) r h =
          rw (← add_assoc, ← joined_assoc) ((f k i t p z).above ks (record { way = w; avoids = o; within_reach = omega arith }) (omega arith))

  -- ---- all standbys

  abbrev offers : Behind → ℕ → List ℕ → ℕ
  offers b = visit arcs (offered q.mesh q.main q.off.last) b

  -- an offer takes the smaller
  offer_cases : (b : Behind) (least : ℕ) (ks : List ℕ) (P : ℕ → Type 0) → P least
      → ((last_of no_arc ks ≡ q.off.last → ⊥) → b.metres + metres_of arcs ks ≤ q.mesh.reach → P (min least (key_by q b.metres b.exposure ks))) → P (offers b least ks)
  unfolding offered
  offer_cases b least ks P p f = go (eqb (last_of no_arc ks) q.off.last) refl (leb (along arcs b ks).metres q.mesh.reach) refl
    where
      key : standby_key (sharing q.main (along arcs b ks).exposure) (along arcs b ks).metres ≡ key_by q b.metres b.exposure ks
      key = ap₂ standby_key (ap (sharing q.main) (along_exposure arcs b ks)) (along_metres arcs b ks)

      go : (s : Bool) → eqb (last_of no_arc ks) q.off.last ≡ s → (t : Bool) → leb (along arcs b ks).metres q.mesh.reach ≡ t → P (offers b least ks)
      go true d t e = rw (d, offered) p
      go false d true e =
          rw (d, e, offered)
          (subst (λ (k : ℕ). P (min least k)) (sym key)
          (f (eqb-false (last_of no_arc ks) q.off.last d) (omega (arith, leb-true (along arcs b ks).metres q.mesh.reach e, along_metres arcs b ks))))
      go false d false e = rw (d, e, offered) p

  -- it only falls
  pub fold_less : (b : Behind) (least : ℕ) (l : List (List ℕ)) → foldl (offers b) least l ≤ least
  fold_less b least [] = omega arith
  fold_less b least (ks ∷ l) = omega (arith, one, fold_less b (offers b least ks) l)
    where
      one : offers b least ks ≤ least
      one = offer_cases b least ks (λ x. x ≤ least) (omega arith) (λ ne h. omega arith)

  -- from a larger start the same is found, but for the start
  fold_min : (b : Behind) (least top : ℕ) (l : List (List ℕ)) → least ≤ top → foldl (offers b) least l ≡ min least (foldl (offers b) top l)
  unfolding offered
  fold_min b least top [] h = omega arith
  fold_min b least top (ks ∷ l) h = omega (arith, one, fold_less b (offers b top ks) l, fold_min b (offers b least ks) (offers b top ks) l (omega (arith, one)))
    where
      one : offers b least ks ≡ min least (offers b top ks)
      one = go (eqb (last_of no_arc ks) q.off.last) refl (leb (along arcs b ks).metres q.mesh.reach) refl
        where
          go : (s : Bool) → eqb (last_of no_arc ks) q.off.last ≡ s → (t : Bool) → leb (along arcs b ks).metres q.mesh.reach ≡ t → offers b least ks ≡ min least (offers b top ks)
          go true d t e = rw (d, offered) (omega arith)
          go false d true e = rw (d, e, offered) (omega arith)
          go false d false e = rw (d, e, offered) (omega arith)

  pub fold_mono : (b : Behind) {least top : ℕ} (l : List (List ℕ)) → least ≤ top → foldl (offers b) least l ≤ foldl (offers b) top l
  fold_mono b l h = omega (arith, fold_min b _ _ l h)

  fold_above : (b : Behind) (x bound : ℕ) (l : List (List ℕ)) → x ≤ bound
      → ((ks : List ℕ) → Memᴰ ks l → (last_of no_arc ks ≡ q.off.last → ⊥) → b.metres + metres_of arcs ks ≤ q.mesh.reach → x ≤ key_by q b.metres b.exposure ks)
      → x ≤ foldl (offers b) bound l
  fold_above b x bound [] h f = h
  fold_above b x bound (ks ∷ l) h f = fold_above b x (offers b bound ks) l one (λ j m. f j (Memᴰ.tail m))
    where
      one : x ≤ offers b bound ks
      one = offer_cases b bound ks (λ y. x ≤ y) h (λ ne r. omega (arith, f ks (Memᴰ.head refl) ne r))

  -- nothing that grows from there is below x
  pub above_all : (b : Behind) (x at bound : ℕ) → ((u : ℕ) → bit q.off.nodes u ≤ bit b.met u) → ((n : ℕ) → Ahead q n x at b.metres b.exposure) → x ≤ bound
      → x ≤ searched q.mesh (offered q.mesh q.main q.off.last) b at bound
  above_all b x at bound f a h =
      fold_above b x bound (onward q.mesh b at) h
      (λ ks m ne r.
      let g = grow_out arcs q.mesh.terminal _ b.met at ks m in
      (a (length ks)).above ks (record { way = grown_way arcs q.mesh.terminal g; avoids = grown_avoids q.mesh q.off no_arc f g ne; within_reach = r }) (omega arith))

  -- ---- and from the source

  pub none_below_least : {x : ℕ} → NoneBelow q x → least_of q x ≡ x
  unfolding least_of
  none_below_least {x} a =
      let b = start_barred q.mesh q.off in
      omega (arith, fold_less b x (unbarred q.mesh q.off), above_all b x q.mesh.source x (λ u. omega (arith, bit_with q.off.nodes q.mesh.source u)) a.ahead (omega arith))

  pub least_raised : {bound top : ℕ} → bound ≤ top → least_of q bound ≡ min bound (least_of q top)
  unfolding least_of
  least_raised {bound} {top} h =
      fold_min (start_barred q.mesh q.off) bound top (unbarred q.mesh q.off) h

-- true of a core, so true of each main that is exposed to all of it and bars all that it does
pub none_below_core : (m : Mesh) (core main : Exposure) (less more : Barred) {x y : ℕ} → Inside core main → Milder m less more → y ≤ x
    → NoneBelow (quest m core less) x → NoneBelow (quest m main more) y
none_below_core m core main less more f g h a = record {
  ahead = λ n. record {
    above = λ ks o l.
        let e = joined to_nothing (exposure_of m.arcs ks) in
        omega (
          arith,
          (a.ahead n).above ks (record { way = o.way; avoids = avoids_milder m g o.way o.avoids; within_reach = o.within_reach }) l,
          standby_key_mono {m = 0 + metres_of m.arcs ks} {m' = 0 + metres_of m.arcs ks} (sharing_mono core e main e f (λ r. omega arith)) (omega arith),
        );
  };
}
