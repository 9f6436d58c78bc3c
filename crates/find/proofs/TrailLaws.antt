-- Ways to a node that keep off what is barred, which a search for a standby labels: one arc further, in the store, and why what comes late by one of them is not
-- wanted: the shorter way that went before it, going on alike, would make a smaller key than the least. Assumes nothing.
use mathlib.Core.Path.{◌≡◌, refl, sym, ap, ◌∙◌, subst}
use mathlib.Core.Bool.{Bool, true, false, not, ◌&&◌}
use mathlib.Core.List.{List, [], ◌∷◌, ◌++◌}
use Prim.Native.Nat.{ℕ, ◌+◌, ◌≤◌, ◌<◌}
use native.Mathlib.Decide.{ℕ_discrete}
use native.Mathlib.Omega.{arith}
use lib.Dec.{eqb}
use lib.ListN.{length}
use borrow.Author.Tests.{eqb-false, ne_eqb}
use Rattle.laws.specs.Sets.{bit}
use Rattle.laws.proofs.SetLaws.{bit_empty, bit_with_other}
use Rattle.problem.specs.declared.Arc.{Arc}
use Rattle.problem.specs.declared.Exposure.{Exposure}
use Rattle.problem.specs.Table.{last_node}
use Rattle.problem.specs.Exposures.{to_nothing, of_arc, joined, common, sharing}
use Rattle.problem.specs.Routes.{Mesh, arc_at, metres_of, exposure_of, Way}
use Rattle.problem.proofs.ExposureLaws.{exposed_nothing, exposed_joined, exposed_common, joined_nothing, nothing_joined, sharing_part}
use Rattle.problem.proofs.RouteLaws.{Grown, grown_way}
use Rattle.problem.proofs.WayLaws.{way_append, metres_append, exposure_append}
use Rattle.exposure.proofs.WordLaws.{inside_at}
use Rattle.keys.specs.Keys.{standby_key}
use Rattle.net.specs.declared.Behind.{Behind}
use Rattle.net.specs.Search.{along, last_of}
use Rattle.net.proofs.SearchLaws.{along_metres, along_exposure}
use Rattle.bars.specs.declared.Barred.{Barred}
use Rattle.bars.specs.Bars.{Avoids}
use Rattle.standby.proofs.AvoidLaws.{grown_avoids}
use Rattle.labels.specs.declared.Labels.{Labels}
use Rattle.labels.specs.Labels.{label_metres, label_exposure, Shorter, Cleared, Labelled}
use Rattle.find.specs.declared.Role.{Role}
use Rattle.find.specs.declared.Role.TheVariants.{Standby}
use Rattle.find.specs.declared.Want.{Want}
use Rattle.find.specs.Find.{IsStandby, is_wanted, Sure, Trail, Trails, Arrived}

pub standby_is : {role : Role} {main : Exposure} {off : Barred} → role ≡ Standby main off → IsStandby role
standby_is e = subst IsStandby (sym e) tt

-- the test of a standby
pub standby_wanted : (only : Bool) (m : Mesh) (w : Want) (route : Behind) (last : ℕ) {main : Exposure} {off : Barred} → w.role ≡ Standby main off
    → is_wanted only m w route last ≡ (not (eqb last off.last) && eqb (standby_key (sharing main route.exposure) w.metres) w.key)
unfolding is_wanted
standby_wanted only m w route last e = rw (e, is_wanted)

-- ---- a way to a node

-- one behind the other keep off what both do
avoids_append : (m : Mesh) (off : Barred) {is : List ℕ} (js : List ℕ) → Avoids m off is → Avoids m off js → Avoids m off (is ++ js)
avoids_append m off js Avoids.none o = o
avoids_append m off js (Avoids.one {k = k} node last r) o = Avoids.one {k = k} node last (avoids_append m off js r o)

module _ (m : Mesh) (main : Exposure) (off : Barred) where
  pub trail_start : {v metres : ℕ} {e : Exposure} → v ≡ m.source → Trail m main off v metres e
  unfolding metres_of exposure_of
  trail_start at = record { list = []; way = Way.there (sym at); keeps_off = Avoids.none; no_longer = omega arith; no_more = λ r. rw (exposed_common, exposed_nothing) (omega arith) }

  -- one arc further, to a node that is not barred and not the terminal: no arc is barred that leads there
  pub trail_over : {v metres : ℕ} (e : Exposure) (i : ℕ) → Trail m main off v metres e → i < length m.arcs → (arc_at m.arcs i).tail ≡ v
      → bit off.nodes (arc_at m.arcs i).head ≡ 0 → ((arc_at m.arcs i).head ≡ m.terminal → ⊥)
      → Trail m main off (arc_at m.arcs i).head (metres + (arc_at m.arcs i).metres) (joined e (of_arc (arc_at m.arcs i)))
  unfolding metres_of exposure_of
  trail_over {v} {metres} e i t inside tail free on =
      let a = arc_at m.arcs i in
      let one = i ∷ [] in
      record {
        list = t.list ++ one;
        way = way_append m.arcs one t.way (Way.over {k = i} inside tail (Way.there refl));
        keeps_off = avoids_append m off one t.keeps_off (Avoids.one {k = i} free (λ x. absurd (on x)) Avoids.none);
        no_longer = omega (arith, metres_append m.arcs t.list one, t.no_longer);
        no_more = λ r.
            rw (exposure_append m.arcs t.list one, joined_nothing)
            (simp (exposed_common, exposed_joined) (omega (arith, t.no_more r, exposed_common main (exposure_of m.arcs t.list) r)));
      }

-- ---- in the labels

module _ (m : Mesh) (w : Want) where
  pub trails_none : {labels : Labels} → Cleared labels → Trails m w labels
  trails_none c = record { told = λ main off s v h b. absurd (omega (arith, b, ap (λ (x : ℕ). bit x v) c, bit_empty v)) }

  pub trails_same : {before after : Labels} → (IsStandby w.role → after ≡ before) → Trails m w before → Trails m w after
  trails_same {before} {after} e t = record {
    told = λ main off s v h b.
        let same = sym (e (standby_is s)) in
        subst (λ (x : Labels). Trail m main off v (label_metres x v) (label_exposure x v)) same (t.told main off s v h (ap (λ (x : Labels). bit x.labelled v) same ∙ b));
  }

  -- something came to v by a way that keeps off what is barred
  abbrev Came : (v metres : ℕ) → Exposure → Type 0
  Came v metres e = (main : Exposure) (off : Barred) → w.role ≡ Standby main off → Trail m main off v metres e

  trails_kept : {v metres : ℕ} (e : Exposure) {before after : Labels} → Trails m w before → Came v metres e → {main : Exposure} {off : Barred} → w.role ≡ Standby main off
      → Labelled v metres (common main e) before after → Trails m w after
  trails_kept {v} {metres} e {before} {after} t came {main} {off} is k = record {
    told = λ main' off' is' u h b. subst (λ (r : Exposure × Barred). Trail m r.0 r.1 u (label_metres after u) (label_exposure after u)) (same main' off' is') (here u h b);
  }
    where
      same : (main' : Exposure) (off' : Barred) → w.role ≡ Standby main' off' → ◌≡◌ {A = Exposure × Barred} (main, off) (main', off')
      same main' off' is' = cc

      o : Trail m main off v metres e
      o = came main off is

      shared : Trail m main off v metres (common main e)
      shared = record { list = o.list; way = o.way; keeps_off = o.keeps_off; no_longer = o.no_longer; no_more = λ r. simp exposed_common (omega (arith, o.no_more r, exposed_common main (exposure_of m.arcs o.list) r)) }

      own : (u : ℕ) → u ≡ v → Trail m main off u (label_metres after u) (label_exposure after u)
      own u p = subst (λ (y : ℕ). Trail m main off y (label_metres after y) (label_exposure after y)) (sym p) (rw (k.metres_is, k.exposure_is) shared)

      other : (u : ℕ) → u ≤ last_node → (u ≡ v → ⊥) → bit before.labelled u ≡ 1 → Trail m main off u (label_metres after u) (label_exposure after u)
      other u h ne b = rw (k.other_metres u h ne, k.other_exposure u h ne) (t.told main off is u h b)

      here : (u : ℕ) → u ≤ last_node → bit after.labelled u ≡ 1 → Trail m main off u (label_metres after u) (label_exposure after u)
      here u h b = elim (ℕ_discrete u v) [
        | yes p ↦ own u p
        | no ne ↦ other u h ne (omega (arith, b, ap (λ (x : ℕ). bit x u) k.labelled, bit_with_other before.labelled v u ne))
      ]

  pub trails_arrived : {v metres : ℕ} (e : Exposure) {before after : Labels} → Trails m w before → Came v metres e → Arrived w v metres e before after → Trails m w after
  trails_arrived e t came (Arrived.same p) = trails_same (λ s. p) t
  trails_arrived e t came (Arrived.labelled main off is k) = trails_kept e t came is k

  -- ---- what comes late

  module _ (sure : Sure m w) {main : Exposure} {off : Barred} (standby : w.role ≡ Standby main off) {labels : Labels} (t : Trails m w labels) {v : ℕ} (b : Behind) (node : v ≤ last_node) (late : Shorter labels v b.metres b.exposure) where
    abbrev earlier : Trail m main off v (label_metres labels v) (label_exposure labels v)
    earlier = t.told main off standby v node late.labelled

    abbrev arcs : List Arc
    arcs = m.arcs

    -- the earlier way, going on alike, shares no more
    shares_less : (ks : List ℕ) → sharing main (joined to_nothing (exposure_of arcs (earlier.list ++ ks))) ≤ sharing main (joined b.exposure (exposure_of arcs ks))
    shares_less ks =
        rw (nothing_joined, exposure_append arcs earlier.list ks)
        (sharing_part main (exposure_of arcs earlier.list) b.exposure (exposure_of arcs ks)
        (λ r. omega (arith, earlier.no_more r, inside_at (label_exposure labels v) b.exposure late.no_more r)))

    -- and keeps off what is barred too, unless the list ahead ends with the barred arc, and then it is not wanted
    pub late_fails : (only : Bool) (before : ℕ) {ks : List ℕ} → Grown arcs m.terminal b.met v ks → ((u : ℕ) → bit off.nodes u ≤ bit b.met u)
        → (along arcs b ks).metres ≡ w.metres → is_wanted only m w (along arcs b ks) (last_of before ks) ≡ false
    unfolding standby_key
    late_fails only before {ks} g barred_met is = go (eqb (last_of before ks) off.last) refl
      where
        passes : is_wanted only m w (along arcs b ks) (last_of before ks) ≡ (not (eqb (last_of before ks) off.last) && eqb (standby_key (sharing main (along arcs b ks).exposure) w.metres) w.key)
        passes = standby_wanted only m w (along arcs b ks) (last_of before ks) standby

        go : (x : Bool) → eqb (last_of before ks) off.last ≡ x → is_wanted only m w (along arcs b ks) (last_of before ks) ≡ false
        go true f = passes ∙ rw f
        go false f =
            let js = earlier.list ++ ks in
            let shorter : metres_of arcs js < w.metres = omega (arith, metres_append arcs earlier.list ks, earlier.no_longer, late.is_shorter, along_metres arcs b ks, is) in
            let ahead = avoids_append m off ks earlier.keeps_off (grown_avoids m off before barred_met g (eqb-false (last_of before ks) off.last f)) in
            let least = ((sure.least main off standby).ahead (length js)).above js (record { way = way_append arcs ks earlier.way (grown_way arcs m.terminal g); avoids = ahead; within_reach = omega (arith, shorter, sure.in_reach (standby_is standby)) }) (omega arith) in
            passes ∙ rw (f, along_exposure arcs b ks)
            (ne_eqb (standby_key (sharing main (joined b.exposure (exposure_of arcs ks))) w.metres) w.key (λ same. omega (arith, same, least, shorter, shares_less ks)))
