-- A search for the first wanted route: what one more route does to it, which arcs it may pass over, and what is left of it behind each arc. Assumes nothing.
use mathlib.Core.Path.{◌≡◌, refl, sym, ap, ◌∙◌, subst}
use mathlib.Core.Logic.{◌⊎◌, inl, inr}
use mathlib.Core.Bool.{Bool, true, false, not, true≢false, and-false}
use mathlib.Core.List.{List, [], ◌∷◌, foldl, Memᴰ}
use Prim.Native.Nat.{ℕ, suc, ◌+◌, ◌≤◌, ◌<◌, min}
use native.Mathlib.Omega.{arith}
use lib.Dec.{eqb}
use lib.ListN.{length, drop}
use borrow.Author.Tests.{eqb-true, eqb-false, eq-eqb, ne_eqb, ltb-true}
use Rattle.std.specs.Prelude.{if◌then◌else◌}
use Rattle.laws.specs.Sets.{bit, with, unmet}
use Rattle.laws.proofs.SetLaws.{bit_with, unmet_with}
use Rattle.problem.specs.declared.Arc.{Arc}
use Rattle.problem.specs.declared.Exposure.{Exposure}
use Rattle.problem.specs.Table.{last_node, most_allowance}
use Rattle.problem.specs.Exposures.{of_arc, joined, sharing}
use Rattle.problem.specs.Routes.{Mesh, arc_at, metres_of, exposure_of, Way, opens, sprout, grow, route_of}
use Rattle.problem.proofs.ExposureLaws.{inside_joined, sharing_mono}
use Rattle.problem.proofs.RouteLaws.{opens_by, opens_new, Grown, grow_out, grown_way}
use Rattle.problem.proofs.GrowthLaws.{fold_idle, fold_there, grow_way, left_from, left_open, left_shut}
use Rattle.chain.specs.Chain.{Next}
use Rattle.keys.specs.Keys.{standby_key}
use Rattle.keys.proofs.BoundLaws.{standby_key_mono}
use Rattle.net.specs.declared.Behind.{Behind}
use Rattle.net.specs.Search.{onto, along, last_of, no_arc, onward}
use Rattle.net.proofs.NetLaws.{left_next}
use Rattle.net.proofs.SearchLaws.{along_metres, along_exposure, last_own}
use Rattle.labels.specs.declared.Labels.{Labels}
use Rattle.labels.specs.Labels.{Shorter}
use Rattle.bars.specs.declared.Barred.{Barred}
use Rattle.find.specs.declared.Role.{Role}
use Rattle.find.specs.declared.Role.TheVariants.{Main, Standby}
use Rattle.find.specs.declared.Want.{Want}
use Rattle.find.specs.Find.{IsStandby, barred_for, is_wanted, shares_too_much, Sure, Sought, passed_over, meet, seek, sought_from, Trails}
use Rattle.find.proofs.TrailLaws.{standby_is, standby_wanted, late_fails}

-- a standby that is not wanted changes nothing
passed_standby : (role : Role) (s : Sought) → IsStandby role → passed_over role s ≡ s
passed_standby (Main off) s h = absurd h
passed_standby (Standby main off) s h = refl

-- ---- one more route

module _ (only : Bool) (m : Mesh) (w : Want) (s : Sought) (e : Behind) (last : ℕ) (ks : List ℕ) where
  -- once found, nothing changes
  pub meet_found : s.found ≡ true → meet only m w s e last ks ≡ s
  unfolding meet
  meet_found f = rw f

  -- a route of another length changes nothing
  pub meet_other : (e.metres ≡ w.metres → ⊥) → meet only m w s e last ks ≡ s
  unfolding meet
  meet_other ne = go s.found refl
    where
      go : (b : Bool) → s.found ≡ b → meet only m w s e last ks ≡ s
      go true f = rw (f, meet)
      go false f = rw (f, ne_eqb e.metres w.metres ne, meet)

  -- a standby that is not wanted changes nothing
  pub meet_standby : IsStandby w.role → (e.metres ≡ w.metres → is_wanted only m w e last ≡ false) → meet only m w s e last ks ≡ s
  unfolding meet
  meet_standby standby fails = go s.found refl (eqb e.metres w.metres) refl
    where
      go : (b : Bool) → s.found ≡ b → (c : Bool) → eqb e.metres w.metres ≡ c → meet only m w s e last ks ≡ s
      go true f c g = rw (f, meet)
      go false f true g = rw (f, g, fails (eqb-true e.metres w.metres g), meet) (passed_standby w.role _ standby)
      go false f false g = rw (f, g, meet)

  module _ (open_yet : s.found ≡ false) (same : e.metres ≡ w.metres) where
    pub meet_wanted : is_wanted only m w e last ≡ true → meet only m w s e last ks ≡ record { found = true; passed = s.passed; route = route_of m.arcs ks }
    unfolding meet
    meet_wanted f = rw (open_yet, eq-eqb e.metres w.metres same, f)

    -- a main that is not wanted is counted
    pub meet_passed : {p : ℕ} {off : Barred} → w.role ≡ Main off → is_wanted only m w e last ≡ false → p ≡ min (s.passed + 1) most_allowance → meet only m w s e last ks ≡ record { found = false; passed = p; route = s.route }
    unfolding meet
    meet_passed main f g = rw (open_yet, eq-eqb e.metres w.metres same, f, main, g)

module _ (only : Bool) (m : Mesh) (w : Want) where
  -- a route is the wanted one, whatever its arcs, or none of them is
  abbrev Either : Sought → Behind → ℕ → Type 0
  Either s e last =
      ((ks : List ℕ) → meet only m w s e last ks ≡ record { found = true; passed = s.passed; route = route_of m.arcs ks })
      ⊎ ((r : Sought) × (r.found ≡ false) × ((ks : List ℕ) → meet only m w s e last ks ≡ r))

  -- so it is where nothing is found yet
  meet_either : (s : Sought) (e : Behind) (last : ℕ) → s.found ≡ false → Either s e last
  meet_either s e last open_yet = go (eqb e.metres w.metres) refl (is_wanted only m w e last) refl w.role refl
    where
      go : (a : Bool) → eqb e.metres w.metres ≡ a → (b : Bool) → is_wanted only m w e last ≡ b → (c : Role) → w.role ≡ c → Either s e last
      go true p true q c f = inl (λ ks. meet_wanted only m w s e last ks open_yet (eqb-true e.metres w.metres p) q)
      go true p false q (Main off) f = inr (_, refl, λ ks. meet_passed only m w s e last ks open_yet (eqb-true e.metres w.metres p) f q refl)
      go true p false q (Standby main off) f = inr (s, open_yet, λ ks. meet_standby only m w s e last ks (standby_is f) (λ x. q))
      go false p b q c f = inr (s, open_yet, λ ks. meet_other only m w s e last ks (eqb-false e.metres w.metres p))

-- ---- one arc in front

-- the search, had arc k been in front of what it found
unfoldable pub in_front : Mesh → ℕ → Sought → Sought
in_front m k s = if s.found then record { found = true; passed = s.passed; route = route_of m.arcs (k ∷ s.route.arcs) } else s

module _ (only : Bool) (m : Mesh) (w : Want) (b : Behind) (k : ℕ) where
  abbrev beyond : Behind
  beyond = onto b (arc_at m.arcs k)

  -- over the arc, then on over ks
  abbrev over : Sought → List ℕ → Sought
  over s ks = seek only m w b s (k ∷ ks)

  seek_over : (s : Sought) (ks : List ℕ) → over s ks ≡ meet only m w s (along m.arcs beyond ks) (last_of k ks) (k ∷ ks)
  unfolding seek along last_of
  seek_over s ks = refl

  -- a search over what lies beyond the arc, and ends with arcs of its own, finds what a search over the arc finds, but for the arc itself
  fold_over : (s : Sought) (l : List (List ℕ)) → s.found ≡ false → ((ks : List ℕ) → Memᴰ ks l → last_of k ks ≡ last_of no_arc ks)
      → foldl over s l ≡ in_front m k (foldl (seek only m w beyond) s l)
  unfolding in_front seek route_of
  fold_over s [] f own = rw f
  fold_over s (ks ∷ l) f own = go (meet_either only m w s end (last_of no_arc ks) f) (λ r g. fold_over r l g (λ js x. own js (Memᴰ.tail x)))
    where
      end : Behind
      end = along m.arcs beyond ks

      found : List ℕ → Sought
      found js = record { found = true; passed = s.passed; route = route_of m.arcs js }

      first : (r : Sought) → meet only m w s end (last_of no_arc ks) (k ∷ ks) ≡ r → over s ks ≡ r
      first r is = seek_over s ks ∙ ap (λ (last : ℕ). meet only m w s end last (k ∷ ks)) (own ks (Memᴰ.head refl)) ∙ is

      go : Either only m w s end (last_of no_arc ks) → ((r : Sought) → r.found ≡ false → foldl over r l ≡ in_front m k (foldl (seek only m w beyond) r l))
          → foldl over s (ks ∷ l) ≡ in_front m k (foldl (seek only m w beyond) s (ks ∷ l))
      go (inl is) ih =
          ap (λ (r : Sought). foldl over r l) (first _ (is (k ∷ ks)))
          ∙ fold_idle over (found (k ∷ ks)) l (λ js x. meet_found only m w (found (k ∷ ks)) _ _ (k ∷ js) refl)
          ∙ sym (ap (in_front m k) (ap (λ (r : Sought). foldl (seek only m w beyond) r l) (is ks) ∙ fold_idle (seek only m w beyond) (found ks) l (λ js x. meet_found only m w (found ks) _ _ js refl)))
      go (inr (r, g, is)) ih =
          ap (λ (x : Sought). foldl over x l) (first _ (is (k ∷ ks)))
          ∙ ih r g
          ∙ sym (ap (λ (x : Sought). in_front m k (foldl (seek only m w beyond) x l)) (is ks))

-- ---- what shares too much

module _ (w : Want) (e : Exposure) (much : shares_too_much w e ≡ true) where
  -- a standby is wanted, of a smaller key
  record TooMuch : Type 0 where
    main : Exposure
    off : Barred
    is : w.role ≡ Standby main off
    larger : w.key < standby_key (sharing main e) 0

  too_much : TooMuch
  unfolding shares_too_much
  too_much = go w.role refl
    where
      go : (r : Role) → w.role ≡ r → TooMuch
      go (Main off) f = absurd (true≢false (sym (rw (f, shares_too_much) at much)))
      go (Standby main off) f = record { main = main; off = off; is = f; larger = ltb-true w.key (standby_key (sharing main e) 0) (rw (f, shares_too_much) at much) }

  -- and nothing that goes on from there is: it shares no less
  much_fails : (only : Bool) (m : Mesh) (route : Behind) (last : ℕ) (more : Exposure) → route.exposure ≡ joined e more → is_wanted only m w route last ≡ false
  much_fails only m route last more is =
      let t = too_much in
      let no_less : sharing t.main e ≤ sharing t.main (joined e more) = sharing_mono t.main e t.main (joined e more) (λ r. omega arith) (inside_joined e more) in
      let some_metres : 0 ≤ w.metres = omega arith in
      let other = ne_eqb (standby_key (sharing t.main (joined e more)) w.metres) w.key (λ same. omega (arith, t.larger, standby_key_mono no_less some_metres)) in
      standby_wanted only m w route last t.is ∙ rw (is, other) (and-false (not (eqb last t.off.last)))

-- ---- one arc of a search

module _ (only : Bool) (m : Mesh) (w : Want) (at : ℕ) (b : Behind) where
  abbrev met : ℕ
  met = b.met

  -- what is left from arc i on
  abbrev pub Left : ℕ → Sought → Sought
  Left i s = left_from m.arcs m.terminal (seek only m w b) (unmet 32 b.met) b.met at i s

  -- what grows behind arc i, over so many arcs at most
  abbrev past : ℕ → ℕ → Sought → Sought
  past i n s = foldl (over only m w b i) s (grow m.arcs m.terminal n (with met (arc_at m.arcs i).head) (arc_at m.arcs i).head)

  -- what was found stays found
  pub left_found : (i : ℕ) (s : Sought) → s.found ≡ true → Left i s ≡ s
  unfolding left_from seek
  left_found i s e = fold_idle (seek only m w b) s (sprout (grow m.arcs m.terminal (unmet 32 met)) met at i (drop i m.arcs)) (λ ks x. meet_found only m w s _ _ ks e)

  module _ (i j : ℕ) (s : Sought) (inside : i < length m.arcs) (next : Next m.arcs at (i + 1) j) where
    abbrev arc : Arc
    arc = arc_at m.arcs i

    abbrev ahead : Behind
    ahead = onto b arc

    on : (r : Sought) → Left (i + 1) r ≡ Left j r
    on r = left_next m.arcs m.terminal (seek only m w b) (unmet 32 met) met at (i + 1) j r next

    -- an arc that opens: what grows behind it
    left_past : (r : Sought) → opens met at arc ≡ true → past i (unmet 32 met) s ≡ r → Left i s ≡ Left j r
    left_past r o f = left_open m.arcs m.terminal (seek only m w b) (unmet 32 met) met at i s inside o ∙ ap (Left (i + 1)) f ∙ on r

    -- an arc that opens for nothing, or does not open
    left_idle : (opens met at arc ≡ true → past i (unmet 32 met) s ≡ s) → Left i s ≡ Left j s
    left_idle f = go (opens met at arc) refl
      where
        go : (o : Bool) → opens met at arc ≡ o → Left i s ≡ Left j s
        go true e = left_past s e (f e)
        go false e = left_shut m.arcs m.terminal (seek only m w b) (unmet 32 met) met at i s inside e ∙ on s

    -- nothing that grows behind the arc makes a route that changes the search
    left_none : ((ks : List ℕ) → Grown m.arcs m.terminal ahead.met arc.head ks → meet only m w s (along m.arcs ahead ks) (last_of i ks) (i ∷ ks) ≡ s) → Left i s ≡ Left j s
    left_none f =
        left_idle (λ o. fold_idle _ s (grow m.arcs m.terminal (unmet 32 met) ahead.met arc.head)
        (λ ks x. seek_over only m w b i s ks ∙ f ks (grow_out m.arcs m.terminal (unmet 32 met) ahead.met arc.head ks x)))

    -- a head that was met before
    pub left_met : bit met arc.head ≡ 1 → Left i s ≡ Left j s
    left_met e = left_idle (λ o. absurd (omega (arith, opens_new met at arc o)))

    -- every route over the arc is too long
    pub left_far : (lower : ℕ) → ((ks : List ℕ) → Way m.arcs arc.head m.terminal ks → lower ≤ metres_of m.arcs ks) → w.metres < b.metres + arc.metres + lower → Left i s ≡ Left j s
    left_far lower bound h =
        left_none (λ ks g. meet_other only m w s _ _ (i ∷ ks) (λ e. omega (arith, e, along_metres m.arcs ahead ks, bound ks (grown_way m.arcs m.terminal g))))

    -- every route over the arc shares too much
    pub left_much : shares_too_much w (joined b.exposure (of_arc arc)) ≡ true → Left i s ≡ Left j s
    left_much much =
        left_none (λ ks g. meet_standby only m w s _ _ (i ∷ ks) (standby_is (too_much w _ much).is) (λ e. much_fails w _ much only m _ (last_of i ks) (exposure_of m.arcs ks) (along_exposure m.arcs ahead ks)))

    -- every route over the arc comes late to its head; what is barred counts as met
    pub left_late : Sure m w → IsStandby w.role → {labels : Labels} → Trails m w labels → ((u : ℕ) → bit (barred_for w.role).nodes u ≤ bit b.met u) → arc.head ≤ last_node
        → Shorter labels arc.head (b.metres + arc.metres) (joined b.exposure (of_arc arc)) → Left i s ≡ Left j s
    left_late sure standby t barred_met node late = go w.role refl
      where
        go : (r : Role) → w.role ≡ r → Left i s ≡ Left j s
        go (Main off) is = absurd (subst IsStandby is standby)
        go (Standby main off) is =
            left_none (λ ks g. meet_standby only m w s _ _ (i ∷ ks) standby
            (λ e. late_fails m w sure is t ahead node late only i g (λ u. omega (arith, barred_met u, ap (λ (r : Role). bit (barred_for r).nodes u) is, bit_with b.met arc.head u)) e))

    module _ (new : bit met arc.head ≡ 0) (tail : arc.tail ≡ at) where
      -- a route ends with the arc
      pub left_ends : arc.head ≡ m.terminal → Left i s ≡ Left j (meet only m w s (onto b arc) i (i ∷ []))
      unfolding along last_of
      left_ends t = left_past _ (opens_by met at arc tail new) (fold_there m.arcs m.terminal _ (unmet 32 met) _ _ s t ∙ seek_over only m w b i s [])

      -- routes go on from its head
      pub left_leads : arc.head ≤ last_node → (arc.head ≡ m.terminal → ⊥) → s.found ≡ false → Left i s ≡ Left j (in_front m i (sought_from only m w arc.head (onto b arc) s))
      left_leads low goes_on open_yet =
          left_past _ (opens_by met at arc tail new)
          (ap (λ (n : ℕ). past i n s) (unmet_with 32 arc.head met (omega arith) new)
          ∙ fold_over only m w b i s (onward m ahead arc.head) open_yet (λ ks x. last_own m.arcs i ks goes_on (grow_way m.arcs m.terminal (suc (unmet 32 ahead.met)) ahead.met arc.head x)))
