-- What a search from the source finds: the first list of the wanted length that passes, and, of mains, how many of that length stand before it. Assumes nothing.
use Rattle.std.specs.Prelude.{Ok, Err}
use mathlib.Core.Path.{◌≡◌, refl, sym, ap, ap₂, ◌∙◌, subst}
use mathlib.Core.Logic.{◌⊎◌, inl, inr}
use mathlib.Core.Bool.{Bool, true, false, true≢false}
use mathlib.Core.List.Memᴰ
use mathlib.Core.List.{List, [], ◌∷◌, foldl, foldl-append, Memᴰ}
use Prim.Native.Nat.{ℕ, ◌+◌, ◌≤◌, ◌<◌, min}
use native.Mathlib.Nat.{zero-add}
use native.Mathlib.Omega.{arith}
use lib.Dec.{eqb}
use lib.ListN.{length}
use borrow.Author.Tests.{eqb-true, eqb-false}
use Rattle.laws.specs.Choosing.{keep}
use Rattle.laws.specs.Sets.{bit, with}
use Rattle.laws.proofs.SetLaws.{bit_with, bit_with_same, unmet_some}
use Rattle.problem.specs.declared.Arc.{Arc}
use Rattle.problem.specs.declared.Exposure.{Exposure}
use Rattle.problem.specs.Table.{most_arcs, most_allowance}
use Rattle.problem.specs.Exposures.{to_nothing}
use Rattle.problem.specs.Routes.{Mesh, metres_of, exposure_of, Route, route_of}
use Rattle.problem.specs.Pairs.{no_route}
use Rattle.problem.proofs.GrowthLaws.{fold_idle}
use Rattle.net.specs.declared.Net.{Net}
use Rattle.net.specs.declared.Behind.{Behind}
use Rattle.net.specs.Net.{arcs_in, mesh_in, IsNet}
use Rattle.net.specs.Search.{behind, along, last_of, no_arc}
use Rattle.net.proofs.SearchLaws.{along_metres}
use Rattle.bars.specs.Bars.{start_barred, unbarred}
use Rattle.track.specs.declared.Track.{Track}
use Rattle.track.specs.Track.{route_in, Holds}
use Rattle.bars.specs.declared.Barred.{Barred}
use Rattle.find.specs.declared.Role.{Role}
use Rattle.find.specs.declared.Role.TheVariants.{Main, Standby}
use Rattle.find.specs.declared.Want.{Want}
use Rattle.find.specs.declared.Found.{Found}
use Rattle.find.specs.declared.Run.{Run}
use Rattle.find.specs.Find.{IsStandby, barred_for, InRange, Sure, Sought, seek, sought_from, count_of, passes_by, NonePasses, First, passed_in, Outcome, OutcomeOverAll}
use Rattle.find.specs.Run.{is_found, arcs_found, sought_so_far, Begins, ArcsKnown, Finding, Seeks}
use Rattle.find.proofs.TrailLaws.{standby_is, trail_start}
use Rattle.find.proofs.SeekLaws.{meet_found, meet_other, meet_standby, meet_wanted, meet_passed}
use Rattle.find.proofs.PutLaws.{known_most, none_so_far}

-- ---- a search over a whole list

module _ (only : Bool) (m : Mesh) (w : Want) where
  abbrev arcs : List Arc
  arcs = m.arcs

  -- where the search begins
  abbrev outset : Behind
  outset = start_barred m (barred_for w.role)

  abbrev after : Sought → List (List ℕ) → Sought
  after s l = foldl (seek only m w outset) s l

  abbrev as_long : List ℕ → Bool
  as_long ks = eqb (metres_of arcs ks) w.metres

  abbrev Passes : List ℕ → Type 0
  Passes ks = (metres_of arcs ks ≡ w.metres) × (passes_by only m w ks ≡ true)

  abbrev Fails : List ℕ → Type 0
  Fails ks = metres_of arcs ks ≡ w.metres → passes_by only m w ks ≡ false

  -- a list passes, or, if it has the wanted length, fails
  decide : (ks : List ℕ) → Passes ks ⊎ Fails ks
  decide ks = go (as_long ks) refl (passes_by only m w ks) refl
    where
      go : (b : Bool) → as_long ks ≡ b → (c : Bool) → passes_by only m w ks ≡ c → Passes ks ⊎ Fails ks
      go true e true f = inl (eqb-true (metres_of arcs ks) w.metres e, f)
      go true e false f = inr (λ x. f)
      go false e c f = inr (λ x. absurd (eqb-false (metres_of arcs ks) w.metres e x))

  none_more : {ks : List ℕ} {l : List (List ℕ)} → Fails ks → NonePasses only m w l → NonePasses only m w (ks ∷ l)
  none_more {ks} {l} f g js m = go (Memᴰ.cases_cons m)
    where
      go : (js ≡ ks) ⊎ Memᴰ js l → Fails js
      go (inl e) h = rw e (f (rw e at h))
      go (inr n) h = g js n h

  -- some list passes, and then one is the first, or none does
  first_or_none : (l : List (List ℕ)) → First only m w l ⊎ NonePasses only m w l
  first_or_none [] = inr (λ ks m. absurd (Memᴰ.not-nil m))
  first_or_none (ks ∷ l) = go (decide ks) (first_or_none l)
    where
      go : Passes ks ⊎ Fails ks → First only m w l ⊎ NonePasses only m w l → First only m w (ks ∷ l) ⊎ NonePasses only m w (ks ∷ l)
      go (inl p) ih = inl (record { before = []; ks = ks; after = l; place = refl; length_is = p.0; passes = p.1; none_before = λ js m. absurd (Memᴰ.not-nil m) })
      go (inr p) (inl f) =
          inl (record { before = ks ∷ f.before; ks = f.ks; after = f.after; place = ap (λ (x : List (List ℕ)). ks ∷ x) f.place; length_is = f.length_is; passes = f.passes; none_before = none_more p f.none_before })
      go (inr p) (inr n) = inr (none_more p n)

  -- no metres lie behind the source
  all_metres : (ks : List ℕ) → (along arcs outset ks).metres ≡ metres_of arcs ks
  all_metres ks = along_metres arcs outset ks ∙ zero-add (metres_of arcs ks)

  -- where no main passes, those of the wanted length are counted, and nothing else changes
  fold_mains : (l : List (List ℕ)) (s : Sought) (p : ℕ) {off : Barred} → w.role ≡ Main off → s.found ≡ false → s.passed ≤ most_allowance → NonePasses only m w l
      → p ≡ min (s.passed + length (keep as_long l)) most_allowance → after s l ≡ record { found = false; passed = p; route = s.route }
  unfolding keep seek
  fold_mains [] s p {off = off} main e b n q = let same : s.passed ≡ p = omega arith in rw (← same, ← e)
  fold_mains (ks ∷ l) s p {off = off} main e b n q = go (as_long ks) refl (λ r j m. fold_mains l r j {off = off} m)
    where
      none : NonePasses only m w l
      none js i = n js (Memᴰ.tail i)

      go : (c : Bool) → as_long ks ≡ c
          → ((r : Sought) (j : ℕ) → w.role ≡ Main off → r.found ≡ false → r.passed ≤ most_allowance → NonePasses only m w l
          → j ≡ min (r.passed + length (keep as_long l)) most_allowance → after r l ≡ record { found = false; passed = j; route = r.route })
          → after s (ks ∷ l) ≡ record { found = false; passed = p; route = s.route }
      go true f ih =
          let same = eqb-true (metres_of arcs ks) w.metres f in
          ap (λ (r : Sought). after r l) (meet_passed only m w s (along arcs outset ks) (last_of no_arc ks) ks e (all_metres ks ∙ same) main (n ks (Memᴰ.head refl) same) refl)
          ∙ ih _ p main refl (omega arith) none (omega (arith, rw (f, keep) at q))
      go false f ih =
          ap (λ (r : Sought). after r l) (meet_other only m w s _ _ ks (λ x. eqb-false (metres_of arcs ks) w.metres f (sym (all_metres ks) ∙ x)))
          ∙ ih s p main e b none (rw (f, keep) at q)

  -- where no standby passes, nothing changes
  fold_standbys : (l : List (List ℕ)) (s : Sought) → IsStandby w.role → NonePasses only m w l → after s l ≡ s
  unfolding seek
  fold_standbys l s standby n = fold_idle (seek only m w outset) s l (λ ks i. meet_standby only m w s _ _ ks standby (λ e. n ks i (sym (all_metres ks) ∙ e)))

  -- once found, the rest is passed over
  fold_found : (l : List (List ℕ)) (s : Sought) → s.found ≡ true → after s l ≡ s
  unfolding seek
  fold_found l s e = fold_idle (seek only m w outset) s l (λ ks i. meet_found only m w s _ _ ks e)

  -- what a search begins with
  abbrev begin : Sought
  begin = record { found = false; passed = 0; route = no_route }

  fold_none : (l : List (List ℕ)) → NonePasses only m w l → after begin l ≡ record { found = false; passed = passed_in only m w l; route = no_route }
  fold_none l n = go w.role refl
    where
      go : (r : Role) → w.role ≡ r → after begin l ≡ record { found = false; passed = passed_in only m w l; route = no_route }
      go (Main off) e =
          let all : count_of arcs w.metres l ≡ passed_in only m w l = rw e in
          fold_mains l begin (passed_in only m w l) e refl (omega arith) n (omega arith)
      go (Standby main off) e =
          let idle : 0 ≡ passed_in only m w l = rw e in
          fold_standbys l begin (standby_is e) n ∙ ap (λ (p : ℕ). record { found = false; passed = p; route = no_route }) idle

  -- what a search over all of a list, from the start, comes to
  data Comes (all : List (List ℕ)) (s : Sought) : Type 0 where
    first : (f : First only m w all) → s ≡ record { found = true; passed = passed_in only m w f.before; route = route_of arcs f.ks } → Comes all s
    nowhere : NonePasses only m w all → s ≡ record { found = false; passed = passed_in only m w all; route = no_route } → Comes all s

  fold_comes : (all : List (List ℕ)) → Comes all (after begin all)
  unfolding seek
  fold_comes all = go (first_or_none all)
    where
      go : First only m w all ⊎ NonePasses only m w all → Comes all (after begin all)
      go (inl f) =
          Comes.first f
          (ap (after begin) f.place
          ∙ foldl-append (seek only m w outset) begin f.before (f.ks ∷ f.after)
          ∙ ap (λ (r : Sought). after r (f.ks ∷ f.after)) (fold_none f.before f.none_before)
          ∙ ap (λ (r : Sought). after r f.after) (meet_wanted only m w _ _ _ f.ks refl (all_metres f.ks ∙ f.length_is) f.passes)
          ∙ fold_found f.after _ refl)
      go (inr n) = Comes.nowhere n (fold_none all n)

  -- and what is handed back then
  outcome_some : (all : List (List ℕ)) {s : Sought} → Comes all s → s.found ≡ true → (u : Found) → u.passed ≡ s.passed → route_in u.track ≡ s.route → Outcome only m w all (Ok u)
  outcome_some all (Comes.first f e) t u p r = Outcome.first f u (p ∙ ap (λ (x : Sought). x.passed) e) (r ∙ ap (λ (x : Sought). x.route) e)
  outcome_some all (Comes.nowhere n e) t u p r = absurd (true≢false (sym t ∙ ap (λ (x : Sought). x.found) e))

  outcome_none : (all : List (List ℕ)) {s : Sought} → Comes all s → s.found ≡ false → (p : ℕ) → p ≡ s.passed → Outcome only m w all (Err p)
  outcome_none all (Comes.first f e) t p q = absurd (true≢false (ap (λ (x : Sought). x.found) (sym e) ∙ t))
  outcome_none all (Comes.nowhere n e) t p q = Outcome.nowhere n p (q ∙ ap (λ (x : Sought). x.passed) e)

-- ---- from the source

module _ (net : Net) (words : IsNet net) where
  -- a search that begins at the source, with nothing behind it; what is barred counts as met
  module _ {w : Want} {run : Run} (begins : Begins w run) {at seen : ℕ} {e : Exposure} (at_source : at ≡ (mesh_in net).source) (seen_source : seen ≡ with (barred_for w.role).nodes at) (none : e ≡ to_nothing) where
    pub ready_first : InRange w → Finding net run at (behind seen 0 e)
    ready_first range =
        record {
          words = words;
          under_way = record { range = rw begins.want range; none_yet = begins.none_yet };
          node = omega (arith, words.source_node);
          goes_on = λ x. words.ends_differ (sym at_source ∙ x);
          not_past = omega arith;
          barred_met = λ u. omega (arith, ap (λ (x : Want). bit (barred_for x.role).nodes u) begins.want, bit_with (barred_for w.role).nodes at u, ap (λ (x : ℕ). bit x u) seen_source);
          came = λ main off is. trail_start (mesh_in net) main off at_source;
        }

    module _ {after : Run} (s : Seeks net at (behind seen 0 e) run after) where
      -- no route has more arcs: the source is met
      pub known_after : ArcsKnown net after most_arcs
      known_after =
          known_most s.known (omega (arith, unmet_some 32 at seen (omega (arith, at_source, words.source_node)) (ap (λ (x : ℕ). bit x at) seen_source ∙ bit_with_same (barred_for w.role).nodes at)))

      -- all paths that meet no barred node are gone over
      searched : Sure (mesh_in net) w → Comes net.apart (mesh_in net) w (unbarred (mesh_in net) (barred_for w.role)) (sought_so_far (arcs_in net) after)
      unfolding route_of metres_of exposure_of
      searched sure = subst (Comes only m w (unbarred m (barred_for w.role))) (sym gone_over) (fold_comes only m w (unbarred m (barred_for w.role)))
        where
          only : Bool
          only = net.apart

          m : Mesh
          m = mesh_in net

          same : at ≡ m.source → seen ≡ with (barred_for w.role).nodes m.source → e ≡ to_nothing
              → sought_from only m w at (behind seen 0 e) (begin only m w) ≡ sought_from only m w m.source (start_barred m (barred_for w.role)) (begin only m w)
          same p q r = rw (p, q, r)

          first : sought_so_far (arcs_in net) run ≡ begin only m w
          first = none_so_far (arcs_in net) run begins.none_yet ∙ ap (λ (p : ℕ). record { found = false; passed = p; route = no_route }) begins.none_passed

          gone_over : sought_so_far (arcs_in net) after ≡ sought_from only m w m.source (start_barred m (barred_for w.role)) (begin only m w)
          gone_over =
              s.sought (subst (Sure m) (sym begins.want) sure)
              ∙ ap₂ (λ (x : Want) (y : Sought). sought_from only m x at (behind seen 0 e) y) begins.want first
              ∙ same at_source (seen_source ∙ ap (with (barred_for w.role).nodes) at_source) none

      -- nothing is handed back where no arc is put down
      pub none_outcome : is_found after ≡ false → Sure (mesh_in net) w → OutcomeOverAll net.apart (mesh_in net) w (Err after.passed)
      none_outcome f sure = outcome_none net.apart (mesh_in net) w _ (searched sure) f after.passed refl

      -- else the track holds the route, and arcs of the mesh
      module _ (t : Track) (held : Holds t (route_of (arcs_in net) (arcs_found after))) where
        pub track_known : (k : ℕ) → Memᴰ k (route_in t).arcs → k < length (arcs_in net)
        unfolding route_of
        track_known k x = known_after.inside k (subst (λ (r : Route). Memᴰ k r.arcs) held.route x)

        pub some_outcome : is_found after ≡ true → Sure (mesh_in net) w → OutcomeOverAll net.apart (mesh_in net) w (Ok (record { passed = after.passed; track = t }))
        some_outcome f sure = outcome_some net.apart (mesh_in net) w _ (searched sure) f (record { passed = after.passed; track = t }) refl held.route
