-- The track of the arcs put down, made arc by arc from the one put down last: it holds the route of those gone over. Assumes nothing.
use mathlib.Core.Path.{◌≡◌, refl, sym, ap, ◌∙◌, subst}
use mathlib.Core.List.Memᴰ
use mathlib.Core.List.{List, [], ◌∷◌, ◌++◌, append-nil, append_assoc, Memᴰ}
use Prim.Native.Nat.{ℕ, ◌+◌, ◌*◌, ◌≤◌, ◌<◌}
use native.Mathlib.Nat.{add-zero}
use native.Mathlib.Omega.{arith}
use lib.ListN.{length, take, length-append, length-take}
use Rattle.std.specs.Prelude.{reverse}
use Rattle.std.proofs.lemmas.List.{reverse-append, length-reverse, nil_from_length}
use Rattle.problem.specs.declared.Arc.{Arc}
use Rattle.problem.specs.Table.{most_arcs, most_arc_metres, most_reach}
use Rattle.problem.specs.Routes.{arc_at, metres_of, exposure_of, Route, route_of}
use Rattle.problem.specs.Pairs.{no_route}
use Rattle.problem.proofs.ExposureLaws.{joined_nothing}
use Rattle.problem.proofs.TableLaws.{sound_at}
use Rattle.problem.proofs.WayLaws.{metres_append, exposure_append}
use Rattle.net.specs.declared.Net.{Net}
use Rattle.net.specs.Net.{arcs_in, IsNet}
use Rattle.track.specs.declared.Track.{Track}
use Rattle.track.specs.Track.{route_in, Holds, onward}
use Rattle.track.proofs.FitLaws.{fit_count}
use Rattle.find.specs.declared.Run.{Run}
use Rattle.find.specs.Find.{over_arc}
use Rattle.find.specs.Run.{arcs_found, ArcsKnown}

-- a route with one arc more
route_over : (arcs : List Arc) (ks : List ℕ) (k : ℕ) → over_arc (route_of arcs ks) k (arc_at arcs k) ≡ route_of arcs (ks ++ k ∷ [])
unfolding route_of metres_of exposure_of onward
route_over arcs ks k = rw (metres_append arcs ks (k ∷ []), exposure_append arcs ks (k ∷ []), add-zero, joined_nothing)

-- t holds the route of all the arcs put down but the rest, which were put down first
pub record Tracked (net : Net) (run : Run) (t : Track) (rest : List ℕ) : Type 0 where
  pub gone : List ℕ
  pub held : Holds t (route_of (arcs_in net) gone)
  pub all : arcs_found run ≡ gone ++ reverse rest
  pub metres_most : t.metres ≤ t.count * most_arc_metres

module _ (net : Net) (run : Run) where
  abbrev arcs : List Arc
  arcs = arcs_in net

  pub tracked_start : {t : Track} {rest : List ℕ} → Holds t no_route → rest ≡ take run.count run.arcs → Tracked net run t rest
  unfolding arcs_found route_in route_of metres_of exposure_of
  tracked_start {t} h e = record { gone = []; held = h; all = ap reverse (sym e); metres_most = omega (arith, ap (λ (r : Route). r.metres) h.route) }

  pub tracked_end : {t : Track} {rest : List ℕ} → Tracked net run t rest → length rest ≡ 0 → Holds t (route_of (arcs_in net) (arcs_found run))
  tracked_end {t} {rest} d e = subst (λ (l : List ℕ). Holds t (route_of arcs l)) (sym (d.all ∙ ap (λ (l : List ℕ). d.gone ++ reverse l) (nil_from_length rest e) ∙ append-nil d.gone)) d.held

  module _ (words : IsNet net) (known : ArcsKnown net run most_arcs) {t : Track} {rest : List ℕ} (left : List ℕ) (k : ℕ) (d : Tracked net run t rest) (next : rest ≡ left ++ k ∷ []) where
    split : arcs_found run ≡ d.gone ++ k ∷ reverse left
    split = d.all ∙ ap (λ (l : List ℕ). d.gone ++ l) (ap reverse next ∙ reverse-append left (k ∷ []))

    pub next_known : k < length (arcs_in net)
    next_known = known.inside k (subst (λ (l : List ℕ). Memᴰ k l) (sym split) (Memᴰ.append_right d.gone (Memᴰ.head refl)))

    gone_count : t.count ≡ length d.gone
    unfolding route_of
    gone_count = sym (fit_count t d.held.fit) ∙ ap (λ (r : Route). length r.arcs) d.held.route

    pub next_room : t.count < most_arcs
    unfolding arcs_found
    next_room = omega (arith, known.few, gone_count, simp (length-append, length-reverse) at (ap length split), length-take run.count run.arcs)

    pub next_metres : t.metres ≤ most_reach
    next_metres = omega (arith, d.metres_most, next_room)

    pub tracked_next : {u : Track} → Holds u (over_arc (route_in t) k (arc_at (arcs_in net) k)) → Tracked net run u left
    unfolding route_in onward
    tracked_next {u} h =
        let one : u.count ≡ t.count + 1 = sym (fit_count u h.fit) ∙ ap (λ (r : Route). length r.arcs) h.route ∙ simp length-append (ap (λ (c : ℕ). c + 1) (fit_count t d.held.fit)) in
        record {
          gone = d.gone ++ k ∷ [];
          held = record { fit = h.fit; route = h.route ∙ ap (λ (r : Route). over_arc r k (arc_at arcs k)) d.held.route ∙ route_over arcs d.gone k };
          all = split ∙ sym (append_assoc d.gone (k ∷ []) (reverse left));
          metres_most = omega (arith, one, d.metres_most, ap (λ (r : Route). r.metres) h.route, (sound_at arcs words.sound k next_known).metres_range);
        }
