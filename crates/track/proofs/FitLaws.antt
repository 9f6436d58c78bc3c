-- What a track that is fit holds: its 32 places are the route's, and with one arc more it is fit again. Assumes nothing.
use Prim.Native.Nat.{ℕ, suc, ◌+◌, ◌-◌, ◌<◌}
use mathlib.Core.List.{◌++◌}
use mathlib.Core.Path.{◌≡◌, sym, ap, ◌∙◌}
use native.Mathlib.Decide.{dec_lt}
use native.Mathlib.Numerals.{add-one}
use native.Mathlib.Omega.{arith}
use lib.ListN.{length, get_or, take, drop, set, replicate, length-set, take-append-drop}
use lib.Seq.{length-take-le, take-suc-set, drop-set-lt, drop-drop, get_or-set_same, get_or-set_other}
use Rattle.problem.specs.Table.{most_arcs, most_in_table}
use Rattle.problem.specs.declared.Exposure.{Exposure}
use Rattle.problem.specs.Exposures.{joined}
use Rattle.problem.specs.Reply.{places_of}
use Rattle.track.specs.declared.Track.{Track}
use Rattle.track.specs.Track.{route_in, Fit, Holds, onward}

module _ (t : Track) (fit : Fit t) where
  pub fit_count : length (route_in t).arcs ≡ t.count
  unfolding route_in
  fit_count = length-take-le t.count t.arcs (omega (arith, fit.few, fit.size))

  pub fit_places : t.arcs ≡ places_of (route_in t)
  unfolding route_in places_of
  fit_places =
      sym (take-append-drop t.count t.arcs)
      ∙ ap (λ l. take t.count t.arcs ++ l) (fit.blank ∙ ap (λ (n : ℕ). replicate (32 - n) 255) (sym fit_count))

  -- one arc more put at the end
  module _ (k metres : ℕ) (e all : Exposure) (room : t.count < most_arcs) (small : k < most_in_table) (both : all ≡ joined t.exposure e) where
    abbrev longer : Track
    longer = record { arcs = set t.arcs t.count k; count = t.count + 1; metres = t.metres + metres; exposure = all }

    within : t.count < length t.arcs
    within = omega (arith, fit.size)

    longer_small : (i : ℕ) → i < t.count + 1 → get_or (set t.arcs t.count k) i 0 < most_in_table
    longer_small i h =
        elim (dec_lt i t.count) [
          | yes l ↦ rw (get_or-set_other t.arcs t.count i k 0 (λ e. omega arith)) (fit.small i l)
          | no l ↦ let e : i ≡ t.count = omega arith in rw (e, get_or-set_same t.arcs t.count k 0 within) small
        ]

    longer_blank : drop (t.count + 1) (set t.arcs t.count k) ≡ replicate (32 - (t.count + 1)) 255
    longer_blank =
        let e : 32 - t.count ≡ suc (32 - (t.count + 1)) = omega arith in
        drop-set-lt (t.count + 1) t.arcs t.count k (omega arith)
        ∙ sym (drop-drop 1 t.count t.arcs)
        ∙ ap (drop 1) (fit.blank ∙ ap (λ (n : ℕ). replicate n 255) e)

    pub fit_onward : Holds longer (onward (route_in t) k metres e)
    unfolding route_in onward
    fit_onward = record {
      fit = record {
        few = omega arith;
        size = simp length-set fit.size;
        small = longer_small;
        blank = longer_blank;
      };
      route = rw (add-one, take-suc-set t.arcs t.count k within, both);
    }
