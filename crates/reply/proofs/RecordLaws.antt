-- The reply record of two tracks, from what the tracks hold; its length. Assumes nothing.
use Prim.Native.Nat.{ℕ}
use mathlib.Core.List.{List, [], ◌∷◌, ◌++◌}
use mathlib.Core.Path.{◌≡◌, refl, sym, ap, ◌∙◌}
use lib.ListN.{length, length-append}
use Rattle.problem.specs.Table.{reply_size, bytes_of}
use Rattle.problem.specs.declared.Exposure.{Exposure}
use Rattle.problem.specs.Exposures.{common, spans_in, size, sharing}
use Rattle.problem.specs.Pairs.{shared_risks, shared_count, shared_spans}
use Rattle.problem.specs.Reply.{reply_of}
use Rattle.track.specs.declared.Track.{Track}
use Rattle.track.specs.Track.{route_in, Fit, pair_in}
use Rattle.track.proofs.FitLaws.{fit_count, fit_places}

module _ (verdict floor ranked : ℕ) (main standby : Track) (main_fit : Fit main) (standby_fit : Fit standby) where
  -- field after field
  abbrev pub written : (shared spans risks : ℕ) → List ℕ
  written shared spans risks =
      verdict ∷ shared ∷ floor ∷ main.count ∷ standby.count ∷ spans ∷ 0 ∷ 0 ∷ []
      ++ bytes_of 4 ranked
      ++ bytes_of 4 main.metres
      ++ bytes_of 4 standby.metres
      ++ bytes_of 4 0
      ++ bytes_of 8 risks
      ++ main.arcs
      ++ standby.arcs

  -- from what both are exposed to
  module _ (both : Exposure) (is : both ≡ common main.exposure standby.exposure) {shared spans risks : ℕ} (count : shared ≡ size both) (crossed : spans ≡ spans_in both) (field : risks ≡ both.risks) where
    pub record_written : written shared spans risks ≡ reply_of verdict floor ranked (pair_in main standby)
    unfolding reply_of shared_count shared_spans shared_risks sharing route_in
    record_written =
        rw (count, crossed, field, is, fit_count main main_fit, fit_count standby standby_fit, ← fit_places main main_fit, ← fit_places standby standby_fit)

  pub record_length : length (reply_of verdict floor ranked (pair_in main standby)) ≡ reply_size
  unfolding bytes_of
  record_length =
      ap length (sym (record_written _ refl refl refl refl)) ∙ rw (length-append, length-append, main_fit.size, standby_fit.size)
