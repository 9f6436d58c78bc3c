-- The table: how many arcs it has, where each stands, and what a sound table says of each. Assumes nothing.
use mathlib.Core.Path.{◌≡◌, refl, ap, ◌∙◌}
use mathlib.Core.Bool.{Bool, true, false}
use mathlib.Core.List.{List, [], ◌∷◌}
use Prim.Native.Nat.{ℕ, zero, suc, ◌+◌, ◌*◌, ◌-◌, ◌/◌, ◌^◌, ◌≤◌, ◌<◌}
use native.Mathlib.Nat.{not-suc-le-zero, le_of_suc-le-suc}
use native.Mathlib.Omega.{arith}
use lib.Dec.{ltb}
use lib.ListN.{length, take, drop, get_or-eq_default}
use lib.Seq.{drop-drop}
use borrow.Author.Tests.{ltb-true, ltb-false, eqb-true, eq-eqb}
use Rattle.problem.specs.declared.Arc.{Arc}
use Rattle.problem.specs.Table.{risk_width, Bytes, record_at, arc_of, first_arcs, arcs_of, SoundArc, arc_number, arcs_number, all_sound}
use Rattle.problem.specs.Exposures.{to_nothing, of_arc}
use Rattle.problem.specs.Routes.{arc_at, exposure_of}
use Rattle.problem.proofs.ByteLaws.{number_below, bytes_part}
use Rattle.problem.proofs.ExposureLaws.{joined_risks_below}
use Rattle.problem.proofs.ToldLaws.{untold}
use Rattle.problem.proofs.FaultLaws.{sound_arc}

-- one arc for every 16 bytes
length_first : (n : ℕ) (table : List ℕ) → length (first_arcs n table) ≡ n
unfolding first_arcs
length_first zero table = refl
length_first (suc n) table = ap suc (length_first n (drop 16 table))

pub arcs_length : (table : List ℕ) → length (arcs_of table) ≡ length table / 16
unfolding arcs_of
arcs_length table = length_first (length table / 16) table

pub arcs_inside : (table : List ℕ) (k : ℕ) → k < length table / 16 → k < length (arcs_of table)
arcs_inside table k h = omega (arith, arcs_length table)

-- its bytes are those from 16 times k on, up to the next one's
pub record_part : (table : List ℕ) (k : ℕ) → take (16 * k + 16 - 16 * k) (drop (16 * k) table) ≡ record_at table k
record_part table k = let sixteen : 16 * k + 16 - 16 * k ≡ 16 = omega arith in rw sixteen

-- arc k stands at 16 times k
first_at : (n k : ℕ) (table : List ℕ) → k < n → arc_at (first_arcs n table) k ≡ arc_of (record_at table k)
unfolding first_arcs
first_at zero k table h = absurd (not-suc-le-zero h)
first_at (suc n) zero table h = refl
first_at (suc n) (suc k) table h =
    let at : 16 + 16 * k ≡ 16 * suc k = omega arith in
    first_at n k (drop 16 table) (le_of_suc-le-suc h) ∙ rw (drop-drop, at)

pub arcs_at : (table : List ℕ) (k : ℕ) → 16 * k + 16 ≤ length table → arc_at (arcs_of table) k ≡ arc_of (record_at table k)
unfolding arcs_of
arcs_at table k h = first_at (length table / 16) k table (omega arith)

-- no risk of an arc is past 63
module _ (table : List ℕ) (bytes : Bytes table) where
  pub arc_risks_below : (k : ℕ) → (arc_at (arcs_of table) k).risks < 2 ^ risk_width
  unfolding arc_of
  arc_risks_below k = go (ltb k (length table / 16)) refl
    where
      go : (b : Bool) → ltb k (length table / 16) ≡ b → (arc_at (arcs_of table) k).risks < 2 ^ risk_width
      go true e =
          let h = ltb-true k (length table / 16) e in
          omega (arith, ap (λ (a : Arc). a.risks) (arcs_at table k (omega arith)), number_below (record_at table k) (bytes_part (16 * k) 16 table bytes) 8 8)
      go false e = omega (arith, ap (λ (a : Arc). a.risks) (get_or-eq_default (arcs_of table) (arc_at [] 0) {n = k} (omega (arith, arcs_length table, ltb-false k (length table / 16) e))))

-- nor is one of a list of such arcs
pub risks_below : (arcs : List Arc) → ((k : ℕ) → (arc_at arcs k).risks < 2 ^ risk_width) → (ks : List ℕ) → (exposure_of arcs ks).risks < 2 ^ risk_width
unfolding exposure_of to_nothing of_arc
risks_below arcs below [] = omega arith
risks_below arcs below (k ∷ ks) = joined_risks_below risk_width (of_arc (arc_at arcs k)) (exposure_of arcs ks) (below k) (risks_below arcs below ks)

pub sound_number : (arcs : List Arc) → all_sound arcs ≡ true → arcs_number arcs ≡ 0
unfolding all_sound
sound_number arcs h = eqb-true (arcs_number arcs) 0 h

pub number_sound : (arcs : List Arc) → arcs_number arcs ≡ 0 → all_sound arcs ≡ true
unfolding all_sound
number_sound arcs h = eq-eqb (arcs_number arcs) 0 h

pub sound_at : (arcs : List Arc) → all_sound arcs ≡ true → (k : ℕ) → k < length arcs → SoundArc (arc_at arcs k)
unfolding arcs_number
sound_at arcs h k l = sound_arc (arc_at arcs k) (untold arc_number (arc_at [] 0) arcs (sound_number arcs h) k l)
