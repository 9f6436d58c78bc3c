-- What is written: the bytes of a change, a torn end. Assumes nothing.
use Prim.Native.Nat.{ℕ, ◌+◌, ◌*◌, ◌%◌, ◌≤◌}
use mathlib.Core.List.{List, [], ◌∷◌, ◌++◌, flat_map, append-nil}
use mathlib.Core.Path.{◌≡◌, refl, sym, ap, ◌∙◌}
use native.Mathlib.Omega.{arith}
use lib.ListN.{length}
use Rattle.problem.specs.declared.Reason.{Reason}
use Rattle.problem.specs.declared.Reason.TheVariants.{TornEnd}
use Rattle.problem.specs.Table.{bytes_of}
use Rattle.problem.specs.Mending.{whole_arcs, reason_number, no_number, change_bytes, lost, rounded_up}
use Rattle.problem.proofs.ChangeLaws.{Ended, ended, whole_end, has_torn_end, change_length}
use Rattle.octets.specs.Puts.{Puts}
use Rattle.octets.proofs.PutLaws.{puts_length}
use Rattle.mend.specs.Steps.{torn_bytes}

-- behind bytes that are put there is as much room less as they are
pub room_left : (k : ℕ) {xs before : List ℕ} {at : ℕ} {after : List ℕ} {n : ℕ} → Puts xs before at after n → at + (length xs + k) ≤ length before → n + k ≤ length after
room_left k p room = omega (arith, p.place, puts_length (omega (arith, p.place)) p)

-- the fields of a lost arc's record, one behind the other
pub lost_written : (old number : ℕ) (r : Reason) → number ≡ reason_number r
    → (((bytes_of 2 old ++ number ∷ []) ++ 0 ∷ []) ++ bytes_of 2 no_number) ++ bytes_of 10 0 ≡ change_bytes (lost old (reason_number r))
unfolding change_bytes bytes_of
lost_written old number r e = rw e refl

-- ---- a torn end

module _ (input : List ℕ) where
  pub torn_none : length input % 16 ≡ 0 → [] ≡ torn_bytes input
  unfolding torn_bytes flat_map
  torn_none e = rw (whole_end input e)

  pub torn_some : (length input % 16 ≡ 0 → ⊥) → change_bytes (lost (whole_arcs input) (reason_number TornEnd)) ≡ torn_bytes input
  unfolding torn_bytes flat_map
  torn_some e = rw (has_torn_end input e) (sym (append-nil (change_bytes (lost (whole_arcs input) 6))))

  -- the room that it takes
  whole_room : length input % 16 ≡ 0 → length (torn_bytes input) ≡ 0
  whole_room e = ap length (sym (torn_none e))

  pub torn_room : (length input % 16 ≡ 0 → ⊥) → length (torn_bytes input) ≡ 16
  torn_room e = ap length (sym (torn_some e)) ∙ change_length (lost (whole_arcs input) 6)

  -- a part of a record takes a whole one's
  pub torn_short : 16 * whole_arcs input + length (torn_bytes input) ≤ rounded_up input
  torn_short = go (ended input)
    where
      go : Ended input → 16 * whole_arcs input + length (torn_bytes input) ≤ rounded_up input
      go (Ended.whole e) = omega (arith, whole_room e)
      go (Ended.torn e) = omega (arith, torn_room e)
