-- Numbers each behind a space, then a line feed, written one by one. Assumes nothing.
use Prim.Native.Nat.{ℕ, suc, ◌+◌, ◌*◌, ◌^◌, ◌≤◌, ◌<◌}
use mathlib.Core.List.{List, ◌++◌}
use mathlib.Core.Path.{◌≡◌, refl, ◌∙◌}
use native.Mathlib.Numerals.{add-one}
use native.Mathlib.Omega.{arith}
use lib.ListN.{length, get_or, drop, drop_of_length-le}
use lib.Seq.{drop-cons}
use Rattle.problem.specs.Printed.{text, digits, fields}
use Rattle.octets.specs.Puts.{Puts}
use Rattle.octets.proofs.PutLaws.{puts_then, puts_length}
use Rattle.problem.proofs.DigitLaws.{digits_length}

-- a space and the digits
pub field_length : (k x : ℕ) → x < 10 ^ suc k → length (text " " ++ digits 10 x) ≤ suc (suc k)
unfolding text
field_length k x h = omega (arith, digits_length k 10 x h)

module _ (l : List ℕ) (i : ℕ) where
  fields_from : i < length l → fields (drop i l) ≡ text " " ++ digits 10 (get_or l i 0) ++ fields (drop (i + 1) l)
  unfolding fields
  fields_from h = rw (add-one, drop-cons l i 0 h)

  fields_end : length l ≤ i → fields (drop i l) ≡ text "\n"
  unfolding fields
  fields_end h = rw (drop_of_length-le l h)

-- the numbers before i are written: once those from i on are written too, all are
pub record Listed (l before : List ℕ) (at : ℕ) (after : List ℕ) (next i : ℕ) : Type 0 where
  pub within : i ≤ length l
  pub near : next ≤ at + 4 * i
  pub same : length after ≡ length before
  pub rest : (end : List ℕ) (m : ℕ) → Puts (fields (drop i l)) after next end m → Puts (fields l) before at end m

pub listed_none : (l before : List ℕ) (at : ℕ) → Listed l before at before at 0
listed_none l before at = record { within = omega arith; near = omega arith; same = refl; rest = λ end m p. p }

module _ {l before : List ℕ} {at : ℕ} {after : List ℕ} {next i : ℕ} (room : at + 4 * length l + 8 ≤ length before) (s : Listed l before at after next i) where
  pub listed_more : {x : ℕ} {after' : List ℕ} {next' : ℕ} → i < length l → x ≡ get_or l i 0 → get_or l i 0 < 256
      → Puts (text " " ++ digits 10 x) after next after' next' → Listed l before at after' next' (i + 1)
  listed_more {x} {after'} {next'} h e small p =
      let short = field_length 2 x (omega arith) in record {
        within = omega arith;
        near = omega (arith, p.place, s.near);
        same = puts_length (omega (arith, p.place, s.near, s.same)) p ∙ s.same;
        rest = λ end m q. s.rest end m (rw (fields_from l i h, ← e) (puts_then (omega (arith, s.near, s.same)) p q));
      }

  pub listed_all : {end : List ℕ} {m : ℕ} → length l ≤ i → Puts (text "\n") after next end m → Puts (fields l) before at end m × (m ≤ at + 4 * length l + 1)
  unfolding text
  listed_all {end} {m} h p = (s.rest end m (rw (fields_end l i h) p), omega (arith, p.place, s.near, s.within))
