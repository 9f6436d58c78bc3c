-- Numbers in bytes: read back from where they were written, and below 256 to the number of their bytes. Assumes nothing.
use mathlib.Core.Path.{◌≡◌, refl, sym, ap, ap₂, ◌∙◌}
use mathlib.Core.Bool.{Bool, true, false}
use mathlib.Core.List.{List, ◌∷◌, ◌++◌}
use Prim.Native.Nat.{ℕ, zero, suc, ◌+◌, ◌*◌, ◌-◌, ◌/◌, ◌%◌, ◌^◌, ◌<◌}
use native.Mathlib.Nat.{add-zero, pow-suc, div-lt_iff_lt-mul}
use native.Mathlib.Omega.{arith}
use lib.Dec.{ltb, lit<}
use lib.ListN.{get_or, take, drop, length-take, get_or-eq_default}
use lib.Seq.{get_or-take, get_or-drop}
use borrow.Author.Tests.{ltb-true, ltb-false}
use Rattle.laws.specs.Sets.{bit}
use Rattle.laws.proofs.SetLaws.{bit_low, bit_high}
use Rattle.problem.specs.Table.{Bytes, number_at, bytes_of}

-- one byte more in front, one place further on
number_cons : (b : ℕ) (l : List ℕ) (at n : ℕ) → number_at (b ∷ l) (suc at) n ≡ number_at l at n
unfolding number_at
number_cons b l at zero = refl
number_cons b l at (suc n) = ap (λ (x : ℕ). get_or l at 0 + 256 * x) (number_cons b l (suc at) n)

number_bytes : (n x : ℕ) (rest : List ℕ) → x < 256 ^ n → number_at (bytes_of n x ++ rest) 0 n ≡ x
unfolding number_at bytes_of
number_bytes zero x rest h = omega arith
number_bytes (suc n) x rest h =
    rw (number_cons (x % 256) (bytes_of n (x / 256) ++ rest) 0 n, number_bytes n (x / 256) rest ((div-lt_iff_lt-mul (lit< tt)).1 (rw pow-suc at h)))
    (omega arith)

number_drop : (l : List ℕ) (k i n : ℕ) → number_at l (k + i) n ≡ number_at (drop k l) i n
unfolding number_at
number_drop l k i zero = refl
number_drop l k i (suc n) =
    let next : suc (k + i) ≡ k + suc i = omega arith in
    ap₂ (λ (b x : ℕ). b + 256 * x) (sym (get_or-drop k l i 0)) (ap (λ (at : ℕ). number_at l at n) next ∙ number_drop l k (suc i) n)

-- a field: n bytes from k on that are those of x say x
pub field_at : (bytes rest : List ℕ) (k n x : ℕ) → drop k bytes ≡ bytes_of n x ++ rest → x < 256 ^ n → number_at bytes k n ≡ x
field_at bytes rest k n x e h =
    ap (λ (at : ℕ). number_at bytes at n) (sym (add-zero k)) ∙ number_drop bytes k 0 n ∙ ap (λ (l : List ℕ). number_at l 0 n) e ∙ number_bytes n x rest h

-- bytes say no more than there is room for
pub number_below : (bytes : List ℕ) → Bytes bytes → (at n : ℕ) → number_at bytes at n < 256 ^ n
unfolding number_at
number_below bytes f at zero = omega arith
number_below bytes f at (suc n) = rw pow-suc (omega (arith, f at, number_below bytes f (suc at) n))

-- bit k of the number that bytes say is bit k % 8 of byte k / 8
pub number_bit : (bytes : List ℕ) → Bytes bytes → (at n k : ℕ) → k < 8 * n → bit (number_at bytes at n) k ≡ bit (get_or bytes (at + k / 8) 0) (k % 8)
unfolding number_at
number_bit bytes f at zero k h = absurd (omega arith)
number_bit bytes f at (suc n) k h = go (ltb k 8) refl (λ r l. number_bit bytes f (suc at) n r l)
  where
    go : (b : Bool) → ltb k 8 ≡ b → ((r : ℕ) → r < 8 * n → bit (number_at bytes (suc at) n) r ≡ bit (get_or bytes (suc at + r / 8) 0) (r % 8))
        → bit (get_or bytes at 0 + 256 * number_at bytes (suc at) n) k ≡ bit (get_or bytes (at + k / 8) 0) (k % 8)
    go true e higher =
        let l = ltb-true k 8 e in
        let here : at + k / 8 ≡ at = omega arith in
        let own : k % 8 ≡ k = omega arith in
        bit_low 8 (get_or bytes at 0) (number_at bytes (suc at) n) k l ∙ rw (here, own)
    go false e higher =
        let l = ltb-false k 8 e in
        let from : k ≡ 8 + (k - 8) = omega arith in
        let next : suc at + (k - 8) / 8 ≡ at + k / 8 = omega arith in
        let rest : (k - 8) % 8 ≡ k % 8 = omega arith in
        ap (bit (get_or bytes at 0 + 256 * number_at bytes (suc at) n)) from ∙ bit_high 8 (get_or bytes at 0) (number_at bytes (suc at) n) (k - 8) (f at)
        ∙ higher (k - 8) (omega arith) ∙ rw (next, rest)

-- a part of bytes is bytes
pub bytes_part : (from n : ℕ) (l : List ℕ) → Bytes l → Bytes (take n (drop from l))
bytes_part from n l f k = go (ltb k n) refl
  where
    go : (b : Bool) → ltb k n ≡ b → get_or (take n (drop from l)) k 0 < 256
    go true e = omega (arith, get_or-take n (drop from l) k 0 (ltb-true k n e), get_or-drop from l k 0, f (from + k))
    go false e =
        omega (arith, get_or-eq_default (take n (drop from l)) 0 {n = k} (omega (arith, length-take n (drop from l), ltb-false k n e)))
