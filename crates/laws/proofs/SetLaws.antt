-- Sets of nodes or of risks as numbers, at any width: bits of unions, intersections and one more element; how many elements. Assumes nothing.
use mathlib.Core.Path.{◌≡◌, refl, sym, ap, ◌∙◌}
use mathlib.Core.Bool.{Bool, true, false}
use Prim.Native.Nat.{ℕ, zero, suc, ◌+◌, ◌*◌, ◌-◌, ◌/◌, ◌%◌, ◌^◌, ◌≤◌, ◌<◌, min, max}
use native.Mathlib.Nat.{le_refl, lt_of_lt_of_le, mul_assoc, pow-suc, pow-succ', div-one, div-div-eq-div-mul, div-lt_iff_lt-mul, not-suc-le-zero}
use native.Mathlib.Decide.{ℕ_discrete}
use native.Mathlib.Omega.{arith}
use lib.Arith.{lt-one}
use lib.Bits.{bit_and, bit_or, and_step, or_step, and_shr, or_shr, and_le_l, and_le_r, and_self, or_add_and}
use lib.Count.{ones_in, ones, ones_step, count_trailing_zeros, under}
use lib.ListN.{length}
use lib.Pow.{pow_mono, pow_pos}
use lib.Dec.{eqb, ltb, eqb-zero-suc, eqb-suc-zero, eqb-suc-suc, lit<}
use borrow.Author.Tests.{ltb-true, ltb-false, eqb-true, eqb-false, eq-eqb, ne_eqb}
use Rattle.laws.specs.Choosing.{keep}
use Rattle.laws.specs.Sets.{bit, with, without, Lowest, unmet, below, in_both}

-- ---- the bits of a set, from the lowest on

pub bit_zero : (s : ℕ) → bit s 0 ≡ s % 2
unfolding bit
bit_zero s = rw div-one

pub bit_suc : (s r : ℕ) → bit s (suc r) ≡ bit (s / 2) r
unfolding bit
bit_suc s r = rw (pow-succ', ← div-div-eq-div-mul)

pub bit_le_one : (s r : ℕ) → bit s r ≤ 1
unfolding bit
bit_le_one s r = omega arith

pub bit_empty : (r : ℕ) → bit 0 r ≡ 0
bit_empty zero = bit_zero 0
bit_empty (suc r) = bit_suc 0 r ∙ bit_empty r

pub bit_and_lem : (a b r : ℕ) → bit (bit_and a b) r ≡ min (bit a r) (bit b r)
bit_and_lem a b zero = simp bit_zero (rw and_step (omega arith))
bit_and_lem a b (suc r) = simp bit_suc (ap (λ (x : ℕ). bit x r) (and_shr a b 1) ∙ bit_and_lem (a / 2) (b / 2) r)

pub bit_or_lem : (a b r : ℕ) → bit (bit_or a b) r ≡ max (bit a r) (bit b r)
bit_or_lem a b zero = simp bit_zero (rw or_step (omega arith))
bit_or_lem a b (suc r) = simp bit_suc (ap (λ (x : ℕ). bit x r) (or_shr a b 1) ∙ bit_or_lem (a / 2) (b / 2) r)

-- 1 where the test holds, else 0
unfoldable pub digit : Bool → ℕ
digit true = 1
digit false = 0

pub bit_pow : (h r : ℕ) → bit (2 ^ h) r ≡ digit (eqb r h)
unfolding digit
bit_pow zero zero = bit_zero 1
bit_pow zero (suc r) = rw (bit_suc, eqb-suc-zero) (bit_empty r)
bit_pow (suc h) zero = rw (bit_zero, pow-suc, eqb-zero-suc) (omega arith)
bit_pow (suc h) (suc r) =
    let half : 2 ^ suc h / 2 ≡ 2 ^ h = rw pow-suc (omega arith) in
    rw (bit_suc, half, eqb-suc-suc) (bit_pow h r)

-- the set and h
pub bit_with : (s h r : ℕ) → bit (with s h) r ≡ max (bit s r) (digit (eqb r h))
unfolding with
bit_with s h r = rw (bit_or_lem, bit_pow)

-- of another, as it was
pub bit_with_other : (s h r : ℕ) → (r ≡ h → ⊥) → bit (with s h) r ≡ bit s r
unfolding digit
bit_with_other s h r ne = rw (bit_with s h r, ne_eqb r h ne) (omega arith)

-- h itself is in it
pub bit_with_same : (s h : ℕ) → bit (with s h) h ≡ 1
unfolding digit
bit_with_same s h = rw (bit_with s h h, eq-eqb h h refl) (omega (arith, bit_le_one s h))

pub bit_single : (h r : ℕ) → bit (with 0 h) r ≡ digit (eqb r h)
bit_single h r = rw (bit_with, bit_empty) (omega arith)

-- a set with no element is empty
pub bits_empty : (d s : ℕ) → s < 2 ^ d → ((r : ℕ) → bit s r ≡ 0) → s ≡ 0
bits_empty zero s h f = lt-one h
bits_empty (suc d) s h f =
    omega (arith, simp bit_zero at (f 0), bits_empty d (s / 2) ((div-lt_iff_lt-mul (lit< tt)).1 (rw pow-suc at h)) (λ r. simp bit_suc at (f (suc r))))

below_pow : (s : ℕ) → s < 2 ^ s
below_pow zero = omega arith
below_pow (suc s) = rw pow-suc (omega (arith, below_pow s))

-- sets with the same elements are the same
bits_same : (d x y : ℕ) → x < 2 ^ d → y < 2 ^ d → ((r : ℕ) → bit x r ≡ bit y r) → x ≡ y
bits_same zero x y h b f = lt-one h ∙ sym (lt-one b)
bits_same (suc d) x y h b f =
    let half : x / 2 ≡ y / 2 = bits_same d (x / 2) (y / 2) ((div-lt_iff_lt-mul (lit< tt)).1 (rw pow-suc at h)) ((div-lt_iff_lt-mul (lit< tt)).1 (rw pow-suc at b)) (λ r. simp bit_suc at (f (suc r))) in
    omega (arith, simp bit_zero at (f 0))

pub bits_ext : (x y : ℕ) → ((r : ℕ) → bit x r ≡ bit y r) → x ≡ y
bits_ext x y f =
    bits_same (x + y) x y (lt_of_lt_of_le (below_pow x) (pow_mono (omega arith))) (lt_of_lt_of_le (below_pow y) (pow_mono (omega arith))) f

-- a set below a power of two has no element from there on, and any other has one
pub bit_past : (d x r : ℕ) → x < 2 ^ d → d ≤ r → bit x r ≡ 0
bit_past zero x r h l = rw (lt-one h) (bit_empty r)
bit_past (suc d) x zero h l = absurd (omega arith)
bit_past (suc d) x (suc r) h l = bit_suc x r ∙ bit_past d (x / 2) r ((div-lt_iff_lt-mul (lit< tt)).1 (rw pow-suc at h)) (omega arith)

pub bit_inside : (d x r : ℕ) → x < 2 ^ d → bit x r ≡ 1 → r < d
bit_inside d x r h e = go (ltb r d) refl
  where
    go : (b : Bool) → ltb r d ≡ b → r < d
    go true l = ltb-true r d l
    go false l = absurd (omega (arith, e, bit_past d x r h (ltb-false r d l)))

pub record Element (d x : ℕ) : Type 0 where
  pub place : ℕ
  pub from : d ≤ place
  pub is_member : bit x place ≡ 1

element_half : {d x : ℕ} → Element d (x / 2) → Element (suc d) x
element_half {d} {x} e = record { place = suc e.place; from = omega (arith, e.from); is_member = bit_suc x e.place ∙ e.is_member }

element_lowest : (d x : ℕ) → x < 2 ^ d → 0 < x → Element 0 x
element_lowest zero x h some = absurd (omega (arith, lt-one h))
element_lowest (suc d) x h some = go (eqb (x % 2) 1) refl (λ more. element_half (element_lowest d (x / 2) ((div-lt_iff_lt-mul (lit< tt)).1 (rw pow-suc at h)) more))
  where
    go : (b : Bool) → eqb (x % 2) 1 ≡ b → (0 < x / 2 → Element 1 x) → Element 0 x
    go true e higher = record { place = 0; from = omega arith; is_member = bit_zero x ∙ eqb-true (x % 2) 1 e }
    go false e higher = let found = higher (omega (arith, eqb-false (x % 2) 1 e)) in record { place = found.place; from = omega arith; is_member = found.is_member }

pub element_past : (d x : ℕ) → 2 ^ d ≤ x → Element d x
element_past zero x h = element_lowest x x (below_pow x) (omega arith)
element_past (suc d) x h = element_half (element_past d (x / 2) (let twice : 2 ^ suc d ≡ 2 * 2 ^ d = pow-succ' 2 d in omega arith))

pub bits_below : (d x : ℕ) → ((r : ℕ) → bit x r ≡ 1 → r < d) → x < 2 ^ d
bits_below d x f = go (ltb x (2 ^ d)) refl
  where
    go : (b : Bool) → ltb x (2 ^ d) ≡ b → x < 2 ^ d
    go true e = ltb-true x (2 ^ d) e
    go false e = let past = element_past d x (ltb-false x (2 ^ d) e) in absurd (omega (arith, past.from, f past.place past.is_member))

-- a set of numbers below d, and one more of these
pub with_inside : (d s h : ℕ) → s < 2 ^ d → h < d → with s h < 2 ^ d
with_inside d s h few l = bits_below d (with s h) (λ r e. at r e (ℕ_discrete r h))
  where
    at : (r : ℕ) → bit (with s h) r ≡ 1 → Dec (r ≡ h) → r < d
    at r e (yes q) = omega arith
    at r e (no n) = bit_inside d s r few (sym (bit_with_other s h r n) ∙ e)

-- a set below a power of two, and another from there on
twice_power : (d y : ℕ) → 2 ^ suc d * y ≡ 2 * (2 ^ d * y)
twice_power d y = rw (pow-succ', mul_assoc)

pub bit_low : (d x y r : ℕ) → r < d → bit (x + 2 ^ d * y) r ≡ bit x r
bit_low zero x y r h = absurd (omega arith)
bit_low (suc d) x y zero h = simp bit_zero (omega (arith, twice_power d y))
bit_low (suc d) x y (suc r) h =
    let half : (x + 2 ^ suc d * y) / 2 ≡ x / 2 + 2 ^ d * y = omega (arith, twice_power d y) in
    bit_suc _ r ∙ ap (λ (s : ℕ). bit s r) half ∙ bit_low d (x / 2) y r (omega arith) ∙ sym (bit_suc x r)

pub bit_high : (d x y r : ℕ) → x < 2 ^ d → bit (x + 2 ^ d * y) (d + r) ≡ bit y r
bit_high zero x y r h = let other : x + 2 ^ 0 * y ≡ y = omega (arith, lt-one h) in let same : 0 + r ≡ r = omega arith in rw (other, same)
bit_high (suc d) x y r h =
    let half : (x + 2 ^ suc d * y) / 2 ≡ x / 2 + 2 ^ d * y = omega (arith, twice_power d y) in
    let next : suc d + r ≡ suc (d + r) = omega arith in
    ap (bit (x + 2 ^ suc d * y)) next ∙ bit_suc _ (d + r) ∙ ap (λ (s : ℕ). bit s (d + r)) half ∙ bit_high d (x / 2) y r ((div-lt_iff_lt-mul (lit< tt)).1 (rw pow-suc at h))

-- all of the lowest d bits
pub bit_full : (d r : ℕ) → r < d → bit (2 ^ d - 1) r ≡ 1
bit_full zero r h = absurd (omega arith)
bit_full (suc d) zero h = rw (bit_zero, pow-suc) (omega (arith, pow_pos d))
bit_full (suc d) (suc r) h =
    let half : (2 ^ suc d - 1) / 2 ≡ 2 ^ d - 1 = rw pow-suc (omega arith) in
    rw (bit_suc, half) (bit_full d r (omega arith))

pub or_assoc : (x y z : ℕ) → bit_or (bit_or x y) z ≡ bit_or x (bit_or y z)
or_assoc x y z = bits_ext _ _ (λ r. simp bit_or_lem (omega arith))

-- two sets that together have no element are empty
pub or_none : (x y : ℕ) → bit_or x y ≡ 0 → (x ≡ 0) × (y ≡ 0)
or_none x y e =
    let few : x + y ≡ 0 = omega (arith, or_add_and x y, and_le_l x y, and_le_r x y) in
    (omega (arith, few), omega (arith, few))

-- what lies within a set that has nothing in common with another has nothing in common with it either
pub and_within : (x y z : ℕ) → ((r : ℕ) → bit x r ≤ bit y r) → bit_and y z ≡ 0 → bit_and x z ≡ 0
and_within x y z f e =
    bits_empty (bit_and x z) (bit_and x z) (below_pow (bit_and x z))
    (λ r. rw bit_and_lem (omega (arith, f r, rw bit_and_lem at (ap (λ (s : ℕ). bit s r) e), bit_empty r)))

-- ---- the lowest of a set

lowest_half : (s r : ℕ) → s % 2 ≡ 0 → Lowest (s / 2) r → Lowest s (suc r)
lowest_half s r even low = record { is_member = bit_suc s r ∙ low.is_member; least = at }
  where
    at : (k : ℕ) → bit s k ≡ 1 → suc r ≤ k
    at zero e = absurd (omega (arith, bit_zero s))
    at (suc k) e = omega (arith, low.least k (sym (bit_suc s k) ∙ e))

-- the language's count of the zeros below it
pub lowest_trailing : (d s : ℕ) → 0 < s → s < 2 ^ d → Lowest s (count_trailing_zeros d s)
unfolding count_trailing_zeros
lowest_trailing zero s p h = absurd (omega (arith, lt-one h))
lowest_trailing (suc d) s p h = go (s % 2) refl (λ more. lowest_trailing d (s / 2) more ((div-lt_iff_lt-mul (lit< tt)).1 (rw pow-suc at h)))
  where
    go : (b : ℕ) → s % 2 ≡ b → (0 < s / 2 → Lowest (s / 2) (count_trailing_zeros d (s / 2))) → Lowest s (under b (count_trailing_zeros d (s / 2)))
    go zero e higher = lowest_half s _ e (higher (omega arith))
    go (suc b) e higher = record { is_member = bit_zero s ∙ omega arith; least = λ k x. omega arith }

lowest_even : (s r : ℕ) → Lowest s (suc r) → s % 2 ≡ 0
lowest_even s r low = go (s % 2) refl
  where
    go : (b : ℕ) → s % 2 ≡ b → s % 2 ≡ 0
    go zero e = e
    go (suc b) e = absurd (omega (arith, low.least 0 (bit_zero s ∙ omega arith)))

-- taken away, it leaves the others as they were
pub bit_but_lowest : (s r k : ℕ) → Lowest s r → (k ≡ r → ⊥) → bit (bit_and s (s - 1)) k ≡ bit s k
bit_but_lowest s zero zero low other = absurd (other refl)
bit_but_lowest s zero (suc k) low other =
    let odd : s % 2 ≡ 1 = sym (bit_zero s) ∙ low.is_member in
    let half : (s - 1) / 2 ≡ s / 2 = omega arith in
    simp bit_suc (ap (λ (x : ℕ). bit x k) (and_shr s (s - 1) 1 ∙ ap (bit_and (s / 2)) half ∙ and_self (s / 2)))
bit_but_lowest s (suc r) zero low other = simp bit_zero (rw and_step (omega (arith, lowest_even s r low)))
bit_but_lowest s (suc r) (suc k) low other =
    let half : (s - 1) / 2 ≡ s / 2 - 1 = omega (arith, lowest_even s r low) in
    let rest : Lowest (s / 2) r = record { is_member = sym (bit_suc s r) ∙ low.is_member; least = λ j e. omega (arith, low.least (suc j) (bit_suc s j ∙ e)) } in
    simp bit_suc (ap (λ (x : ℕ). bit x k) (and_shr s (s - 1) 1 ∙ ap (bit_and (s / 2)) half) ∙ bit_but_lowest (s / 2) r k rest (λ e. other (ap suc e)))

-- ---- how many elements a set has, at the width d

-- a set within another has no more elements
pub ones_mono : (d x y : ℕ) → ((r : ℕ) → bit x r ≤ bit y r) → ones_in d x ≤ ones_in d y
unfolding ones_in
ones_mono zero x y h = le_refl 0
ones_mono (suc d) x y h =
    omega (arith, simp bit_zero at (h 0), ones_mono d (x / 2) (y / 2) (λ r. simp bit_suc at (h (suc r))))

-- a set within another, with as many elements, is the same at that width
pub ones_same : (d x y : ℕ) → ((r : ℕ) → bit x r ≤ bit y r) → ones_in d y ≤ ones_in d x → (r : ℕ) → r < d → bit x r ≡ bit y r
unfolding ones_in
ones_same zero x y h l r b = absurd (not-suc-le-zero b)
ones_same (suc d) x y h l zero b =
    simp bit_zero (omega (arith, simp bit_zero at (h 0), ones_mono d (x / 2) (y / 2) (λ i. simp bit_suc at (h (suc i)))))
ones_same (suc d) x y h l (suc r) b =
    simp bit_suc (ones_same d (x / 2) (y / 2) (λ i. simp bit_suc at (h (suc i))) (omega (arith, simp bit_zero at (h 0))) r (omega arith))

pub ones_le : (d x : ℕ) → ones_in d x ≤ d
unfolding ones_in
ones_le zero x = le_refl 0
ones_le (suc d) x = omega (arith, ones_le d (x / 2))

low_and : (x y : ℕ) → bit_and x y % 2 ≡ min (x % 2) (y % 2)
low_and x y = sym (bit_zero (bit_and x y)) ∙ bit_and_lem x y 0 ∙ rw (bit_zero x, bit_zero y)

low_or : (x y : ℕ) → bit_or x y % 2 ≡ max (x % 2) (y % 2)
low_or x y = sym (bit_zero (bit_or x y)) ∙ bit_or_lem x y 0 ∙ rw (bit_zero x, bit_zero y)

-- of two sets together, no more than of both
pub ones_or : (d x y : ℕ) → ones_in d (bit_or x y) ≤ ones_in d x + ones_in d y
unfolding ones_in
ones_or zero x y = omega arith
ones_or (suc d) x y =
    let half : bit_or x y / 2 ≡ bit_or (x / 2) (y / 2) = or_shr x y 1 in
    rw (half, low_or x y) (omega (arith, ones_or d (x / 2) (y / 2)))

pub ones_empty : (d : ℕ) → ones_in d 0 ≡ 0
unfolding ones_in
ones_empty zero = refl
ones_empty (suc d) = omega (arith, ones_empty d)

-- of one element, at most one
pub ones_single : (d k : ℕ) → ones_in d (2 ^ k) ≤ 1
unfolding ones_in
ones_single zero k = omega arith
ones_single (suc d) zero = omega (arith, ones_empty d)
ones_single (suc d) (suc k) =
    let half : 2 ^ suc k / 2 ≡ 2 ^ k = rw pow-suc (omega arith) in
    let even : 2 ^ suc k % 2 ≡ 0 = rw pow-suc (omega arith) in
    rw (half, even) (omega (arith, ones_single d k))

-- what a set has beside another: its lowest bit, and the rest
beside_low : (x y : ℕ) → (x - bit_and x y) % 2 ≡ x % 2 - min (x % 2) (y % 2)
beside_low x y = omega (arith, and_step x y, and_le_l x y, and_le_l (x / 2) (y / 2))

beside_rest : (x y : ℕ) → (x - bit_and x y) / 2 ≡ x / 2 - bit_and (x / 2) (y / 2)
beside_rest x y = omega (arith, and_step x y, and_le_l x y, and_le_l (x / 2) (y / 2))

pub bit_without : (x y r : ℕ) → bit (without x y) r ≡ bit x r - bit y r
unfolding without
bit_without x y zero = simp bit_zero (rw beside_low (omega arith))
bit_without x y (suc r) = simp bit_suc (ap (λ (s : ℕ). bit s r) (beside_rest x y) ∙ bit_without (x / 2) (y / 2) r)

-- of what m has in common with two sets, as many as with the first, and as many as it has with the second beside the first
pub ones_new : (d m x y : ℕ) → ones_in d (bit_and m (bit_or x y)) ≡ ones_in d (bit_and m x) + ones_in d (bit_and m y - bit_and (bit_and m y) x)
unfolding ones_in
ones_new zero m x y = refl
ones_new (suc d) m x y =
    let joined_low : bit_and m (bit_or x y) % 2 ≡ min (m % 2) (max (x % 2) (y % 2)) = low_and m (bit_or x y) ∙ ap (min (m % 2)) (low_or x y) in
    let joined_rest : bit_and m (bit_or x y) / 2 ≡ bit_and (m / 2) (bit_or (x / 2) (y / 2)) = and_shr m (bit_or x y) 1 ∙ ap (bit_and (m / 2)) (or_shr x y 1) in
    let first_rest : bit_and m x / 2 ≡ bit_and (m / 2) (x / 2) = and_shr m x 1 in
    let new_rest : (bit_and m y - bit_and (bit_and m y) x) / 2 ≡ bit_and (m / 2) (y / 2) - bit_and (bit_and (m / 2) (y / 2)) (x / 2) =
    beside_rest (bit_and m y) x ∙ ap (λ (z : ℕ). z - bit_and z (x / 2)) (and_shr m y 1) in
    rw (joined_low, joined_rest, first_rest, new_rest, low_and m x, beside_low (bit_and m y) x, low_and m y) (omega (arith, ones_new d (m / 2) (x / 2) (y / 2)))

-- one element fewer: the lowest is taken away
pub ones_less : (d x : ℕ) → 0 < x → x < 2 ^ d → ones_in d x ≡ suc (ones_in d (bit_and x (x - 1)))
unfolding ones_in
ones_less zero x p h = absurd (omega (arith, lt-one h))
ones_less (suc d) x p h = go (x % 2) refl (ones_less d (x / 2))
  where
    go : (b : ℕ) → x % 2 ≡ b → (0 < x / 2 → x / 2 < 2 ^ d → ones_in d (x / 2) ≡ suc (ones_in d (bit_and (x / 2) (x / 2 - 1)))) → x % 2 + ones_in d (x / 2) ≡ suc (bit_and x (x - 1) % 2 + ones_in d (bit_and x (x - 1) / 2))
    go zero e ih =
        let low : bit_and x (x - 1) % 2 ≡ 0 = low_and x (x - 1) ∙ rw e (omega arith) in
        let half : (x - 1) / 2 ≡ x / 2 - 1 = omega arith in
        let rest : bit_and x (x - 1) / 2 ≡ bit_and (x / 2) (x / 2 - 1) = and_shr x (x - 1) 1 ∙ ap (bit_and (x / 2)) half in
        let fewer = ih (omega arith) ((div-lt_iff_lt-mul (lit< tt)).1 (rw pow-suc at h)) in
        rw (e, low, rest) (omega (arith, fewer))
    go (suc b) e ih =
        let odd : x % 2 ≡ 1 = omega arith in
        let low : bit_and x (x - 1) % 2 ≡ 0 = low_and x (x - 1) ∙ (let even : (x - 1) % 2 ≡ 0 = omega arith in rw even (omega arith)) in
        let half : (x - 1) / 2 ≡ x / 2 = omega arith in
        let rest : bit_and x (x - 1) / 2 ≡ x / 2 = and_shr x (x - 1) 1 ∙ ap (bit_and (x / 2)) half ∙ and_self (x / 2) in
        rw (odd, low, rest) (omega arith)

-- at a width that holds the set, the count by width is the language's count of ones
pub ones_at : (d s : ℕ) → s < 2 ^ d → ones_in d s ≡ ones s
unfolding ones_in ones
ones_at zero s h = rw (lt-one h)
ones_at (suc d) s h = ap (λ (x : ℕ). s % 2 + x) (ones_at d (s / 2) ((div-lt_iff_lt-mul (lit< tt)).1 (rw pow-suc at h))) ∙ sym (ones_step s)

-- the count by width from its highest place down
ones_top : (d x : ℕ) → ones_in (suc d) x ≡ ones_in d x + bit x d
unfolding ones_in
ones_top zero x = rw bit_zero (omega arith)
ones_top (suc d) x = rw bit_suc (omega (arith, ones_top d (x / 2)))

-- the count of ones in what two sets have in common is the number of their common elements
pub ones_common : (d a b : ℕ) → ones_in d (bit_and a b) ≡ length (in_both d a b)
unfolding ones_in in_both below keep
ones_common zero a b = refl
ones_common (suc d) a b = ones_top d (bit_and a b) ∙ go (eqb (bit a d) 1) refl (eqb (bit b d) 1) refl (ones_common d a b)
  where
    go : (s : Bool) → eqb (bit a d) 1 ≡ s → (t : Bool) → eqb (bit b d) 1 ≡ t → ones_in d (bit_and a b) ≡ length (in_both d a b)
        → ones_in d (bit_and a b) + bit (bit_and a b) d ≡ length (in_both (suc d) a b)
    go true e true f ih = rw (e, f, bit_and_lem, in_both, below, keep) (omega (arith, eqb-true (bit a d) 1 e, eqb-true (bit b d) 1 f))
    go true e false f ih = rw (e, f, bit_and_lem, in_both, below, keep) (omega (arith, eqb-false (bit b d) 1 f, bit_le_one b d))
    go false e t f ih = rw (e, bit_and_lem, in_both, below, keep) (omega (arith, eqb-false (bit a d) 1 e, bit_le_one a d))

-- ---- how many of 0 to n - 1 are not in a set

pub unmet_le : (n s : ℕ) → unmet n s ≤ n
unfolding unmet
unmet_le zero s = le_refl 0
unmet_le (suc n) s = omega (arith, unmet_le n s)

pub unmet_empty : (n : ℕ) → unmet n 0 ≡ n
unfolding unmet
unmet_empty zero = refl
unmet_empty (suc n) = rw (bit_empty, unmet_empty n) (omega arith)

unmet_above : (n h s : ℕ) → n ≤ h → unmet n (with s h) ≡ unmet n s
unfolding unmet digit
unmet_above zero h s l = refl
unmet_above (suc n) h s l = rw (bit_with, ne_eqb n h (λ e. omega arith), unmet_above n h s (omega arith)) (omega arith)

-- one element more leaves one fewer out
pub unmet_with : (n h s : ℕ) → h < n → bit s h ≡ 0 → unmet n s ≡ suc (unmet n (with s h))
unfolding unmet digit
unmet_with zero h s l e = absurd (not-suc-le-zero l)
unmet_with (suc n) h s l e = go (eqb n h) refl (unmet_with n h s)
  where
    go : (b : Bool) → eqb n h ≡ b → (h < n → bit s h ≡ 0 → unmet n s ≡ suc (unmet n (with s h))) → unmet (suc n) s ≡ suc (unmet (suc n) (with s h))
    go true q ih =
        let same : n ≡ h = eqb-true n h q in
        let out : bit s n ≡ 0 = ap (bit s) same ∙ e in
        rw (bit_with, q, out, unmet_above n h s (omega arith)) (omega arith)
    go false q ih = rw (bit_with, q, ih (omega (arith, eqb-false n h q)) e) (omega arith)

-- where one is in, not all are left out
pub unmet_some : (n h s : ℕ) → h < n → bit s h ≡ 1 → unmet n s < n
unfolding unmet
unmet_some zero h s l e = absurd (not-suc-le-zero l)
unmet_some (suc n) h s l e = go (eqb h n) refl (unmet_some n h s)
  where
    go : (b : Bool) → eqb h n ≡ b → (h < n → bit s h ≡ 1 → unmet n s < n) → unmet (suc n) s < suc n
    go true q ih = omega (arith, ap (bit s) (eqb-true h n q), unmet_le n s)
    go false q ih = omega (arith, ih (omega (arith, eqb-false h n q)) e)

-- where none is left out, each is in
pub unmet_none : (n h s : ℕ) → unmet n s ≡ 0 → h < n → bit s h ≡ 1
unfolding unmet
unmet_none zero h s e l = absurd (not-suc-le-zero l)
unmet_none (suc n) h s e l = go (eqb h n) refl (unmet_none n h s)
  where
    go : (b : Bool) → eqb h n ≡ b → (unmet n s ≡ 0 → h < n → bit s h ≡ 1) → bit s h ≡ 1
    go true q ih = omega (arith, ap (bit s) (eqb-true h n q), bit_le_one s n)
    go false q ih = ih (omega arith) (omega (arith, eqb-false h n q))
