-- What is inside another, and what is read back of an exposure put among words. Assumes nothing.
use mathlib.Core.Path.{◌≡◌, refl, sym, ap, ◌∙◌}
use mathlib.Core.Bool.{true, ◌&&◌}
use mathlib.Core.List.{List}
use Prim.Native.Nat.{ℕ, zero, suc, ◌+◌, ◌%◌, ◌/◌, ◌≤◌, ◌<◌}
use native.Mathlib.Omega.{arith}
use lib.Bits.{bit_and, bit_or}
use lib.Count.{ones_in}
use lib.Dec.{eqb}
use lib.ListN.{length, get_or, set, length-set}
use lib.Seq.{get_or-set_same, get_or-set_other}
use borrow.Author.Tests.{eqb-true}
use Rattle.laws.specs.Sets.{bit}
use Rattle.laws.proofs.BoolLaws.{both}
use Rattle.laws.proofs.SetLaws.{bit_empty, bit_and_lem, bit_or_lem, bits_ext}
use Rattle.problem.specs.declared.Exposure.{Exposure}
use Rattle.problem.specs.Exposures.{field_of, exposed, joined, common, spans_in, size, sharing}
use Rattle.problem.proofs.ExposureLaws.{Inside}
use Rattle.exposure.specs.Parts.{inside}
use Rattle.exposure.specs.Words.{exposure_words, exposure_at, put_at}

-- what has no bit has none in common with another
pub and_none : (x y : ℕ) → x ≡ 0 → 0 ≡ bit_and x y
and_none x y e = sym (bits_ext (bit_and x y) 0 (λ r. rw (bit_and_lem, e, bit_empty) (omega arith)))

-- what has no span has none in common with another
pub common_spanless : (a b : Exposure) → a.low ≡ 0 → a.high ≡ 0 → ◌≡◌ {A = Exposure} (record { risks = bit_and a.risks b.risks; low = 0; high = 0 }) (common a b)
unfolding common field_of
common_spanless a b low high =
    let l : 0 ≡ bit_and a.low b.low = and_none a.low b.low low in
    let h : 0 ≡ bit_and a.high b.high = and_none a.high b.high high in
    λ i. record { risks = bit_and a.risks b.risks; low = l i; high = h i }

-- how many two have in common, field by field, and what is joined to one
pub sharing_by_field : (a b : Exposure) → sharing a b ≡ ones_in 64 (bit_and a.risks b.risks) + (ones_in 64 (bit_and a.low b.low) + ones_in 64 (bit_and a.high b.high))
unfolding sharing size spans_in common field_of
sharing_by_field a b = refl

pub joined_by_field : (a b : Exposure) → joined a b ≡ record { risks = bit_or a.risks b.risks; low = bit_or a.low b.low; high = bit_or a.high b.high }
unfolding joined field_of
joined_by_field a b = refl

within : (x y : ℕ) → eqb (bit_or x y) y ≡ true → (k : ℕ) → bit x k ≤ bit y k
within x y e k = omega (arith, bit_or_lem x y k, ap (λ (s : ℕ). bit s k) (eqb-true (bit_or x y) y e))

pub inside_at : (a b : Exposure) → inside a b ≡ true → Inside a b
unfolding inside exposed field_of
inside_at a b e r =
    let fields = both (eqb (bit_or a.risks b.risks) b.risks) (eqb (bit_or a.low b.low) b.low && eqb (bit_or a.high b.high) b.high) e in
    let spans = both (eqb (bit_or a.low b.low) b.low) (eqb (bit_or a.high b.high) b.high) fields.1 in
    go (r % 3) (omega arith) fields.0 spans.0 spans.1
  where
    go : (i : ℕ) → i < 3 → eqb (bit_or a.risks b.risks) b.risks ≡ true → eqb (bit_or a.low b.low) b.low ≡ true → eqb (bit_or a.high b.high) b.high ≡ true
        → bit (field_of a i) (r / 3) ≤ bit (field_of b i) (r / 3)
    go zero h f g k = within a.risks b.risks f (r / 3)
    go (suc zero) h f g k = within a.low b.low g (r / 3)
    go (suc (suc zero)) h f g k = within a.high b.high k (r / 3)
    go (suc (suc (suc i))) h f g k = absurd (omega arith)

module _ (words : List ℕ) (at : ℕ) (e : Exposure) where
  -- the words once the first of the three is written, and the second
  abbrev first : List ℕ
  first = set words at e.risks

  abbrev second : List ℕ
  second = set first (at + 1) e.low

  pub put_length : length (put_at words at e) ≡ length words
  unfolding put_at
  put_length = length-set second (at + 2) e.high ∙ length-set first (at + 1) e.low ∙ length-set words at e.risks

  pub put_same : at + exposure_words ≤ length words → exposure_at (put_at words at e) at ≡ e
  unfolding put_at exposure_at
  put_same h =
      let risks = get_or-set_other second (at + 2) at e.high 0 (λ z. absurd (omega arith)) ∙ get_or-set_other first (at + 1) at e.low 0 (λ z. absurd (omega arith)) ∙ get_or-set_same words at e.risks 0 (omega arith) in
      let low = get_or-set_other second (at + 2) (at + 1) e.high 0 (λ z. absurd (omega arith)) ∙ get_or-set_same first (at + 1) e.low 0 (omega (arith, length-set words at e.risks)) in
      let high = get_or-set_same second (at + 2) e.high 0 (omega (arith, length-set first (at + 1) e.low, length-set words at e.risks)) in
      λ i. record { risks = risks i; low = low i; high = high i }

  -- a word that is none of the three
  other : (k : ℕ) → (k ≡ at → ⊥) → (k ≡ at + 1 → ⊥) → (k ≡ at + 2 → ⊥) → get_or (put_at words at e) k 0 ≡ get_or words k 0
  unfolding put_at
  other k f g h = get_or-set_other second (at + 2) k e.high 0 h ∙ get_or-set_other first (at + 1) k e.low 0 g ∙ get_or-set_other words at k e.risks 0 f

  -- a word before it, and one behind it
  pub put_before : (k : ℕ) → k < at → get_or (put_at words at e) k 0 ≡ get_or words k 0
  put_before k h = other k (λ z. omega arith) (λ z. omega arith) (λ z. omega arith)

  pub put_behind : (k : ℕ) → at + exposure_words ≤ k → get_or (put_at words at e) k 0 ≡ get_or words k 0
  put_behind k h = other k (λ z. omega arith) (λ z. omega arith) (λ z. omega arith)

-- words that are the same from a place on say the same exposure
pub exposure_same : (one two : List ℕ) (at : ℕ) → ((k : ℕ) → at ≤ k → k < at + exposure_words → get_or one k 0 ≡ get_or two k 0) → exposure_at one at ≡ exposure_at two at
unfolding exposure_at
exposure_same one two at f =
    let risks = f at (omega arith) (omega arith) in
    let low = f (at + 1) (omega arith) (omega arith) in
    let high = f (at + 2) (omega arith) (omega arith) in
    λ i. record { risks = risks i; low = low i; high = high i }
