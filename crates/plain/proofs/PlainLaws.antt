-- What is exposed to risks alone, and stays so over an arc without a span. Assumes nothing.
use mathlib.Core.Path.{◌≡◌, ◌∙◌}
use Prim.Native.Nat.{ℕ}
use lib.Bits.{bit_or, or_zero_l}
use Rattle.problem.specs.declared.Exposure.{Exposure}
use Rattle.problem.specs.Exposures.{joined}
use Rattle.exposure.proofs.WordLaws.{joined_by_field}
use Rattle.plain.specs.Plain.{by_risks}

pub joined_plain : (risks : ℕ) (own : Exposure) → own.low ≡ 0 → own.high ≡ 0 → joined (by_risks risks) own ≡ by_risks (bit_or risks own.risks)
joined_plain risks own low high =
    joined_by_field (by_risks risks) own ∙ (λ i. record { risks = bit_or risks own.risks; low = (or_zero_l own.low ∙ low) i; high = (or_zero_l own.high ∙ high) i })
