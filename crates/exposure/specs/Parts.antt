-- An exposure less one of its own, and whether one lies inside another. Assumes nothing.
use Rattle.std.specs.Prelude.{ℕ, ◌-◌, Bool, ◌&&◌, eqb}
use Rattle.std.specs.Int.Bits.{bit_or}
use Rattle.problem.specs.declared.Exposure.{Exposure}
use Rattle.problem.specs.Exposures.{field_of, by_field, to_one, common}

-- to all of it but hazard r
unfoldable pub all_but : Exposure → ℕ → Exposure
all_but e r = by_field (λ i. field_of e i - field_of (common e (to_one r)) i)

-- whether the second is exposed to all that the first is
unfoldable pub inside : Exposure → Exposure → Bool
inside a b = eqb (bit_or a.risks b.risks) b.risks && (eqb (bit_or a.low b.low) b.low && eqb (bit_or a.high b.high) b.high)
