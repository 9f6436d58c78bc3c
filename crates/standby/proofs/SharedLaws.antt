-- How much a main shares, field by field: with an arc, and with one more arc behind a search. Assumes nothing.
use mathlib.Core.Path.{◌≡◌, ap, ◌∙◌}
use Prim.Native.Nat.{ℕ, ◌+◌, ◌≤◌}
use native.Mathlib.Omega.{arith}
use lib.Bits.{bit_and, bit_or, and_zero_r}
use lib.Count.{ones_in}
use Rattle.laws.proofs.SetLaws.{ones_empty}
use Rattle.problem.specs.declared.Exposure.{Exposure}
use Rattle.problem.specs.Exposures.{to_nothing, joined, sharing}
use Rattle.exposure.proofs.WordLaws.{sharing_by_field, joined_by_field}
use Rattle.standby.specs.Standby.{NewlyShared}

-- how many bits two fields have in common
abbrev both : ℕ → ℕ → ℕ
both x y = ones_in 64 (bit_and x y)

both_none : (x : ℕ) {y : ℕ} → y ≡ 0 → both x y ≡ 0
both_none x e = ap (both x) e ∙ (ap (ones_in 64) (and_zero_r x) ∙ ones_empty 64)

-- what has no span shares risks alone
pub shared_risks_lem : (main e : Exposure) → e.low ≡ 0 → e.high ≡ 0 → ones_in 64 (bit_and main.risks e.risks) ≡ sharing main e
shared_risks_lem main e low high = omega (arith, sharing_by_field main e, both_none main.low low, both_none main.high high)

-- what is exposed to nothing shares nothing
pub shared_none : (main : Exposure) {e : Exposure} → e ≡ to_nothing → 0 ≡ sharing main e
unfolding to_nothing
shared_none main {e} n =
    let fields = sharing_by_field main e in
    let risks = both_none main.risks (ap (λ (x : Exposure). x.risks) n) in
    let low = both_none main.low (ap (λ (x : Exposure). x.low) n) in
    let high = both_none main.high (ap (λ (x : Exposure). x.high) n) in
    omega (arith, fields, risks, low, high)

-- over one more field so many more are shared
abbrev More : (of_main before own more : ℕ) → Type 0
More of_main before own more = (more + both of_main before ≡ both of_main (bit_or before own)) × (more ≤ 64)

module _ (main before own : Exposure) where
  with_own : sharing main (joined before own)
      ≡ both main.risks (bit_or before.risks own.risks) + (both main.low (bit_or before.low own.low) + both main.high (bit_or before.high own.high))
  with_own = ap (sharing main) (joined_by_field before own) ∙ sharing_by_field main _

  pub newly_fields : {risks low high : ℕ} → More main.risks before.risks own.risks risks → More main.low before.low own.low low
      → More main.high before.high own.high high → NewlyShared main before own (risks + low + high)
  newly_fields r l h = record { is = omega (arith, r.0, l.0, h.0, sharing_by_field main before, with_own); most = omega (arith, r.1, l.1, h.1) }
