-- What an exposure less one of its own is exposed to. Assumes nothing.
use mathlib.Core.Path.{◌≡◌, ap, ◌∙◌}
use Prim.Native.Nat.{ℕ, ◌-◌, ◌/◌, ◌%◌}
use native.Mathlib.Omega.{arith}
use lib.Bits.{bit_and}
use lib.Dec.{eqb}
use Rattle.laws.specs.Sets.{bit, without}
use Rattle.laws.proofs.SetLaws.{digit, bit_without}
use Rattle.problem.specs.declared.Exposure.{Exposure}
use Rattle.problem.specs.Exposures.{field_of, exposed, to_one, common}
use Rattle.problem.proofs.ExposureLaws.{field_by, exposed_by, exposed_one}
use Rattle.exposure.specs.Parts.{all_but}

pub exposed_all_but : (e : Exposure) (r b : ℕ) → exposed (all_but e r) b ≡ exposed e b - digit (eqb b r)
unfolding all_but common exposed without
exposed_all_but e r b =
    exposed_by (λ i. field_of e i - field_of (common e (to_one r)) i) b
    ∙ ap (λ (x : ℕ). bit (field_of e (b % 3) - x) (b / 3)) (field_by (λ i. bit_and (field_of e i) (field_of (to_one r) i)) (b % 3) (omega arith))
    ∙ bit_without (field_of e (b % 3)) (field_of (to_one r) (b % 3)) (b / 3)
    ∙ ap (λ (x : ℕ). exposed e b - x) (exposed_one r b)
