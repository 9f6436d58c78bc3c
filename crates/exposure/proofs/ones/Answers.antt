-- `exposure::ones` meets its contract: a field has 64 bits, where both counts of ones agree. Assumes nothing.
use mathlib.Core.Path.{sym}
use native.Mathlib.Omega.{arith}
use Rattle.laws.proofs.SetLaws.{ones_at, ones_le}
use Rattle.exposure.proofs.ones.Goals as goal

pub returns : goal.returns
returns c =
    let e = sym (ones_at 64 c.args.field c.ranges.field.fits) in
    (e, omega (arith, e, ones_le 64 c.args.field))
