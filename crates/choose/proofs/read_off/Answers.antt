-- `choose::read_off` meets its contract: a pair's total is at least its main's length. Assumes nothing.
use mathlib.Core.Path.{refl, ap₂, ◌∙◌}
use Prim.Native.Nat.{◌-◌}
use native.Mathlib.Omega.{arith}
use Rattle.keys.specs.Keys.{standby_key}
use Rattle.choose.proofs.PairingLaws.{key_parts}
use Rattle.choose.proofs.read_off.Goals as goal

pub overflow_sub-standby : goal.overflow_sub-standby
overflow_sub-standby c =
    let p = key_parts c.requires in
    omega (arith, c.total_of.ensures.0, c.main_of-main.ensures, p.1, p.2)

pub returns : goal.returns
returns c = record {
  key_is = c.standby_key.ensures ∙ ap₂ standby_key c.shared_of.ensures.0 refl;
  main_is = c.main_of-main.ensures;
  standby_is = ap₂ ◌-◌ c.total_of.ensures.0 c.main_of-main.ensures;
}
