-- `find::Want::shares_too_much` meets its contract: where a main is wanted nothing is too much, else by the least key of what shares as much. Assumes nothing.
use mathlib.Core.Path.{ap, ◌∙◌}
use Prim.Native.Nat.{ℕ}
use lib.Dec.{ltb}
use Rattle.keys.specs.Keys.{standby_key}
use Rattle.find.specs.Find.{shares_too_much}
use Rattle.find.proofs.Want.shares_too_much.Goals as goal

pub returns-in-Main : goal.returns-in-Main
unfolding shares_too_much
returns-in-Main c = rw (c.in-Main.is, shares_too_much)

pub returns-in-Standby : goal.returns-in-Standby
unfolding shares_too_much
returns-in-Standby c = rw (c.in-Standby.is, shares_too_much) (ap (λ (x : ℕ). ltb c.args.self.now.key x) (c.standby_key.ensures ∙ ap (λ (x : ℕ). standby_key x 0) c.sharing.ensures.0))
