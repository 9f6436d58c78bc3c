-- `find::Want::accepts` meets its contract: as a main, by the least key of the standbys that keep off what it bars, the search for which leaves the store true; as a
-- standby, by the arc that it ends with and by its own key, and the store is not touched. Assumes nothing.
use mathlib.Core.Path.{sym, ap, ◌∙◌}
use Prim.Native.Nat.{ℕ, ◌+◌}
use lib.Dec.{eqb}
use borrow.Author.Tests.{eq-eqb, ne_eqb}
use Rattle.keys.specs.Keys.{standby_key}
use Rattle.bars.specs.declared.Barred.{Barred}
use Rattle.standby.specs.Ahead.{quest, least_of}
use Rattle.net.specs.Net.{mesh_in}
use Rattle.find.specs.Find.{is_wanted}
use Rattle.find.proofs.TrailLaws.{standby_wanted}
use Rattle.find.proofs.Want.accepts.Goals as goal

pub returns-in-Main-clause-test : goal.returns-in-Main-clause-test
unfolding is_wanted
returns-in-Main-clause-test c =
    rw (c.in-Main.is, is_wanted)
    (ap (λ (x : ℕ). eqb x c.args.self.now.key) (c.best_key.ensures.least ∙ ap (λ (off : Barred). least_of (quest (mesh_in c.args.net.now) c.args.route.exposure off) (c.args.self.now.key + 1)) c.barred_by-off.ensures))

pub returns-then-last-off-clause-test : goal.returns-then-last-off-clause-test
returns-then-last-off-clause-test c =
    let key = ap (λ (x : ℕ). eqb x c.args.self.now.key) (c.standby_key.ensures ∙ ap (λ (x : ℕ). standby_key x c.args.self.now.metres) c.sharing.ensures.0) in
    key ∙ sym (standby_wanted _ _ c.args.self.now c.args.route c.args.last c.in-Standby.is ∙ rw (ne_eqb c.args.last c.in-Standby.off.last c.if-last-off.true))

-- the arc is barred
pub returns-else-last-off-clause-test : goal.returns-else-last-off-clause-test
returns-else-last-off-clause-test c =
    let barred = eq-eqb c.args.last c.in-Standby.off.last c.if-last-off.false in
    rw barred (sym (standby_wanted _ _ c.args.self.now c.args.route c.args.last c.in-Standby.is ∙ rw barred))
