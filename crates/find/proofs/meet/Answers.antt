-- `find::meet` meets its contract: each return is one case of `meet`, by the tests that led there. Assumes nothing.
use native.Mathlib.Omega.{arith}
use Rattle.find.proofs.TrailLaws.{standby_is}
use Rattle.find.proofs.PutLaws.{met_other, met_standby, met_wanted, met_passed}
use Rattle.find.proofs.meet.Goals as goal

pub returns-then-route-run-clause-meets : goal.returns-then-route-run-clause-meets
returns-then-route-run-clause-meets c = met_other c.args.net.now c.args.k c.args.route c.requires.1 c.if-route-run.true

pub returns-then-accepts-clause-meets : goal.returns-then-accepts-clause-meets
returns-then-accepts-clause-meets c = met_wanted c.args.net.now c.args.k c.args.route c.requires.1 c.accepts.ensures.test c.if-route-run.false c.if-accepts.true c.requires.3 c.put_down.ensures

pub returns-in-Main-clause-meets : goal.returns-in-Main-clause-meets
returns-in-Main-clause-meets c = met_passed c.args.net.now c.args.k c.args.route c.requires.1 c.accepts.ensures.test c.if-route-run.false c.in-Main.is c.if-accepts.false (omega arith)

pub returns-in_default-clause-meets : goal.returns-in_default-clause-meets
returns-in_default-clause-meets c = met_standby c.args.net.now c.args.k c.args.route c.requires.1 c.accepts.ensures.test (standby_is c.in_default.is) c.if-accepts.false
