-- `routes::plan` meets its contract: it asks the entry for what the input's first 16 bytes say. Assumes nothing.
use native.Mathlib.Omega.{arith}
use Prim.Native.Nat.{◌-◌}
use lib.ListN.{length, drop, length-drop}
use lib.Seq.{take_all}
use Rattle.routes.proofs.InputLaws.{asked_by}
use Rattle.routes.proofs.plan.Goals as goal

pub returns : goal.returns
returns c =
    let input = c.args.input.now in
    asked_by input _ c.args.reply.now _ _ _ _ (take_all (length input - 16) (drop 16 input) (rw length-drop (omega arith)))
    c.from-source.ensures c.from-terminal.ensures c.number4-reach.ensures c.number4-allowance.ensures c.feshangul_plan.ensures
