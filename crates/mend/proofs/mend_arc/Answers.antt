-- `mend::mend_arc` meets its contract: an arc without a fault counts, and what an arm writes is what arc k adds to the outputs. Assumes nothing.
use mathlib.Core.Path.{◌≡◌, refl, sym, ap, ◌∙◌}
use mathlib.Core.Bool.{not}
use native.Mathlib.Omega.{arith}
use Rattle.problem.specs.Table.{fault_of}
use Rattle.problem.specs.Mending.{fault_at, reason_at}
use Rattle.problem.proofs.TableLaws.{record_part}
use Rattle.problem.proofs.MendLaws.{new_below}
use Rattle.mend.proofs.StepLaws.{fault_is, reason_is, Counted, kept_stepped, loss_stepped, one_stays, none_stays_more}
use Rattle.mend.proofs.mend_arc.Goals.{After-reason_for, then-is_none, else-is_none}
use Rattle.mend.proofs.mend_arc.Goals as goal

-- the fault and the reason are those of arc k
fault : (c : After-reason_for) → c.fault-fault.result ≡ fault_at c.args.input.now c.args.k
fault c = fault_is c.args.input.now c.requires.is_whole (c.fault-fault.ensures ∙ ap fault_of c.arc_at.ensures)

why : (c : After-reason_for) → c.reason_for.result ≡ reason_at c.args.input.now c.args.k
why c = reason_is c.args.input.now c.requires.is_whole c.reason_for.ensures (fault c) c.requires.staying_is

counted : (c : After-reason_for) → Counted c.args.input.now c.requires.is_whole c.args.done.now c.if-is_none.done
counted c = elim c.if-is_none.branch [
  | then-is_none w ↦ let one = one_stays c.args.input.now c.args.k (fault c) (c.is_none.ensures ∙ ap not w.if-is_none.true) in
      rw w.done-is record { staying_is = omega (arith, one, c.requires.staying_is); table_same = refl; list_same = refl }
  | else-is_none w ↦ let same = none_stays_more c.args.input.now c.args.k (fault c) (c.is_none.ensures ∙ ap not w.if-is_none.false) in
      rw w.done-is record { staying_is = omega (arith, same, c.requires.staying_is); table_same = refl; list_same = refl }
]

pub overflow_add-done : goal.overflow_add-done
overflow_add-done c = omega (arith, c.requires.staying_is, c.requires.is_whole, c.requires.few, new_below c.args.input.now c.args.k)

pub returns-in-None : goal.returns-in-None
returns-in-None c =
    let found = (goal.at.returns-in-None c).After-reason_for in
    kept_stepped c.args.input.now c.requires.is_whole (counted found) (sym c.in-None.is ∙ why found) (record_part c.args.input.now c.args.k) c.copy-done.ensures

pub returns-in-Some : goal.returns-in-Some
returns-in-Some c =
    let found = (goal.at.returns-in-Some c).After-reason_for in
    loss_stepped c.args.input.now c.requires.is_whole (counted found) (sym c.in-Some.is ∙ why found) c.put_lost-done.ensures
