-- `choose::settled` meets its contract: the pair found is the best of the step where the run ended, and so of the one replied. Assumes nothing.
use native.Mathlib.Omega.{arith}
use Rattle.choose.proofs.EndLaws.{at_length, of_length, halved, step_small, chosen_settled}
use Rattle.choose.proofs.settled.Goals as goal

pub pair_by-p-requires : goal.pair_by-p-requires
pair_by-p-requires c =
    let a = c.args in
    let l = at_length a.net.now c.requires.0 a.allowance c.requires.1 c.requires.2 in
    record { words = (c.requires.0, c.requires.3); of_step = (_, of_length a.net.now c.requires.0 a.allowance c.requires.1 l) }

pub settled_step-step-requires : goal.settled_step-step-requires
settled_step-step-requires c =
    let a = c.args in
    let l = at_length a.net.now c.requires.0 a.allowance c.requires.1 c.requires.2 in
    let o = of_length a.net.now c.requires.0 a.allowance c.requires.1 l in (
      c.requires.0,
      halved a.net.now c.requires.0 a.allowance c.requires.1 l.at_step l.met c.pair_by-p.result (c.pair_by-p.ensures.pair.best_of o),
      c.pair_by-p.ensures.stored,
    )

pub overflow_cast-result : goal.overflow_cast-result
overflow_cast-result c =
    let a = c.args in
    let l = at_length a.net.now c.requires.0 a.allowance c.requires.1 c.requires.2 in
    let o = of_length a.net.now c.requires.0 a.allowance c.requires.1 l in
    omega (arith, step_small a.net.now c.requires.0 a.allowance c.requires.1 l.at_step l.met c.pair_by-p.result (c.pair_by-p.ensures.pair.best_of o) c.settled_step-step.ensures)

pub returns : goal.returns
returns c =
    let a = c.args in
    let l = at_length a.net.now c.requires.0 a.allowance c.requires.1 c.requires.2 in
    let o = of_length a.net.now c.requires.0 a.allowance c.requires.1 l in
    let p = c.pair_by-p.ensures.pair in
    chosen_settled a.net.now c.requires.0 a.allowance c.requires.1 l.at_step l.met c.pair_by-p.result (p.best_of o) c.settled_step-step.ensures p.main_fit p.standby_fit
