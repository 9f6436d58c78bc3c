-- `plan::try_window` meets its contract: a window that did not give up is met, or leads further (`window_further`); one that gave up within a single length
-- ends at the allowance (`window_stopped`); any other is tried again, narrower. Assumes nothing.
use mathlib.Core.Path.{◌≡◌, refl, sym, ◌∙◌, subst}
use mathlib.Core.Bool.{true, false}
use Prim.Native.Nat.{◌≤◌, ◌<◌}
use lib.ListN.{length}
use native.Mathlib.Omega.{arith}
use Rattle.problem.specs.Routes.{count, shorter}
use Rattle.net.specs.Net.{routes_in, judged_in}
use Rattle.mains.specs.Mains.{Stepped}
use Rattle.plan.specs.Plan.{not_over, Ended, Turned}
use Rattle.plan.proofs.PlanLaws.{last_range, ended_met, ended_stopped, window_further, cut_further, window_stopped}
use Rattle.plan.proofs.try_window.Goals.{After-sweep-cut}
use Rattle.plan.proofs.try_window.Goals as goal

-- it did not give up
further : (c : After-sweep-cut) → c.sweep-cut.result.tally.over ≡ false
    → Stepped (judged_in c.args.net.now) (routes_in c.args.net.now) (count (shorter c.sweep-cut.result.cut) (routes_in c.args.net.now)) c.sweep-cut.result.tally × (c.sweep-cut.result.tally.ranked ≤ c.args.allowance)
further c o =
    let cap = c.cap_for.ensures in
    window_further c.args.net.now c.requires.0 c.args.allowance c.args.floor c.requires.1 c.requires.2 c.min-hi.result c.cap_for.result (omega (arith, c.min-hi.ensures, c.reach.ensures.0)) cap.1 cap.2 c.sweep-cut.result
    c.sweep-cut.ensures.swept o

-- its cut lies further on
past : (c : After-sweep-cut) → c.args.now.cur < c.sweep-cut.result.cut
past c =
    let cap = c.cap_for.ensures in
    cut_further c.args.net.now c.requires.0 c.args.allowance c.args.floor c.requires.1 c.requires.2 c.min-hi.result c.cap_for.result (omega (arith, c.min-hi.ensures, c.reach.ensures.0)) cap.1 cap.2 c.sweep-cut.result
    c.sweep-cut.ensures.swept

-- it gave up within a single length
stopped : (c : After-sweep-cut) → c.sweep-cut.result.tally.over ≡ true → c.min-hi.result ≡ c.args.now.cur
    → Stepped (judged_in c.args.net.now) (routes_in c.args.net.now) c.args.allowance (not_over c.sweep-cut.result.tally) × (c.args.allowance < length (routes_in c.args.net.now))
stopped c o one =
    let cap = c.cap_for.ensures in
    window_stopped c.args.net.now c.requires.0 c.args.allowance c.args.floor c.requires.1 c.requires.2 c.min-hi.result c.cap_for.result (omega (arith, c.min-hi.ensures, c.reach.ensures.0)) cap.1 cap.2 c.sweep-cut.result
    c.sweep-cut.ensures.swept o one (cap.0 (omega arith))

pub ended_at-requires : goal.ended_at-requires
ended_at-requires c = last_range c.args.net.now c.requires.0 (stopped (goal.at.ended_at-requires c).After-sweep-cut c.if-tally.true c.if-hi-now.true).0

pub returns-then-hi-now-clause-turned : goal.returns-then-hi-now-clause-turned
returns-then-hi-now-clause-turned c =
    let f = stopped (goal.at.returns-then-hi-now-clause-turned c).After-sweep-cut c.if-tally.true c.if-hi-now.true in
    Turned.stopped (subst (Ended c.args.net.now c.args.allowance) (sym c.ended_at.ensures) (ended_stopped c.args.net.now c.requires.0 c.args.allowance c.args.floor c.requires.1 c.sweep-cut.result.tally f.0 f.1))

pub returns-then-tally-clause-turned : goal.returns-then-tally-clause-turned
returns-then-tally-clause-turned c = Turned.again refl refl (omega (arith, c.min-hi.ensures, c.reach.ensures.0, c.if-hi-now.false, c.requires.2.cur_range))

pub is_met-requires : goal.is_met-requires
is_met-requires c = last_range c.args.net.now c.requires.0 (further (goal.at.is_met-requires c).After-sweep-cut c.if-tally.false).0

pub returns-then-is_met-clause-turned : goal.returns-then-is_met-clause-turned
returns-then-is_met-clause-turned c =
    let f = further (goal.at.returns-then-is_met-clause-turned c).After-sweep-cut c.if-tally.false in
    Turned.stopped (ended_met c.args.net.now c.requires.0 c.args.allowance c.args.floor c.requires.1 _ f.0 (omega (arith, f.0.ranked_is, f.1)) (sym c.is_met.ensures ∙ c.if-is_met.true))

pub returns-clause-turned : goal.returns-clause-turned
returns-clause-turned c =
    let f = further (goal.at.returns-clause-turned c).After-sweep-cut c.if-tally.false in
    Turned.further f.0 f.1 (sym c.is_met.ensures ∙ c.if-is_met.false) (past (goal.at.returns-clause-turned c).After-sweep-cut) c.wider.ensures
