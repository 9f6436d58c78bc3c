-- `plan::plan` meets its contract: each window leads further or is tried again narrower (`going_on`), or planning ends with it (`stopped_ended`). Assumes nothing.
use mathlib.Core.Path.{◌≡◌, refl, ap, ◌∙◌, subst}
use mathlib.Core.Logic.{◌⊎◌, inl, inr}
use Prim.Native.Nat.{ℕ, ◌+◌, ◌*◌, ◌-◌, ◌≤◌, ◌<◌}
use native.Mathlib.Omega.{arith}
use Rattle.std.specs.declared.ops.ControlFlow.TheVariants.{Continue}
use Rattle.net.specs.Net.{lower_at}
use Rattle.mains.specs.Mains.{no_tally}
use Rattle.plan.specs.declared.Next.{Next}
use Rattle.plan.specs.Plan.{Turned}
use Rattle.plan.proofs.PlanLaws.{Going, going_first, going_narrower, going_turning, going_on, stopped_ended, ended_all}
use Rattle.plan.proofs.plan.Goals.{After-try_window}
use Rattle.plan.proofs.plan.Goals as goal

-- further, or narrower than a window aimed at, which is no wider than it was to be
falls : (reach cur width less cur' width' : ℕ) → cur ≤ reach → width' ≤ 62000000 → less ≤ width → (cur < cur') ⊎ ((cur' ≡ cur) × (width' < less))
    → (reach + 1 - cur') * 100000000 + width' < (reach + 1 - cur) * 100000000 + width
falls reach cur width less cur' width' h b n (inl l) = omega arith
falls reach cur width less cur' width' h b n (inr l) = omega (arith, l.0, l.1)

-- it says to go on
going : (c : After-try_window) {n : Next} → c.try_window.result ≡ Continue n
    → Going c.args.net.now c.args.allowance c.args.floor n.tally n.cur n.width × ((c.loop-next.next.cur < n.cur) ⊎ ((n.cur ≡ c.loop-next.next.cur) × (n.width < c.take_aim-aim.result.width)))
going c e =
    going_on c.args.net.now c.requires.0 c.args.allowance c.args.floor c.requires.1
    (going_narrower c.args.net.now c.requires.0 c.args.allowance c.args.floor c.requires.1 c.loop-next.invariant.going c.take_aim-aim.ensures)
    (subst (Turned c.args.net.now c.args.allowance c.args.floor c.loop-next.next.tally c.loop-next.next.cur c.take_aim-aim.result.width) e c.try_window.ensures.turned)

-- ---- before the first window

pub loop-next-init : goal.loop-next-init
loop-next-init c = record {
  reach_is = c.reach-reach.ensures.0;
  going =
      going_first c.args.net.now c.requires.0 c.args.allowance c.args.floor c.requires.1 no_tally c.lower-shortest.result c.min.result refl
      (c.lower-shortest.ensures.0 ∙ ap (λ (v : ℕ). lower_at c.args.net.now v) c.source.ensures.0) (omega (arith, c.min.ensures));
  stored = c.requires.2;
}

-- ---- in a turn

pub take_aim-aim-requires : goal.take_aim-aim-requires
take_aim-aim-requires c = let g = c.loop-next.invariant.going in (c.requires.0, g.allowed, c.requires.1.few, g.width_range)

pub try_window-requires : goal.try_window-requires
try_window-requires c = (
  c.requires.0,
  c.requires.1,
  going_turning c.args.net.now c.requires.0 c.args.allowance c.args.floor c.requires.1
      (going_narrower c.args.net.now c.requires.0 c.args.allowance c.args.floor c.requires.1 c.loop-next.invariant.going c.take_aim-aim.ensures)
      (omega (arith, c.loop-next.invariant.reach_is)),
  c.loop-next.invariant.stored,
)

pub returns-in-Break : goal.returns-in-Break
returns-in-Break c = record {
  ended = stopped_ended c.args.net.now c.requires.0 c.args.allowance c.args.floor c.requires.1
      (subst (Turned c.args.net.now c.args.allowance c.args.floor c.loop-next.next.tally c.loop-next.next.cur c.take_aim-aim.result.width) c.in-Break.is c.try_window.ensures.turned);
  stored = c.try_window.ensures.stored;
}

pub loop-next-smaller : goal.loop-next-smaller
loop-next-smaller c =
    let g = going (goal.at.loop-next-smaller c).After-try_window c.in-Continue.is in
    falls c.reach-reach.result c.loop-next.next.cur c.loop-next.next.width c.take_aim-aim.result.width c.in-Continue.on.cur c.in-Continue.on.width c.loop-next-test.true g.0.width_range
    c.take_aim-aim.ensures g.1

pub loop-next-preserved : goal.loop-next-preserved
loop-next-preserved c = record {
  reach_is = c.loop-next.invariant.reach_is;
  going = (going (goal.at.loop-next-preserved c).After-try_window c.in-Continue.is).0;
  stored = c.try_window.ensures.stored;
}

-- ---- after the last

pub returns : goal.returns
returns c = record {
  ended = ended_all c.args.net.now c.requires.0 c.args.allowance c.args.floor c.requires.1 c.loop-next.invariant.going (omega (arith, c.loop-next.invariant.reach_is));
  stored = c.loop-next.invariant.stored;
}
