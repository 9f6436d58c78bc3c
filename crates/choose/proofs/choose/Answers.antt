-- `choose::choose` meets its contract, by what each end of a run says. Assumes nothing.
use mathlib.Core.Path.{subst}
use Rattle.plan.specs.Plan.{Ended}
use Rattle.choose.proofs.EndLaws.{all_settled, end_stopped}
use Rattle.choose.proofs.choose.Goals as goal

pub settled-requires : goal.settled-requires
settled-requires c = (c.requires.0, c.requires.1, subst (Ended c.args.net.now c.args.allowance) c.in-ByLength.is c.requires.2, c.requires.3)

pub as_ranked-requires : goal.as_ranked-requires
as_ranked-requires c = (
  c.requires.0,
  c.requires.1,
  all_settled c.args.net.now c.requires.0 c.args.allowance c.requires.1 (subst (Ended c.args.net.now c.args.allowance) c.in-AllRanked.is c.requires.2),
  c.requires.3,
)

pub as_ranked-requires-in-AtAllowance : goal.as_ranked-requires-in-AtAllowance
as_ranked-requires-in-AtAllowance c = (
  c.requires.0,
  c.requires.1,
  end_stopped c.args.net.now c.requires.0 c.args.allowance c.requires.1 (subst (Ended c.args.net.now c.args.allowance) c.in-AtAllowance.is c.requires.2),
  c.requires.3,
)
