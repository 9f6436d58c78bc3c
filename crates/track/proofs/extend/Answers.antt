-- `track::extend` meets its contract: the first place that holds 255 takes the arc number (`fit_onward`). Assumes nothing.
use Rattle.track.proofs.FitLaws.{fit_onward}
use Rattle.track.proofs.extend.Goals as goal

pub returns : goal.returns
returns c =
    fit_onward c.args.t c.requires.0 c.args.k c.args.metres c.args.e _ c.requires.1 c.requires.2 c.joined.ensures
