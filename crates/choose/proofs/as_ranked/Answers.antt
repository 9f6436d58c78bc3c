-- `choose::as_ranked` meets its contract: the pair found is the best of the step replied; where the tally says none, there is none. Assumes nothing.
use mathlib.Core.Path.{ap, ◌∙◌}
use native.Mathlib.Omega.{arith}
use Rattle.problem.specs.Pairs.{best}
use Rattle.net.specs.Net.{routes_in, judged_in}
use Rattle.choose.proofs.EndLaws.{some_allowed}
use Rattle.choose.proofs.as_ranked.Goals as goal

pub pair_by-p-requires : goal.pair_by-p-requires
pair_by-p-requires c = record { words = (c.requires.0, c.requires.3); of_step = (c.args.t.ranked, c.requires.2.of_step c.if-t-eq-NO_KEY.false) }

-- no step is past the largest allowance
pub overflow_cast-result : goal.overflow_cast-result
overflow_cast-result c = omega (arith, (c.requires.2.of_step c.if-t-eq-NO_KEY.false).few)

pub returns : goal.returns
returns c =
    let r = c.requires.2 in
    let o = r.of_step c.if-t-eq-NO_KEY.false in
    let p = c.pair_by-p.ensures.pair in
    record {
      some = some_allowed r o;
      verdict_is = r.verdict_is;
      ranked_is = r.ranked_is;
      pair_is = (p.best_of o).pair_is ∙ ap (best (judged_in c.args.net.now) (routes_in c.args.net.now)) r.ranked_is;
      main_fit = p.main_fit;
      standby_fit = p.standby_fit;
    }
