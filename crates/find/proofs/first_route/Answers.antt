-- `find::first_route` meets its contract: no label is left, and from the source, with only barred nodes met besides it, the search goes over all there is
-- (`searched`); it leaves the store true. Assumes nothing.
use mathlib.Core.Path.{◌≡◌, refl, sym, ap, ◌∙◌}
use Rattle.laws.specs.Sets.{with}
use Rattle.problem.specs.declared.Exposure.{Exposure}
use Rattle.problem.specs.Exposures.{to_nothing}
use Rattle.net.specs.Net.{mesh_in}
use Rattle.bars.specs.declared.Barred.{Barred}
use Rattle.find.specs.Find.{barred_for}
use Rattle.find.proofs.TrailLaws.{trails_none}
use Rattle.find.proofs.OutcomeLaws.{ready_first, known_after, none_outcome, track_known, some_outcome}
use Rattle.find.proofs.first_route.Goals.{After-with-met}
use Rattle.find.proofs.first_route.Goals as goal

-- nothing lies behind the source
none : ◌≡◌ {A = Exposure} (record { risks = 0; low = 0; high = 0 }) to_nothing
unfolding to_nothing
none = refl

-- and what is barred counts as met
met_is : (c : After-with-met) → c.with-met.result ≡ with (barred_for c.args.want.role).nodes c.source-source.result
met_is c = c.with-met.ensures ∙ ap (λ (off : Barred). with off.nodes c.source-source.result) c.barred.ensures

pub seek-requires : goal.seek-requires
seek-requires c = record {
  finding = ready_first c.args.net.now c.requires.0 c.new-run.ensures c.source-source.ensures.0 (met_is (goal.at.seek-requires c).After-with-met) none c.requires.2;
  stored_2 = (c.requires.1, trails_none (mesh_in c.args.net.now) _ c.clear.ensures);
}

pub track_in-track-requires : goal.track_in-track-requires
track_in-track-requires c = (c.requires.0, known_after c.args.net.now c.requires.0 c.new-run.ensures c.source-source.ensures.0 (met_is (goal.at.track_in-track-requires c).After-with-met) none c.seek.ensures.seeks)

pub returns-then-not-is_found-clause-first : goal.returns-then-not-is_found-clause-first
returns-then-not-is_found-clause-first c =
    none_outcome c.args.net.now c.requires.0 c.new-run.ensures c.source-source.ensures.0 (met_is (goal.at.returns-then-not-is_found-clause-first c).After-with-met) none c.seek.ensures.seeks (sym c.is_found.ensures ∙ c.if-not-is_found.true)

pub returns-clause-first : goal.returns-clause-first
returns-clause-first c =
    some_outcome c.args.net.now c.requires.0 c.new-run.ensures c.source-source.ensures.0 (met_is (goal.at.returns-clause-first c).After-with-met) none c.seek.ensures.seeks c.track_in-track.result c.track_in-track.ensures
    (sym c.is_found.ensures ∙ c.if-not-is_found.false)

pub returns-clause-known : goal.returns-clause-known
returns-clause-known c =
    track_known c.args.net.now c.requires.0 c.new-run.ensures c.source-source.ensures.0 (met_is (goal.at.returns-clause-known c).After-with-met) none c.seek.ensures.seeks c.track_in-track.result c.track_in-track.ensures
