-- `choose::count_shorter` meets its contract: a sweep that tries no pair anew counts the routes of its window. Assumes nothing.
use mathlib.Core.Path.{refl, sym, ap, ◌∙◌}
use Prim.Native.Nat.{ℕ}
use Rattle.problem.specs.Routes.{count, shorter}
use Rattle.net.specs.Net.{mesh_in, routes_in}
use Rattle.choose.proofs.EndLaws.{count_none, swept_shorter}
use Rattle.choose.proofs.count_shorter.Goals as goal

pub returns-then-metres-eq0 : goal.returns-then-metres-eq0
returns-then-metres-eq0 c = sym (count_none (routes_in c.args.net.now)) ∙ ap (λ (x : ℕ). count (shorter x) (routes_in c.args.net.now)) (sym c.if-metres-eq0.true)

pub returns : goal.returns
returns c =
    swept_shorter _ (mesh_in c.args.net.now) c.args.metres c.args.cap c.if-metres-eq0.false c.requires.net.1 c.requires.net.2 _ c.sweep.result.tally refl refl c.sweep.ensures.swept.tally_is
