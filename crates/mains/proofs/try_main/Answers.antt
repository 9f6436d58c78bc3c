-- `mains::try_main` meets its contract: each return is one case of `tried`, by the tests that led there. Assumes nothing.
use mathlib.Core.Path.{◌≡◌, ap, ◌∙◌}
use mathlib.Core.Bool.{Bool, false}
use Prim.Native.Nat.{ℕ, ◌<◌}
use borrow.Author.Tests.{le-leb, lt-leb}
use Rattle.problem.specs.Routes.{Mesh}
use Rattle.net.specs.declared.Behind.{Behind}
use Rattle.bars.specs.Bars.{barred_by}
use Rattle.tally.specs.declared.Tally.{Tally}
use Rattle.tally.specs.Tally.{counted}
use Rattle.mains.specs.Mains.{best_with, tried}
use Rattle.mains.proofs.try_main.Goals as goal

-- a main that is counted
more : (only : Bool) (m : Mesh) (cap : ℕ) (main : Behind) (last : ℕ) (t : Tally) {best : ℕ} {r : Tally} → t.over ≡ false → t.ranked < cap
    → best ≡ best_with m main (barred_by only m main.met last) t.best → r ≡ counted main.metres best t → r ≡ tried only m cap main last t
unfolding tried counted
more only m cap main last t o h b e = rw (o, lt-leb cap t.ranked h) (e ∙ ap (λ (x : ℕ). counted main.metres x t) b)

pub returns-then-t-clause-tally : goal.returns-then-t-clause-tally
unfolding tried
returns-then-t-clause-tally c = rw (c.if-t.true, tried)

pub returns-then-cap-t-clause-tally : goal.returns-then-cap-t-clause-tally
unfolding tried
returns-then-cap-t-clause-tally c = rw (c.if-t.false, le-leb _ _ c.if-cap-t.true, tried)

pub returns-clause-tally : goal.returns-clause-tally
returns-clause-tally c = more _ _ c.args.cap c.args.main c.args.last c.args.t c.if-t.false c.if-cap-t.false c.best_with-best.ensures.best c.one_more.ensures
