-- `chain::end_of` meets its contract: each end is the case that the definition has for it. Assumes nothing.
use mathlib.Core.Path.{sym, ap}
use Rattle.chain.specs.declared.End.{End}
use Rattle.chain.specs.Chain.{end_of}
use Rattle.chain.proofs.end_of.Goals as goal

pub returns-in-Tail : goal.returns-in-Tail
unfolding end_of
returns-in-Tail c = sym (ap (λ (e : End). end_of e c.args.a) c.in-Tail.is)

pub returns-in-Head : goal.returns-in-Head
unfolding end_of
returns-in-Head c = sym (ap (λ (e : End). end_of e c.args.a) c.in-Head.is)
