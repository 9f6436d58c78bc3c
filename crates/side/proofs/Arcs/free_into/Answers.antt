-- `side::Arcs::free_into` meets its contract: the chain's first arc of v passes over arcs of other heads. Assumes nothing.
use Rattle.side.proofs.FreeArcsLaws.{frees_first}
use Rattle.side.proofs.Arcs.free_into.Goals as goal

pub returns : goal.returns
returns c = frees_first _ _ _ _ (rw c.first.ensures (c.args.self.now.chained.first c.args.v c.requires))
