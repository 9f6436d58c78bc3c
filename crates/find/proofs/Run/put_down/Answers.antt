-- `find::Run::put_down` meets its contract: the arc goes to the first place behind those put down, which leads them (`put_written`). Assumes nothing.
use native.Mathlib.Omega.{arith}
use Rattle.find.proofs.PutLaws.{put_written}
use Rattle.find.proofs.Run.put_down.Goals as goal

pub returns : goal.returns
returns c = put_written c.args.self.now c.args.k (omega arith)
