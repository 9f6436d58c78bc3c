-- `closed::read` meets its contract: sixteen bytes are eight and eight. Assumes nothing.
use Rattle.std.proofs.Common.{◌≡◌, arith}
use Rattle.problem.specs.Table.{number_at}
use Rattle.problem.specs.Closed.{closed_in}
use Rattle.closed.proofs.read.Goals as goal

pub returns : goal.returns
unfolding closed_in number_at
returns c =
    let bytes = c.args.bytes.now in
    let low : c.from-low.result ≡ number_at bytes 0 8 = cc in
    let high : c.from-high.result ≡ number_at bytes 8 8 = cc in
    omega (arith, low, high, c.number8-2.type_inv)
