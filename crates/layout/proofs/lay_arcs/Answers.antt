-- `layout::lay_arcs` meets its contract: what is written is that of all arcs. Assumes nothing.
use native.Mathlib.Omega.{arith}
use Rattle.problem.proofs.TableLaws.{arcs_length}
use Rattle.layout.proofs.lay_arcs.Goals as goal

pub returns : goal.returns
returns c =
    let i = c.loop-k.invariant in
    record {
      link = λ k h. i.link k (omega (arith, arcs_length c.args.table.now));
      exposure = λ k h. i.exposure k (omega (arith, arcs_length c.args.table.now));
      span = λ k h. i.span k (omega (arith, arcs_length c.args.table.now));
    }
