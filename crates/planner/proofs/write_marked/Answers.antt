-- `planner::write_marked` meets its contract: the part of the buffer that is written says the arcs with their marks. Assumes nothing.
use mathlib.Core.Path.{ap, ◌∙◌}
use mathlib.Core.Bool.{true≢false}
use mathlib.Core.List.{List}
use Prim.Native.Nat.{ℕ}
use lib.ListN.{length, take}
use Rattle.problem.specs.Table.{arcs_of}
use Rattle.planner.proofs.PlannerLaws.{arcs_marked, arcs_copied}
use Rattle.planner.proofs.write_marked.Goals as goal

pub returns-then-any : goal.returns-then-any
returns-then-any c = record {
  arcs = ap (λ (l : List ℕ). arcs_of (take (length c.args.table.now) l)) c.put_all.ensures ∙ arcs_marked c.args.table.now _ c.requires.1 c.requires.2;
  spanned = λ e. absurd (true≢false e);
}

pub returns : goal.returns
returns c =
    let none = c.any.ensures.1 c.if-any.false in
    record { arcs = arcs_copied c.args.table.now _ c.copy.ensures none; spanned = λ e. none }
