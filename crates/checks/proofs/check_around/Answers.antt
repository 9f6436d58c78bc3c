-- `checks::check_around` meets its contract: the closed set is looked at where no check before it refuses. Assumes nothing.
use Prim.Native.Nat.{ℕ, ◌/◌, ◌≤◌, ◌^◌}
use mathlib.Core.Bool.{Bool}
use mathlib.Core.List.{List}
use mathlib.Core.Path.{◌≡◌, sym, ap₂, ◌∙◌}
use native.Mathlib.Omega.{arith}
use lib.Dec.{ltb}
use lib.ListN.{length}
use Rattle.std.proofs.lemmas.Result.{err_from_is_err_and}
use Rattle.problem.specs.Table.{arcs_of}
use Rattle.problem.specs.Closed.{closed_in}
use Rattle.problem.proofs.TableLaws.{arcs_length}
use Rattle.checks.proofs.CheckLaws.{refused_plain, plain_few, refused_length, refused_past, all_passed}
use Rattle.checks.proofs.check_around.Goals.{After-read-set}
use Rattle.checks.proofs.check_around.Goals as goal

-- the table has at most 128 arcs
few : (c : After-read-set) → length c.args.table.now / 16 ≤ 128
few c = omega (arith, plain_few _ c.args.closed.now _ _ c.in_ok-check.ensures)

-- what the last test says of the set and the arcs
asked : (table closed : List ℕ) {set : ℕ} {b : Bool} → b ≡ ltb set (2 ^ (length table / 16)) → set ≡ closed_in closed → ltb (closed_in closed) (2 ^ length (arcs_of table)) ≡ b
asked table closed e f = sym (e ∙ ap₂ (λ (x n : ℕ). ltb x (2 ^ n)) f (sym (arcs_length table)))

pub returns-in_err-check : goal.returns-in_err-check
returns-in_err-check c =
    let p = err_from_is_err_and c.from_residual.result c.from_residual.ensures.1 in
    rw (p.1, p.2) (refused_plain _ _ _ _ _ c.in_err-check.ensures)

pub returns-then-closed-ne-CLOSED_SIZE : goal.returns-then-closed-ne-CLOSED_SIZE
returns-then-closed-ne-CLOSED_SIZE c = refused_length _ _ _ _ c.in_ok-check.ensures c.if-closed-ne-CLOSED_SIZE.true

pub overflow_cast-arcs : goal.overflow_cast-arcs
overflow_cast-arcs c = omega (arith, few (goal.at.overflow_cast-arcs c).After-read-set)

pub inside-requires : goal.inside-requires
inside-requires c = few (goal.at.inside-requires c).After-read-set

pub returns-then-not-inside : goal.returns-then-not-inside
returns-then-not-inside c =
    refused_past _ _ _ _ c.in_ok-check.ensures c.if-closed-ne-CLOSED_SIZE.false (asked _ _ c.inside.ensures c.read-set.ensures ∙ c.if-not-inside.true)

pub returns : goal.returns
returns c =
    all_passed _ _ _ _ c.in_ok-check.ensures c.if-closed-ne-CLOSED_SIZE.false (asked _ _ c.inside.ensures c.read-set.ensures ∙ c.if-not-inside.false)
