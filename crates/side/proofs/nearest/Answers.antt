-- `side::nearest` meets its contract. The invariant: the best is the nearest of those that are not left in `rest`; the measure: `rest`, which loses its lowest.
-- Assumes nothing.
use Prim.Native.Nat.{◌-◌, ◌≤◌, ◌<◌}
use native.Mathlib.Omega.{arith}
use lib.Bits.{bit_and, and_le_r}
use Rattle.laws.proofs.SetLaws.{bit_inside}
use Rattle.problem.specs.Table.{last_node, nodes}
use Rattle.side.proofs.NearestLaws.{passed_first, rest_in, passed_nearer, passed_kept, passed_all}
use Rattle.side.proofs.nearest.Goals.{After-lowest-v, In-loop-rest}
use Rattle.side.proofs.nearest.Goals as goal

less : (c : In-loop-rest) → 0 < c.loop-rest.rest
less c = omega (arith, c.loop-rest-test.true)

-- the best and the lowest of the rest are nodes
best_node : (c : In-loop-rest) → c.loop-rest.best ≤ last_node
best_node c =
    omega (arith, bit_inside nodes _ _ c.requires.1 c.loop-rest.invariant.is_member)

low_node : (c : After-lowest-v) → c.lowest-v.result ≤ last_node
low_node c =
    omega (arith, bit_inside nodes _ _ c.requires.1 (rest_in _ _ _ _ _ c.loop-rest.invariant c.lowest-v.ensures))

falls : (c : In-loop-rest) → let r = c.loop-rest.rest in bit_and r (r - 1) < r
falls c = omega (arith, c.loop-rest-test.true, and_le_r c.loop-rest.rest (c.loop-rest.rest - 1))

pub lowest-best-requires : goal.lowest-best-requires
lowest-best-requires c = c.requires.0

pub loop-rest-init : goal.loop-rest-init
loop-rest-init c = passed_first _ _ _ c.lowest-best.ensures

pub lowest-v-requires : goal.lowest-v-requires
lowest-v-requires c = less (goal.at.lowest-v-requires c).In-loop-rest

pub overflow_sub-rest-in-loop-rest : goal.overflow_sub-rest-in-loop-rest
overflow_sub-rest-in-loop-rest c = omega (arith, less (goal.at.overflow_sub-rest-in-loop-rest c).In-loop-rest)

pub bounds-entries-v : goal.bounds-entries-v
bounds-entries-v c = omega (arith, low_node (goal.at.bounds-entries-v c).After-lowest-v)

pub overflow_cast-there : goal.overflow_cast-there
overflow_cast-there c = omega (arith, best_node (goal.at.overflow_cast-there c).In-loop-rest)

pub offset_bounds-entries-best : goal.offset_bounds-entries-best
offset_bounds-entries-best c = omega (arith, best_node (goal.at.offset_bounds-entries-best c).In-loop-rest)

pub bounds-entries-best : goal.bounds-entries-best
bounds-entries-best c = omega (arith, best_node (goal.at.bounds-entries-best c).In-loop-rest)

pub loop-rest-smaller-then-here-there : goal.loop-rest-smaller-then-here-there
loop-rest-smaller-then-here-there c = falls (goal.at.loop-rest-smaller-then-here-there c).In-loop-rest

pub loop-rest-preserved-then-here-there : goal.loop-rest-preserved-then-here-there
loop-rest-preserved-then-here-there c =
    passed_nearer _ _ _ _ _ c.loop-rest.invariant c.lowest-v.ensures c.if-here-there.true

pub loop-rest-smaller : goal.loop-rest-smaller
loop-rest-smaller c = falls (goal.at.loop-rest-smaller c).In-loop-rest

pub loop-rest-preserved : goal.loop-rest-preserved
loop-rest-preserved c =
    passed_kept _ _ _ _ _ c.loop-rest.invariant c.lowest-v.ensures c.if-here-there.false

pub returns : goal.returns
returns c = passed_all _ _ _ _ c.loop-rest-test.false c.loop-rest.invariant
