-- `floor::start` meets its contract: each node has its entry and is exposed to all (`filled`), and then the terminal to nothing. Assumes nothing.
use mathlib.Core.Path.{◌≡◌, refl, sym, ap, ◌∙◌}
use mathlib.Core.List.{List, [], map}
use Prim.Native.Nat.{ℕ, ◌<◌}
use native.Mathlib.Omega.{arith}
use lib.ListN.{length, get_or}
use Rattle.std.proofs.lemmas.List.{ext_get_or, get_or-map, length-map}
use Rattle.problem.specs.Table.{nodes}
use Rattle.problem.specs.Exposures.{to_nothing, to_all}
use Rattle.side.specs.declared.Distance.{Distance}
use Rattle.side.specs.Side.{unreached}
use Rattle.floor.specs.declared.Held.{Held}
use Rattle.floor.specs.Clearing.{held_at, start_of}
use Rattle.floor.proofs.start.Goals as goal

abbrev all_of : Distance → Held
all_of e = record { entry = e; exposure = to_all }

filled : (plain : List Distance) (ways : List Held) → length plain ≡ nodes → length ways ≡ nodes
    → ((u : ℕ) → u < nodes → get_or ways u (held_at [] 0) ≡ all_of (get_or plain u unreached)) → ways ≡ map all_of plain
filled plain ways full size here =
    ext_get_or (held_at [] 0) ways (map all_of plain) (omega (arith, size, full, length-map plain all_of))
    (λ u h. here u (omega (arith, size)) ∙ sym (get_or-map all_of plain u unreached (held_at [] 0) (omega (arith, size, full))))

pub returns : goal.returns
unfolding start_of to_nothing
returns c =
    let full : length c.args.plain ≡ nodes = omega arith in
    let is = filled c.args.plain c.loop-v.ways full c.loop-v.invariant.size (λ u h. c.loop-v.invariant.here u (omega arith)) in
    let entry = ap (λ (x : Held). x.entry) (get_or-map all_of c.args.plain c.args.terminal unreached (held_at [] 0) (omega (arith, full))) in
    rw (is, entry, c.nothing.ensures) refl
