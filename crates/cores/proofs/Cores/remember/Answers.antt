-- `Cores::remember` meets its contract: the core is put behind the last one, or, where there is no room, at the number of an old one (`remembered`). Assumes nothing.
use mathlib.Core.Path.{refl}
use Prim.Native.Nat.{◌/◌, ◌%◌, ◌<◌}
use native.Mathlib.Omega.{arith}
use native.Mathlib.Nat.{mod-lt}
use Rattle.cores.specs.Cores.{most_cores}
use Rattle.cores.proofs.CoreLaws.{remembered}
use Rattle.cores.proofs.Cores.remember.Goals as goal

pub returns-then-self-lt-MOST_CORES : goal.returns-then-self-lt-MOST_CORES
returns-then-self-lt-MOST_CORES c = remembered c.args.self.now.count (omega arith) (omega arith) (omega (arith, c.if-self-lt-MOST_CORES.true)) (λ j h ne. omega arith) refl

pub returns : goal.returns
returns c =
    let old : c.args.self.now.searches / 4 % most_cores < most_cores = mod-lt (c.args.self.now.searches / 4) (omega arith) in
    remembered _ (omega (arith, old)) (omega (arith, old, c.if-self-lt-MOST_CORES.false)) (omega (arith, c.requires)) (λ j h ne. h) refl
