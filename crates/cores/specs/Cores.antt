-- Cores, which searches leave in a store beside their labels: no standby of a main that is exposed to so much, and bars such nodes, has a key below a bound.
-- Assumes nothing.
use Rattle.std.specs.Prelude.{ℕ, ◌≤◌, ◌<◌, true, ◌≡◌, get_or, set}
use Rattle.std.specs.Int.Bits.{bit_or}
use Rattle.problem.specs.declared.Exposure.{Exposure}
use Rattle.problem.specs.Exposures.{to_nothing}
use Rattle.exposure.specs.Parts.{inside}
use Rattle.net.specs.declared.Net.{Net}
use Rattle.net.specs.Net.{mesh_in}
use Rattle.net.specs.Search.{no_arc}
use Rattle.bars.specs.Bars.{barred}
use Rattle.standby.specs.Ahead.{quest, NoneBelow}
use Rattle.cores.specs.declared.Core.{Core}
use Rattle.cores.specs.declared.Cores.{Cores}
use Rattle.cores.specs.declared.Store.{Store}

-- how many cores are remembered
abbrev pub most_cores : ℕ
most_cores = 24

-- what is read where there is no core
abbrev pub no_core : Core
no_core = record { exposure = to_nothing; nodes = 0; bound = 0 }

-- the core of number j
abbrev pub core_of : Cores → ℕ → Core
core_of cores j = get_or cores.known j no_core

abbrev pub CoreHolds : (net : Net) → Core → Type 0
CoreHolds net core = NoneBelow (quest (mesh_in net) core.exposure (barred core.nodes no_arc)) core.bound

-- there are no more cores than there is room for
abbrev pub Sized : Cores → Type 0
Sized cores = cores.count ≤ most_cores

-- and every core is true of the mesh that the net says
pub record AllHold (net : Net) (cores : Cores) : Type 0 where
  pub sized : Sized cores
  pub held : (j : ℕ) → j < cores.count → CoreHolds net (core_of cores j)

-- which labels a store has does not matter
abbrev pub Stored : (net : Net) → Store → Type 0
Stored net store = AllHold net store.cores

-- a core says that no standby that is asked for has a key below the bound: it asks no more of the main, and its bound is no smaller
pub record Covers (core : Core) (main : Exposure) (nodes bound : ℕ) : Type 0 where
  pub main_inside : inside core.exposure main ≡ true
  pub nodes_inside : bit_or core.nodes nodes ≡ nodes
  pub no_smaller : bound ≤ core.bound

-- some core does
pub record Covered (cores : Cores) (main : Exposure) (nodes bound : ℕ) : Type 0 where
  pub number : ℕ
  pub counted : number < cores.count
  pub covers : Covers (core_of cores number) main nodes bound

-- the cores are as they were
pub record CoresKept (before after : Cores) : Type 0 where
  pub count_same : after.count ≡ before.count
  pub known_same : after.known ≡ before.known

-- the core stands at a number that is counted, and at the others that are counted stand cores of before, where they were. Where it holds, so do all that are
-- remembered, if they did before
pub record Remembers (core : Core) (before after : Cores) : Type 0 where
  pub number : ℕ
  pub counted : number < after.count
  pub is : core_of after number ≡ core
  pub put : after.known ≡ set before.known number core
  pub old : (j : ℕ) → j < after.count → (j ≡ number → ⊥) → j < before.count
  pub stored : (net : Net) → AllHold net before → CoreHolds net core → AllHold net after
