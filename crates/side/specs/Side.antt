-- What the side table says of each node. Assumes nothing.
use Rattle.std.specs.Prelude.{◌≡◌, Bool, true, false, List, ℕ, ◌≤◌, get_or}
use Rattle.problem.specs.declared.Arc.{Arc}
use Rattle.problem.specs.declared.Exposure.{Exposure}
use Rattle.problem.specs.Table.{most_reach}
use Rattle.problem.specs.Routes.{metres_of, FreeWay}
use Rattle.side.specs.declared.Distance.{Distance}

-- the entry of a node from which nothing leads on
abbrev pub unreached : Distance
unreached = record { metres = 0; reached = false }

-- v's entry
abbrev pub entry_at : List Distance → ℕ → Distance
entry_at s v = get_or s v unreached

abbrev pub reached_at : List Distance → ℕ → Bool
reached_at s v = (entry_at s v).reached

abbrev pub metres_at : List Distance → ℕ → ℕ
metres_at s v = (entry_at s v).metres

module _ (arcs : List Arc) (terminal : ℕ) (banned : Exposure) where
  -- a way from v to the terminal over free arcs, of the given length
  pub record Reaches (v metres : ℕ) : Type 0 where
    pub list : List ℕ
    pub free_way : FreeWay arcs banned terminal v list
    pub same_metres : metres_of arcs list ≡ metres

  -- a reached node's entry is that of a free way; any other holds 0; the terminal is reached with 0 metres
  pub record Entries (s : List Distance) : Type 0 where
    pub reaches : (v : ℕ) → reached_at s v ≡ true → Reaches v (metres_at s v)
    pub no_metres : (v : ℕ) → reached_at s v ≡ false → metres_at s v ≡ 0
    pub terminal_reached : reached_at s terminal ≡ true
    pub terminal_metres : metres_at s terminal ≡ 0

  -- the table itself: besides, no free way is shorter than its node's entry, and there is none where a node is not reached
  pub record SideTable (s : List Distance) : Type 0 where
    pub entries : Entries s
    pub least : (v : ℕ) (ks : List ℕ) → FreeWay arcs banned terminal v ks → metres_at s v ≤ metres_of arcs ks
    pub none : (v : ℕ) → reached_at s v ≡ false → (ks : List ℕ) → FreeWay arcs banned terminal v ks → ⊥
    pub most_metres : (v : ℕ) → metres_at s v ≤ most_reach
