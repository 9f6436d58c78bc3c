-- The arcs of one tail, or of one head, chained. Assumes nothing.
use Rattle.std.specs.Prelude.{ℕ, ◌+◌, ◌≤◌, ◌<◌, List, ◌≡◌, length, get_or}
use Rattle.problem.specs.declared.Arc.{Arc}
use Rattle.problem.specs.Table.{last_node, most_in_table}
use Rattle.problem.specs.Routes.{arc_at}
use Rattle.chain.specs.declared.Chain.{Chain}
use Rattle.chain.specs.declared.End.{End}

abbrev pub first_in : Chain → ℕ → ℕ
first_in chain v = get_or chain.first v 0

abbrev pub next_in : Chain → ℕ → ℕ
next_in chain k = get_or chain.next k 0

-- the arc's node at that end
unfoldable pub end_of : End → Arc → ℕ
end_of End.Tail a = a.tail
end_of End.Head a = a.head

module _ (node : Arc → ℕ) (arcs : List Arc) where
  -- what a table must be for its arcs to be chained by this end
  pub record Chainable : Type 0 where
    pub few : length arcs ≤ most_in_table
    pub ends : (k : ℕ) → k < length arcs → node (arc_at arcs k) ≤ last_node

  -- from arc i on, the next arc with this end at v is j; where there is none, j is the number of arcs
  pub record NextBy (v i j : ℕ) : Type 0 where
    pub from : i ≤ j
    pub to : j ≤ length arcs
    pub skipped : (k : ℕ) → i ≤ k → k < j → node (arc_at arcs k) ≡ v → ⊥
    pub here : j < length arcs → node (arc_at arcs j) ≡ v

  -- from the first arc of each node, and from each arc onwards, what is passed over has another node at this end
  pub record ChainedBy (chain : Chain) : Type 0 where
    pub first : (v : ℕ) → v ≤ last_node → NextBy v 0 (first_in chain v)
    pub next : (i : ℕ) → i < length arcs → NextBy (node (arc_at arcs i)) (i + 1) (next_in chain i)

-- the next arc that leaves v
abbrev pub Next : (arcs : List Arc) (v i j : ℕ) → Type 0
Next = NextBy (λ (a : Arc). a.tail)
