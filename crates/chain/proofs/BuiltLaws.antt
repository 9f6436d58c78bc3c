-- A chain built from the last arc down: what holds of the arcs from i on holds with arc i - 1 put in front of those of its node. Assumes nothing.
use Prim.Native.Nat.{ℕ, ◌+◌, ◌≤◌, ◌<◌}
use mathlib.Core.List.{List}
use mathlib.Core.Path.{◌≡◌, sym, ap, ◌∙◌}
use native.Mathlib.Decide.{dec_lt, ℕ_discrete}
use native.Mathlib.Omega.{arith}
use lib.ListN.{length, set, replicate, length-set, length-replicate, get_or-replicate}
use lib.Seq.{get_or-set_same, get_or-set_other}
use Rattle.problem.specs.declared.Arc.{Arc}
use Rattle.problem.specs.declared.Request.{Request}
use Rattle.problem.specs.Table.{last_node, nodes, most_in_table, arcs_of, SoundArc}
use Rattle.problem.specs.Routes.{arc_at}
use Rattle.problem.specs.Reply.{Checked}
use Rattle.problem.proofs.TableLaws.{arcs_length, sound_at}
use Rattle.chain.specs.declared.End.{End}
use Rattle.chain.specs.declared.Chain.{Chain}
use Rattle.chain.specs.Chain.{first_in, next_in, end_of, Chainable, NextBy, ChainedBy}

-- a table that passes the checks can be chained by either end
pub checked_chainable : (end : End) {table : List ℕ} {q : Request} → Checked table q → Chainable (end_of end) (arcs_of table)
unfolding end_of
checked_chainable end {table} c =
    record { few = omega (arith, arcs_length table, c.few_bytes); ends = λ k h. at_end end (arc_at (arcs_of table) k) (sound_at (arcs_of table) c.sound k h) }
  where
    at_end : (end : End) (a : Arc) → SoundArc a → end_of end a ≤ last_node
    at_end End.Tail a s = s.tail_node
    at_end End.Head a s = s.head_node

-- the chain of the arcs from i on
pub record Built (node : Arc → ℕ) (arcs : List Arc) (chain : Chain) (i : ℕ) : Type 0 where
  pub first_size : length chain.first ≡ nodes
  pub next_size : length chain.next ≡ most_in_table
  pub first : (v : ℕ) → v ≤ last_node → NextBy node arcs v i (first_in chain v)
  pub next : (k : ℕ) → i ≤ k → k < length arcs → NextBy node arcs (node (arc_at arcs k)) (k + 1) (next_in chain k)

pub built_none : (node : Arc → ℕ) (arcs : List Arc)
    → Built node arcs (record { first = replicate nodes (length arcs); next = replicate most_in_table (length arcs) }) (length arcs)
built_none node arcs = record {
  first_size = length-replicate nodes (length arcs);
  next_size = length-replicate most_in_table (length arcs);
  first = λ v h. rw (get_or-replicate nodes v (length arcs) 0 (omega arith)) (record { from = omega arith; to = omega arith; skipped = λ k x y. absurd (omega arith); here = λ x. absurd (omega arith) });
  next = λ k x y. absurd (omega arith);
}

-- all of it is the chain
pub built_all : (node : Arc → ℕ) (arcs : List Arc) (chain : Chain) → Built node arcs chain 0 → ChainedBy node arcs chain
built_all node arcs chain b = record { first = b.first; next = λ i h. b.next i (omega arith) h }

-- arc j, whose node is u, in front
module _ (node : Arc → ℕ) (arcs : List Arc) (chain : Chain) (j u : ℕ) (inside : j < length arcs) (here : node (arc_at arcs j) ≡ u) (able : Chainable node arcs)
    (b : Built node arcs chain (j + 1)) where
  small : u ≤ last_node
  small = rw here at (able.ends j inside)

  abbrev longer : Chain
  longer = record { first = set chain.first u j; next = set chain.next j (first_in chain u) }

  first_here : first_in longer u ≡ j
  first_here = get_or-set_same chain.first u j 0 (omega (arith, b.first_size, small))

  next_here : next_in longer j ≡ first_in chain u
  next_here = get_or-set_same chain.next j (first_in chain u) 0 (omega (arith, b.next_size, able.few))

  -- arc j is passed over at another node
  passed : (v m : ℕ) → (v ≡ u → ⊥) → NextBy node arcs v (j + 1) m → NextBy node arcs v j m
  passed v m other n = record {
    from = omega (arith, n.from);
    to = n.to;
    skipped = λ k x y e. elim (dec_lt j k) [
      | yes l ↦ n.skipped k (omega arith) y e
      | no l ↦ let q : k ≡ j = omega arith in other (sym e ∙ ap (λ (i : ℕ). node (arc_at arcs i)) q ∙ here)
    ];
    here = n.here;
  }

  pub built_more : Built node arcs longer j
  built_more = record {
    first_size = simp length-set b.first_size;
    next_size = simp length-set b.next_size;
    first = λ v h. elim (ℕ_discrete v u) [
      | yes e ↦ rw (e, first_here) (record { from = omega arith; to = omega arith; skipped = λ k x y. absurd (omega arith); here = λ x. here })
      | no n ↦ rw (get_or-set_other chain.first u v j 0 n) (passed v (first_in chain v) n (b.first v h))
    ];
    next = λ k x y. elim (dec_lt j k) [
      | yes l ↦ rw (get_or-set_other chain.next j k (first_in chain u) 0 (λ e. omega arith)) (b.next k (omega arith) y)
      | no l ↦ let q : k ≡ j = omega arith in rw (q, next_here, here) (b.first u small)
    ];
  }
