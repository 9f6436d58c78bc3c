-- Counting goes over the arcs of a node as a sweep does: from arc to arc of its chain, and on from each head that was not met. Assumes nothing.
use mathlib.Core.Path.{◌≡◌, sym, ap, ◌∙◌}
use Prim.Native.Nat.{ℕ, ◌≤◌, ◌<◌}
use native.Mathlib.Omega.{arith}
use lib.ListN.{length}
use Rattle.laws.specs.Sets.{unmet}
use Rattle.problem.specs.Table.{last_node}
use Rattle.problem.specs.Routes.{arc_at}
use Rattle.net.specs.declared.Net.{Net}
use Rattle.net.specs.declared.Behind.{Behind}
use Rattle.net.specs.Net.{next_of, arcs_in, mesh_in, IsNet, lower_at, first_at}
use Rattle.net.proofs.SearchLaws.{Place, place_first, place_next, next_past, head_node, fewer}
use Rattle.look.specs.declared.Leg.TheVariants.{Leads}
use Rattle.look.specs.Look.{leg_at}
use Rattle.look.proofs.LookLaws.{leads_is}
use Rattle.sweep.specs.Sweep.{Sweeping}

-- nothing is made of the routes met
abbrev idle : ℕ → Behind → ℕ → ℕ
idle s e k = s

-- the count stands at arc i of the node's chain
abbrev pub Stands : Net → Behind → ℕ → ℕ → Type 0
Stands net b at i = Place net idle b at i

module _ (net : Net) (words : IsNet net) (b : Behind) (at : ℕ) where
  pub stands_first : at ≤ last_node → Stands net b at (first_at net at)
  stands_first node = place_first net idle b at words node

  module _ {i : ℕ} (stands : Stands net b at i) (inside : i < length (arcs_in net)) where
    pub stands_next : Stands net b at (next_of net i)
    stands_next = place_next net idle b at words stands inside

    pub next_further : i < next_of net i
    next_further = next_past net idle b at words stands inside

    -- from the head of an arc that leads on: one node fewer is left
    pub leads_ready : {hi h : ℕ} {e : Behind} → Sweeping net hi at b.metres → leg_at net hi b i ≡ Leads h e → Sweeping net hi h e.metres × (unmet 32 e.met < unmet 32 b.met)
    leads_ready {hi} {h} {e} r q =
        let o = leads_is (mesh_in net).terminal hi (lower_at net (arc_at (arcs_in net) i).head) b (arc_at (arcs_in net) i) q in (
          record {
            words = words;
            node = omega (arith, o.head_is, head_node net idle b at words stands inside);
            onward = λ t. o.goes_on (sym o.head_is ∙ t);
            hi_range = r.hi_range;
            in_window = omega (arith, ap (λ (x : Behind). x.metres) o.is, o.inside);
          },
          omega (arith, fewer net idle b at words stands inside o.new, ap (λ (x : Behind). unmet 32 x.met) o.is),
        )
