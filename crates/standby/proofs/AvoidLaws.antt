-- What keeps off what is barred (`Avoids`): what a search grows where it does not end with the barred arc; each part of what does; what keeps off more, off less; and a path that does is
-- grown where the barred nodes count as met. Assumes nothing.
use mathlib.Core.Path.{◌≡◌, sym, ap, ◌∙◌}
use mathlib.Core.Logic.{◌⊎◌, inl, inr}
use mathlib.Core.List.Memᴰ
use mathlib.Core.List.{List, [], ◌∷◌, Memᴰ}
use Prim.Native.Nat.{ℕ, ◌≤◌, ◌<◌}
use native.Mathlib.Decide.{ℕ_discrete}
use native.Mathlib.Omega.{arith}
use lib.ListN.{length}
use Rattle.laws.specs.Sets.{bit, with}
use Rattle.laws.proofs.SetLaws.{bit_with, bit_with_other}
use Rattle.laws.proofs.PartLaws.{Part}
use Rattle.problem.specs.Routes.{Mesh, arc_at, nodes_from, Way, IsPath}
use Rattle.problem.proofs.RouteLaws.{Grown, grow_in, grown_short, way_grown, opens_new}
use Rattle.problem.proofs.PathLaws.{LowHeads}
use Rattle.net.specs.Search.{last_of, no_arc}
use Rattle.bars.specs.declared.Barred.{Barred}
use Rattle.bars.specs.Bars.{barred, unbarred, Avoids}

-- ---- less that is barred

-- what the one bars, the other bars too
pub record Milder (m : Mesh) (less more : Barred) : Type 0 where
  pub nodes_too : (u : ℕ) → bit less.nodes u ≤ bit more.nodes u
  pub last_too : (k : ℕ) → k < length m.arcs → k ≡ less.last → k ≡ more.last

pub milder_same : (m : Mesh) (off : Barred) → Milder m off off
milder_same m off = record { nodes_too = λ u. omega arith; last_too = λ k l e. e }

-- some of the nodes, and no arc
pub milder_nodes : (m : Mesh) (fewer : ℕ) (off : Barred) → length m.arcs ≤ no_arc → ((u : ℕ) → bit fewer u ≤ bit off.nodes u) → Milder m (barred fewer no_arc) off
milder_nodes m fewer off few f = record { nodes_too = f; last_too = λ k l e. absurd (omega arith) }

module _ (m : Mesh) where
  pub avoids_milder : {less more : Barred} → Milder m less more → {v to : ℕ} {ks : List ℕ} → Way m.arcs v to ks → Avoids m more ks → Avoids m less ks
  avoids_milder d (Way.there e) Avoids.none = Avoids.none
  avoids_milder d (Way.over {k = k} l t w) (Avoids.one p q o) =
      Avoids.one {k = k} (omega (arith, d.nodes_too (arc_at m.arcs k).head)) (λ e f. q e (d.last_too k l f)) (avoids_milder d w o)

  module _ (off : Barred) where
    pub avoids_part : {l r : List ℕ} → Part l r → Avoids m off r → Avoids m off l
    avoids_part Part.none o = o
    avoids_part (Part.past p) (Avoids.one x y o) = avoids_part p o
    avoids_part (Part.with_it {a = k} p) (Avoids.one x y o) = Avoids.one {k = k} x y (avoids_part p o)

    -- ---- what is grown

    -- only its last arc leads to the terminal
    pub grown_avoids : (before : ℕ) {met at : ℕ} {ks : List ℕ} → ((u : ℕ) → bit off.nodes u ≤ bit met u) → Grown m.arcs m.terminal met at ks → (last_of before ks ≡ off.last → ⊥) → Avoids m off ks
    unfolding last_of
    grown_avoids before f (Grown.done e) ne = Avoids.none
    grown_avoids before {met} {at} f (Grown.step {k = k} b on o g) ne =
        Avoids.one {k = k} (omega (arith, f (arc_at m.arcs k).head, opens_new met at (arc_at m.arcs k) o)) (λ t e. ends g t ne e)
        (grown_avoids k (λ u. simp bit_with (omega (arith, f u))) g ne)
      where
        ends : {seen v : ℕ} {ks : List ℕ} → Grown m.arcs m.terminal seen v ks → v ≡ m.terminal → (last_of k ks ≡ off.last → ⊥) → k ≡ off.last → ⊥
        ends (Grown.done e) t n = n
        ends (Grown.step b on o g) t n = absurd (on t)

    -- ---- a path that keeps off

    -- the last arc of a way leads to the terminal
    pub avoids_last : {v : ℕ} (k : ℕ) (ks : List ℕ) → Way m.arcs v m.terminal (k ∷ ks) → Avoids m off (k ∷ ks) → last_of k ks ≡ off.last → ⊥
    unfolding last_of
    avoids_last k [] (Way.over l t (Way.there e)) (Avoids.one p q o) = q e
    avoids_last {v = v} k (j ∷ ks) (Way.over l t w) (Avoids.one p q o) = avoids_last {v = (arc_at m.arcs k).head} j ks w o

    avoids_nodes : (v : ℕ) {ks : List ℕ} → Avoids m off ks → (u : ℕ) → Memᴰ u (nodes_from m.arcs v ks) → (v ≡ u → ⊥) → bit off.nodes u ≡ 0
    unfolding nodes_from
    avoids_nodes v Avoids.none u i ne = absurd (ne (sym (Memᴰ.eq_of_singleton i)))
    avoids_nodes v (Avoids.one {k = k} {ks = ks} p q o) u i ne = go (Memᴰ.cases_cons i) (avoids_nodes (arc_at m.arcs k).head o u)
      where
        go : (u ≡ v) ⊎ Memᴰ u (nodes_from m.arcs (arc_at m.arcs k).head ks)
            → (Memᴰ u (nodes_from m.arcs (arc_at m.arcs k).head ks) → ((arc_at m.arcs k).head ≡ u → ⊥) → bit off.nodes u ≡ 0) → bit off.nodes u ≡ 0
        go (inl e) later = absurd (ne (sym e))
        go (inr j) later = elim (ℕ_discrete (arc_at m.arcs k).head u) [
          | yes e ↦ ap (bit off.nodes) (sym e) ∙ p
          | no other ↦ later j other
        ]

    -- it is among those that a search from the source goes over
    pub avoids_listed : LowHeads m.arcs → {ks : List ℕ} → IsPath m.arcs m.source m.terminal ks → Avoids m off ks → Memᴰ ks (unbarred m off)
    avoids_listed low {ks} p o =
        grow_in m.arcs m.terminal _ (omega (arith, grown_short m.arcs m.terminal low grown)) grown
      where
        grown : Grown m.arcs m.terminal (with off.nodes m.source) m.source ks
        grown =
            way_grown m.arcs m.terminal p.way p.no_node_twice
            (λ u i ne. omega (arith, avoids_nodes m.source o u i ne, bit_with_other off.nodes m.source u (λ e. ne (sym e))))
