-- What a main bars its standbys from. Assumes nothing.
use mathlib.Core.Path.{◌≡◌, refl, sym, ap, ◌∙◌, subst}
use mathlib.Core.Logic.{◌⊎◌, inl, inr, ◌↔◌}
use mathlib.Core.Bool.{Bool, true, false}
use mathlib.Core.List.Memᴰ
use mathlib.Core.List.{List, [], ◌∷◌, Memᴰ}
use Prim.Native.Nat.{ℕ, ◌≤◌, ◌<◌}
use native.Mathlib.Omega.{arith}
use lib.Dec.{eqb}
use lib.ListN.{length}
use borrow.Author.Tests.{eqb-true, eqb-false, eq-eqb, ne_eqb}
use Rattle.laws.specs.Sets.{bit, with, without}
use Rattle.std.specs.Prelude.{if◌then◌else◌}
use Rattle.laws.proofs.SetLaws.{digit, bit_le_one, bit_empty, bit_with, bit_with_same, bit_with_other, bit_single, bit_without, bits_ext}
use Rattle.problem.specs.declared.Arc.{Arc}
use Rattle.problem.specs.Table.{last_node, most_in_table}
use Rattle.problem.specs.Routes.{Mesh, arc_at, nodes_from, Way, IsPath, paths, route_of}
use Rattle.problem.specs.Pairs.{pair}
use Rattle.problem.specs.Apart.{Apart, judges}
use Rattle.problem.proofs.RouteLaws.{Grown, first_node, grow_out, grow_in, grown_short, grown_off}
use Rattle.problem.proofs.PathLaws.{LowHeads, sound_heads}
use Rattle.problem.proofs.GrowthLaws.{grow_source}
use Rattle.problem.proofs.ApartLaws.{apart_exactly, one_arc}
use Rattle.net.specs.declared.Net.{Net}
use Rattle.net.specs.declared.Behind.{Behind}
use Rattle.net.specs.Net.{IsNet, arcs_in, mesh_in}
use Rattle.net.specs.Search.{start, onto, along, last_of, no_arc}
use Rattle.bars.specs.declared.Barred.{Barred}
use Rattle.bars.specs.Bars.{barred, nothing_barred, ends_of, barred_by, barred_by_list, unbarred}

-- ---- what was computed

module _ (m : Mesh) (met last : ℕ) {only : Bool} where
  -- every pair is judged
  pub barred_nothing : only ≡ false → nothing_barred ≡ barred_by only m met last
  unfolding barred_by
  barred_nothing e = rw e

  module _ (e : only ≡ true) {ends between : ℕ} (f : ends ≡ ends_of m) (b : between ≡ without met ends) where
    -- the main is one arc
    pub barred_arc : between ≡ 0 → barred 0 last ≡ barred_by only m met last
    unfolding barred_by
    barred_arc z = rw (e, ← f, ← b, eq-eqb between 0 z)

    -- it meets other nodes than the ends
    pub barred_nodes : (between ≡ 0 → ⊥) → barred between no_arc ≡ barred_by only m met last
    unfolding barred_by
    barred_nodes some = rw (e, ← f, ← b, ne_eqb between 0 some)

-- ---- what the standbys that keep off it are

-- what a mesh that is planned over has
pub record Regular (m : Mesh) : Type 0 where
  pub few : length m.arcs ≤ most_in_table
  pub heads : LowHeads m.arcs
  pub source_node : m.source ≤ last_node
  pub ends_differ : m.source ≡ m.terminal → ⊥

pub net_regular : (net : Net) → IsNet net → Regular (mesh_in net)
net_regular net n = record { few = n.few; heads = sound_heads (arcs_in net) n.sound; source_node = n.source_node; ends_differ = n.ends_differ }

-- the nodes met at the end of a list
met_along : (arcs : List Arc) (b : Behind) (u : ℕ) → bit b.met u ≡ 1 → (ks : List ℕ) (v : ℕ) → (bit (along arcs b ks).met v ≡ 1) ↔ ((bit b.met v ≡ 1) ⊎ Memᴰ v (nodes_from arcs u ks))
unfolding along nodes_from
met_along arcs b u here [] v = (inl, out)
  where
    out : (bit b.met v ≡ 1) ⊎ Memᴰ v (u ∷ []) → bit b.met v ≡ 1
    out (inl e) = e
    out (inr m) = ap (bit b.met) (Memᴰ.eq_of_singleton m) ∙ here
met_along arcs b u here (k ∷ ks) v =
    let rest = met_along arcs (onto b (arc_at arcs k)) (arc_at arcs k).head (bit_with_same b.met (arc_at arcs k).head) ks v in
    (λ e. out (rest.0 e), λ o. rest.1 (into o))
  where
    head : ℕ
    head = (arc_at arcs k).head

    here_or : (x : Bool) → eqb v head ≡ x → bit (with b.met head) v ≡ 1 → (bit b.met v ≡ 1) ⊎ (v ≡ head)
    here_or true e h = inr (eqb-true v head e)
    here_or false e h = inl (sym (bit_with_other b.met head v (eqb-false v head e)) ∙ h)

    new : (bit b.met v ≡ 1) ⊎ (v ≡ head) → (bit b.met v ≡ 1) ⊎ Memᴰ v (u ∷ nodes_from arcs head ks)
    new (inl e) = inl e
    new (inr e) = inr (Memᴰ.tail (Memᴰ.cast e (first_node arcs head ks)))

    out : (bit (with b.met head) v ≡ 1) ⊎ Memᴰ v (nodes_from arcs head ks) → (bit b.met v ≡ 1) ⊎ Memᴰ v (u ∷ nodes_from arcs head ks)
    out (inl h) = new (here_or (eqb v head) refl h)
    out (inr m) = inr (Memᴰ.tail m)

    still : bit b.met v ≡ 1 → bit (with b.met head) v ≡ 1
    still e = omega (arith, bit_with b.met head v, bit_le_one (with b.met head) v)

    tail : (v ≡ u) ⊎ Memᴰ v (nodes_from arcs head ks) → (bit (with b.met head) v ≡ 1) ⊎ Memᴰ v (nodes_from arcs head ks)
    tail (inl e) = inl (still (ap (bit b.met) e ∙ here))
    tail (inr m) = inr m

    into : (bit b.met v ≡ 1) ⊎ Memᴰ v (u ∷ nodes_from arcs head ks) → (bit (with b.met head) v ≡ 1) ⊎ Memᴰ v (nodes_from arcs head ks)
    into (inl e) = inl (still e)
    into (inr m) = tail (Memᴰ.cases_cons m)

-- the arc that a list ends with is one of it
last_in : (before k : ℕ) (ks : List ℕ) → Memᴰ (last_of before (k ∷ ks)) (k ∷ ks)
unfolding last_of
last_in before k [] = Memᴰ.head refl
last_in before k (j ∷ ks) = Memᴰ.tail (last_in k j ks)

way_arc : (arcs : List Arc) {v to k : ℕ} {ks : List ℕ} → Way arcs v to ks → Memᴰ k ks → k < length arcs
way_arc arcs (Way.there e) m = absurd (Memᴰ.not-nil m)
way_arc arcs (Way.over b t w) (Memᴰ.head e) = rw e b
way_arc arcs (Way.over b t w) (Memᴰ.tail m) = way_arc arcs w m

one_nodes : (arcs : List Arc) {u to k v : ℕ} → Way arcs u to (k ∷ []) → Memᴰ v (nodes_from arcs u (k ∷ [])) → (v ≡ u) ⊎ (v ≡ to)
unfolding nodes_from
one_nodes arcs {u} {to} {k} {v} (Way.over b t (Way.there e)) m = go (Memᴰ.cases_cons m)
  where
    go : (v ≡ u) ⊎ Memᴰ v ((arc_at arcs k).head ∷ []) → (v ≡ u) ⊎ (v ≡ to)
    go (inl q) = inl q
    go (inr x) = inr (Memᴰ.eq_of_singleton x ∙ e)

module _ (m : Mesh) (r : Regular m) where
  abbrev IsWhole : List ℕ → Type 0
  IsWhole = IsPath m.arcs m.source m.terminal

  abbrev nodes : List ℕ → List ℕ
  nodes = nodes_from m.arcs m.source

  -- a path from end to end has an arc, and ends with one of the mesh
  path_last : {ks : List ℕ} → IsWhole ks → Memᴰ (last_of no_arc ks) ks
  path_last {ks = []} p = none p.way
    where
      none : Way m.arcs m.source m.terminal [] → Memᴰ (last_of no_arc []) []
      none (Way.there e) = absurd (r.ends_differ e)
  path_last {ks = k ∷ ks} p = last_in no_arc k ks

  pub last_arc : {ks : List ℕ} → IsWhole ks → last_of no_arc ks < no_arc
  last_arc p = omega (arith, way_arc m.arcs p.way (path_last p), r.few)

  -- ---- keeping off nodes

  -- the lists that keep off barred nodes are the paths that meet none of them, but for the source
  pub unbarred_exactly : (off : Barred) (ls : List ℕ) → Memᴰ ls (unbarred m off) ↔ (IsWhole ls × ((h : ℕ) → Memᴰ h (nodes ls) → (m.source ≡ h → ⊥) → bit off.nodes h ≡ 0))
  unbarred_exactly off ls = (λ x. let g = grown.0 (grow_out m.arcs m.terminal _ met m.source ls x) in (g.0, λ h y ne. sym (other h ne) ∙ g.1 h y ne), λ p. into (grown.1 (p.0, λ h y ne. other h ne ∙ p.1 h y ne)))
    where
      met : ℕ
      met = with off.nodes m.source

      other : (h : ℕ) → (m.source ≡ h → ⊥) → bit met h ≡ bit off.nodes h
      other h ne = bit_with_other off.nodes m.source h (λ e. ne (sym e))

      grown : Grown m.arcs m.terminal met m.source ls ↔ (IsWhole ls × ((h : ℕ) → Memᴰ h (nodes ls) → (m.source ≡ h → ⊥) → bit met h ≡ 0))
      grown = grown_off m.arcs m.terminal m.source (bit_with_same off.nodes m.source) ls

      into : Grown m.arcs m.terminal met m.source ls → Memᴰ ls (unbarred m off)
      into g = grow_in m.arcs m.terminal _ (omega (arith, grown_short m.arcs m.terminal r.heads g)) g

  -- where nothing is barred they are all paths
  pub unbarred_all : unbarred m nothing_barred ≡ paths m
  unbarred_all = grow_source m.arcs m.terminal r.heads m.source r.source_node

  -- ---- keeping off a main

  module _ {ks : List ℕ} (main : IsWhole ks) where
    abbrev met : ℕ
    met = (along m.arcs (start m) ks).met

    -- what is met at the main's end are its nodes
    met_nodes : (v : ℕ) → (bit met v ≡ 1) ↔ Memᴰ v (nodes ks)
    unfolding digit
    met_nodes v = let e = met_along m.arcs (start m) m.source (bit_with_same 0 m.source) ks v in (λ h. out (e.0 h), λ x. e.1 (inr x))
      where
        out : (bit (with 0 m.source) v ≡ 1) ⊎ Memᴰ v (nodes ks) → Memᴰ v (nodes ks)
        out (inl h) = go (eqb v m.source) refl
          where
            go : (b : Bool) → eqb v m.source ≡ b → Memᴰ v (nodes ks)
            go true e = Memᴰ.cast (eqb-true v m.source e) (first_node m.arcs m.source ks)
            go false e = absurd (omega (arith, h, rw e at (bit_single m.source v)))
        out (inr x) = x

    abbrev between : ℕ
    between = without met (ends_of m)

    -- those between the ends are neither
    between_exactly : (v : ℕ) → (bit between v ≡ 1) ↔ (Memᴰ v (nodes ks) × ((v ≡ m.source) ⊎ (v ≡ m.terminal) → ⊥))
    between_exactly v = (λ e. ((met_nodes v).0 (omega (arith, e, bit_without met (ends_of m) v, bit_le_one met v)), λ o. omega (arith, e, bit_without met (ends_of m) v, bit_le_one met v, end_in o)), λ p. into p.1 ((met_nodes v).1 p.0))
      where
        end_in : (v ≡ m.source) ⊎ (v ≡ m.terminal) → bit (ends_of m) v ≡ 1
        end_in (inl e) = omega (arith, ap (bit (ends_of m)) e, bit_with (with 0 m.source) m.terminal m.source, bit_with_same 0 m.source, bit_le_one (ends_of m) m.source)
        end_in (inr e) = ap (bit (ends_of m)) e ∙ bit_with_same (with 0 m.source) m.terminal

        into : ((v ≡ m.source) ⊎ (v ≡ m.terminal) → ⊥) → bit met v ≡ 1 → bit between v ≡ 1
        into ne h =
            let no : bit (ends_of m) v ≡ 0 = bit_with_other (with 0 m.source) m.terminal v (λ e. ne (inr e)) ∙ bit_with_other 0 m.source v (λ e. ne (inl e)) ∙ bit_empty v in
            omega (arith, h, no, bit_without met (ends_of m) v)

    abbrev off : Barred
    off = barred_by true m met (last_of no_arc ks)

    -- what is barred: the nodes between the ends; the main's own arc where there are none
    off_nodes : off.nodes ≡ between
    unfolding barred_by
    off_nodes = go (eqb between 0) refl
      where
        go : (b : Bool) → eqb between 0 ≡ b → (if b then barred 0 (last_of no_arc ks) else barred between no_arc).nodes ≡ between
        go true e = sym (eqb-true between 0 e)
        go false e = refl

    data LastBarred (last : ℕ) : Type 0 where
      its_own : between ≡ 0 → last ≡ last_of no_arc ks → LastBarred last
      no_common_arc : (between ≡ 0 → ⊥) → last ≡ no_arc → LastBarred last

    off_last : LastBarred off.last
    unfolding barred_by
    off_last = go (eqb between 0) refl
      where
        go : (b : Bool) → eqb between 0 ≡ b → LastBarred (if b then barred 0 (last_of no_arc ks) else barred between no_arc).last
        go true e = its_own (eqb-true between 0 e) refl
        go false e = no_common_arc (eqb-false between 0 e) refl

    -- a main of one arc meets only its ends
    one_between : (k : ℕ) → ks ≡ k ∷ [] → between ≡ 0
    one_between k e = bits_ext between 0 (λ v. none v (eqb (bit between v) 1) refl ∙ sym (bit_empty v))
      where
        none : (v : ℕ) (b : Bool) → eqb (bit between v) 1 ≡ b → bit between v ≡ 0
        none v false f = omega (arith, bit_le_one between v, eqb-false (bit between v) 1 f)
        none v true f =
            let o = (between_exactly v).0 (eqb-true (bit between v) 1 f) in
            absurd (o.1 (one_nodes m.arcs (subst IsWhole e main).way (subst (λ (l : List ℕ). Memᴰ v (nodes l)) e o.0)))

    -- a path that keeps off it is apart from the main, and one that is apart keeps off it
    keeps_apart : {ls : List ℕ} → IsWhole ls → ((h : ℕ) → Memᴰ h (nodes ls) → (m.source ≡ h → ⊥) → bit off.nodes h ≡ 0) → (last_of no_arc ls ≡ off.last → ⊥) → Apart m ks ls
    keeps_apart {ls} p f other = record { no_common_arc = λ k x y. same_arc k (one_arc m main p ends x y); ends_only = ends }
      where
        ends : (v : ℕ) → Memᴰ v (nodes ks) → Memᴰ v (nodes ls) → (v ≡ m.source) ⊎ (v ≡ m.terminal)
        ends v x y = go (eqb v m.source) refl (eqb v m.terminal) refl
          where
            go : (a : Bool) → eqb v m.source ≡ a → (b : Bool) → eqb v m.terminal ≡ b → (v ≡ m.source) ⊎ (v ≡ m.terminal)
            go true d b e = inl (eqb-true v m.source d)
            go false d true e = inr (eqb-true v m.terminal e)
            go false d false e =
                let no : (v ≡ m.source) ⊎ (v ≡ m.terminal) → ⊥ = λ o. elim o [ inl q ↦ eqb-false v m.source d q | inr q ↦ eqb-false v m.terminal e q ] in
                absurd (omega (arith, (between_exactly v).1 (x, no), f v y (λ q. no (inl (sym q))), ap (λ (s : ℕ). bit s v) off_nodes))

        same_arc : (k : ℕ) → (ks ≡ k ∷ []) × (ls ≡ k ∷ []) → ⊥
        same_arc k o = barred_arc_met off_last
          where
            barred_arc_met : LastBarred off.last → ⊥
            barred_arc_met (its_own z q) = other (ap (last_of no_arc) (o.1 ∙ sym o.0) ∙ sym q)
            barred_arc_met (no_common_arc some q) = some (one_between k o.0)

    apart_keeps : {ls : List ℕ} → IsWhole ls → Apart m ks ls → ((h : ℕ) → Memᴰ h (nodes ls) → (m.source ≡ h → ⊥) → bit off.nodes h ≡ 0) × (last_of no_arc ls ≡ off.last → ⊥)
    apart_keeps {ls} p a = (λ h y ne. ap (λ (s : ℕ). bit s h) off_nodes ∙ none h y (eqb (bit between h) 1) refl, λ e. last e off_last)
      where
        none : (h : ℕ) → Memᴰ h (nodes ls) → (b : Bool) → eqb (bit between h) 1 ≡ b → bit between h ≡ 0
        none h y false f = omega (arith, bit_le_one between h, eqb-false (bit between h) 1 f)
        none h y true f = let o = (between_exactly h).0 (eqb-true (bit between h) 1 f) in absurd (o.1 (a.ends_only h o.0 y))

        last : last_of no_arc ls ≡ off.last → LastBarred off.last → ⊥
        last e (its_own z q) = a.no_common_arc (last_of no_arc ls) (Memᴰ.cast (e ∙ q) (path_last main)) (path_last p)
        last e (no_common_arc some q) = omega (arith, last_arc p, e, q)

-- the standbys of a main: of the lists that keep off what it bars, those that do not end with what it bars; they are the paths that make a pair with it that is judged
pub standbys_exactly : (only : Bool) (m : Mesh) → Regular m → {ks : List ℕ} → IsPath m.arcs m.source m.terminal ks → (ls : List ℕ)
    → (Memᴰ ls (unbarred m (barred_by_list only m ks)) × (last_of no_arc ls ≡ (barred_by_list only m ks).last → ⊥)) ↔ (IsPath m.arcs m.source m.terminal ls × (judges m only (pair (route_of m.arcs ks) (route_of m.arcs ls)) ≡ true))
unfolding judges route_of barred_by
standbys_exactly true m r {ks} main ls = (
  λ o. let u = (unbarred_exactly m r (off m r main) ls).0 o.0 in (u.0, (apart_exactly m ks ls).1 (keeps_apart m r main u.0 u.1 o.1)),
  λ o. let k = apart_keeps m r main o.0 ((apart_exactly m ks ls).0 o.1) in ((unbarred_exactly m r (off m r main) ls).1 (o.0, k.0), k.1),
)
standbys_exactly false m r {ks} main ls = (
  λ o. (((unbarred_exactly m r nothing_barred ls).0 o.0).0, refl),
  λ o. ((unbarred_exactly m r nothing_barred ls).1 (o.0, λ h y ne. bit_empty h), λ e. omega (arith, last_arc m r o.0, e)),
)
