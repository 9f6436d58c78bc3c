-- Closed arcs: each keeps its place, head, length and exposure and no way goes over it, so that ways, paths and what they are exposed to are those over open arcs;
-- a set that closes nothing changes nothing. Assumes nothing.
use Rattle.std.specs.Prelude.{if◌then◌else◌}
use mathlib.Core.Path.{◌≡◌, refl, sym, ap, ap₂, ◌∙◌, subst}
use mathlib.Core.Bool.{Bool, true, false}
use mathlib.Core.Logic.{◌⊎◌, inl, inr, ◌↔◌}
use mathlib.Core.List.Memᴰ
use mathlib.Core.List.{List, [], ◌∷◌, Memᴰ}
use Prim.Native.Nat.{ℕ, zero, suc, ◌+◌, ◌≤◌, ◌<◌, ◌^◌}
use native.Mathlib.Omega.{arith}
use lib.ListN.{length}
use Rattle.laws.specs.Choosing.{Distinct}
use Rattle.laws.proofs.SetLaws.{bit_empty}
use Rattle.problem.specs.declared.Arc.{Arc}
use Rattle.problem.specs.Table.{last_node, risk_width, most_reach, Bytes, number_at, arcs_of, all_sound}
use Rattle.problem.specs.Spans.{marked_arcs}
use Rattle.problem.specs.Closed.{closed_in, is_open, AllOpen, none_closed, shut, closed_by, shut_in, planned_arcs}
use Rattle.problem.specs.Exposures.{of_arc, joined}
use Rattle.problem.specs.Routes.{arc_at, metres_of, exposure_of, nodes_from, Way, IsPath, route_of}
use Rattle.problem.proofs.SpanLaws.{marked_sound, marked_risks_below}
use Rattle.problem.proofs.PathLaws.{LowHeads, sound_heads, path_range}

-- ---- what two lists of arcs give alike, whatever the ends of the arcs

module _ (l r : List Arc) (metres : (k : ℕ) → (arc_at l k).metres ≡ (arc_at r k).metres) (exposures : (k : ℕ) → of_arc (arc_at l k) ≡ of_arc (arc_at r k)) where
  pub metres_alike : (ks : List ℕ) → metres_of l ks ≡ metres_of r ks
  unfolding metres_of
  metres_alike [] = refl
  metres_alike (k ∷ ks) = ap₂ (λ (x y : ℕ). x + y) (metres k) (metres_alike ks)

  pub exposure_alike : (ks : List ℕ) → exposure_of l ks ≡ exposure_of r ks
  unfolding exposure_of
  exposure_alike [] = refl
  exposure_alike (k ∷ ks) = ap₂ joined (exposures k) (exposure_alike ks)

  pub route_alike : (ks : List ℕ) → route_of l ks ≡ route_of r ks
  unfolding route_of
  route_alike ks = ap₂ (λ x e. record { arcs = ks; metres = x; exposure = e }) (metres_alike ks) (exposure_alike ks)

-- ---- arcs of which the closed ones are changed

module _ (f : Arc → Arc) (set : ℕ) where
  pub closed_length : (i : ℕ) (arcs : List Arc) → length (closed_by f set i arcs) ≡ length arcs
  unfolding closed_by
  closed_length i [] = refl
  closed_length i (a ∷ arcs) = ap suc (closed_length (suc i) arcs)

  closed_from : (i : ℕ) (arcs : List Arc) (k : ℕ) → k < length arcs → arc_at (closed_by f set i arcs) k ≡ (if is_open set (i + k) then arc_at arcs k else f (arc_at arcs k))
  unfolding closed_by
  closed_from i [] k h = absurd (omega arith)
  closed_from i (a ∷ arcs) zero h = let here : i + 0 ≡ i = omega arith in rw here
  closed_from i (a ∷ arcs) (suc k) h = let next : i + suc k ≡ suc i + k = omega arith in rw next (closed_from (suc i) arcs k (omega arith))

  pub closed_place : (arcs : List Arc) (k : ℕ) → k < length arcs → arc_at (closed_by f set 0 arcs) k ≡ (if is_open set k then arc_at arcs k else f (arc_at arcs k))
  closed_place arcs k h = closed_from 0 arcs k h ∙ (let here : 0 + k ≡ k = omega arith in rw here)

  -- what f leaves of an arc stays
  pub closed_keeps : {B : Type 0} (g : Arc → B) → ((a : Arc) → g (f a) ≡ g a) → (i : ℕ) (arcs : List Arc) (k : ℕ) → g (arc_at (closed_by f set i arcs) k) ≡ g (arc_at arcs k)
  unfolding closed_by
  closed_keeps g same i [] k = refl
  closed_keeps g same i (a ∷ arcs) zero = go (is_open set i)
    where
      go : (b : Bool) → g (if b then a else f a) ≡ g a
      go true = refl
      go false = same a
  closed_keeps g same i (a ∷ arcs) (suc k) = closed_keeps g same (suc i) arcs k

-- where nothing is closed, nothing is changed
pub closed_none : (f : Arc → Arc) (i : ℕ) (arcs : List Arc) → closed_by f 0 i arcs ≡ arcs
unfolding closed_by
closed_none f i [] = refl
closed_none f i (a ∷ arcs) = rw (bit_empty i) (ap (λ (l : List Arc). a ∷ l) (closed_none f (suc i) arcs))

-- ---- closed arcs shut

module _ (set : ℕ) (arcs : List Arc) where
  abbrev around : List Arc
  around = shut_in set arcs

  shut_length : length around ≡ length arcs
  shut_length = closed_length shut set 0 arcs

  -- an open arc stays as it is, a closed one begins at no node
  pub open_at : (k : ℕ) → k < length arcs → is_open set k ≡ true → arc_at around k ≡ arc_at arcs k
  open_at k h e = closed_place shut set arcs k h ∙ rw e

  pub closed_at : (k : ℕ) → k < length arcs → is_open set k ≡ false → arc_at around k ≡ shut (arc_at arcs k)
  closed_at k h e = closed_place shut set arcs k h ∙ rw e

  shut_head : (k : ℕ) → (arc_at around k).head ≡ (arc_at arcs k).head
  shut_head = closed_keeps shut set (λ a. a.head) (λ a. refl) 0 arcs

  pub shut_metres : (k : ℕ) → (arc_at around k).metres ≡ (arc_at arcs k).metres
  shut_metres = closed_keeps shut set (λ a. a.metres) (λ a. refl) 0 arcs

  pub shut_exposure : (k : ℕ) → of_arc (arc_at around k) ≡ of_arc (arc_at arcs k)
  unfolding of_arc
  shut_exposure = closed_keeps shut set of_arc (λ a. refl) 0 arcs

  pub shut_metres_of : (ks : List ℕ) → metres_of around ks ≡ metres_of arcs ks
  shut_metres_of = metres_alike around arcs shut_metres shut_exposure

  pub shut_exposure_of : (ks : List ℕ) → exposure_of around ks ≡ exposure_of arcs ks
  shut_exposure_of = exposure_alike around arcs shut_metres shut_exposure

  pub shut_route : (ks : List ℕ) → route_of around ks ≡ route_of arcs ks
  shut_route = route_alike around arcs shut_metres shut_exposure

  pub shut_nodes : (v : ℕ) (ks : List ℕ) → nodes_from around v ks ≡ nodes_from arcs v ks
  unfolding nodes_from
  shut_nodes v [] = refl
  shut_nodes v (k ∷ ks) = ap (λ (l : List ℕ). v ∷ l) (ap (λ (h : ℕ). nodes_from around h ks) (shut_head k) ∙ shut_nodes (arc_at arcs k).head ks)

  pub shut_low : LowHeads arcs → LowHeads around
  shut_low low k h = omega (arith, shut_head k, low k (omega (arith, shut_length)))

  -- ---- ways and paths

  open_more : {k : ℕ} {ks : List ℕ} → is_open set k ≡ true → AllOpen set ks → AllOpen set (k ∷ ks)
  open_more {k} {ks} e f j m = go (Memᴰ.cases_cons m)
    where
      go : (j ≡ k) ⊎ Memᴰ j ks → is_open set j ≡ true
      go (inl p) = ap (is_open set) p ∙ e
      go (inr i) = f j i

  -- a way from one of the 32 nodes is one over open arcs
  way_out : LowHeads arcs → {v to : ℕ} {ks : List ℕ} → v ≤ last_node → Way around v to ks → Way arcs v to ks × AllOpen set ks
  way_out low node (Way.there e) = (Way.there e, λ k m. absurd (Memᴰ.not-nil m))
  way_out low {v} {to} node (Way.over {k = k} {ks = ks} b t w) =
      let inside : k < length arcs = omega (arith, shut_length) in
      go inside (is_open set k) refl (way_out low (omega (arith, shut_head k, low k inside)) w)
    where
      go : k < length arcs → (s : Bool) → is_open set k ≡ s → Way arcs (arc_at around k).head to ks × AllOpen set ks → Way arcs v to (k ∷ ks) × AllOpen set (k ∷ ks)
      go inside true e on =
          (Way.over {k = k} inside (sym (ap (λ (a : Arc). a.tail) (open_at k inside e)) ∙ t) (subst (λ (h : ℕ). Way arcs h to ks) (shut_head k) on.0), open_more e on.1)
      go inside false e on = absurd (omega (arith, ap (λ (a : Arc). a.tail) (closed_at k inside e)))

  way_in : {v to : ℕ} {ks : List ℕ} → Way arcs v to ks → AllOpen set ks → Way around v to ks
  way_in (Way.there e) free = Way.there e
  way_in {to = to} (Way.over {k = k} {ks = ks} b t w) free =
      let here = open_at k b (free k (Memᴰ.head refl)) in
      Way.over {k = k} (omega (arith, shut_length)) (ap (λ (a : Arc). a.tail) here ∙ t)
      (subst (λ (h : ℕ). Way around h to ks) (sym (shut_head k)) (way_in w (λ j m. free j (Memᴰ.tail m))))

  pub shut_ways : LowHeads arcs → {v to : ℕ} → v ≤ last_node → (ks : List ℕ) → Way around v to ks ↔ (Way arcs v to ks × AllOpen set ks)
  shut_ways low node ks = (way_out low node, λ p. way_in p.0 p.1)

  pub shut_paths : LowHeads arcs → {v to : ℕ} → v ≤ last_node → (ks : List ℕ) → IsPath around v to ks ↔ (IsPath arcs v to ks × AllOpen set ks)
  shut_paths low {v} node ks = (
    λ p. let w = way_out low node p.way in (record { way = w.0; no_node_twice = subst (λ (l : List ℕ). Distinct l) (shut_nodes v ks) p.no_node_twice }, w.1),
    λ p. record { way = way_in p.0.way p.1; no_node_twice = subst (λ (l : List ℕ). Distinct l) (sym (shut_nodes v ks)) p.0.no_node_twice },
  )

pub none_closed_lem : closed_in none_closed ≡ 0
unfolding closed_in number_at
none_closed_lem = refl

-- ---- the arcs of a call

module _ (table closed : List ℕ) where
  pub planned_risks_below : Bytes table → (ks : List ℕ) → (exposure_of (planned_arcs table closed) ks).risks < 2 ^ risk_width
  planned_risks_below bytes ks = rw (shut_exposure_of (closed_in closed) (marked_arcs table) ks) (marked_risks_below table bytes ks)

  module _ (sound : all_sound (arcs_of table) ≡ true) where
    marked_heads : LowHeads (marked_arcs table)
    marked_heads = sound_heads (marked_arcs table) (marked_sound (arcs_of table) sound)

    pub planned_heads : LowHeads (planned_arcs table closed)
    planned_heads = shut_low (closed_in closed) (marked_arcs table) marked_heads

    pub planned_ways : {v to : ℕ} → v ≤ last_node → (ks : List ℕ) → Way (planned_arcs table closed) v to ks ↔ (Way (marked_arcs table) v to ks × AllOpen (closed_in closed) ks)
    planned_ways = shut_ways (closed_in closed) (marked_arcs table) marked_heads

    pub planned_paths : {v to : ℕ} → v ≤ last_node → (ks : List ℕ) → IsPath (planned_arcs table closed) v to ks ↔ (IsPath (marked_arcs table) v to ks × AllOpen (closed_in closed) ks)
    planned_paths = shut_paths (closed_in closed) (marked_arcs table) marked_heads

    -- no path is longer than 62,000,000 metres
    pub planned_range : {v to : ℕ} → v ≤ last_node → {ks : List ℕ} → IsPath (planned_arcs table closed) v to ks → metres_of (planned_arcs table closed) ks ≤ most_reach
    planned_range node {ks} p =
        omega (arith, shut_metres_of (closed_in closed) (marked_arcs table) ks, path_range (marked_arcs table) (marked_sound (arcs_of table) sound) ((planned_paths node ks).0 p).0)

-- with nothing closed they are those of the table
pub planned_unclosed : (table : List ℕ) → planned_arcs table none_closed ≡ marked_arcs table
planned_unclosed table = ap (λ (set : ℕ). shut_in set (marked_arcs table)) none_closed_lem ∙ closed_none shut 0 (marked_arcs table)
