-- A table whose entries are those of free ways is fair: the first table is, and stays so with each arc that gains. A fair table in which no arc gains is the
-- side table: along any free way each node's entry is at most the arc longer than the next one's. Assumes nothing.
use mathlib.Core.Path.{◌≡◌, refl, sym, ap, ◌∙◌}
use mathlib.Core.Bool.{true, false, false≢true}
use mathlib.Core.List.{List, []}
use Prim.Native.Nat.{ℕ, zero, suc, ◌≤◌, ◌<◌}
use native.Mathlib.Decide.{ℕ_discrete}
use native.Mathlib.Omega.{arith}
use lib.ListN.{length, get_or, set, replicate, length-set, length-replicate}
use lib.Seq.{get_or-set_same, get_or-set_other}
use Rattle.laws.proofs.SetLaws.{digit}
use Rattle.problem.specs.Table.{last_node, SoundArc}
use Rattle.problem.specs.declared.Arc.{Arc}
use Rattle.problem.specs.declared.Exposure.{Exposure}
use Rattle.problem.specs.Exposures.{disjoint}
use Rattle.problem.specs.Routes.{arc_at, metres_of, exposure_of, Way}
use Rattle.problem.proofs.ExposureLaws.{nothing_disjoint}
use Rattle.side.specs.declared.Distance.{Distance}
use Rattle.side.specs.Side.{unreached, entry_at, reached_at, metres_at, Reaches, Entries, SideTable}
use Rattle.side.specs.Relaxing.{start_of}
use Rattle.side.proofs.StoreLaws.{count, count_new}
use Rattle.side.proofs.FreeLaws.{free_first, free_rest}
use Rattle.side.proofs.RelaxLaws.{metres_by, gains, nearer, Gained, gains_not, Small, small_most, small_nearer, entries_nearer}

-- ---- an arc that gains

-- lengths are small, and entries are those of free ways
pub record Fair (arcs : List Arc) (terminal : ℕ) (banned : Exposure) (s : List Distance) : Type 0 where
  pub small : Small s
  pub entries : Entries arcs terminal banned s

-- the table that it leaves is fair
pub fair_nearer : (arcs : List Arc) (terminal : ℕ) (banned : Exposure) (s : List Distance) (k : ℕ) → k < length arcs → SoundArc (arc_at arcs k) → Fair arcs terminal banned s
    → Gained banned s (arc_at arcs k) → Fair arcs terminal banned (nearer s (arc_at arcs k))
fair_nearer arcs terminal banned s k inside sound fair gained = record {
  small = small_nearer banned s (arc_at arcs k) sound fair.small gained;
  entries = entries_nearer arcs terminal banned s k inside sound fair.small gained fair.entries;
}

-- ---- the settled table

-- no arc brings a node nearer
abbrev pub Settled : List Arc → Exposure → List Distance → Type 0
Settled arcs banned s = (k : ℕ) → k < length arcs → gains banned s (arc_at arcs k) ≡ false

module _ (arcs : List Arc) (terminal : ℕ) (banned : Exposure) (s : List Distance) (fair : Fair arcs terminal banned s) (settled : Settled arcs banned s) where
  -- every free way starts at a reached node, and is no shorter than its entry
  way_least : {v : ℕ} {ks : List ℕ} → Way arcs v terminal ks → disjoint (exposure_of arcs ks) banned ≡ true → (reached_at s v ≡ true) × (metres_at s v ≤ metres_of arcs ks)
  unfolding metres_of metres_by
  way_least (Way.there e) f = (ap (reached_at s) e ∙ fair.entries.terminal_reached, omega (arith, ap (metres_at s) e, fair.entries.terminal_metres))
  way_least (Way.over {k = k} {ks = ks} h t w) f =
      let i = way_least w (free_rest arcs banned k ks f) in
      let n = gains_not banned s (arc_at arcs k) (settled k h) (free_first arcs banned k ks f) i.0 in
      (ap (reached_at s) (sym t) ∙ n.0, omega (arith, ap (metres_at s) t, n.1, i.1))

  pub settled_table : SideTable arcs terminal banned s
  settled_table = record {
    entries = fair.entries;
    least = λ v ks w. (way_least w.way w.free).1;
    none = λ v e ks w. false≢true (sym e ∙ (way_least w.way w.free).0);
    most_metres = small_most fair.small;
  }

-- ---- the table before any arc is relaxed

get_d_replicate : {A : Type 0} (d : A) (n v : ℕ) → get_or (replicate n d) v d ≡ d
get_d_replicate d zero v = refl
get_d_replicate d (suc n) zero = refl
get_d_replicate d (suc n) (suc v) = get_d_replicate d n v

no_count : (n : ℕ) → count (replicate n unreached) ≡ 0
unfolding count digit
no_count zero = refl
no_count (suc n) = omega (arith, no_count n)

module _ (terminal : ℕ) (h : terminal ≤ last_node) where
  inside : terminal < length (replicate 32 unreached)
  inside = omega (arith, length-replicate 32 unreached)

  pub start_terminal : entry_at (start_of terminal) terminal ≡ record { metres = 0; reached = true }
  unfolding start_of
  start_terminal = get_or-set_same (replicate 32 unreached) terminal (record { metres = 0; reached = true }) unreached inside

  pub start_other : (v : ℕ) → (v ≡ terminal → ⊥) → entry_at (start_of terminal) v ≡ unreached
  unfolding start_of
  start_other v n = get_or-set_other (replicate 32 unreached) terminal v (record { metres = 0; reached = true }) unreached n ∙ get_d_replicate unreached 32 v

  start_metres : (v : ℕ) → metres_at (start_of terminal) v ≡ 0
  start_metres v = go (ℕ_discrete v terminal)
    where
      go : Dec (v ≡ terminal) → metres_at (start_of terminal) v ≡ 0
      go (yes q) = ap (metres_at (start_of terminal)) q ∙ ap (λ (e : Distance). e.metres) start_terminal
      go (no n) = ap (λ (e : Distance). e.metres) (start_other v n)

  start_small : Small (start_of terminal)
  unfolding start_of
  start_small = record {
    entries_size = length-set (replicate 32 unreached) terminal _ ∙ length-replicate 32 unreached;
    arc_each = λ v. omega (arith, start_metres v, one);
  }
    where
      one : count (set (replicate 32 unreached) terminal (record { metres = 0; reached = true })) ≡ 1
      one = count_new (replicate 32 unreached) terminal _ inside (ap (λ (e : Distance). e.reached) (get_d_replicate unreached 32 terminal)) refl ∙ ap suc (no_count 32)

  pub start_fair : (arcs : List Arc) (banned : Exposure) → Fair arcs terminal banned (start_of terminal)
  unfolding metres_of exposure_of
  start_fair arcs banned = record {
    small = start_small;
    entries = record {
      reaches = λ v e. at v e (ℕ_discrete v terminal);
      no_metres = λ v e. start_metres v;
      terminal_reached = ap (λ (e : Distance). e.reached) start_terminal;
      terminal_metres = start_metres terminal;
    };
  }
    where
      at : (v : ℕ) → reached_at (start_of terminal) v ≡ true → Dec (v ≡ terminal) → Reaches arcs terminal banned v (metres_at (start_of terminal) v)
      at v e (yes q) = record { list = []; free_way = record { way = Way.there q; free = nothing_disjoint banned }; same_metres = sym (start_metres v) }
      at v e (no n) = absurd (false≢true (sym (ap (λ (x : Distance). x.reached) (start_other v n)) ∙ e))
