-- A walk over a sweep under way: its window stays as it was, so what an arc does to a sweep (`SweepLaws`) it does to what is lent. Assumes nothing.
use mathlib.Core.Path.{◌≡◌, refl, sym, ap, ◌∙◌, subst}
use mathlib.Core.Bool.{true, false}
use mathlib.Core.List.{List, Memᴰ}
use Prim.Native.Nat.{ℕ, suc, ◌≤◌, ◌<◌}
use native.Mathlib.Omega.{arith}
use lib.ListN.{length}
use Rattle.laws.specs.Sets.{with, unmet}
use Rattle.problem.specs.declared.Exposure.{Exposure}
use Rattle.problem.specs.Table.{most_reach}
use Rattle.problem.specs.Exposures.{to_nothing}
use Rattle.net.specs.declared.Net.{Net}
use Rattle.net.specs.declared.Behind.{Behind}
use Rattle.net.specs.Net.{next_of, arcs_in, mesh_in, IsNet, first_at}
use Rattle.net.specs.Search.{behind}
use Rattle.net.proofs.SearchLaws.{from_source, source_paths}
use Rattle.look.specs.declared.Leg.{Leg}
use Rattle.look.specs.declared.Leg.TheVariants.{Met, Past, Ends, Leads}
use Rattle.look.specs.Look.{leg_at}
use Rattle.tally.specs.declared.Tally.{Tally}
use Rattle.sweep.specs.declared.Window.{Window}
use Rattle.sweep.specs.Sweep.{ended, met, Sweeping, Sweeps, SweptAll}
use Rattle.sweep.specs.declared.Run.{Run}
use Rattle.sweep.specs.Run.{cut_run, ended_run, Walks}
use Rattle.sweep.proofs.SweepLaws.{Rest, rest_start, rest_end, rest_over, arc_past, rest_met, rest_cut, ends_in, rest_ends, rest_leads}

-- ---- arc by arc

-- the walk stands at arc i, in the window that it began with
pub record Walking (net : Net) (at : ℕ) (b : Behind) (before run : Run) (i : ℕ) : Type 0 where
  pub window_same : run.window ≡ before.window
  pub rest : Rest net before.window at b before.swept run.swept i

pub walking_start : {net : Net} {at : ℕ} (b : Behind) (run : Run) → Sweeping net run.window.hi at b.metres → Walking net at b run run (first_at net at)
walking_start {net} {at} b run r = record { window_same = refl; rest = rest_start net run.window at b r.words run.swept r.node r.onward }

module _ {net : Net} {at : ℕ} {b : Behind} {before run : Run} {i : ℕ} (k : Walking net at b before run i) where
  pub walking_end : IsNet net → length (arcs_in net) ≤ i → Walks net at b before run
  walking_end n h = record { window_same = k.window_same; sweeps = rest_end net before.window at b n k.rest h }

  -- past the cap the walk is over
  pub walking_over : IsNet net → run.swept.tally.over ≡ true → Walks net at b before run
  walking_over n h = record { window_same = k.window_same; sweeps = rest_over net before.window at b n k.rest h }

-- arc i in hand, and what it is to the walk
pub record InHand (net : Net) (at : ℕ) (b : Behind) (before run : Run) (i : ℕ) (g : Leg) : Type 0 where
  pub start : Sweeping net before.window.hi at b.metres
  pub walking : Walking net at b before run i
  pub is_not_over : run.swept.tally.over ≡ false
  pub inside : i < length (arcs_in net)
  pub seen : g ≡ leg_at net run.window.hi b i

module _ {net : Net} {at : ℕ} {b : Behind} {before run : Run} {i : ℕ} {g : Leg} (h : InHand net at b before run i g) where
  abbrev next : ℕ
  next = next_of net i

  abbrev window_same : run.window ≡ before.window
  window_same = h.walking.window_same

  abbrev words : IsNet net
  words = h.start.words

  -- what the arc is to the window that the walk began with
  leg : {l : Leg} → g ≡ l → leg_at net before.window.hi b i ≡ l
  leg e = ap (λ (w : Window). leg_at net w.hi b i) (sym window_same) ∙ sym h.seen ∙ e

  pub walking_past : i < next_of net i
  walking_past = arc_past net before.window at b words h.walking.rest h.inside h.is_not_over

  pub walking_met : g ≡ Met → Walking net at b before run (next_of net i)
  walking_met e = record { window_same = window_same; rest = rest_met net before.window at b words h.walking.rest h.inside h.is_not_over (leg e) }

  pub walking_cut : {to : ℕ} → g ≡ Past to → Walking net at b before (cut_run to run) (next_of net i)
  walking_cut {to} e =
      record { window_same = window_same; rest = rest_cut net before.window at b words h.walking.rest h.inside h.is_not_over (leg e) (cut_run to run).swept refl refl }

  pub route_in_reach : {e : Behind} → g ≡ Ends e → e.metres ≤ most_reach
  route_in_reach e = omega (arith, ends_in net before.window at b words h.walking.rest h.inside h.is_not_over (leg e), h.start.hi_range)

  pub walking_ends : {e : Behind} → g ≡ Ends e → Walking net at b before (ended_run net.apart (mesh_in net) e i run) (next_of net i)
  walking_ends {e} q =
      record {
        window_same = window_same;
        rest =
            rest_ends net before.window at b words h.walking.rest h.inside h.is_not_over (leg q) (ended_run net.apart (mesh_in net) e i run).swept
            (ap (λ (w : Window). ended net.apart (mesh_in net) w e i run.swept.tally) window_same) refl;
      }

  -- what the walk from the arc's head needs and gives
  pub record Ahead (at' : ℕ) (e : Behind) : Type 0 where
    pub ready : Sweeping net run.window.hi at' e.metres
    pub fewer_nodes : unmet 32 b.met ≡ suc (unmet 32 e.met)
    pub gives : {run' : Run} → Walks net at' e run run' → Walking net at b before run' (next_of net i)

  pub walking_leads : {at' : ℕ} {e : Behind} → g ≡ Leads at' e → Ahead at' e
  walking_leads {at'} {e} q =
      let o = rest_leads net before.window at b words h.walking.rest h.inside h.is_not_over (leg q) in
      record {
        ready =
            subst (λ (w : Window). Sweeping net w.hi at' e.metres) (sym window_same)
            (record { words = words; node = o.node; onward = o.goes_on; hi_range = h.start.hi_range; in_window = o.in_window });
        fewer_nodes = o.fewer_nodes;
        gives = λ {run'} s.
            record {
              window_same = s.window_same ∙ window_same;
              rest = o.gives run'.swept (subst (λ (w : Window). Sweeps net w at' e run.swept run'.swept) window_same s.sweeps);
            };
      }

-- ---- from the source

-- a walk from the source, with nothing behind it, sweeps all paths
pub walk_sweeps : {net : Net} → IsNet net → (w : Window) (t : Tally) (cut : ℕ) {at seen : ℕ} {e : Exposure} {after : Run} → w.hi < cut
    → at ≡ (mesh_in net).source → seen ≡ with 0 at → e ≡ to_nothing → Walks net at (behind seen 0 e) (record { window = w; swept = record { tally = t; cut = cut } }) after
    → SweptAll net.apart (mesh_in net) w t after.swept
walk_sweeps {net} words w t cut {at} {seen} {e} past a b n k =
    record {
      tally_is = from_source net words (met net.apart (mesh_in net) w) t a b n k.sweeps.tally_is;
      cut_past = k.sweeps.cut_past past;
      none_between = λ o ks x h. omega (arith, k.sweeps.none_between o ks (subst (λ (l : List (List ℕ)). Memᴰ ks l) (sym (source_paths net words 0 e a b)) x) (omega arith));
    }
