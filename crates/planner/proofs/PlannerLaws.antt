-- From the words that a call is read into to what planning promises; and whether there is a route, by the source's shortest way. Assumes nothing.
use mathlib.Core.Path.{◌≡◌, refl, sym, ap, ap₂, ◌∙◌, subst}
use mathlib.Core.Logic.{◌⊎◌, inl, inr}
use mathlib.Core.Bool.{Bool, true, false}
use mathlib.Core.List.{List, [], ◌∷◌, Memᴰ}
use Prim.Native.Nat.{ℕ, ◌-◌, ◌%◌, ◌≤◌, ◌<◌}
use native.Mathlib.Nat.{zero-add}
use native.Mathlib.Omega.{arith}
use lib.ListN.{length, take, drop}
use lib.Seq.{take_at}
use Rattle.std.specs.Prelude.{Option, Some, None, Result, Ok, Err}
use Rattle.problem.specs.declared.Arc.{Arc}
use Rattle.problem.specs.declared.Exposure.{Exposure}
use Rattle.problem.specs.declared.Refusal.{Refusal}
use Rattle.problem.specs.declared.Request.{Request}
use Rattle.problem.specs.Table.{most_table_bytes, most_allowance, arcs_of, over, all_sound}
use Rattle.problem.specs.Exposures.{to_nothing, size}
use Rattle.problem.specs.Routes.{Mesh, arc_at, IsWay, Route, ranking}
use Rattle.problem.specs.Pairs.{Pair, pair, on_every, floor, best, ranked}
use Rattle.problem.specs.Apart.{judges}
use Rattle.problem.specs.Spans.{mark, marked_arcs}
use Rattle.problem.specs.Closed.{shut, shut_in}
use Rattle.problem.specs.Reply.{mesh_over, Checked}
use Rattle.problem.proofs.RankingLaws.{Listed, ranking_out}
use Rattle.problem.proofs.WayLaws.{way_route}
use Rattle.problem.proofs.PathLaws.{LowHeads, sound_heads}
use Rattle.problem.proofs.SameLaws.{same_some, same_best, same_ranked, same_verdict}
use Rattle.problem.proofs.TableLaws.{arcs_length}
use Rattle.problem.proofs.SpanLaws.{marked_at, mark_unknown, unspanned_same, marked_sound}
use Rattle.problem.proofs.ClosedLaws.{closed_none}
use Rattle.octets.specs.Puts.{Puts}
use Rattle.octets.proofs.PutLaws.{puts_taken}
use Rattle.closed.specs.Turned.{turned_in}
use Rattle.closed.proofs.TurnedLaws.{turned_sound, turned_span, ranking_turned, judges_turned}
use Rattle.side.specs.declared.Distance.{Distance}
use Rattle.side.specs.Side.{SideTable, reached_at, metres_at}
use Rattle.floor.proofs.ClearLaws.{way_free}
use Rattle.net.specs.declared.Net.{Net}
use Rattle.net.specs.Net.{mesh_in, judged_in}
use Rattle.layout.specs.Layout.{LaidOut}
use Rattle.plan.specs.Plan.{Planning}
use Rattle.choose.specs.declared.Choice.{Choice}
use Rattle.choose.specs.Choose.{PairChosen}
use Rattle.spans.specs.Marks.{NoSpan, marked_table}
use Rattle.spans.proofs.MarkLaws.{table_length, marked_arcs_lem}
use Rattle.planner.specs.declared.Made.{Made}
use Rattle.planner.specs.Planner.{Laid, Reads, NoneMade, Planned, PlannedOver}

-- what is chosen by one test is chosen by another that says the same of every pair of routes
chosen_same : (ok ok' : Pair → Bool) (routes : List Route) → ((r s : Route) → Memᴰ r routes → Memᴰ s routes → ok (pair r s) ≡ ok' (pair r s)) → {allowance : ℕ} {c : Choice}
    → PairChosen ok routes allowance c → PairChosen ok' routes allowance c
chosen_same ok ok' routes same {allowance} p =
    record {
      some = sym (same_some ok ok' routes same allowance) ∙ p.some;
      verdict_is = p.verdict_is ∙ same_verdict ok ok' routes same allowance;
      ranked_is = p.ranked_is ∙ same_ranked ok ok' routes same allowance;
      pair_is = p.pair_is ∙ same_best ok ok' routes same (ranked ok routes allowance) ∙ ap (best ok' routes) (same_ranked ok ok' routes same allowance);
      main_fit = p.main_fit;
      standby_fit = p.standby_fit;
    }

module _ {table : List ℕ} {q : Request} (checked : Checked table q) where
  abbrev routes : List Route
  routes = ranking (mesh_over (arcs_of table) q)

  -- ---- a plan of the call laid out

  pub floor_counted : {common : Exposure} → common ≡ on_every routes → {low : ℕ} → low ≡ size common → low ≡ floor routes
  unfolding floor
  floor_counted e f = f ∙ ap size e

  pub read_some : {side : List Distance} {apart : Bool} {net : Net} → LaidOut (mesh_over (arcs_of table) q) side apart net → 0 < length routes → {low : ℕ}
      → low ≡ floor routes → Laid apart (mesh_over (arcs_of table) q) net low
  read_some l some e =
      record {
        words = l.laid;
        routes_are = ap ranking l.mesh_is;
        judged_are = λ r s x y. ap₂ (λ (m : Mesh) (only : Bool). judges m only (pair r s)) l.mesh_is l.apart_is;
        some_route = some;
        floor_is = e;
      }

  -- ---- whether there is a route

  module _ {side : List Distance} (s : SideTable (arcs_of table) q.terminal to_nothing side) where
    -- none where the source is not reached, or only over a longer way
    abbrev Far : Type 0
    Far = (reached_at side q.source ≡ false) ⊎ (q.reach < metres_at side q.source)

    pub read_none : Far → routes ≡ []
    read_none far = go routes (λ r x. out (ranking_out (mesh_over (arcs_of table) q) x) far)
      where
        out : {r : Route} → Listed (mesh_over (arcs_of table) q) r → Far → ⊥
        out o (inl e) = s.none q.source e o.list (way_free (arcs_of table) q.terminal o.route.path.way)
        out o (inr h) = omega (arith, h, o.route.within_reach, s.least q.source o.list (way_free (arcs_of table) q.terminal o.route.path.way))

        go : (l : List Route) → ((r : Route) → Memᴰ r l → ⊥) → l ≡ []
        go [] f = refl
        go (r ∷ l) f = absurd (f r (Memᴰ.head refl))

    -- one where it is reached over a way within reach
    pub some_routes : reached_at side q.source ≡ true → metres_at side q.source ≤ q.reach → 0 < length routes
    some_routes reached near =
        let w = s.entries.reaches q.source reached in
        let way : IsWay (mesh_over (arcs_of table) q) w.list = record { way = w.free_way.way; within_reach = omega (arith, near, w.same_metres) } in
        go (way_route (mesh_over (arcs_of table) q) (sound_heads (arcs_of table) checked.sound) checked.source_node way).ranked
      where
        go : {r : Route} {l : List Route} → Memᴰ r l → 0 < length l
        go (Memᴰ.head e) = omega arith
        go (Memᴰ.tail x) = omega arith

-- ---- a net planned over

module _ {only : Bool} {m : Mesh} {net : Net} {low : ℕ} (l : Laid only m net low) where
  -- the words' own routes and pairs are those that they say
  pub laid_own : Laid net.apart (mesh_in net) net low
  laid_own = record { words = l.words; routes_are = refl; judged_are = λ r s x y. refl; some_route = rw (← l.routes_are) at l.some_route; floor_is = rw (← l.routes_are) at l.floor_is }

  pub laid_planning : {allowance : ℕ} → 0 < allowance → allowance ≤ most_allowance → Planning net allowance low
  laid_planning some few = record { some_route = laid_own.some_route; some_allowance = some; few = few; floor_is = laid_own.floor_is }

  -- so what is planned over the words is planned over the mesh
  pub planned_over : (allowance : ℕ) (p : Result Made Refusal) → PlannedOver net.apart (mesh_in net) allowance p → PlannedOver only m allowance p
  planned_over allowance p made = over p (subst (λ (routes : List Route). Planned (judged_in net) routes allowance p) l.routes_are made)
    where
      over : (p : Result Made Refusal) → Planned (judged_in net) (ranking m) allowance p → PlannedOver only m allowance p
      over (Ok made) o = record { some_route = o.some_route; floor_is = o.floor_is; chosen = chosen_same (judged_in net) (judges m only) (ranking m) l.judged_are o.chosen }
      over (Err r) (NoneMade.no_route none) = NoneMade.no_route none
      over (Err r) (NoneMade.no_pair some o) =
          NoneMade.no_pair some (record { none = sym (same_some (judged_in net) (judges m only) (ranking m) l.judged_are allowance) ∙ o.none; number_is = o.number_is })

-- ---- the arcs that a call is planned over

-- the same arcs, the same routes
reads_over : (q : Request) (only : Bool) (net : Net) (r : Option ℕ) {arcs more : List Arc} → arcs ≡ more → Reads only (mesh_over arcs q) net r → Reads only (mesh_over more q) net r
reads_over q only net r e p = subst (λ (l : List Arc). Reads only (mesh_over l q) net r) e p

-- where no arc has a span, they are those of the table
pub reads_unspanned : (table : List ℕ) (q : Request) (only : Bool) (net : Net) (r : Option ℕ) → NoSpan (arcs_of table) → Reads only (mesh_over (arcs_of table) q) net r
    → Reads only (mesh_over (marked_arcs table) q) net r
reads_unspanned table q only net r none p = reads_over q only net r (sym (unspanned_same (arcs_of table) none)) p

-- else those of the table written anew, which passes the checks as well
module _ {table : List ℕ} {q : Request} (checked : Checked table q) where
  -- as does each table that is as long and sound
  checked_as : {other : List ℕ} → length other ≡ length table → all_sound (arcs_of other) ≡ true → Checked other q
  checked_as size sound = record {
    few_bytes = omega (arith, size, checked.few_bytes);
    has_whole_arcs = ap (λ (n : ℕ). n % 16) size ∙ checked.has_whole_arcs;
    source_node = checked.source_node;
    terminal_node = checked.terminal_node;
    ends_differ = checked.ends_differ;
    reach_range = checked.reach_range;
    some_allowance = checked.some_allowance;
    allowance_range = checked.allowance_range;
    sound = sound;
  }

  marked_size : length (marked_table table) ≡ length table
  marked_size = omega (arith, table_length table, checked.has_whole_arcs)

  pub checked_marked : Checked (marked_table table) q
  checked_marked = checked_as marked_size (ap all_sound (marked_arcs_lem table checked.few_bytes) ∙ marked_sound (arcs_of table) checked.sound)

  pub reads_marked : (only : Bool) (net : Net) (r : Option ℕ) → Reads only (mesh_over (arcs_of (marked_table table)) q) net r → Reads only (mesh_over (marked_arcs table) q) net r
  reads_marked only net r p = reads_over q only net r (marked_arcs_lem table checked.few_bytes) p

  -- its bytes, as the part of the buffer that was written
  pub part_marked : (buffer : List ℕ) → take (length table - 0) (drop 0 (over (marked_table table) buffer)) ≡ marked_table table
  part_marked buffer =
      let size : length table - 0 ≡ length (marked_table table) = omega (arith, marked_size) in
      take_at (marked_table table) (drop (length (marked_table table)) buffer) (length table - 0) (sym size)

-- ---- the table written into a buffer, spans known by their first arcs

-- with marks in the place of the numbers
pub arcs_marked : (table buffer : List ℕ) → length table ≤ most_table_bytes → length table % 16 ≡ 0 → arcs_of (take (length table) (over (marked_table table) buffer)) ≡ marked_arcs table
arcs_marked table buffer few whole =
    let size : length (marked_table table) ≡ length table = omega (arith, table_length table) in
    ap arcs_of (take_at (marked_table table) (drop (length (marked_table table)) buffer) (length table) size) ∙ marked_arcs_lem table few

-- as it is, where no arc has a span
pub arcs_copied : (table buffer : List ℕ) {after : List ℕ} {n : ℕ} → Puts table buffer 0 after n → NoSpan (arcs_of table) → arcs_of (take (length table) after) ≡ marked_arcs table
arcs_copied table buffer {after} p none =
    let size = p.place ∙ zero-add (length table) in
    ap arcs_of (ap (λ (k : ℕ). take k after) (sym size) ∙ puts_taken p) ∙ sym (unspanned_same (arcs_of table) none)

-- ---- and its closed arcs turned round

module _ {table : List ℕ} {q : Request} (checked : Checked table q) (closed : ℕ) (part : List ℕ) (size : length part ≡ length table)
    (says : arcs_of part ≡ turned_in closed q.terminal q.source (marked_arcs table)) where
  marked_is_sound : all_sound (marked_arcs table) ≡ true
  marked_is_sound = marked_sound (arcs_of table) checked.sound

  pub checked_turned : Checked part q
  checked_turned =
      checked_as checked size (ap all_sound says ∙ turned_sound closed q.terminal q.source (marked_arcs table) checked.terminal_node checked.source_node (λ e. checked.ends_differ (sym e)) marked_is_sound)

  pub unspanned_turned : NoSpan (arcs_of table) → NoSpan (arcs_of part)
  unspanned_turned none k h =
      ap (λ (arcs : List Arc). (arc_at arcs k).span) says ∙ turned_span closed q.terminal q.source (marked_arcs table) k ∙ ap (λ (a : Arc). a.span) (marked_at (arcs_of table) k)
      ∙ ap (mark (arcs_of table)) (none k (omega (arith, h, arcs_length part, arcs_length table, size))) ∙ mark_unknown (arcs_of table)

  pub reads_turned : (only : Bool) (net : Net) (r : Option ℕ) → Reads only (mesh_over (arcs_of part) q) net r → Reads only (mesh_over (shut_in closed (marked_arcs table)) q) net r
  reads_turned only net r p = go r (reads_over q only net r says p)
    where
      heads : LowHeads (marked_arcs table)
      heads = sound_heads (marked_arcs table) marked_is_sound

      same : ranking (mesh_over (turned_in closed q.terminal q.source (marked_arcs table)) q) ≡ ranking (mesh_over (shut_in closed (marked_arcs table)) q)
      same = ranking_turned closed q.source (marked_arcs table) q heads checked.source_node

      laid : {low : ℕ} → Laid only (mesh_over (turned_in closed q.terminal q.source (marked_arcs table)) q) net low → Laid only (mesh_over (shut_in closed (marked_arcs table)) q) net low
      laid l = record {
        words = l.words;
        routes_are = l.routes_are ∙ same;
        judged_are = λ u s x y.
            l.judged_are u s (subst (λ (routes : List Route). Memᴰ u routes) (sym same) x) (subst (λ (routes : List Route). Memᴰ s routes) (sym same) y)
            ∙ judges_turned closed q.source (marked_arcs table) q only heads checked.source_node x y;
        some_route = subst (λ (routes : List Route). 0 < length routes) same l.some_route;
        floor_is = l.floor_is ∙ ap floor same;
      }

      go : (r : Option ℕ) → Reads only (mesh_over (turned_in closed q.terminal q.source (marked_arcs table)) q) net r → Reads only (mesh_over (shut_in closed (marked_arcs table)) q) net r
      go (Some low) l = laid l
      go None none = sym same ∙ none

-- where nothing is closed they stay as they are
pub open_same : (table : List ℕ) {closed : ℕ} → closed ≡ 0 → shut_in closed (marked_arcs table) ≡ marked_arcs table
open_same table none = ap (λ (set : ℕ). shut_in set (marked_arcs table)) none ∙ closed_none shut 0 (marked_arcs table)

pub reads_open : (table : List ℕ) (q : Request) (only : Bool) (net : Net) (r : Option ℕ) {closed : ℕ} → closed ≡ 0 → Reads only (mesh_over (marked_arcs table) q) net r
    → Reads only (mesh_over (shut_in closed (marked_arcs table)) q) net r
reads_open table q only net r none p = reads_over q only net r (sym (open_same table none)) p
