-- A table is laid out once its links and its stops are written, and the request beside them: a link says its arc, and its chains. Assumes nothing.
use Prim.Native.Nat.{ℕ, ◌≤◌, ◌<◌, ◌^◌}
use mathlib.Core.Bool.{Bool, true, false}
use mathlib.Core.List.{List, []}
use mathlib.Core.Path.{◌≡◌, refl, sym, ap, ◌∙◌, subst}
use native.Mathlib.Omega.{arith}
use lib.ListN.{length}
use lib.Seq.{ext_get_or}
use Rattle.problem.specs.declared.Arc.{Arc}
use Rattle.problem.specs.declared.Request.{Request}
use Rattle.problem.specs.Table.{most_in_table, last_node, arcs_of}
use Rattle.problem.specs.Exposures.{to_nothing, span_field, of_arc}
use Rattle.problem.specs.Routes.{Mesh, arc_at, metres_of, exposure_of, Way}
use Rattle.problem.specs.Reply.{mesh_over, Checked}
use Rattle.problem.proofs.ExposureLaws.{disjoint_nothing}
use Rattle.problem.proofs.TableLaws.{arcs_length}
use Rattle.side.specs.declared.Distance.{Distance}
use Rattle.side.specs.Side.{entry_at, reached_at, metres_at, SideTable}
use Rattle.spans.specs.Marks.{NoSpan}
use Rattle.chain.specs.declared.Chain.{Chain}
use Rattle.chain.specs.declared.End.{End}
use Rattle.chain.specs.Chain.{first_in, next_in, end_of, ChainedBy}
use Rattle.net.specs.declared.Link.{Link}
use Rattle.net.specs.declared.Stop.{Stop}
use Rattle.net.specs.declared.Net.{Net}
use Rattle.net.specs.Net.{next_of, next_in_of, first_at, lower_at, arcs_in, mesh_in, Chained}
use Rattle.net.proofs.NetLaws.{arcs_count, arc_is}
use Rattle.layout.specs.Layout.{ArcsLaid, lower_of, StopsLaid, LaidOut}

-- ---- lower bounds

module _ {arcs : List Arc} {terminal : ℕ} {side : List Distance} (table : SideTable arcs terminal to_nothing side) where
  lower_reached : (v : ℕ) → reached_at side v ≡ true → lower_of (entry_at side v) ≡ metres_at side v
  lower_reached v e = rw e

  -- with nothing banned every way is free
  lower_least : (v : ℕ) {ks : List ℕ} → Way arcs v terminal ks → lower_of (entry_at side v) ≤ metres_of arcs ks
  lower_least v {ks} w = go (reached_at side v) refl
    where
      go : (b : Bool) → reached_at side v ≡ b → lower_of (entry_at side v) ≤ metres_of arcs ks
      go true e = rw (lower_reached v e) (table.least v ks (record { way = w; free = disjoint_nothing (exposure_of arcs ks) }))
      go false e = absurd (table.none v e ks (record { way = w; free = disjoint_nothing (exposure_of arcs ks) }))

  lower_low : (v : ℕ) → lower_of (entry_at side v) < 2 ^ 32
  lower_low v = go (reached_at side v) refl
    where
      go : (b : Bool) → reached_at side v ≡ b → lower_of (entry_at side v) < 2 ^ 32
      go true e = rw (lower_reached v e) (omega (arith, table.most_metres v))
      go false e = rw e (omega arith)

-- an arc without a span is exposed to none
unspanned : (a : Arc) → a.span ≡ 0 → ((of_arc a).low ≡ 0) × ((of_arc a).high ≡ 0)
unfolding of_arc span_field
unspanned a e = (rw e, rw e)

-- ---- the whole net

-- beside the links and the stops: the number of arcs, the request, and the first door
pub record Headed (arcs : List Arc) (q : Request) (into : Chain) (net : Net) : Type 0 where
  pub count_is : net.count ≡ length arcs
  pub source_is : net.source ≡ q.source
  pub terminal_is : net.terminal ≡ q.terminal
  pub reach_is : net.reach ≡ q.reach
  pub door_is : net.first_door ≡ first_in into q.terminal

module _ {table : List ℕ} {q : Request} {side : List Distance} {chain into : Chain} (net : Net)
    (checked : Checked table q) (sides : SideTable (arcs_of table) q.terminal to_nothing side) (chained : ChainedBy (end_of End.Tail) (arcs_of table) chain)
    (chained_in : ChainedBy (end_of End.Head) (arcs_of table) into) (of_arcs : ArcsLaid (arcs_of table) chain into net.links net.exposures net.spans) (of_stops : StopsLaid chain side net.stops)
    (of_spans : net.spanned ≡ false → NoSpan (arcs_of table)) (headed : Headed (arcs_of table) q into net) where
  few : length (arcs_of table) ≤ most_in_table
  few = omega (arith, arcs_length table, checked.few_bytes)

  says_count : length (arcs_in net) ≡ length (arcs_of table)
  says_count = arcs_count net ∙ headed.count_is

  says_arc : (k : ℕ) → k < length (arcs_of table) → arc_at (arcs_in net) k ≡ arc_at (arcs_of table) k
  unfolding of_arc
  says_arc k h =
      arc_is net k (omega (arith, says_count))
      ∙ (λ i. record {
        tail = (of_arcs.link k h i).tail;
        head = (of_arcs.link k h i).head;
        span = of_arcs.span k h i;
        metres = (of_arcs.link k h i).metres;
        risks = (of_arcs.exposure k h i).risks;
      })

  says_arcs : arcs_in net ≡ arcs_of table
  says_arcs = ext_get_or (arc_at [] 0) (arcs_in net) (arcs_of table) says_count (λ k h. says_arc k (omega (arith, says_count)))

  says_mesh : mesh_in net ≡ mesh_over (arcs_of table) q
  says_mesh = rw (says_arcs, headed.source_is, headed.terminal_is, headed.reach_is)

  module _ (k : ℕ) (h : k < length (arcs_of table)) where
    says_next : next_of net k ≡ next_in chain k
    says_next = ap (λ (l : Link). l.next) (of_arcs.link k h)

    says_next_in : next_in_of net k ≡ next_in into k
    says_next_in = ap (λ (l : Link). l.next_in) (of_arcs.link k h)

  module _ (v : ℕ) (h : v ≤ last_node) where
    says_first : first_at net v ≡ first_in chain v
    says_first = ap (λ (s : Stop). s.first) (of_stops.here v h)

    says_lower : lower_at net v ≡ lower_of (entry_at side v)
    says_lower = ap (λ (s : Stop). s.lower) (of_stops.here v h)

  hang_together : Chained (mesh_over (arcs_of table) q) net
  unfolding end_of
  hang_together = record {
    few = few;
    counted = headed.count_is;
    sound = checked.sound;
    source_node = checked.source_node;
    terminal_node = checked.terminal_node;
    ends_differ = checked.ends_differ;
    reach_range = checked.reach_range;
    next = λ k h. rw (says_next k h) (chained.next k h);
    first = λ v h. rw (says_first v h) (chained.first v h);
    lower = λ v h w. rw (says_lower v h) (lower_least sides v w);
    lower_small = λ v h. rw (says_lower v h) (lower_low sides v);
    lower_terminal = says_lower q.terminal checked.terminal_node ∙ lower_reached sides q.terminal sides.entries.terminal_reached ∙ sides.entries.terminal_metres;
    exposure = of_arcs.exposure;
    plain = λ e k h. unspanned (arc_at (arcs_of table) k) (of_spans e k h);
    next_into = λ k h. rw (says_next_in k h) (chained_in.next k h);
    first_door = rw headed.door_is (chained_in.first q.terminal checked.terminal_node);
  }

  pub laid_out : LaidOut (mesh_over (arcs_of table) q) side net.apart net
  laid_out = record {
    laid = subst (λ (m : Mesh). Chained m net) (sym says_mesh) hang_together;
    mesh_is = says_mesh;
    apart_is = refl;
    source_lower = λ e. says_lower q.source checked.source_node ∙ lower_reached sides q.source e;
  }
