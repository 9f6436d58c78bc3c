-- A search under way: what each kind of arc does to it, and what it has found at the end. What is wanted stays as it was, so what an arc does to a search
-- (`SeekLaws`) it does to this one. Assumes nothing.
use mathlib.Core.Path.{◌≡◌, refl, sym, ap, ◌∙◌, subst}
use mathlib.Core.Bool.{Bool, true, false}
use mathlib.Core.List.{[], ◌∷◌}
use Prim.Native.Nat.{ℕ, suc, ◌+◌, ◌≤◌, ◌<◌}
use native.Mathlib.Omega.{arith}
use lib.ListN.{length}
use borrow.Author.Tests.{lt-ltb, le-ltb, ltb-true, ltb-false}
use Rattle.laws.specs.Sets.{bit, with, unmet}
use Rattle.laws.proofs.SetLaws.{bit_with, unmet_le, unmet_with}
use Rattle.problem.specs.declared.Arc.{Arc}
use Rattle.problem.specs.Table.{last_node}
use Rattle.problem.specs.Exposures.{of_arc, joined}
use Rattle.problem.specs.Routes.{Mesh, arc_at}
use Rattle.problem.proofs.TableLaws.{sound_at}
use Rattle.problem.proofs.GrowthLaws.{left_start, left_end}
use Rattle.chain.specs.Chain.{Next}
use Rattle.net.specs.declared.Net.{Net}
use Rattle.net.specs.declared.Behind.{Behind}
use Rattle.net.specs.Net.{next_of, arcs_in, mesh_in, lower_at, first_at}
use Rattle.net.specs.Search.{onto}
use Rattle.net.proofs.NetLaws.{left_next}
use Rattle.labels.specs.declared.Labels.{Labels}
use Rattle.labels.specs.Labels.{Shorter}
use Rattle.cores.specs.declared.Store.{Store}
use Rattle.cores.specs.Cores.{Stored}
use Rattle.look.specs.declared.Leg.{Leg}
use Rattle.look.specs.declared.Leg.TheVariants.{Met, Past, Ends, Leads}
use Rattle.look.specs.Look.{leg_at}
use Rattle.look.proofs.LookLaws.{met_is, past_is, ends_is, leads_is, Ending, Leading}
use Rattle.problem.specs.declared.Exposure.{Exposure}
use Rattle.bars.specs.declared.Barred.{Barred}
use Rattle.find.specs.declared.Role.TheVariants.{Standby}
use Rattle.find.specs.declared.Role.{Role}
use Rattle.find.specs.declared.Want.{Want}
use Rattle.find.specs.declared.Run.{Run}
use Rattle.find.specs.Find.{IsStandby, barred_for, shares_too_much, InRange, Sure, Sought, meet, seek, sought_from, Trail, Trails, Arrived}
use Rattle.find.specs.Run.{places, is_found, sought_so_far, UnderWay, PutDown, ArcsKnown, Meets, Finding, Seeks}
use Rattle.find.proofs.TrailLaws.{trail_over, trails_same, trails_arrived}
use Rattle.find.proofs.SeekLaws.{in_front, Left, left_found, left_met, left_far, left_much, left_late, left_ends, left_leads}
use Rattle.find.proofs.PutLaws.{known_none, known_most, known_more, put_in_front, none_in_front}

-- the search stands at arc i of the chain, and what is left is what is wanted, where the standby that is wanted is a best one
pub record Rest (net : Net) (at : ℕ) (b : Behind) (before run : Run) (i : ℕ) : Type 0 where
  pub inside : i ≤ length (arcs_in net)
  pub here : i < length (arcs_in net) → (arc_at (arcs_in net) i).tail ≡ at
  pub want_same : run.want ≡ before.want
  pub left : Sure (mesh_in net) before.want
      → Left net.apart (mesh_in net) before.want at b i (sought_so_far (arcs_in net) run) ≡ sought_from net.apart (mesh_in net) before.want at b (sought_so_far (arcs_in net) before)

pub rest_start : {net : Net} {run : Run} {at : ℕ} {b : Behind} → Finding net run at b → Rest net at b run run (first_at net at)
rest_start {net} {run} {at} {b} ready =
    let f = ready.words.first at ready.node in
    let m = mesh_in net in
    let s = sought_so_far (arcs_in net) run in
    let visit = seek net.apart m run.want b in
    record {
      inside = f.to;
      here = f.here;
      want_same = refl;
      left = λ sure.
          sym (left_start m.arcs m.terminal visit (unmet 32 b.met) b.met at s ready.goes_on
          ∙ left_next m.arcs m.terminal visit (unmet 32 b.met) b.met at 0 _ s f);
    }

module _ {net : Net} {at : ℕ} {b : Behind} {before run : Run} {i : ℕ} (r : Rest net at b before run i) where
  abbrev only : Bool
  only = net.apart

  abbrev m : Mesh
  m = mesh_in net

  abbrev w : Want
  w = before.want

  -- past the last arc nothing is left
  pub rest_end : UnderWay run → length (arcs_in net) ≤ i → Seeks net at b before run
  rest_end u h =
      record {
        want_same = r.want_same;
        known = known_none net run _ u.none_yet;
        sought = λ sure. sym (left_end m.arcs m.terminal (seek only m w b) (unmet 32 b.met) b.met at i (sought_so_far (arcs_in net) run) h) ∙ r.left sure;
      }

  -- once the route is found the rest may be left out
  pub rest_found : is_found run ≡ true → ArcsKnown net run (unmet 32 b.met) → Seeks net at b before run
  rest_found h l =
      record {
        want_same = r.want_same;
        known = l;
        sought = λ sure. sym (left_found only m w at b i (sought_so_far (arcs_in net) run) h) ∙ r.left sure;
      }

  -- else the search goes on
  pub rest_on : UnderWay before → is_found run ≡ false → UnderWay run
  rest_on u h = record { range = subst InRange (sym r.want_same) u.range; none_yet = omega (arith, ltb-false 0 run.count h) }

-- arc i in hand, and what it is to the search
pub record InHand (net : Net) (at : ℕ) (b : Behind) (before run : Run) (store : Store) (i : ℕ) (g : Leg) : Type 0 where
  pub start : Finding net before at b
  pub rest : Rest net at b before run i
  pub under_way : UnderWay run
  pub stored : Stored net store
  pub trails : Trails (mesh_in net) before.want store.labels
  pub inside : i < length (arcs_in net)
  pub seen : g ≡ leg_at net run.want.metres b i

module _ {net : Net} {at : ℕ} {b : Behind} {before run : Run} {store : Store} {i : ℕ} {g : Leg} (h : InHand net at b before run store i g) where
  abbrev next : ℕ
  next = next_of net i

  abbrev arc : Arc
  arc = arc_at (arcs_in net) i

  abbrev lower : ℕ
  lower = lower_at net arc.head

  abbrev sofar : Sought
  sofar = sought_so_far (arcs_in net) run

  next_arc : Next (arcs_in net) at (i + 1) next
  next_arc = subst (λ (v : ℕ). Next (arcs_in net) v (i + 1) next) (h.rest.here h.inside) (h.start.words.next i h.inside)

  pub next_past : i < next_of net i
  next_past = omega (arith, next_arc.from)

  head_node : arc.head ≤ last_node
  head_node = (sound_at (arcs_in net) h.start.words.sound i h.inside).head_node

  fewer_met : bit b.met arc.head ≡ 0 → unmet 32 b.met ≡ suc (unmet 32 (with b.met arc.head))
  fewer_met new = unmet_with 32 arc.head b.met (omega (arith, head_node)) new

  want_same : run.want ≡ before.want
  want_same = h.rest.want_same

  turn : {run' : Run} → run'.want ≡ run.want → (Sure (mesh_in net) before.want → Left net.apart (mesh_in net) before.want at b i sofar ≡ Left net.apart (mesh_in net) before.want at b next (sought_so_far (arcs_in net) run'))
      → Rest net at b before run' next
  turn k e = record { inside = next_arc.to; here = next_arc.here; want_same = k ∙ want_same; left = λ sure. sym (e sure) ∙ h.rest.left sure }

  pub rest_met : g ≡ Met → Rest net at b before run (next_of net i)
  rest_met e =
      turn {run' = run} refl
      (λ sure. left_met net.apart (mesh_in net) before.want at b i next sofar h.inside next_arc (met_is (mesh_in net).terminal run.want.metres lower b arc (sym h.seen ∙ e)))

  pub rest_past : {to : ℕ} → g ≡ Past to → Rest net at b before run (next_of net i)
  rest_past e =
      let p = past_is (mesh_in net).terminal run.want.metres lower b arc (sym h.seen ∙ e) in
      turn {run' = run} refl
      (λ sure. left_far net.apart (mesh_in net) before.want at b i next sofar h.inside next_arc lower (λ ks x. h.start.words.lower arc.head head_node x)
      (omega (arith, p.past_end, ap (λ (x : Want). x.metres) want_same)))

  pub rest_ends : {e : Behind} → g ≡ Ends e → {run' : Run} → Meets net i e run run' → Rest net at b before run' (next_of net i)
  rest_ends {e} q {run'} x = go (ends_is (mesh_in net).terminal run.want.metres lower b arc (sym h.seen ∙ q))
    where
      same : e ≡ onto b arc → meet net.apart (mesh_in net) before.want sofar (onto b arc) i (i ∷ []) ≡ sought_so_far (arcs_in net) run'
      same p = sym (x.sought ∙ rw (want_same, p))

      go : Ending (mesh_in net).terminal run.want.metres lower b arc e → Rest net at b before run' next
      go o =
          turn x.want_same
          (λ sure. left_ends net.apart (mesh_in net) before.want at b i next sofar h.inside next_arc o.new (h.rest.here h.inside) o.at_terminal
          ∙ ap (Left net.apart (mesh_in net) before.want at b next) (same o.is))

  -- the store, once the route was tested
  pub trails_tested : {store' : Store} → (IsStandby run.want.role → store' ≡ store) → Trails (mesh_in net) before.want store'.labels
  trails_tested f = trails_same (mesh_in net) before.want (λ e. ap (λ (s : Store). s.labels) (f (subst (λ (x : Want). IsStandby x.role) (sym want_same) e))) h.trails

  -- a route that ends leaves room for its arc
  pub known_ends : {e : Behind} → g ≡ Ends e → {run' : Run} → Meets net i e run run' → ArcsKnown net run' (unmet 32 b.met)
  known_ends q x = known_most x.known (omega (arith, fewer_met (ends_is (mesh_in net).terminal run.want.metres lower b arc (sym h.seen ∙ q)).new))

  -- ---- an arc from whose head routes may go on

  module _ {at' : ℕ} {e : Behind} (q : g ≡ Leads at' e) where
    o : Leading (mesh_in net).terminal run.want.metres lower b arc at' e
    o = leads_is (mesh_in net).terminal run.want.metres lower b arc (sym h.seen ∙ q)

    pub leads_node : at' ≤ last_node
    leads_node = omega (arith, o.head_is, head_node)

    pub leads_fewer : unmet 32 b.met ≡ suc (unmet 32 e.met)
    leads_fewer = fewer_met o.new ∙ ap (λ (x : Behind). suc (unmet 32 x.met)) (sym o.is)

    -- it is not barred, as it was not met
    came : (main : Exposure) (off : Barred) → before.want.role ≡ Standby main off → Trail (mesh_in net) main off at' e.metres e.exposure
    came main off is = there o.head_is o.is
      where
        free : bit off.nodes arc.head ≡ 0
        free = omega (arith, h.start.barred_met arc.head, ap (λ (r : Role). bit (barred_for r).nodes arc.head) is, o.new)

        there : at' ≡ arc.head → e ≡ onto b arc → Trail (mesh_in net) main off at' e.metres e.exposure
        there p x = rw (p, x) (trail_over (mesh_in net) main off b.exposure i (h.start.came main off is) h.inside (h.rest.here h.inside) free o.goes_on)

    -- it is left out: what goes over it shares too much
    pub rest_much : shares_too_much run.want e.exposure ≡ true → Rest net at b before run (next_of net i)
    rest_much much =
        turn {run' = run} refl
        (λ sure. left_much net.apart (mesh_in net) before.want at b i next sofar h.inside next_arc
        (sym (ap (λ (y : Behind). shares_too_much before.want y.exposure) o.is) ∙ ap (λ (y : Want). shares_too_much y e.exposure) (sym want_same) ∙ much))

    -- or comes late to its head
    pub rest_late : IsStandby run.want.role × Shorter store.labels at' e.metres e.exposure → Rest net at b before run (next_of net i)
    rest_late late =
        turn {run' = run} refl
        (λ sure. left_late net.apart (mesh_in net) before.want at b i next sofar h.inside next_arc sure (subst (λ (y : Want). IsStandby y.role) want_same late.0) h.trails h.start.barred_met head_node (same o.head_is o.is))
      where
        same : at' ≡ arc.head → e ≡ onto b arc → Shorter store.labels arc.head (b.metres + arc.metres) (joined b.exposure (of_arc arc))
        same p y = rw (← p, ap (λ (z : Behind). z.metres) (sym y), ap (λ (z : Behind). z.exposure) (sym y)) late.1

    -- the labels, once they were asked whether it does
    pub arrived : {labels : Labels} → Arrived run.want at' e.metres e.exposure store.labels labels → Trails (mesh_in net) before.want labels
    arrived {labels} a = trails_arrived (mesh_in net) before.want _ h.trails came (subst (λ (y : Want). Arrived y at' e.metres e.exposure store.labels labels) want_same a)

    -- what the search from its head needs
    pub leads_ready : Finding net run at' e
    leads_ready =
        record {
          words = h.start.words;
          under_way = h.under_way;
          node = leads_node;
          goes_on = λ x. o.goes_on (sym o.head_is ∙ x);
          not_past = omega (arith, o.inside, ap (λ (x : Behind). x.metres) o.is);
          barred_met = λ u. omega (arith, ap (λ (x : Want). bit (barred_for x.role).nodes u) want_same, h.start.barred_met u, bit_with b.met arc.head u, ap (λ (x : Behind). bit x.met u) o.is);
          came = λ main off is. came main off (ap (λ (x : Want). x.role) (sym want_same) ∙ is);
        }

    -- its labels
    pub trails_ahead : {labels : Labels} → Trails (mesh_in net) before.want labels → Trails (mesh_in net) run.want labels
    trails_ahead {labels} t = subst (λ (x : Want). Trails (mesh_in net) x labels) (sym want_same) t

    pub trails_behind : {labels : Labels} → Trails (mesh_in net) run.want labels → Trails (mesh_in net) before.want labels
    trails_behind {labels} t = subst (λ (x : Want). Trails (mesh_in net) x labels) want_same t

    module _ {run' : Run} (s : Seeks net at' e run run') where
      -- room for the arc
      pub leads_room : run'.count < places
      leads_room = omega (arith, s.known.few, leads_fewer, unmet_le 32 b.met)

      -- and what it gives, once the arc stands in front of what it found
      leads_over : {run'' : Run} → run''.want ≡ run'.want → sought_so_far (arcs_in net) run'' ≡ in_front (mesh_in net) i (sought_so_far (arcs_in net) run') → Rest net at b before run'' next
      leads_over {run''} k x =
          turn (k ∙ s.want_same)
          (λ sure. left_leads net.apart (mesh_in net) before.want at b i next sofar h.inside next_arc o.new (h.rest.here h.inside) head_node o.goes_on (le-ltb 0 run.count (omega (arith, h.under_way.none_yet)))
          ∙ ap (Left net.apart (mesh_in net) before.want at b next) (sym (x ∙ ap (in_front (mesh_in net) i) (found sure ∙ same o.head_is o.is))))
        where
          found : Sure (mesh_in net) before.want → sought_so_far (arcs_in net) run' ≡ sought_from net.apart (mesh_in net) before.want at' e sofar
          found sure = s.sought (subst (Sure (mesh_in net)) (sym want_same) sure) ∙ ap (λ (x : Want). sought_from net.apart (mesh_in net) x at' e sofar) want_same

          same : at' ≡ arc.head → e ≡ onto b arc → sought_from net.apart (mesh_in net) before.want at' e sofar ≡ sought_from net.apart (mesh_in net) before.want arc.head (onto b arc) sofar
          same p q = rw (p, q)

      pub leads_none : is_found run' ≡ false → Rest net at b before run' (next_of net i)
      leads_none z = leads_over {run'' = run'} refl (none_in_front (mesh_in net) i run' (omega (arith, ltb-false 0 run'.count z)))

      pub leads_found : is_found run' ≡ true → {run'' : Run} → PutDown i run' run'' → Seeks net at b before run''
      leads_found z {run''} p =
          rest_found (leads_over p.want_same (put_in_front (mesh_in net) p (ltb-true 0 run'.count z))) (lt-ltb 0 run''.count (omega (arith, p.one_more)))
          (known_most (known_more p s.known h.inside) (omega (arith, leads_fewer)))
