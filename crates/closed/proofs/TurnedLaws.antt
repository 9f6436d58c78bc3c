-- Closed arcs turned round: what the bytes of a table then say, and that its routes are those of the same arcs with the closed ones shut. Assumes nothing.
use Rattle.std.specs.Prelude.{if◌then◌else◌}
use mathlib.Core.Path.{◌≡◌, refl, sym, ap, ap₂, ◌∙◌, subst}
use mathlib.Core.Bool.{Bool, true, false}
use mathlib.Core.List.{List, [], ◌∷◌, ◌++◌, map, Memᴰ}
use Prim.Native.Nat.{ℕ, zero, suc, ◌+◌, ◌*◌, ◌-◌, ◌/◌, ◌≤◌, ◌<◌}
use native.Mathlib.Omega.{arith}
use lib.Dec.{eqb, ltb}
use lib.ListN.{length, take, drop, set, length-set, length-drop, get_or-eq_default}
use lib.Seq.{length-take-le, ext_get_or, take-set-le, take-set-lt, drop-set-lt, drop-set-add}
use borrow.Author.Tests.{ltb-true, ltb-false, eqb-true, eqb-false}
use Rattle.laws.specs.Choosing.{keep, sort_by}
use Rattle.laws.specs.Sets.{with}
use Rattle.problem.specs.declared.Arc.{Arc}
use Rattle.problem.specs.declared.Request.{Request}
use Rattle.problem.specs.Table.{last_node, most_arcs, record_at, arc_of, arcs_of, number_at, SoundArc, all_sound}
use Rattle.problem.specs.Closed.{is_open, AllOpen, shut, closed_by, shut_in}
use Rattle.problem.specs.Exposures.{of_arc}
use Rattle.problem.specs.Routes.{arc_at, nodes_from, Way, opens, sprout, grow, paths_from, Route, route_of, routes_from, precedes, within, ranking}
use Rattle.problem.specs.Pairs.{pair}
use Rattle.problem.specs.Apart.{judges}
use Rattle.problem.specs.Reply.{mesh_over}
use Rattle.problem.proofs.FaultLaws.{faultless_number, arc_sound}
use Rattle.problem.proofs.TableLaws.{arcs_length, arcs_at, number_sound, sound_at}
use Rattle.problem.proofs.PathLaws.{LowHeads}
use Rattle.problem.proofs.RouteLaws.{sprout_over, sprout_past, sprout_other}
use Rattle.problem.proofs.RankingLaws.{Listed, ranking_out}
use Rattle.problem.proofs.SameLaws.{judges_same}
use Rattle.problem.proofs.ClosedLaws.{closed_length, closed_place, closed_keeps, open_at, shut_metres, shut_exposure, shut_ways, route_alike}
use Rattle.closed.specs.Turned.{turned_at, with_ends, turned_in}

-- ---- the bytes of one arc's ends written over

-- a byte outside a record changes nothing of it
outside : (table : List ℕ) (i x k : ℕ) → (i < 16 * k) × (i < 16 * k + 16) → record_at (set table i x) k ≡ record_at table k
outside table i x k h = ap (take 16) (drop-set-lt (16 * k) table i x h.0)

behind : (table : List ℕ) (i x k : ℕ) → 16 ≤ i → record_at (set table (16 * k + i) x) k ≡ record_at table k
behind table i x k h = ap (take 16) (drop-set-add (16 * k) table i x) ∙ take-set-le 16 (drop (16 * k) table) i x h

within_it : (table : List ℕ) (i x k : ℕ) → i < 16 → record_at (set table (16 * k + i) x) k ≡ set (record_at table k) i x
within_it table i x k h = ap (take 16) (drop-set-add (16 * k) table i x) ∙ take-set-lt 16 (drop (16 * k) table) i x h

ends_over : (b : List ℕ) (tail head : ℕ) → length b ≡ 16 → arc_of (set (set b 0 tail) 1 head) ≡ with_ends (arc_of b) tail head
unfolding arc_of number_at
ends_over [] tail head h = absurd (omega arith)
ends_over (x ∷ []) tail head h = absurd (omega arith)
ends_over (x ∷ y ∷ rest) tail head h = refl

module _ (table : List ℕ) (k tail head : ℕ) where
  pub turned_length : length (turned_at table k tail head) ≡ length table
  turned_length = length-set (set table (16 * k) tail) (16 * k + 1) head ∙ length-set table (16 * k) tail

  pub turned_own : 16 * k + 16 ≤ length table → arc_at (arcs_of (turned_at table k tail head)) k ≡ with_ends (arc_at (arcs_of table) k) tail head
  turned_own room =
      let first : 16 * k ≡ 16 * k + 0 = omega arith in
      arcs_at (turned_at table k tail head) k (omega (arith, turned_length))
      ∙ ap arc_of (within_it (set table (16 * k) tail) 1 head k (omega arith) ∙ ap (λ (l : List ℕ). set l 1 head) (ap (λ (i : ℕ). record_at (set table i tail) k) first ∙ within_it table 0 tail k (omega arith)))
      ∙ ends_over (record_at table k) tail head (length-take-le 16 (drop (16 * k) table) (rw length-drop (omega arith)))
      ∙ ap (λ (a : Arc). with_ends a tail head) (sym (arcs_at table k room))

  other_record : (j : ℕ) → (j ≡ k → ⊥) → record_at (turned_at table k tail head) j ≡ record_at table j
  other_record j ne = go (ltb k j) refl
    where
      go : (b : Bool) → ltb k j ≡ b → record_at (turned_at table k tail head) j ≡ record_at table j
      go true e =
          let l = ltb-true k j e in
          outside (set table (16 * k) tail) (16 * k + 1) head j (omega arith) ∙ outside table (16 * k) tail j (omega arith)
      go false e =
          let l = ltb-false k j e in
          let first : 16 * k ≡ 16 * j + (16 * k - 16 * j) = omega arith in
          let second : 16 * k + 1 ≡ 16 * j + (16 * k + 1 - 16 * j) = omega arith in
          ap (λ (i : ℕ). record_at (set (set table (16 * k) tail) i head) j) second
          ∙ behind (set table (16 * k) tail) (16 * k + 1 - 16 * j) head j (omega (arith, ne))
          ∙ ap (λ (i : ℕ). record_at (set table i tail) j) first
          ∙ behind table (16 * k - 16 * j) tail j (omega (arith, ne))

  pub turned_other : (j : ℕ) → (j ≡ k → ⊥) → arc_at (arcs_of (turned_at table k tail head)) j ≡ arc_at (arcs_of table) j
  turned_other j ne = go (ltb j (length table / 16)) refl
    where
      go : (b : Bool) → ltb j (length table / 16) ≡ b → arc_at (arcs_of (turned_at table k tail head)) j ≡ arc_at (arcs_of table) j
      go true e =
          let l = ltb-true j (length table / 16) e in
          arcs_at (turned_at table k tail head) j (omega (arith, turned_length)) ∙ ap arc_of (other_record j ne) ∙ sym (arcs_at table j (omega arith))
      go false e =
          let l = ltb-false j (length table / 16) e in
          get_or-eq_default (arcs_of (turned_at table k tail head)) (arc_at [] 0) {n = j} (omega (arith, arcs_length (turned_at table k tail head), turned_length))
          ∙ sym (get_or-eq_default (arcs_of table) (arc_at [] 0) {n = j} (omega (arith, arcs_length table)))

-- ---- one arc after the other

module _ (closed tail head : ℕ) where
  abbrev turned_arc : ℕ → Arc → Arc
  turned_arc j a = if is_open closed j then a else with_ends a tail head

  -- the first k arcs are turned where they are closed
  pub record Turning (before after : List ℕ) (k : ℕ) : Type 0 where
    pub size : length after ≡ length before
    pub done : (j : ℕ) → j < k → arc_at (arcs_of after) j ≡ turned_arc j (arc_at (arcs_of before) j)
    pub left : (j : ℕ) → k ≤ j → arc_at (arcs_of after) j ≡ arc_at (arcs_of before) j

  pub turning_none : (before : List ℕ) → Turning before before 0
  turning_none before = record { size = refl; done = λ j h. absurd (omega arith); left = λ j h. refl }

  one_more : {before after after' : List ℕ} {k : ℕ} → Turning before after k → length after' ≡ length after → arc_at (arcs_of after') k ≡ turned_arc k (arc_at (arcs_of before) k)
      → ((j : ℕ) → (j ≡ k → ⊥) → arc_at (arcs_of after') j ≡ arc_at (arcs_of after) j) → Turning before after' (k + 1)
  one_more {before} {after} {after'} {k} t size own others =
      record { size = size ∙ t.size; done = done; left = λ j h. others j (λ e. omega arith) ∙ t.left j (omega arith) }
    where
      done : (j : ℕ) → j < k + 1 → arc_at (arcs_of after') j ≡ turned_arc j (arc_at (arcs_of before) j)
      done j h = go (eqb j k) refl
        where
          go : (b : Bool) → eqb j k ≡ b → arc_at (arcs_of after') j ≡ turned_arc j (arc_at (arcs_of before) j)
          go true e = rw (eqb-true j k e) own
          go false e = let ne = eqb-false j k e in others j ne ∙ t.done j (omega (arith, ne))

  pub turning_open : {before after : List ℕ} {k : ℕ} → Turning before after k → is_open closed k ≡ true → Turning before after (k + 1)
  turning_open {before} {after} {k} t e = one_more t refl (t.left k (omega arith) ∙ rw e) (λ j ne. refl)

  pub turning_closed : {before after : List ℕ} {k : ℕ} → Turning before after k → 16 * k + 16 ≤ length after → is_open closed k ≡ false → Turning before (turned_at after k tail head) (k + 1)
  turning_closed {before} {after} {k} t room e =
      one_more t (turned_length after k tail head)
      (turned_own after k tail head room ∙ ap (λ (a : Arc). with_ends a tail head) (t.left k (omega arith)) ∙ rw e)
      (turned_other after k tail head)

  pub turning_all : {before after : List ℕ} {k : ℕ} → Turning before after k → length before / 16 ≤ k → arcs_of after ≡ turned_in closed tail head (arcs_of before)
  turning_all {before} {after} {k} t all =
      ext_get_or (arc_at [] 0) (arcs_of after) (turned_in closed tail head (arcs_of before)) (sym (closed_length ends closed 0 (arcs_of before) ∙ same))
      (λ j h. t.done j (omega (arith, h, arcs_length after, t.size)) ∙ sym (closed_place ends closed (arcs_of before) j (omega (arith, h, same))))
    where
      ends : Arc → Arc
      ends a = with_ends a tail head

      same : length (arcs_of before) ≡ length (arcs_of after)
      same = omega (arith, arcs_length before, arcs_length after, t.size)

-- ---- what stays true of the arcs

module _ (closed tail head : ℕ) (arcs : List Arc) where
  abbrev ends : Arc → Arc
  ends a = with_ends a tail head

  abbrev turned : List Arc
  turned = turned_in closed tail head arcs

  -- where tail and head are two nodes, sound arcs stay sound
  pub turned_sound : tail ≤ last_node → head ≤ last_node → (tail ≡ head → ⊥) → all_sound arcs ≡ true → all_sound turned ≡ true
  turned_sound t h ne sound = number_sound turned (faultless_number turned (λ j l.
      let inside : j < length arcs = omega (arith, l, closed_length ends closed 0 arcs) in
      arc_sound _ (subst SoundArc (sym (closed_place ends closed arcs j inside)) (go (is_open closed j) (sound_at arcs sound j inside)))))
    where
      go : {a : Arc} (b : Bool) → SoundArc a → SoundArc (if b then a else with_ends a tail head)
      go true s = s
      go false s = record { tail_node = t; head_node = h; ends_differ = ne; metres_range = s.metres_range }

  -- spans, lengths and exposures stay
  pub turned_span : (k : ℕ) → (arc_at turned k).span ≡ (arc_at arcs k).span
  turned_span = closed_keeps ends closed (λ a. a.span) (λ a. refl) 0 arcs

  turned_metres : (k : ℕ) → (arc_at turned k).metres ≡ (arc_at arcs k).metres
  turned_metres = closed_keeps ends closed (λ a. a.metres) (λ a. refl) 0 arcs

  turned_exposure : (k : ℕ) → of_arc (arc_at turned k) ≡ of_arc (arc_at arcs k)
  unfolding of_arc
  turned_exposure = closed_keeps ends closed of_arc (λ a. refl) 0 arcs

-- ---- the routes

-- where no closed arc begins at the node, whichever way it is changed, what is taken there is the same
module _ (f g : Arc → Arc) (closed met at : ℕ) (other : (a : Arc) → ((f a).tail ≡ at → ⊥) × ((g a).tail ≡ at → ⊥)) (rest rest' : ℕ → ℕ → List (List ℕ)) where
  sprouts_same : ((m v : ℕ) → v ≤ last_node → rest m v ≡ rest' m v) → (i : ℕ) (arcs : List Arc) → LowHeads arcs
      → sprout rest met at i (closed_by f closed i arcs) ≡ sprout rest' met at i (closed_by g closed i arcs)
  unfolding closed_by sprout
  sprouts_same same i [] low = refl
  sprouts_same same i (a ∷ arcs) low = go (is_open closed i) (opens met at a) refl (sprouts_same same (suc i) arcs (λ k h. low (suc k) (omega arith)))
    where
      more : List Arc
      more = closed_by f closed (suc i) arcs

      more' : List Arc
      more' = closed_by g closed (suc i) arcs

      go : (o p : Bool) → opens met at a ≡ p → sprout rest met at (suc i) more ≡ sprout rest' met at (suc i) more'
          → sprout rest met at i ((if o then a else f a) ∷ more) ≡ sprout rest' met at i ((if o then a else g a) ∷ more')
      go true true e on =
          sprout_over rest met at i a more e
          ∙ ap₂ (λ (l r : List (List ℕ)). map (λ ks. i ∷ ks) l ++ r) (same (with met a.head) a.head (low 0 (omega arith))) on
          ∙ sym (sprout_over rest' met at i a more' e)
      go true false e on = sprout_past rest met at i a more e ∙ on ∙ sym (sprout_past rest' met at i a more' e)
      go false p e on = sprout_other rest met at i (f a) more (other a).0 ∙ on ∙ sym (sprout_other rest' met at i (g a) more' (other a).1)

module _ (closed terminal head : ℕ) (arcs : List Arc) (low : LowHeads arcs) where
  grown_same : (n met at : ℕ) → at ≤ last_node → grow (turned_in closed terminal head arcs) terminal n met at ≡ grow (shut_in closed arcs) terminal n met at
  unfolding grow
  grown_same zero met at node = refl
  grown_same (suc n) met at node = go (eqb at terminal) refl (grown_same n)
    where
      go : (b : Bool) → eqb at terminal ≡ b
          → ((m v : ℕ) → v ≤ last_node → grow (turned_in closed terminal head arcs) terminal n m v ≡ grow (shut_in closed arcs) terminal n m v)
          → grow (turned_in closed terminal head arcs) terminal (suc n) met at ≡ grow (shut_in closed arcs) terminal (suc n) met at
      go true e on = rw (e, grow)
      go false e on = rw (e, grow) (sprouts_same _ shut closed met at (λ a. (λ t. eqb-false at terminal e (sym t), λ t. omega arith)) _ _ on 0 arcs low)

  routes_same : (v : ℕ) → v ≤ last_node → routes_from (turned_in closed terminal head arcs) terminal v ≡ routes_from (shut_in closed arcs) terminal v
  unfolding routes_from
  routes_same v node =
      ap (map (route_of (turned closed terminal head arcs))) (grown_same most_arcs (with 0 v) v node)
      ∙ map_alike (route_of (turned closed terminal head arcs)) (route_of (shut_in closed arcs)) (route_alike _ _ metres exposures) (paths_from (shut_in closed arcs) terminal v)
    where
      metres : (k : ℕ) → (arc_at (turned closed terminal head arcs) k).metres ≡ (arc_at (shut_in closed arcs) k).metres
      metres k = turned_metres closed terminal head arcs k ∙ sym (shut_metres closed arcs k)

      exposures : (k : ℕ) → of_arc (arc_at (turned closed terminal head arcs) k) ≡ of_arc (arc_at (shut_in closed arcs) k)
      exposures k = turned_exposure closed terminal head arcs k ∙ sym (shut_exposure closed arcs k)

      map_alike : (f g : List ℕ → Route) → ((l : List ℕ) → f l ≡ g l) → (ls : List (List ℕ)) → map f ls ≡ map g ls
      map_alike f g e [] = refl
      map_alike f g e (l ∷ ls) = ap₂ (λ (r : Route) (rs : List Route). r ∷ rs) (e l) (map_alike f g e ls)

  -- a list of open arcs meets the same nodes
  turned_nodes : (v : ℕ) {ks : List ℕ} {to : ℕ} → Way arcs v to ks → AllOpen closed ks → nodes_from (turned_in closed terminal head arcs) v ks ≡ nodes_from (shut_in closed arcs) v ks
  unfolding nodes_from
  turned_nodes v (Way.there e) all = refl
  turned_nodes v (Way.over {k = k} {ks = ks} h t w) all =
      let own = all k (Memᴰ.head refl) in
      let here : arc_at (turned_in closed terminal head arcs) k ≡ arc_at arcs k = rw own at (closed_place (λ a. with_ends a terminal head) closed arcs k h) in
      let there = open_at closed arcs k h own in
      ap (λ (l : List ℕ). v ∷ l)
      (ap (λ (a : Arc). nodes_from (turned_in closed terminal head arcs) a.head ks) here ∙ turned_nodes (arc_at arcs k).head w (λ j m. all j (Memᴰ.tail m))
      ∙ ap (λ (a : Arc). nodes_from (shut_in closed arcs) a.head ks) (sym there))

-- the ranking over arcs of which the closed ones are turned round is that over open arcs
pub ranking_turned : (closed head : ℕ) (arcs : List Arc) (q : Request) → LowHeads arcs → q.source ≤ last_node
    → ranking (mesh_over (turned_in closed q.terminal head arcs) q) ≡ ranking (mesh_over (shut_in closed arcs) q)
unfolding ranking
ranking_turned closed head arcs q low node = ap (λ (l : List Route). sort_by precedes (keep (within q.reach) l)) (routes_same closed q.terminal head arcs low q.source node)

-- and the same pairs of its routes are apart
pub judges_turned : (closed head : ℕ) (arcs : List Arc) (q : Request) (only : Bool) → LowHeads arcs → q.source ≤ last_node → {r s : Route}
    → Memᴰ r (ranking (mesh_over (shut_in closed arcs) q)) → Memᴰ s (ranking (mesh_over (shut_in closed arcs) q))
    → judges (mesh_over (turned_in closed q.terminal head arcs) q) only (pair r s) ≡ judges (mesh_over (shut_in closed arcs) q) only (pair r s)
unfolding route_of
judges_turned closed head arcs q only low node {r} {s} x y =
    judges_same (mesh_over (turned_in closed q.terminal head arcs) q) (mesh_over (shut_in closed arcs) q) only refl refl (pair r s) (nodes (ranking_out (mesh_over (shut_in closed arcs) q) x)) (nodes (ranking_out (mesh_over (shut_in closed arcs) q) y))
  where
    nodes : {t : Route} → Listed (mesh_over (shut_in closed arcs) q) t → nodes_from (turned_in closed q.terminal head arcs) q.source t.arcs ≡ nodes_from (shut_in closed arcs) q.source t.arcs
    nodes {t} o =
        let w = (shut_ways closed arcs low node o.list).0 o.route.path.way in
        subst (λ (l : List ℕ). nodes_from (turned_in closed q.terminal head arcs) q.source l ≡ nodes_from (shut_in closed arcs) q.source l) (own o.is) (turned_nodes closed q.terminal head arcs low q.source w.0 w.1)
      where
        own : t ≡ route_of (shut_in closed arcs) o.list → o.list ≡ t.arcs
        own e = sym (ap (λ (u : Route). u.arcs) e)
