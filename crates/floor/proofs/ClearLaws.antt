-- Clearing: an arc that clears a risk keeps what clearing says of ways, and where no arc is due and the reach has kept none from clearing, what is
-- left lies on every way: along it, what a node is exposed to, the arc is or the next node. Assumes nothing.
use mathlib.Core.Path.{◌≡◌, refl, sym, ap, ◌∙◌}
use mathlib.Core.Logic.{◌⊎◌, inl, inr, ⊎_elim}
use mathlib.Core.Bool.{Bool, true, false, false≢true}
use mathlib.Core.List.{List, [], ◌∷◌, map}
use Prim.Native.Nat.{ℕ, ◌+◌, ◌-◌, ◌≤◌, ◌<◌, ◌^◌, min, max}
use native.Mathlib.Decide.{ℕ_discrete, dec_lt}
use native.Mathlib.Omega.{arith}
use lib.ListN.{length, length-set, get_or-eq_default}
use Rattle.std.proofs.lemmas.List.{get_or-map, length-map}
use lib.Seq.{get_or-set_same, get_or-set_other}
use lib.Bits.{bit_and, and_le_l}
use Rattle.laws.specs.Sets.{bit, with, Lowest}
use Rattle.laws.proofs.SetLaws.{bit_empty, bit_le_one, bit_with, bit_with_same, with_inside, bit_but_lowest}
use Rattle.problem.specs.Table.{last_node, nodes, hazards, all_sound, SoundArc}
use Rattle.problem.specs.declared.Arc.{Arc}
use Rattle.problem.specs.declared.Exposure.{Exposure}
use Rattle.problem.specs.Exposures.{exposed, to_nothing, to_all, of_arc, common}
use Rattle.problem.specs.Routes.{Mesh, arc_at, metres_of, exposure_of, Way, FreeWay}
use Rattle.problem.proofs.TableLaws.{sound_at}
use Rattle.problem.proofs.ExposureLaws.{exposed_le_one, exposed_nothing, exposed_all, exposed_joined, exposed_common, exposure_ext, disjoint_nothing}
use Rattle.chain.specs.Chain.{NextBy}
use Rattle.side.specs.declared.Distance.{Distance}
use Rattle.side.specs.Side.{unreached, entry_at, reached_at, metres_at, SideTable}
use Rattle.side.proofs.StoreLaws.{reached_inside}
use Rattle.floor.specs.declared.Held.{Held}
use Rattle.floor.specs.Clearing.{held_at, reached_from, metres_from, exposure_at, start_of, exposure_over, cleared_by, Avoids, Clearing, Finished}

-- ---- ways that avoid a risk

module _ (arcs : List Arc) (terminal : ℕ) where
  -- where nothing is banned, every way is free
  pub way_free : {v : ℕ} {ks : List ℕ} → Way arcs v terminal ks → FreeWay arcs to_nothing terminal v ks
  way_free {ks = ks} w = record { way = w; free = disjoint_nothing (exposure_of arcs ks) }

  avoids_longer : {v b m n : ℕ} → Avoids arcs terminal v b m → m ≤ n → Avoids arcs terminal v b n
  avoids_longer w l = record { list = w.list; way = w.way; free = w.free; short = omega (arith, w.short) }

  -- over an arc that is free of the risk
  avoids_over : {b m n : ℕ} (k : ℕ) → k < length arcs → exposed (of_arc (arc_at arcs k)) b ≡ 0 → Avoids arcs terminal (arc_at arcs k).head b m → m + (arc_at arcs k).metres ≤ n → Avoids arcs terminal (arc_at arcs k).tail b n
  unfolding metres_of exposure_of
  avoids_over k h f w l =
      record { list = k ∷ w.list; way = Way.over h refl w.way; free = rw exposed_joined (omega (arith, w.free)); short = omega (arith, w.short) }

  avoids_there : {v : ℕ} (b n : ℕ) → v ≡ terminal → Avoids arcs terminal v b n
  unfolding metres_of exposure_of
  avoids_there b n e = record { list = []; way = Way.there e; free = exposed_nothing b; short = omega arith }

-- ---- before the first arc

module _ (plain : List Distance) (terminal : ℕ) (size : length plain ≡ nodes) (node : terminal ≤ last_node) where
  abbrev spread : List Held
  spread = map (λ (e : Distance). record { entry = e; exposure = to_all }) plain

  -- a node is exposed to all that there is
  start_other : (v : ℕ) → v < nodes → (v ≡ terminal → ⊥) → held_at (start_of plain terminal) v ≡ record { entry = entry_at plain v; exposure = to_all }
  unfolding start_of
  start_other v h n = get_or-set_other spread terminal v _ _ n ∙ get_or-map (λ (e : Distance). record { entry = e; exposure = to_all }) plain v unreached _ (omega (arith, size))

  -- but for the terminal
  start_there : held_at (start_of plain terminal) terminal ≡ record { entry = entry_at plain terminal; exposure = to_nothing }
  unfolding start_of
  start_there = get_or-set_same spread terminal _ _ (omega (arith, length-map {B = Held} plain (λ (e : Distance). record { entry = e; exposure = to_all }), size))

  start_all : (v : ℕ) → v < nodes → (v ≡ terminal → ⊥) → exposure_at (start_of plain terminal) v ≡ to_all
  start_all v h n = ap (λ (x : Held). x.exposure) (start_other v h n)

  start_none : exposure_at (start_of plain terminal) terminal ≡ to_nothing
  start_none = ap (λ (x : Held). x.exposure) start_there

  start_size : length (start_of plain terminal) ≡ nodes
  unfolding start_of
  start_size = length-set spread terminal _ ∙ length-map {B = Held} plain (λ (e : Distance). record { entry = e; exposure = to_all }) ∙ size

  -- entries are those of `plain`
  start_entry : (v : ℕ) → (held_at (start_of plain terminal) v).entry ≡ entry_at plain v
  start_entry v = elim (ℕ_discrete v terminal) [
    | yes q ↦ rw q (ap (λ (x : Held). x.entry) start_there)
    | no n ↦ elim (dec_lt v nodes) [
      | yes l ↦ ap (λ (x : Held). x.entry) (start_other v l n)
      | no l ↦ ap (λ (x : Held). x.entry) (get_or-eq_default (start_of plain terminal) (held_at [] 0) {n = v} (omega (arith, start_size)))
          ∙ sym (get_or-eq_default plain unreached {n = v} (omega (arith, size)))
    ]
  ]

  pub clearing_start : (arcs : List Arc) (reach : ℕ) → Clearing arcs terminal reach plain (start_of plain terminal)
  clearing_start arcs reach = record {
    size = start_size;
    same_reached = λ v. ap (λ (e : Distance). e.reached) (start_entry v);
    avoids = λ v e b l z. elim (ℕ_discrete v terminal) [
      | yes q ↦ avoids_there arcs terminal b (metres_from (start_of plain terminal) v) q
      | no n ↦
          let inside = reached_inside plain v (sym (ap (λ (d : Distance). d.reached) (start_entry v)) ∙ e) in
          absurd (omega (arith, z, ap (λ (x : Exposure). exposed x b) (start_all v (omega (arith, inside, size)) n), exposed_all b l))
    ];
    within = λ v. omega (arith, ap (λ (e : Distance). e.metres) (start_entry v));
    terminal_clear = start_none;
  }

-- ---- one arc

nothing_common : (a b : Exposure) → a ≡ to_nothing → common a b ≡ to_nothing
nothing_common a b e = exposure_ext _ _ (λ r. rw (exposed_common, e, exposed_nothing) (omega arith))

-- where nothing is left, nothing is cleared
pub nothing_over : (s : List Held) (a : Arc) → exposure_at s a.tail ≡ to_nothing → exposure_over s a ≡ exposure_at s a.tail
nothing_over s a e = nothing_common _ _ e ∙ sym e

-- what is changed where the tail's place is made anew: its length and exposure, and not whether it is reached
module _ (s : List Held) (a : Arc) (far : ℕ) (size : length s ≡ nodes) (tail_node : a.tail ≤ last_node) where
  abbrev then : List Held
  then = cleared_by s a far

  cleared_size : length then ≡ nodes
  unfolding cleared_by
  cleared_size = length-set s a.tail _ ∙ size

  cleared_there : held_at then a.tail ≡ record { entry = record { metres = far; reached = reached_from s a.tail }; exposure = exposure_over s a }
  unfolding cleared_by
  cleared_there = get_or-set_same s a.tail _ _ (omega (arith, size))

  cleared_other : (v : ℕ) → (v ≡ a.tail → ⊥) → held_at then v ≡ held_at s v
  unfolding cleared_by
  cleared_other v n = get_or-set_other s a.tail v _ _ n

  cleared_exposure : exposure_at then a.tail ≡ exposure_over s a
  cleared_exposure = ap (λ (x : Held). x.exposure) cleared_there

  other_exposure : (v : ℕ) → (v ≡ a.tail → ⊥) → exposure_at then v ≡ exposure_at s v
  other_exposure v n = ap (λ (x : Held). x.exposure) (cleared_other v n)

  cleared_reached : (v : ℕ) → reached_from then v ≡ reached_from s v
  cleared_reached v = elim (ℕ_discrete v a.tail) [
    | yes q ↦ rw q (ap (λ (x : Held). x.entry.reached) cleared_there)
    | no n ↦ ap (λ (x : Held). x.entry.reached) (cleared_other v n)
  ]

module _ (arcs : List Arc) (terminal reach : ℕ) (plain : List Distance) (s : List Held) (k far : ℕ) (inside : k < length arcs) (sound : SoundArc (arc_at arcs k))
    (reached : reached_from s (arc_at arcs k).head ≡ true) (fits : metres_from s (arc_at arcs k).head + (arc_at arcs k).metres ≤ reach)
    (longer : far ≡ max (metres_from s (arc_at arcs k).tail) (metres_from s (arc_at arcs k).head + (arc_at arcs k).metres)) (c : Clearing arcs terminal reach plain s) where
  abbrev a : Arc
  a = arc_at arcs k

  -- as it was, or over the arc
  tail_avoids : reached_from s a.tail ≡ true → (b : ℕ) → b < hazards → exposed (exposure_over s a) b ≡ 0 → Avoids arcs terminal a.tail b far
  tail_avoids e b l z = go (ℕ_discrete (exposed (exposure_at s a.tail) b) 0)
    where
      both : min (exposed (exposure_at s a.tail) b) (max (exposed (of_arc a) b) (exposed (exposure_at s a.head) b)) ≡ 0
      both = rw (exposed_common, exposed_joined) at z

      go : Dec (exposed (exposure_at s a.tail) b ≡ 0) → Avoids arcs terminal a.tail b far
      go (yes q) = avoids_longer arcs terminal (c.avoids a.tail e b l q) (omega arith)
      go (no n) = avoids_over arcs terminal k inside (omega (arith, both)) (c.avoids a.head reached b l (omega (arith, both))) (omega arith)

  pub clearing_on : Clearing arcs terminal reach plain (cleared_by s a far)
  clearing_on = record {
    size = cleared_size s a far c.size sound.tail_node;
    same_reached = λ v. still v ∙ c.same_reached v;
    avoids = λ v e b l z. avoids_at v (sym (still v) ∙ e) b l z (ℕ_discrete v a.tail);
    within = λ v. within_at v (ℕ_discrete v a.tail);
    terminal_clear = clear_at (ℕ_discrete terminal a.tail);
  }
    where
      still : (v : ℕ) → reached_from (cleared_by s a far) v ≡ reached_from s v
      still = cleared_reached s a far c.size sound.tail_node

      metres_tail : metres_from (cleared_by s a far) a.tail ≡ far
      metres_tail = ap (λ (x : Held). x.entry.metres) (cleared_there s a far c.size sound.tail_node)

      other_metres : (v : ℕ) → (v ≡ a.tail → ⊥) → metres_from (cleared_by s a far) v ≡ metres_from s v
      other_metres v n = ap (λ (x : Held). x.entry.metres) (cleared_other s a far c.size sound.tail_node v n)

      exposed_tail : exposure_at (cleared_by s a far) a.tail ≡ exposure_over s a
      exposed_tail = cleared_exposure s a far c.size sound.tail_node

      exposed_other : (v : ℕ) → (v ≡ a.tail → ⊥) → exposure_at (cleared_by s a far) v ≡ exposure_at s v
      exposed_other = other_exposure s a far c.size sound.tail_node

      avoids_at : (v : ℕ) → reached_from s v ≡ true → (b : ℕ) → b < hazards → exposed (exposure_at (cleared_by s a far) v) b ≡ 0 → Dec (v ≡ a.tail)
          → Avoids arcs terminal v b (metres_from (cleared_by s a far) v)
      avoids_at v e b l z (yes q) = rw (q, metres_tail) (tail_avoids (rw q at e) b l (ap (λ (x : Exposure). exposed x b) (sym exposed_tail) ∙ (rw q at z)))
      avoids_at v e b l z (no n) = rw (other_metres v n) (c.avoids v e b l (ap (λ (x : Exposure). exposed x b) (sym (exposed_other v n)) ∙ z))

      within_at : (v : ℕ) → Dec (v ≡ a.tail) → metres_from (cleared_by s a far) v ≤ max reach (metres_at plain v)
      within_at v (yes q) = rw (q, metres_tail) (omega (arith, c.within a.tail))
      within_at v (no n) = rw (other_metres v n) (c.within v)

      clear_at : Dec (terminal ≡ a.tail) → exposure_at (cleared_by s a far) terminal ≡ to_nothing
      clear_at (yes q) = ap (exposure_at (cleared_by s a far)) q ∙ (exposed_tail ∙ nothing_common _ _ (ap (exposure_at s) (sym q) ∙ c.terminal_clear))
      clear_at (no n) = exposed_other terminal n ∙ c.terminal_clear

-- ---- from arc to arc

module _ (arcs : List Arc) where
  -- over arc j its tail can avoid no more
  abbrev pub Idle : List Held → ℕ → Type 0
  Idle s j = (b : ℕ) → exposed (exposure_at s (arc_at arcs j).tail) b ≤ max (exposed (of_arc (arc_at arcs j)) b) (exposed (exposure_at s (arc_at arcs j).head) b)

  -- no arc lets a tail avoid more
  abbrev pub Settled : List Held → Type 0
  Settled s = (j : ℕ) → j < length arcs → reached_from s (arc_at arcs j).head ≡ true → Idle s j

  -- arc j is still to be gone over: its head is pending, or it is an arc into the node at hand, from arc k on
  pub data Due (pending k j : ℕ) : Type 0 where
    head_pending : bit pending (arc_at arcs j).head ≡ 1 → Due pending k j
    ahead : k ≤ j → (arc_at arcs j).head ≡ (arc_at arcs k).head → Due pending k j

  -- what holds between two arcs: of those that are not due, none lets its tail avoid more, unless the reach has kept one from it
  pub record Between (s : List Held) (pending k : ℕ) (cut : Bool) : Type 0 where
    pub few : pending < 2 ^ nodes
    pub to : k ≤ length arcs
    pub gone_over : cut ≡ false → (j : ℕ) → j < length arcs → reached_from s (arc_at arcs j).head ≡ true → Due pending k j ⊎ Idle s j

  -- with nothing pending and no arc ahead, all is settled
  pub between_settled : {s : List Held} {pending k : ℕ} {cut : Bool} → Between s pending k cut → pending ≡ 0 → length arcs ≤ k → cut ≡ false → Settled s
  between_settled {s} {pending} {k} t none past e j h r = go (t.gone_over e j h r)
    where
      go : Due pending k j ⊎ Idle s j → Idle s j
      go (inl (head_pending p)) = absurd (omega (arith, ap (λ (x : ℕ). bit x (arc_at arcs j).head) none, bit_empty (arc_at arcs j).head, p))
      go (inl (ahead l e)) = absurd (omega arith)
      go (inr i) = i

  -- from the node at hand to the lowest that is pending
  pub between_node : {s : List Held} {pending k h first : ℕ} {cut : Bool} → Between s pending k cut → length arcs ≤ k → Lowest pending h
      → NextBy (λ (a : Arc). a.head) arcs h 0 first → Between s (bit_and pending (pending - 1)) first cut
  between_node {s} {pending} {k} {h} {first} {cut} t past low chain = record {
    few = omega (arith, t.few, and_le_l pending (pending - 1));
    to = chain.to;
    gone_over = λ e j l r. go j l (t.gone_over e j l r) (ℕ_discrete (arc_at arcs j).head h);
  }
    where
      go : (j : ℕ) → j < length arcs → Due pending k j ⊎ Idle s j → Dec ((arc_at arcs j).head ≡ h) → Due (bit_and pending (pending - 1)) first j ⊎ Idle s j
      go j l (inr i) d = inr i
      go j l (inl (ahead o e)) d = absurd (omega arith)
      go j l (inl (head_pending p)) (yes q) = elim (dec_lt j first) [
        | yes o ↦ absurd (chain.skipped j (omega arith) o q)
        | no o ↦ inl (ahead (omega arith) (q ∙ sym (chain.here (omega arith))))
      ]
      go j l (inl (head_pending p)) (no n) = inl (head_pending (bit_but_lowest pending h _ low n ∙ p))

  -- over arc k, and on to the next arc of its head
  module _ {s : List Held} {pending k next : ℕ} {cut : Bool} (t : Between s pending k cut) (inside : k < length arcs)
      (chain : NextBy (λ (a : Arc). a.head) arcs (arc_at arcs k).head (k + 1) next) where
    -- what is due stays due, but for arc k itself
    due_on : (more : ℕ) → ((u : ℕ) → bit pending u ≡ 1 → bit more u ≡ 1) → (j : ℕ) → j < length arcs → (j ≡ k → ⊥) → Due pending k j → Due more next j
    due_on more f j l n (head_pending p) = head_pending (f _ p)
    due_on more f j l n (ahead o e) = elim (dec_lt j next) [
      | yes x ↦ absurd (chain.skipped j (omega arith) x e)
      | no x ↦ ahead (omega arith) (e ∙ sym (chain.here (omega arith)))
    ]

    pub between_idle : (reached_from s (arc_at arcs k).head ≡ true → Idle s k) → Between s pending next cut
    between_idle idle = record {
      few = t.few;
      to = chain.to;
      gone_over = λ e j l r. elim (ℕ_discrete j k) [
        | yes q ↦ inr (rw q (idle (rw q at r)))
        | no n ↦ ⊎_elim (λ d. inl (due_on pending (λ u p. p) j l n d)) inr (t.gone_over e j l r)
      ];
    }

    pub between_cut : Between s pending next true
    between_cut = record { few = t.few; to = chain.to; gone_over = λ e. absurd (false≢true (sym e)) }

    -- the tail's exposure made anew: the tail is pending, and no other node's changes
    module _ (sound : SoundArc (arc_at arcs k)) (size : length s ≡ nodes) (far : ℕ) where
      abbrev gone : Arc
      gone = arc_at arcs k

      abbrev s' : List Held
      s' = cleared_by s gone far

      exposed_tail : exposure_at s' gone.tail ≡ exposure_over s gone
      exposed_tail = cleared_exposure s gone far size sound.tail_node

      exposed_other : (v : ℕ) → (v ≡ gone.tail → ⊥) → exposure_at s' v ≡ exposure_at s v
      exposed_other = other_exposure s gone far size sound.tail_node

      -- no node is exposed to more
      exposed_less : (v b : ℕ) → exposed (exposure_at s' v) b ≤ exposed (exposure_at s v) b
      exposed_less v b = elim (ℕ_discrete v gone.tail) [
        | yes q ↦ rw (q, exposed_tail, exposed_common) (omega arith)
        | no n ↦ omega (arith, ap (λ (x : Exposure). exposed x b) (exposed_other v n))
      ]

      pub between_clears : Between s' (with pending gone.tail) next cut
      between_clears = record {
        few = with_inside nodes pending gone.tail t.few (omega (arith, sound.tail_node));
        to = chain.to;
        gone_over = λ e j l r. over j l (sym (cleared_reached s gone far size sound.tail_node _) ∙ r) e (ℕ_discrete (arc_at arcs j).head gone.tail) (ℕ_discrete j k);
      }
        where
          more : (u : ℕ) → bit pending u ≡ 1 → bit (with pending gone.tail) u ≡ 1
          more u p = omega (arith, bit_with pending gone.tail u, bit_le_one (with pending gone.tail) u)

          over : (j : ℕ) → j < length arcs → reached_from s (arc_at arcs j).head ≡ true → cut ≡ false → Dec ((arc_at arcs j).head ≡ gone.tail) → Dec (j ≡ k) → Due (with pending gone.tail) next j ⊎ Idle s' j
          over j l r e (yes q) d = inl (head_pending (ap (bit (with pending gone.tail)) q ∙ bit_with_same pending gone.tail))
          over j l r e (no n) (yes q) = inr (λ b. rw (q, exposed_tail, exposed_other gone.head (λ z. n (rw q z)), exposed_common, exposed_joined) (omega arith))
          over j l r e (no n) (no o) = ⊎_elim (λ d. inl (due_on (with pending gone.tail) more j l o d))
              (λ i. inr (λ b. rw (exposed_other _ n) (omega (arith, i b, exposed_less (arc_at arcs j).tail b)))) (t.gone_over e j l r)

      -- of the arc as the code holds it
      pub between_over : (b : Arc) → b ≡ arc_at arcs k → Between (cleared_by s b far) (with pending b.tail) next cut
      between_over b is = rw is between_clears

-- an arc that leaves its tail with what it was exposed to
pub idle_same : (arcs : List Arc) (s : List Held) (k : ℕ) (a : Arc) → a ≡ arc_at arcs k → exposure_over s a ≡ exposure_at s a.tail → Idle arcs s k
idle_same arcs s k a is e b = omega (arith, rw (exposed_common, exposed_joined) at (ap (λ (x : Exposure). exposed x b) (rw is at e)))

-- and one that clears, as the code holds it
pub clearing_over : (arcs : List Arc) (terminal reach : ℕ) (plain : List Distance) (s : List Held) (k far : ℕ) (a : Arc) → a ≡ arc_at arcs k → k < length arcs → SoundArc a
    → reached_from s a.head ≡ true → metres_from s a.head + a.metres ≤ reach
    → far ≡ max (metres_from s a.tail) (metres_from s a.head + a.metres) → Clearing arcs terminal reach plain s → Clearing arcs terminal reach plain (cleared_by s a far)
clearing_over arcs terminal reach plain s k far a is h sound e l m c =
    rw is (clearing_on arcs terminal reach plain s k far h (rw is at sound) (rw is at e) (rw is at l) (rw is at m) c)

-- before the first arc only the terminal is pending: every other node is exposed to all that there is
pub between_start : (arcs : List Arc) (plain : List Distance) (terminal : ℕ) → length plain ≡ nodes → all_sound arcs ≡ true → terminal ≤ last_node → Between arcs (start_of plain terminal) (with 0 terminal) (length arcs) false
between_start arcs plain terminal size sound node = record {
  few = with_inside nodes 0 terminal (omega arith) (omega arith);
  to = omega arith;
  gone_over = λ e j l r. elim (ℕ_discrete (arc_at arcs j).head terminal) [
    | yes q ↦ inl (head_pending (ap (bit (with 0 terminal)) q ∙ bit_with_same 0 terminal))
    | no n ↦ inr (λ b. all_exposed j l n b)
  ];
}
  where
    all_exposed : (j : ℕ) → j < length arcs → ((arc_at arcs j).head ≡ terminal → ⊥) → Idle arcs (start_of plain terminal) j
    all_exposed j l n b =
        let arc = sound_at arcs sound j l in
        let at_head = start_all plain terminal size node (arc_at arcs j).head (omega (arith, arc.head_node)) n in
        elim (ℕ_discrete (arc_at arcs j).tail terminal) [
          | yes q ↦ rw (q, at_head, start_none plain terminal size node) (omega (arith, exposed_nothing b))
          | no m ↦ rw (start_all plain terminal size node (arc_at arcs j).tail (omega (arith, arc.tail_node)) m, at_head) (omega arith)
        ]

-- ---- the end of it

module _ (arcs : List Arc) (terminal : ℕ) (plain : List Distance) (table : SideTable arcs terminal to_nothing plain) where
  way_reached : {v : ℕ} {ks : List ℕ} → Way arcs v terminal ks → reached_at plain v ≡ true
  way_reached {v} {ks} w = go (reached_at plain v) refl
    where
      go : (t : Bool) → reached_at plain v ≡ t → reached_at plain v ≡ true
      go true e = e
      go false e = absurd (table.none v e ks (way_free arcs terminal w))

  settled_on_every : {reach : ℕ} (s : List Held) → Clearing arcs terminal reach plain s → Settled arcs s → (b : ℕ) {v : ℕ} {ks : List ℕ} → Way arcs v terminal ks
      → exposed (exposure_at s v) b ≡ 1 → exposed (exposure_of arcs ks) b ≡ 1
  unfolding exposure_of
  settled_on_every s c settled b (Way.there e) q =
      absurd (omega (arith, q, exposed_nothing b, ap (λ (u : ℕ). exposed (exposure_at s u) b) e, ap (λ (x : Exposure). exposed x b) c.terminal_clear))
  settled_on_every s c settled b {v} (Way.over {k = k} {ks = ks} h t w) q =
      rw exposed_joined (go (ℕ_discrete (exposed (exposure_at s (arc_at arcs k).head) b) 1) (λ e. settled_on_every s c settled b w e))
    where
      left : exposed (exposure_at s (arc_at arcs k).tail) b ≤ max (exposed (of_arc (arc_at arcs k)) b) (exposed (exposure_at s (arc_at arcs k).head) b)
      left = settled k h (c.same_reached (arc_at arcs k).head ∙ way_reached w) b

      here : exposed (exposure_at s (arc_at arcs k).tail) b ≡ 1
      here = ap (λ (u : ℕ). exposed (exposure_at s u) b) t ∙ q

      go : Dec (exposed (exposure_at s (arc_at arcs k).head) b ≡ 1) → (exposed (exposure_at s (arc_at arcs k).head) b ≡ 1 → exposed (exposure_of arcs ks) b ≡ 1) → max (exposed (of_arc (arc_at arcs k)) b) (exposed (exposure_of arcs ks) b) ≡ 1
      go (yes e) f = omega (arith, f e, exposed_le_one (of_arc (arc_at arcs k)) b)
      go (no n) f = omega (arith, left, here, exposed_le_one (of_arc (arc_at arcs k)) b, exposed_le_one (exposure_at s (arc_at arcs k).head) b, exposed_le_one (exposure_of arcs ks) b)

module _ (m : Mesh) (plain : List Distance) (table : SideTable m.arcs m.terminal to_nothing plain) (s : List Held) (c : Clearing m.arcs m.terminal m.reach plain s) where
  pub finished_settled : (sure : Bool) → (sure ≡ true → Settled m.arcs s) → Finished m plain s sure
  finished_settled sure f = record { clearing = c; is_on_every = λ e b q ks w. settled_on_every m.arcs m.terminal plain table s c (f e) b w q }

  pub finished_clear : exposure_at s m.source ≡ to_nothing → Finished m plain s true
  finished_clear z =
      record { clearing = c; is_on_every = λ e b q ks w. absurd (omega (arith, q, exposed_nothing b, ap (λ (x : Exposure). exposed x b) z)) }

  pub finished_unsure : Finished m plain s false
  finished_unsure = record { clearing = c; is_on_every = λ e. absurd (false≢true e) }
