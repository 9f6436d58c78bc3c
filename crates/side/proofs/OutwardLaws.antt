-- The table filled from the terminal outward: the start, one node finished, a finished entry that is never changed again, and the end. Assumes nothing.
use mathlib.Core.Path.{◌≡◌, refl, sym, ap, ◌∙◌}
use mathlib.Core.Logic.{◌⊎◌, inl, inr}
use mathlib.Core.Bool.{Bool, true, false, false≢true}
use mathlib.Core.List.{List}
use Prim.Native.Nat.{ℕ, ◌-◌, ◌^◌, ◌≤◌, ◌<◌, max}
use native.Mathlib.Decide.{ℕ_discrete}
use native.Mathlib.Omega.{arith}
use lib.Bits.{bit_or}
use lib.ListN.{length}
use Rattle.laws.specs.Sets.{bit, with, without, unmet}
use Rattle.laws.proofs.SetLaws.{bit_empty, bit_le_one, bit_or_lem, bit_with, bit_with_same, bit_with_other, bit_without, bits_below, unmet_with}
use Rattle.problem.specs.declared.Arc.{Arc}
use Rattle.problem.specs.declared.Exposure.{Exposure}
use Rattle.problem.specs.Table.{last_node, nodes, SoundArc}
use Rattle.problem.specs.Routes.{arc_at}
use Rattle.side.specs.declared.Distance.{Distance}
use Rattle.side.specs.Side.{entry_at, reached_at, metres_at, SideTable}
use Rattle.side.specs.Relaxing.{start_of, Nearest, finished_in, tails_into}
use Rattle.side.proofs.StoreLaws.{reached_inside}
use Rattle.side.proofs.RelaxLaws.{gains, gains_unreached, gains_stays}
use Rattle.side.proofs.FairLaws.{Fair, start_terminal, start_other, start_fair, settled_table}
use Rattle.side.proofs.MovedLaws.{Moved, moved_stays, moved_lower, Relaxed, relaxed_all}

module _ (arcs : List Arc) (terminal : ℕ) (banned : Exposure) where
  -- the fill under way. A node is open where it is reached and not finished; finished nodes are reached, and no farther than open ones; no arc into one gains
  pub record Outward (s : List Distance) (finished opened : ℕ) : Type 0 where
    pub fair : Fair arcs terminal banned s
    pub open_reached : (u : ℕ) → bit opened u ≡ 1 → reached_at s u ≡ true
    pub open_new : (u : ℕ) → bit opened u ≡ 1 → bit finished u ≡ 0
    pub open_all : (u : ℕ) → reached_at s u ≡ true → bit finished u ≡ 0 → bit opened u ≡ 1
    pub finished_reached : (u : ℕ) → bit finished u ≡ 1 → reached_at s u ≡ true
    pub finished_nearer : (u w : ℕ) → bit finished u ≡ 1 → bit opened w ≡ 1 → metres_at s u ≤ metres_at s w
    pub finished_idle : (k : ℕ) → k < length arcs → bit finished (arc_at arcs k).head ≡ 1 → gains banned s (arc_at arcs k) ≡ false

  -- ---- the start: the terminal is open, and nothing is finished

  pub outward_start : terminal ≤ last_node → Outward (start_of terminal) 0 (with 0 terminal)
  outward_start node = record {
    fair = start_fair terminal node arcs banned;
    open_reached = λ u e. reached_at_lem u e (ℕ_discrete u terminal);
    open_new = λ u e. bit_empty u;
    open_all = λ u e n. open_at u e (ℕ_discrete u terminal);
    finished_reached = λ u e. absurd (none u e);
    finished_nearer = λ u w e. absurd (none u e);
    finished_idle = λ k l e. absurd (none (arc_at arcs k).head e);
  }
    where
      none : (u : ℕ) → bit 0 u ≡ 1 → ⊥
      none u e = omega (arith, bit_empty u)

      reached_at_lem : (u : ℕ) → bit (with 0 terminal) u ≡ 1 → Dec (u ≡ terminal) → reached_at (start_of terminal) u ≡ true
      reached_at_lem u e (yes q) = ap (reached_at (start_of terminal)) q ∙ ap (λ (d : Distance). d.reached) (start_terminal terminal node)
      reached_at_lem u e (no n) = absurd (none u (sym (bit_with_other 0 terminal u n) ∙ e))

      open_at : (u : ℕ) → reached_at (start_of terminal) u ≡ true → Dec (u ≡ terminal) → bit (with 0 terminal) u ≡ 1
      open_at u e (yes q) = ap (bit (with 0 terminal)) q ∙ bit_with_same 0 terminal
      open_at u e (no n) = absurd (false≢true (sym (ap (λ (d : Distance). d.reached) (start_other terminal node u n)) ∙ e))

  module _ (s : List Distance) (finished opened : ℕ) (o : Outward s finished opened) where
    -- only nodes are reached, and so only nodes are open
    reached_node : (u : ℕ) → reached_at s u ≡ true → u < nodes
    reached_node u e = omega (arith, reached_inside s u e, o.fair.small.entries_size)

    pub open_nodes : opened < 2 ^ nodes
    open_nodes = bits_below nodes opened (λ u e. reached_node u (o.open_reached u e))

    -- ---- the end: where nothing is open, no arc gains

    pub outward_end : opened ≡ 0 → SideTable arcs terminal banned s
    outward_end none = settled_table arcs terminal banned s o.fair (λ k l. go k l (reached_at s (arc_at arcs k).head) refl (ℕ_discrete (bit finished (arc_at arcs k).head) 1))
      where
        go : (k : ℕ) → k < length arcs → (b : Bool) → reached_at s (arc_at arcs k).head ≡ b → Dec (bit finished (arc_at arcs k).head ≡ 1) → gains banned s (arc_at arcs k) ≡ false
        go k l false e d = gains_unreached banned s (arc_at arcs k) e
        go k l true e (yes f) = o.finished_idle k l f
        go k l true e (no n) =
            let h = (arc_at arcs k).head in
            absurd (omega (arith, o.open_all h e (omega (arith, bit_le_one finished h)), ap (λ (x : ℕ). bit x h) none, bit_empty h))

    -- ---- the nearest open node finished

    module _ (sound : (k : ℕ) → k < length arcs → SoundArc (arc_at arcs k)) (v : ℕ) (nearest : Nearest s opened v) where
      abbrev after : List Distance
      after = finished_in banned v s arcs

      abbrev tails : ℕ
      tails = tails_into banned v arcs

      pub nearest_node : v ≤ last_node
      nearest_node = omega (arith, reached_node v (o.open_reached v nearest.is_member))

      relaxed : Relaxed arcs terminal banned v s after tails (length arcs)
      relaxed = relaxed_all arcs terminal banned v s (o.open_reached v nearest.is_member) sound o.fair

      moved : (u : ℕ) → Moved v s after tails u
      moved = relaxed.moved

      -- v is finished with the others
      finished_cases : (u : ℕ) → bit (with finished v) u ≡ 1 → (bit finished u ≡ 1) ⊎ (u ≡ v)
      finished_cases u e = go (ℕ_discrete u v)
        where
          go : Dec (u ≡ v) → (bit finished u ≡ 1) ⊎ (u ≡ v)
          go (yes q) = inr q
          go (no n) = inl (sym (bit_with_other finished v u n) ∙ e)

      -- they are reached, and no farther than v
      finished_near : (u : ℕ) → bit (with finished v) u ≡ 1 → (reached_at s u ≡ true) × (metres_at s u ≤ metres_at s v)
      finished_near u e = go (finished_cases u e)
        where
          go : (bit finished u ≡ 1) ⊎ (u ≡ v) → (reached_at s u ≡ true) × (metres_at s u ≤ metres_at s v)
          go (inl f) = (o.finished_reached u f, o.finished_nearer u v f nearest.is_member)
          go (inr q) = (ap (reached_at s) q ∙ o.open_reached v nearest.is_member, omega (arith, ap (metres_at s) q))

      -- a finished entry is never changed again: the next node's arcs, and those of all that follow, leave it
      pub finished_stays : (u : ℕ) → bit (with finished v) u ≡ 1 → entry_at after u ≡ entry_at s u
      finished_stays u e = let n = finished_near u e in moved_stays v s after tails u (moved u) n.0 n.1

      still_out : (u : ℕ) → bit (with finished v) u ≡ 0 → bit finished u ≡ 0
      still_out u e = omega (arith, bit_with finished v u)

      -- what is open then
      abbrev opened_after : ℕ
      opened_after = without (bit_or opened tails) (with finished v)

      bit_after : (u : ℕ) → bit opened_after u ≡ max (bit opened u) (bit tails u) - bit (with finished v) u
      bit_after u = bit_without (bit_or opened tails) (with finished v) u ∙ ap (λ (x : ℕ). x - bit (with finished v) u) (bit_or_lem opened tails u)

      after_reached : (u : ℕ) → bit opened_after u ≡ 1 → reached_at after u ≡ true
      after_reached u e = go (ℕ_discrete (bit opened u) 1)
        where
          go : Dec (bit opened u ≡ 1) → reached_at after u ≡ true
          go (yes q) = (moved_lower v s after tails u (moved u) (o.open_reached u q)).0
          go (no n) = relaxed.tails_reached u (omega (arith, bit_after u, bit_le_one opened u, bit_le_one tails u))

      after_all : (u : ℕ) → reached_at after u ≡ true → bit (with finished v) u ≡ 0 → bit opened_after u ≡ 1
      after_all u r e = go (moved u)
        where
          go : Moved v s after tails u → bit opened_after u ≡ 1
          go (Moved.kept k) = omega (arith, bit_after u, o.open_all u (sym (ap (λ (d : Distance). d.reached) k) ∙ r) (still_out u e), bit_le_one tails u)
          go (Moved.over w) = omega (arith, bit_after u, w.is_tail, bit_le_one opened u)

      -- an open node is no nearer than v was
      after_beyond : (w : ℕ) → bit opened_after w ≡ 1 → metres_at s v ≤ metres_at after w
      after_beyond w e = go (moved w)
        where
          out : bit (with finished v) w ≡ 0
          out = omega (arith, bit_after w, bit_le_one opened w, bit_le_one tails w, bit_le_one (with finished v) w)

          go : Moved v s after tails w → metres_at s v ≤ metres_at after w
          go (Moved.kept k) =
              let was = sym (ap (λ (d : Distance). d.reached) k) ∙ after_reached w e in
              omega (arith, nearest.least w (o.open_all w was (still_out w out)), ap (λ (d : Distance). d.metres) k)
          go (Moved.over x) = x.beyond

      after_idle : (k : ℕ) → k < length arcs → bit (with finished v) (arc_at arcs k).head ≡ 1 → gains banned after (arc_at arcs k) ≡ false
      after_idle k l e = go (finished_cases (arc_at arcs k).head e)
        where
          go : (bit finished (arc_at arcs k).head ≡ 1) ⊎ ((arc_at arcs k).head ≡ v) → gains banned after (arc_at arcs k) ≡ false
          go (inl f) =
              gains_stays banned s after (arc_at arcs k) (finished_stays (arc_at arcs k).head e)
              (moved_lower v s after tails (arc_at arcs k).tail (moved (arc_at arcs k).tail)) (o.finished_idle k l f)
          go (inr h) = relaxed.idle k l h

      pub outward_finish : Outward after (with finished v) opened_after
      outward_finish = record {
        fair = relaxed.fair;
        open_reached = after_reached;
        open_new = λ u e. omega (arith, bit_after u, bit_le_one opened u, bit_le_one tails u, bit_le_one (with finished v) u);
        open_all = after_all;
        finished_reached = λ u e. ap (λ (d : Distance). d.reached) (finished_stays u e) ∙ (finished_near u e).0;
        finished_nearer = λ u w e x. omega (arith, ap (λ (d : Distance). d.metres) (finished_stays u e), (finished_near u e).1, after_beyond w x);
        finished_idle = after_idle;
      }

      -- one node fewer is left
      pub finish_less : unmet nodes (with finished v) < unmet nodes finished
      finish_less = omega (arith, unmet_with nodes v finished (omega (arith, nearest_node)) (o.open_new v nearest.is_member))
