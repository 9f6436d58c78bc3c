-- What finishing a node does to the entries: each stays, or becomes that of a way over the node; and then no arc into the node gains. Assumes nothing.
use mathlib.Core.Path.{◌≡◌, refl, sym, ap, ◌∙◌}
use mathlib.Core.Logic.{⊎_elim}
use mathlib.Core.Bool.{Bool, true, false, false≢true}
use mathlib.Core.List.{List, [], foldl}
use Prim.Native.Nat.{ℕ, zero, suc, ◌+◌, ◌≤◌, ◌<◌}
use native.Mathlib.Decide.{ℕ_discrete}
use native.Mathlib.Omega.{arith}
use lib.ListN.{length, drop, drop_of_length-le}
use lib.Seq.{drop-cons}
use Rattle.laws.specs.Sets.{bit, with}
use Rattle.laws.proofs.SetLaws.{bit_empty, bit_le_one, bit_with, bit_with_same, bit_with_other}
use Rattle.problem.specs.declared.Arc.{Arc}
use Rattle.problem.specs.declared.Exposure.{Exposure}
use Rattle.problem.specs.Table.{SoundArc}
use Rattle.problem.specs.Exposures.{of_arc, disjoint}
use Rattle.problem.specs.Routes.{arc_at}
use Rattle.side.specs.declared.Distance.{Distance}
use Rattle.side.specs.Side.{entry_at, reached_at, metres_at}
use Rattle.side.specs.Relaxing.{relaxed_by, finished_in, with_tail, tails_into}
use Rattle.side.proofs.RelaxLaws.{metres_by, gains, nearer, Gained, gains_gained, gains_not, gains_barred, relaxed_nearer, gains_stays, nearer_lower, nearer_idle, entry_other, reached_tail, metres_tail}
use Rattle.side.proofs.FreeArcsLaws.{other_head, exposed, free_into_lem}
use Rattle.side.proofs.FinishLaws.{relaxed_not, relaxed_gains, relaxed_idle, tails_not, tails_free}
use Rattle.side.proofs.FairLaws.{Fair, fair_nearer}

-- ---- one entry

-- u's way leads over v: it is no shorter than v's was, shorter than u's own was, and its first arc is one of those into v
pub record Over (v : ℕ) (s t : List Distance) (tails u : ℕ) : Type 0 where
  pub is_reached : reached_at t u ≡ true
  pub beyond : metres_at s v ≤ metres_at t u
  pub less : reached_at s u ≡ true → metres_at t u < metres_at s u
  pub is_tail : bit tails u ≡ 1

pub data Moved (v : ℕ) (s t : List Distance) (tails u : ℕ) : Type 0 where
  kept : entry_at t u ≡ entry_at s u → Moved v s t tails u
  over : Over v s t tails u → Moved v s t tails u

module _ (v : ℕ) (s t : List Distance) (tails u : ℕ) where
  -- an entry no farther than v's is never changed
  pub moved_stays : Moved v s t tails u → reached_at s u ≡ true → metres_at s u ≤ metres_at s v → entry_at t u ≡ entry_at s u
  moved_stays (Moved.kept e) r h = e
  moved_stays (Moved.over o) r h = absurd (omega (arith, o.beyond, o.less r))

  -- a reached node stays reached, and gets no farther
  pub moved_lower : Moved v s t tails u → reached_at s u ≡ true → (reached_at t u ≡ true) × (metres_at t u ≤ metres_at s u)
  moved_lower (Moved.kept e) r = (ap (λ (d : Distance). d.reached) e ∙ r, omega (arith, ap (λ (d : Distance). d.metres) e))
  moved_lower (Moved.over o) r = (o.is_reached, omega (arith, o.less r))

  -- so does one that is the same
  moved_same : (w : List Distance) (more : ℕ) → entry_at w u ≡ entry_at t u → bit tails u ≤ bit more u → bit more u ≤ 1 → Moved v s t tails u → Moved v s w more u
  moved_same w more same h one (Moved.kept e) = Moved.kept (same ∙ e)
  moved_same w more same h one (Moved.over o) =
      let metres = ap (λ (d : Distance). d.metres) same in
      Moved.over (record {
        is_reached = ap (λ (d : Distance). d.reached) same ∙ o.is_reached;
        beyond = omega (arith, metres, o.beyond);
        less = λ r. omega (arith, metres, o.less r);
        is_tail = omega (arith, o.is_tail);
      })

-- ---- all entries, arc by arc

module _ (arcs : List Arc) (terminal : ℕ) (banned : Exposure) (v : ℕ) (s : List Distance) where
  -- of the first k arcs those into v are relaxed: t are the entries, `tails` the tails of the free ones
  pub record Relaxed (t : List Distance) (tails k : ℕ) : Type 0 where
    pub fair : Fair arcs terminal banned t
    pub moved : (u : ℕ) → Moved v s t tails u
    pub tails_reached : (u : ℕ) → bit tails u ≡ 1 → reached_at t u ≡ true
    pub idle : (j : ℕ) → j < k → (arc_at arcs j).head ≡ v → gains banned t (arc_at arcs j) ≡ false

  relaxed_none : Fair arcs terminal banned s → Relaxed s 0 0
  relaxed_none fair = record { fair = fair; moved = λ u. Moved.kept refl; tails_reached = λ u e. absurd (omega (arith, bit_empty u)); idle = λ j l. absurd (omega arith) }

  module _ (reached : reached_at s v ≡ true) (t : List Distance) (tails k : ℕ) (inside : k < length arcs) (sound : SoundArc (arc_at arcs k)) (r : Relaxed t tails k) where
    abbrev a : Arc
    a = arc_at arcs k

    -- the arcs before k, and k
    idle_more : (w : List Distance) → ((j : ℕ) → j < k → (arc_at arcs j).head ≡ v → gains banned w (arc_at arcs j) ≡ false) → (a.head ≡ v → gains banned w a ≡ false)
        → (j : ℕ) → j < suc k → (arc_at arcs j).head ≡ v → gains banned w (arc_at arcs j) ≡ false
    idle_more w before last j l here = go (ℕ_discrete j k)
      where
        go : Dec (j ≡ k) → gains banned w (arc_at arcs j) ≡ false
        go (yes e) = rw e (last (rw e at here))
        go (no n) = before j (omega arith) here

    more_tails : (u : ℕ) → (bit tails u ≤ bit (with tails a.tail) u) × (bit (with tails a.tail) u ≤ 1)
    more_tails u = (omega (arith, bit_with tails a.tail u), bit_le_one (with tails a.tail) u)

    -- it is not one of them
    skipped : (a.head ≡ v → gains banned t a ≡ false) → Relaxed t tails (suc k)
    skipped none = record { fair = r.fair; moved = r.moved; tails_reached = r.tails_reached; idle = idle_more t r.idle none }

    module _ (here : a.head ≡ v) (free : disjoint (of_arc a) banned ≡ true) where
      head_reached : reached_at t a.head ≡ true
      head_reached = ap (reached_at t) here ∙ (moved_lower v s t tails v (r.moved v) reached).0

      -- it gains nothing
      idle_one : gains banned t a ≡ false → Relaxed t (with tails a.tail) (suc k)
      idle_one none = record {
        fair = r.fair;
        moved = λ u. moved_same v s t tails u t (with tails a.tail) refl (more_tails u).0 (more_tails u).1 (r.moved u);
        tails_reached = λ u e. at u e (ℕ_discrete u a.tail);
        idle = idle_more t r.idle (λ h. none);
      }
        where
          at : (u : ℕ) → bit (with tails a.tail) u ≡ 1 → Dec (u ≡ a.tail) → reached_at t u ≡ true
          at u e (yes q) = ap (reached_at t) q ∙ (gains_not banned t a none free head_reached).0
          at u e (no n) = r.tails_reached u (sym (bit_with_other tails a.tail u n) ∙ e)

      module _ (gain : Gained banned t a) where
        tail_inside : a.tail < length t
        tail_inside = omega (arith, sound.tail_node, r.fair.small.entries_size)

        -- the tail's entry is made anew
        over_tail : Over v s (nearer t a) (with tails a.tail) a.tail
        unfolding metres_by
        over_tail =
            let new = metres_tail t a tail_inside in
            let stays = ap (λ (d : Distance). d.metres) (moved_stays v s t tails v (r.moved v) reached (omega arith)) in
            record {
              is_reached = reached_tail t a tail_inside;
              beyond = omega (arith, new, stays, ap (metres_at t) here);
              less = λ was.
                  let l = moved_lower v s t tails a.tail (r.moved a.tail) was in
                  ⊎_elim (λ f. absurd (false≢true (sym f ∙ l.0))) (λ x. omega (arith, x, new, l.1)) gain.tail_nearer;
              is_tail = bit_with_same tails a.tail;
            }

        gained_one : Relaxed (nearer t a) (with tails a.tail) (suc k)
        gained_one = record {
          fair = fair_nearer arcs terminal banned t k inside sound r.fair gain;
          moved = λ u. moved_at u (ℕ_discrete u a.tail);
          tails_reached = λ u e. reached_at_lem u e (ℕ_discrete u a.tail);
          idle = idle_more (nearer t a) (λ j l h. still j h (r.idle j l h)) (λ h. nearer_idle banned t a tail_inside sound.ends_differ);
        }
          where
            moved_at : (u : ℕ) → Dec (u ≡ a.tail) → Moved v s (nearer t a) (with tails a.tail) u
            moved_at u (yes q) = rw q (Moved.over over_tail)
            moved_at u (no n) = moved_same v s t tails u (nearer t a) (with tails a.tail) (entry_other t a u n) (more_tails u).0 (more_tails u).1 (r.moved u)

            reached_at_lem : (u : ℕ) → bit (with tails a.tail) u ≡ 1 → Dec (u ≡ a.tail) → reached_at (nearer t a) u ≡ true
            reached_at_lem u e (yes q) = ap (reached_at (nearer t a)) q ∙ reached_tail t a tail_inside
            reached_at_lem u e (no n) = ap (λ (d : Distance). d.reached) (entry_other t a u n) ∙ r.tails_reached u (sym (bit_with_other tails a.tail u n) ∙ e)

            still : (j : ℕ) → (arc_at arcs j).head ≡ v → gains banned t (arc_at arcs j) ≡ false → gains banned (nearer t a) (arc_at arcs j) ≡ false
            still j h none =
                gains_stays banned t (nearer t a) (arc_at arcs j) (entry_other t a (arc_at arcs j).head (λ q. sound.ends_differ (sym q ∙ h ∙ sym here)))
                (nearer_lower banned t a tail_inside gain (arc_at arcs j).tail) none

    relaxed_more : Relaxed (relaxed_by banned v t a) (with_tail banned v tails a) (suc k)
    relaxed_more = go (ℕ_discrete a.head v) (disjoint (of_arc a) banned) refl (gains banned t a) refl
      where
        go : Dec (a.head ≡ v) → (free : Bool) → disjoint (of_arc a) banned ≡ free → (g : Bool) → gains banned t a ≡ g → Relaxed (relaxed_by banned v t a) (with_tail banned v tails a) (suc k)
        go (no n) f e g q = rw (relaxed_not banned v t a (other_head banned v a n), tails_not banned v tails a (other_head banned v a n)) (skipped (λ h. absurd (n h)))
        go (yes h) false e g q = rw (relaxed_not banned v t a (exposed banned v a e), tails_not banned v tails a (exposed banned v a e)) (skipped (λ here. gains_barred banned t a e))
        go (yes h) true e false q = rw (relaxed_idle banned v t a h q, tails_free banned v tails a (free_into_lem banned v a h e)) (idle_one h e q)
        go (yes h) true e true q = rw (relaxed_gains banned v t a h q ∙ relaxed_nearer banned t a q, tails_free banned v tails a (free_into_lem banned v a h e)) (gained_one h e (gains_gained banned t a q))

  module _ (reached : reached_at s v ≡ true) (sound : (k : ℕ) → k < length arcs → SoundArc (arc_at arcs k)) where
    relaxed_from : (d k : ℕ) (t : List Distance) (tails : ℕ) → k + d ≡ length arcs → Relaxed t tails k
        → Relaxed (foldl (relaxed_by banned v) t (drop k arcs)) (foldl (with_tail banned v) tails (drop k arcs)) (length arcs)
    relaxed_from zero k t tails e r = let all : k ≡ length arcs = omega arith in rw (drop_of_length-le arcs {i = k} (omega arith)) (rw all at r)
    relaxed_from (suc d) k t tails e r =
        rw (drop-cons arcs k (arc_at [] 0) (omega arith))
        (relaxed_from d (suc k) _ _ (omega arith) (relaxed_more reached t tails k (omega arith) (sound k (omega arith)) r))

    -- once v is finished
    pub relaxed_all : Fair arcs terminal banned s → Relaxed (finished_in banned v s arcs) (tails_into banned v arcs) (length arcs)
    unfolding finished_in tails_into
    relaxed_all fair = relaxed_from (length arcs) 0 s 0 (omega arith) (relaxed_none fair)
