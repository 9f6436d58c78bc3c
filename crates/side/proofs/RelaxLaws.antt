-- One arc relaxed: when it gains; then lengths stay small, and entries stay those of free ways. Assumes nothing.
use mathlib.Core.Path.{◌≡◌, refl, sym, ap, ◌∙◌}
use mathlib.Core.Logic.{◌⊎◌, inl, inr, ⊎_elim}
use mathlib.Core.Bool.{Bool, true, false, ◌&&◌, ◌||◌, not, false≢true, and-false}
use mathlib.Core.List.{List, ◌∷◌}
use Prim.Native.Nat.{ℕ, suc, ◌+◌, ◌*◌, ◌≤◌, ◌<◌}
use native.Mathlib.Decide.{ℕ_discrete}
use native.Mathlib.Omega.{arith}
use lib.Dec.{ltb}
use lib.ListN.{length, set, length-set}
use lib.Seq.{get_or-set_same, get_or-set_other}
use borrow.Author.Tests.{ltb-true, ltb-false}
use Rattle.problem.specs.declared.Arc.{Arc}
use Rattle.problem.specs.Table.{most_arc_metres, most_reach, SoundArc}
use Rattle.problem.specs.declared.Exposure.{Exposure}
use Rattle.problem.specs.Exposures.{of_arc, disjoint}
use Rattle.problem.specs.Routes.{arc_at, metres_of}
use Rattle.side.specs.declared.Distance.{Distance}
use Rattle.side.specs.Side.{unreached, entry_at, reached_at, metres_at, Reaches, Entries}
use Rattle.side.specs.Relaxing.{over, is_nearer, nearer_of, relaxed_in}
use Rattle.side.proofs.StoreLaws.{count, count_le, count_new, count_again}
use Rattle.side.proofs.FreeLaws.{free_over}

-- ---- two entries: what the code returns, test by test

module _ (tail head : Distance) (metres : ℕ) where
  pub nearer_unreached : head.reached ≡ false → false ≡ is_nearer tail head metres
  unfolding is_nearer
  nearer_unreached h = rw h

  pub nearer_new : head.reached ≡ true → tail.reached ≡ false → true ≡ is_nearer tail head metres
  unfolding is_nearer
  nearer_new h t = rw (h, t)

  pub nearer_less : head.reached ≡ true → tail.reached ≡ true → ltb (head.metres + metres) tail.metres ≡ is_nearer tail head metres
  unfolding is_nearer
  nearer_less h t = rw (h, t)

  pub nearer_if : is_nearer tail head metres ≡ true → over head metres ≡ nearer_of tail head metres
  unfolding nearer_of
  nearer_if e = rw e

  pub nearer_not : is_nearer tail head metres ≡ false → tail ≡ nearer_of tail head metres
  unfolding nearer_of
  nearer_not e = rw e

-- ---- when an arc gains

-- the length from the arc's tail, over the arc and then as the head's entry says
unfoldable pub metres_by : List Distance → Arc → ℕ
metres_by s a = metres_at s a.head + a.metres

-- the arc is free, and over it the tail gets nearer
unfoldable pub gains : Exposure → List Distance → Arc → Bool
gains banned s a = disjoint (of_arc a) banned && is_nearer (entry_at s a.tail) (entry_at s a.head) a.metres

-- the tail's entry made anew
unfoldable pub nearer : List Distance → Arc → List Distance
nearer s a = set s a.tail (over (entry_at s a.head) a.metres)

-- the arc is free, its head is reached, and its tail is not reached or gets nearer
pub record Gained (banned : Exposure) (s : List Distance) (a : Arc) : Type 0 where
  pub free : disjoint (of_arc a) banned ≡ true
  pub head_reached : reached_at s a.head ≡ true
  pub tail_nearer : (reached_at s a.tail ≡ false) ⊎ (metres_by s a < metres_at s a.tail)

tests_held : (free head tail less : Bool) → (free && (head && (not tail || less))) ≡ true → (free ≡ true) × (head ≡ true) × ((tail ≡ false) ⊎ (less ≡ true))
tests_held true true false l p = (refl, refl, inl refl)
tests_held true true true l p = (refl, refl, inr p)
tests_held true false t l p = absurd (false≢true p)
tests_held false h t l p = absurd (false≢true p)

last_held : (free nearer : Bool) → (free && nearer) ≡ true → nearer ≡ true
last_held true n p = p
last_held false n p = absurd (false≢true p)

tests_failed : (tail less : Bool) → (not tail || less) ≡ false → (tail ≡ true) × (less ≡ false)
tests_failed true false p = (refl, refl)
tests_failed true true p = absurd (false≢true (sym p))
tests_failed false l p = absurd (false≢true (sym p))

module _ (banned : Exposure) (s : List Distance) (a : Arc) where
  pub gains_gained : gains banned s a ≡ true → Gained banned s a
  unfolding gains is_nearer metres_by
  gains_gained e =
      let t = tests_held (disjoint (of_arc a) banned) (reached_at s a.head) (reached_at s a.tail) (ltb (metres_by s a) (metres_at s a.tail)) e in
      record { free = t.0; head_reached = t.1; tail_nearer = ⊎_elim inl (λ l. inr (ltb-true _ _ l)) t.2 }

  -- a free arc with a reached head that gains nothing: its tail is near enough
  pub gains_not : gains banned s a ≡ false → disjoint (of_arc a) banned ≡ true → reached_at s a.head ≡ true → (reached_at s a.tail ≡ true) × (metres_at s a.tail ≤ metres_by s a)
  unfolding gains is_nearer metres_by
  gains_not e f h =
      let t = tests_failed (reached_at s a.tail) (ltb (metres_by s a) (metres_at s a.tail)) (rw (f, h) at e) in
      (t.0, ltb-false _ _ t.1)

  pub gains_barred : disjoint (of_arc a) banned ≡ false → gains banned s a ≡ false
  unfolding gains
  gains_barred f = rw f

  pub gains_unreached : reached_at s a.head ≡ false → gains banned s a ≡ false
  unfolding gains is_nearer
  gains_unreached h = rw h (and-false (disjoint (of_arc a) banned))

  -- where an arc gains, relaxing it makes the tail's entry anew
  pub relaxed_nearer : gains banned s a ≡ true → relaxed_in s a.tail a.head a.metres ≡ nearer s a
  unfolding gains relaxed_in nearer
  relaxed_nearer e = rw (← nearer_if (entry_at s a.tail) (entry_at s a.head) a.metres (last_held (disjoint (of_arc a) banned) _ e))

-- ---- the table that an arc leaves

module _ (s : List Distance) (a : Arc) where
  abbrev over_arc_lem : Distance
  over_arc_lem = over (entry_at s a.head) a.metres

  entry_tail : a.tail < length s → entry_at (nearer s a) a.tail ≡ over_arc_lem
  unfolding nearer
  entry_tail h = get_or-set_same s a.tail over_arc_lem unreached h

  pub entry_other : (v : ℕ) → (v ≡ a.tail → ⊥) → entry_at (nearer s a) v ≡ entry_at s v
  unfolding nearer
  entry_other v n = get_or-set_other s a.tail v over_arc_lem unreached n

  pub reached_tail : a.tail < length s → reached_at (nearer s a) a.tail ≡ true
  unfolding over
  reached_tail h = ap (λ (e : Distance). e.reached) (entry_tail h)

  pub metres_tail : a.tail < length s → metres_at (nearer s a) a.tail ≡ metres_by s a
  unfolding over metres_by
  metres_tail h = ap (λ (e : Distance). e.metres) (entry_tail h)

-- ---- arcs that gain nothing more

-- where an arc gains nothing, it gains nothing either once its head's entry has stayed and its tail is no farther
pub gains_stays : (banned : Exposure) (s t : List Distance) (a : Arc) → entry_at t a.head ≡ entry_at s a.head
    → (reached_at s a.tail ≡ true → (reached_at t a.tail ≡ true) × (metres_at t a.tail ≤ metres_at s a.tail)) → gains banned s a ≡ false → gains banned t a ≡ false
unfolding metres_by
gains_stays banned s t a same nearer none = go (gains banned t a) refl
  where
    go : (b : Bool) → gains banned t a ≡ b → gains banned t a ≡ false
    go false e = e
    go true e =
        let g = gains_gained banned t a e in
        let n = gains_not banned s a none g.free (sym (ap (λ (d : Distance). d.reached) same) ∙ g.head_reached) in
        let l = nearer n.0 in
        absurd (⊎_elim (λ f. false≢true (sym f ∙ l.0)) (λ x. omega (arith, x, l.1, n.1, ap (λ (d : Distance). d.metres) same)) g.tail_nearer)

module _ (banned : Exposure) (s : List Distance) (a : Arc) (inside : a.tail < length s) where
  -- an arc that gains leaves no node farther
  pub nearer_lower : Gained banned s a → (u : ℕ) → reached_at s u ≡ true → (reached_at (nearer s a) u ≡ true) × (metres_at (nearer s a) u ≤ metres_at s u)
  nearer_lower gain u r = go (ℕ_discrete u a.tail)
    where
      go : Dec (u ≡ a.tail) → (reached_at (nearer s a) u ≡ true) × (metres_at (nearer s a) u ≤ metres_at s u)
      go (yes e) = (
        ap (reached_at (nearer s a)) e ∙ reached_tail s a inside,
        ⊎_elim
            (λ f. absurd (false≢true (sym f ∙ (ap (reached_at s) (sym e) ∙ r))))
            (λ l. omega (arith, l, ap (metres_at (nearer s a)) e, ap (metres_at s) e, metres_tail s a inside))
            gain.tail_nearer,
      )
      go (no n) = (ap (λ (d : Distance). d.reached) (entry_other s a u n) ∙ r, omega (arith, ap (λ (d : Distance). d.metres) (entry_other s a u n)))

  -- and gains no more
  pub nearer_idle : (a.tail ≡ a.head → ⊥) → gains banned (nearer s a) a ≡ false
  unfolding metres_by
  nearer_idle differ = go (gains banned (nearer s a) a) refl
    where
      go : (b : Bool) → gains banned (nearer s a) a ≡ b → gains banned (nearer s a) a ≡ false
      go false e = e
      go true e =
          let head-same = ap (λ (d : Distance). d.metres) (entry_other s a a.head (λ q. differ (sym q))) in
          absurd (⊎_elim (λ f. false≢true (sym f ∙ reached_tail s a inside)) (λ l. omega (arith, l, metres_tail s a inside, head-same)) (gains_gained banned (nearer s a) a e).tail_nearer)

-- ---- lengths stay small

-- lengths so small that sums fit: each node reached, but for the terminal, adds one arc at the most
pub record Small (s : List Distance) : Type 0 where
  pub entries_size : length s ≡ 32
  pub arc_each : (v : ℕ) → metres_at s v + most_arc_metres ≤ most_arc_metres * count s

pub small_most : {s : List Distance} → Small s → (v : ℕ) → metres_at s v ≤ most_reach
small_most {s} small v = omega (arith, small.arc_each v, count_le s, small.entries_size)

module _ (banned : Exposure) (s : List Distance) (a : Arc) (sound : SoundArc a) (small : Small s) (gain : Gained banned s a) where
  tail_inside : a.tail < length s
  tail_inside = omega (arith, sound.tail_node, small.entries_size)

  abbrev after : ℕ
  after = count (nearer s a)

  -- the tail counts one more where it is new, else as before
  after_new : reached_at s a.tail ≡ false → after ≡ suc (count s)
  unfolding nearer over
  after_new e = count_new s a.tail _ tail_inside e refl

  after_again : reached_at s a.tail ≡ true → after ≡ count s
  unfolding nearer over
  after_again e = count_again s a.tail _ tail_inside e refl

  -- the tail is new and counts one more, or it is near enough as it was
  new_small : (metres_by s a + most_arc_metres ≤ most_arc_metres * after) × (count s ≤ after)
  unfolding metres_by
  new_small = go (reached_at s a.tail) refl gain.tail_nearer
    where
      go : (t : Bool) → reached_at s a.tail ≡ t → (reached_at s a.tail ≡ false) ⊎ (metres_by s a < metres_at s a.tail) → (metres_by s a + most_arc_metres ≤ most_arc_metres * after) × (count s ≤ after)
      go false e g = (omega (arith, after_new e, small.arc_each a.head, sound.metres_range), omega (arith, after_new e))
      go true e (inl z) = absurd (false≢true (sym z ∙ e))
      go true e (inr l) = (omega (arith, after_again e, small.arc_each a.tail), omega (arith, after_again e))

  pub small_nearer : Small (nearer s a)
  unfolding nearer
  small_nearer = record {
    entries_size = length-set s a.tail _ ∙ small.entries_size;
    arc_each = λ v. go v (ℕ_discrete v a.tail);
  }
    where
      go : (v : ℕ) → Dec (v ≡ a.tail) → metres_at (nearer s a) v + most_arc_metres ≤ most_arc_metres * after
      go v (yes e) = omega (arith, ap (metres_at (nearer s a)) e, metres_tail s a tail_inside, new_small.0)
      go v (no n) = omega (arith, ap (λ (e : Distance). e.metres) (entry_other s a v n), small.arc_each v, new_small.1)

-- ---- entries stay those of free ways

reaches_is : {arcs : List Arc} {terminal v m n : ℕ} {banned : Exposure} → Reaches arcs terminal banned v m → m ≡ n → Reaches arcs terminal banned v n
reaches_is h e = record { list = h.list; free_way = h.free_way; same_metres = h.same_metres ∙ e }

module _ (arcs : List Arc) (terminal : ℕ) (banned : Exposure) (s : List Distance) (k : ℕ) (inside : k < length arcs) (sound : SoundArc (arc_at arcs k)) (small : Small s)
    (gain : Gained banned s (arc_at arcs k)) (entries : Entries arcs terminal banned s) where
  abbrev a : Arc
  a = arc_at arcs k

  -- the tail's new entry: the arc, and then the head's way
  new_reaches : Reaches arcs terminal banned a.tail (metres_by s a)
  unfolding metres_by metres_of
  new_reaches =
      let h = entries.reaches a.head gain.head_reached in
      record {
        list = k ∷ h.list;
        free_way = free_over arcs banned k h.list terminal inside gain.free h.free_way;
        same_metres = omega (arith, h.same_metres);
      }

  -- the terminal is reached with 0 metres, and nothing is nearer
  not_terminal : terminal ≡ a.tail → ⊥
  not_terminal e = ⊎_elim
      (λ f. false≢true (sym f ∙ (ap (reached_at s) (sym e) ∙ entries.terminal_reached)))
      (λ l. omega (arith, l, ap (metres_at s) e, entries.terminal_metres))
      gain.tail_nearer

  pub entries_nearer : Entries arcs terminal banned (nearer s a)
  entries_nearer = record {
    reaches = λ v e. reaches_at v e (ℕ_discrete v a.tail);
    no_metres = λ v e. none_at v e (ℕ_discrete v a.tail);
    terminal_reached = other_reached terminal not_terminal ∙ entries.terminal_reached;
    terminal_metres = other_metres terminal not_terminal ∙ entries.terminal_metres;
  }
    where
      has : a.tail < length s
      has = omega (arith, sound.tail_node, small.entries_size)

      other_reached : (v : ℕ) → (v ≡ a.tail → ⊥) → reached_at (nearer s a) v ≡ reached_at s v
      other_reached v n = ap (λ (e : Distance). e.reached) (entry_other s a v n)

      other_metres : (v : ℕ) → (v ≡ a.tail → ⊥) → metres_at (nearer s a) v ≡ metres_at s v
      other_metres v n = ap (λ (e : Distance). e.metres) (entry_other s a v n)

      reaches_at : (v : ℕ) → reached_at (nearer s a) v ≡ true → Dec (v ≡ a.tail) → Reaches arcs terminal banned v (metres_at (nearer s a) v)
      reaches_at v e (yes q) = rw q (reaches_is new_reaches (sym (metres_tail s a has)))
      reaches_at v e (no n) = reaches_is (entries.reaches v (sym (other_reached v n) ∙ e)) (sym (other_metres v n))

      none_at : (v : ℕ) → reached_at (nearer s a) v ≡ false → Dec (v ≡ a.tail) → metres_at (nearer s a) v ≡ 0
      none_at v e (yes q) = absurd (false≢true (sym e ∙ (ap (reached_at (nearer s a)) q ∙ reached_tail s a has)))
      none_at v e (no n) = other_metres v n ∙ entries.no_metres v (sym (other_reached v n) ∙ e)
