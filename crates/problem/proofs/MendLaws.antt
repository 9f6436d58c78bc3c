-- Mending, the table: what is kept and where it stands, that it is clean, and that a clean table stays as it is. Assumes nothing.
use Rattle.std.specs.Prelude.{Option, Some, None}
use Rattle.std.specs.Option.{option_map_or}
use mathlib.Core.Path.{◌≡◌, refl, sym, ap, ◌∙◌, subst}
use mathlib.Core.Bool.{true, false, false≢true}
use mathlib.Core.List.{List, [], ◌∷◌, ◌++◌, Memᴰ}
use Prim.Native.Nat.{ℕ, zero, suc, ◌+◌, ◌*◌, ◌/◌, ◌≤◌, ◌<◌}
use native.Mathlib.Numerals.{add-one}
use native.Mathlib.Omega.{arith}
use lib.ListN.{length, get_or, take, drop, length-take, length-drop, take-append-drop}
use lib.Seq.{length-take-le, drop-drop, get_or-take}
use Rattle.laws.specs.Choosing.{numbers_from, keep}
use Rattle.laws.proofs.ListLaws.{get_or_mem, take_mem, keep_out, length_keep}
use Rattle.laws.proofs.FoldLaws.{keep_all}
use Rattle.laws.proofs.RowLaws.{PassingAt, numbers_length, numbers_out, passing_next, passing_same, passing_more, passing_below, passing_place, passing_at, flat_length, flat_at}
use Rattle.problem.specs.declared.Fault.{Fault}
use Rattle.problem.specs.declared.Fault.TheVariants.{Node, EqualEnds, Length}
use Rattle.problem.specs.Table.{most_in_table, record_at, arc_of, arcs_of, SoundArc, fault_of, fault_number, arc_number}
use Rattle.problem.specs.Routes.{arc_at}
use Rattle.problem.specs.Mending.{Clean, whole_arcs, fault_at, may_stay, stays, staying_below, new_number, kept_arcs, mended_table, KeptAs}
use Rattle.problem.proofs.FaultLaws.{faultless_number, fault_sound}
use Rattle.problem.proofs.TableLaws.{arcs_length, arcs_at, number_sound, sound_at}

-- ---- what stays

stays_number : (f : Option Fault) → may_stay f ≡ true → option_map_or fault_number f 0 ≡ 0
stays_number (Some Node) e = absurd (false≢true e)
stays_number (Some EqualEnds) e = absurd (false≢true e)
stays_number (Some Length) e = absurd (false≢true e)
stays_number None e = refl

-- ---- records one behind another

-- bytes with the same records are the same
records_same : (n : ℕ) (a b : List ℕ) → length a ≡ 16 * n → length b ≡ 16 * n → ((k : ℕ) → k < n → record_at a k ≡ record_at b k) → a ≡ b
records_same zero [] [] ha hb same = refl
records_same zero [] (y ∷ b) ha hb same = absurd (omega arith)
records_same zero (x ∷ a) b ha hb same = absurd (omega arith)
records_same (suc n) a b ha hb same =
    sym (take-append-drop 16 a)
    ∙ ap (λ (l : List ℕ). l ++ drop 16 a) (same 0 (omega arith))
    ∙ ap (λ (l : List ℕ). take 16 b ++ l) (records_same n (drop 16 a) (drop 16 b) (rw length-drop (omega arith)) (rw length-drop (omega arith)) rest)
    ∙ take-append-drop 16 b
  where
    rest : (k : ℕ) → k < n → record_at (drop 16 a) k ≡ record_at (drop 16 b) k
    rest k h =
        let next : 16 + 16 * k ≡ 16 * suc k = omega arith in
        ap (take 16) (drop-drop (16 * k) 16 a ∙ ap (λ (i : ℕ). drop i a) next)
        ∙ same (suc k) (omega arith)
        ∙ sym (ap (take 16) (drop-drop (16 * k) 16 b ∙ ap (λ (i : ℕ). drop i b) next))

module _ (input : List ℕ) where
  pub whole_record : {k : ℕ} → k < whole_arcs input → length (record_at input k) ≡ 16
  whole_record {k} h = length-take-le 16 (drop (16 * k) input) (rw length-drop (omega arith))

  -- ---- what is kept

  kept_out : {k : ℕ} → Memᴰ k (kept_arcs input) → (k < whole_arcs input) × (stays input k ≡ true)
  unfolding kept_arcs staying_below
  kept_out m =
      let out = keep_out (stays input) (numbers_from 0 (whole_arcs input)) (take_mem 0 most_in_table m) in
      (omega (arith, (numbers_out 0 (whole_arcs input) out.0).1), out.1)

  kept_few : length (kept_arcs input) ≤ most_in_table
  unfolding kept_arcs
  kept_few = omega (arith, length-take most_in_table (staying_below input (whole_arcs input)))

  -- no arc gets a higher number
  pub new_below : (k : ℕ) → new_number input k ≤ k
  unfolding staying_below
  new_below k = omega (arith, length_keep (stays input) (numbers_from 0 k), numbers_length 0 k)

  -- the next arc's number
  pub new_stays : (k : ℕ) → stays input k ≡ true → new_number input (k + 1) ≡ new_number input k + 1
  unfolding staying_below
  new_stays k e = rw (add-one k, add-one (new_number input k)) (passing_next (stays input) k e)

  pub new_removed : (k : ℕ) → stays input k ≡ false → new_number input (k + 1) ≡ new_number input k
  unfolding staying_below
  new_removed k e = rw add-one (passing_same (stays input) k e)

  pub new_more : {j k : ℕ} → j ≤ k → new_number input j ≤ new_number input k
  unfolding staying_below
  new_more h = passing_more (stays input) h

  -- where none below it is removed, an arc keeps its number
  pub new_same : (k : ℕ) → ((j : ℕ) → j < k → stays input j ≡ true) → new_number input k ≡ k
  unfolding staying_below
  new_same k all = ap length (keep_all (stays input) (numbers_from 0 k) (λ j m. all j (omega (arith, (numbers_out 0 k m).1)))) ∙ numbers_length 0 k

  -- what stands at each place
  pub kept_at : (i : ℕ) → i < length (kept_arcs input) → KeptAs input (get_or (kept_arcs input) i 0) i
  unfolding kept_arcs staying_below
  kept_at i h =
      let few = length-take most_in_table (keep (stays input) (numbers_from 0 (whole_arcs input))) in
      rw (get_or-take most_in_table (keep (stays input) (numbers_from 0 (whole_arcs input))) i 0 (omega (arith, few))) (made (passing_at (stays input) (whole_arcs input) i (omega (arith, few))) (omega (arith, few)))
    where
      made : {old : ℕ} → PassingAt (stays input) (whole_arcs input) i old → i < most_in_table → KeptAs input old i
      made p room = record { is_whole = p.below; is_to_stay = p.passes; in_turn = p.place; has_room = room }

  -- and where each stands
  kept_place : {old new : ℕ} → KeptAs input old new → (new < length (kept_arcs input)) × (get_or (kept_arcs input) new 0 ≡ old)
  unfolding kept_arcs staying_below
  kept_place {old} {new} k =
      let few = length-take most_in_table (keep (stays input) (numbers_from 0 (whole_arcs input))) in
      let inside = passing_below (stays input) k.is_whole k.is_to_stay in (
        omega (arith, few, inside, k.in_turn, k.has_room),
        get_or-take most_in_table (keep (stays input) (numbers_from 0 (whole_arcs input))) new 0 k.has_room
            ∙ ap (λ (i : ℕ). get_or (keep (stays input) (numbers_from 0 (whole_arcs input))) i 0) (sym k.in_turn)
            ∙ passing_place (stays input) k.is_whole k.is_to_stay,
      )

  -- kept arcs keep their order
  pub kept_rise : {j k m n : ℕ} → KeptAs input j m → KeptAs input k n → j < k → m < n
  unfolding staying_below
  kept_rise a b h = omega (arith, passing_below (stays input) h a.is_to_stay, a.in_turn, b.in_turn)

  -- ---- the table

  each_whole : (k : ℕ) → Memᴰ k (kept_arcs input) → length (record_at input k) ≡ 16
  each_whole k m = whole_record (kept_out m).0

  table_length : length (mended_table input) ≡ 16 * length (kept_arcs input)
  unfolding mended_table
  table_length = flat_length 16 (record_at input) (kept_arcs input) each_whole

  pub table_arcs : length (mended_table input) / 16 ≡ length (kept_arcs input)
  table_arcs = omega (arith, table_length)

  table_record : (i : ℕ) → i < length (kept_arcs input) → record_at (mended_table input) i ≡ record_at input (get_or (kept_arcs input) i 0)
  unfolding mended_table
  table_record = flat_at 16 (record_at input) 0 (kept_arcs input) each_whole

  -- each arc of the table is one of the input's
  pub kept_record : {old new : ℕ} → KeptAs input old new → (new < length (mended_table input) / 16) × (record_at (mended_table input) new ≡ record_at input old)
  kept_record k =
      let p = kept_place k in
      (omega (arith, table_arcs, p.0), table_record _ p.0 ∙ ap (record_at input) p.1)

  table_sound : (j : ℕ) → j < length (arcs_of (mended_table input)) → arc_number (arc_at (arcs_of (mended_table input)) j) ≡ 0
  table_sound j h =
      let inside : j < length (kept_arcs input) = omega (arith, arcs_length (mended_table input), table_arcs) in
      let old = kept_out (get_or_mem 0 (kept_arcs input) j inside) in
      let is = arcs_at (mended_table input) j (omega (arith, table_length)) ∙ ap arc_of (table_record j inside) in
      ap arc_number is ∙ stays_number (fault_of (arc_of (record_at input (get_or (kept_arcs input) j 0)))) old.1

  pub table_clean : Clean (mended_table input)
  table_clean = record {
    few_bytes = omega (arith, table_length, kept_few);
    has_whole_arcs = omega (arith, table_length);
    sound = number_sound (arcs_of (mended_table input)) (faultless_number (arcs_of (mended_table input)) table_sound);
  }

  -- ---- a clean table

  module _ (clean : Clean input) where
    clean_arc : (k : ℕ) → k < whole_arcs input → SoundArc (arc_of (record_at input k))
    clean_arc k h = subst SoundArc (arcs_at input k (omega arith)) (sound_at (arcs_of input) clean.sound k (omega (arith, arcs_length input)))

    pub clean_sound : (k : ℕ) → k < whole_arcs input → fault_at input k ≡ None
    clean_sound k h = fault_sound _ (clean_arc k h)

    clean_stays : (k : ℕ) → k < whole_arcs input → stays input k ≡ true
    clean_stays k h = rw (clean_sound k h)

    clean_new : (k : ℕ) → k ≤ whole_arcs input → new_number input k ≡ k
    clean_new k h = new_same k (λ j l. clean_stays j (omega arith))

    clean_kept : {k : ℕ} → k < whole_arcs input → KeptAs input k k
    clean_kept {k} h = record { is_whole = h; is_to_stay = clean_stays k h; in_turn = clean_new k (omega arith); has_room = omega (arith, clean.few_bytes) }

    clean_count : length (kept_arcs input) ≡ whole_arcs input
    unfolding kept_arcs
    clean_count =
        length-take most_in_table (staying_below input (whole_arcs input))
        ∙ (let all = clean_new (whole_arcs input) (omega arith) in omega (arith, clean.few_bytes))

    pub clean_same : mended_table input ≡ input
    clean_same =
        records_same (whole_arcs input) (mended_table input) input (omega (arith, table_length, clean_count)) (omega (arith, clean.has_whole_arcs))
        (λ k h. (kept_record (clean_kept h)).1)
