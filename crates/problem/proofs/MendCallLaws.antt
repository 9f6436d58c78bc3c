-- Mending, calls: how a call of the mender ends, what the planner makes of a clean table, and what is left for a person. Assumes nothing.
use Rattle.std.specs.Prelude.{Some, None, is_some}
use mathlib.Core.Path.{◌≡◌, refl, sym, ap, ◌∙◌, subst}
use mathlib.Core.Logic.{◌⊎◌, inl, inr, ◌↔◌}
use mathlib.Core.Bool.{Bool, true, false, true≢false, or-true}
use mathlib.Core.List.{List, []}
use Prim.Native.Nat.{ℕ, zero, suc, ◌%◌, ◌≤◌, ◌<◌}
use native.Mathlib.Omega.{arith}
use lib.Dec.{ltb}
use lib.ListN.{length}
use borrow.Author.Tests.{ltb-true, ltb-false, lt-ltb, le-ltb}
use Rattle.problem.specs.declared.Fault.{Fault}
use Rattle.problem.specs.declared.Request.{Request}
use Rattle.problem.specs.Table.{most_in_table, record_at, arc_of, arcs_of, SoundArc, fault_of}
use Rattle.problem.specs.Routes.{arc_at}
use Rattle.problem.specs.Reply.{first_number, answer_around}
use Rattle.problem.specs.Calls.{Applies}
use Rattle.problem.specs.Mending.{most_field_bytes, Clean, whole_arcs, fault_at, may_stay, new_number, mended_table, Change, mended_list, rounded_up, Mending, mend_checks, mending_unless, mending, lost, Listed}
use Rattle.problem.proofs.FaultLaws.{sound_none, fault_sound}
use Rattle.problem.proofs.TableLaws.{arcs_at, sound_at}
use Rattle.problem.proofs.MendLaws.{kept_record}
use Rattle.problem.proofs.RefusalLaws.{Known}
use Rattle.problem.proofs.CallLaws.{refused_told}

-- ---- how a call ends

abbrev pub refusing : ℕ → Mending
refusing n = record { number = n; table = []; list = [] }

abbrev pub mended : List ℕ → Mending
mended input = record { number = 0; table = mended_table input; list = mended_list input }

-- one of the outputs is shorter than the input rounded up
abbrev pub TooShort : List ℕ → ℕ → ℕ → Type 0
TooShort input table_size list_size = (table_size < rounded_up input) ⊎ (list_size < rounded_up input)

module _ (input : List ℕ) (table_size list_size : ℕ) where
  pub mend_long : most_field_bytes < length input → mending input table_size list_size ≡ refusing 2
  unfolding mending mend_checks first_number mending_unless
  mend_long h = rw (lt-ltb most_field_bytes (length input) h)

  pub mend_short : length input ≤ most_field_bytes → TooShort input table_size list_size → mending input table_size list_size ≡ refusing 13
  unfolding mending mend_checks first_number mending_unless
  mend_short h (inl s) = rw (le-ltb most_field_bytes (length input) h, lt-ltb table_size (rounded_up input) s)
  mend_short h (inr s) = rw (le-ltb most_field_bytes (length input) h, lt-ltb list_size (rounded_up input) s, or-true (ltb table_size (rounded_up input)))

  pub mend_fits : length input ≤ most_field_bytes → rounded_up input ≤ table_size → rounded_up input ≤ list_size → mending input table_size list_size ≡ mended input
  unfolding mending mend_checks first_number mending_unless
  mend_fits h t l = rw (le-ltb most_field_bytes (length input) h, le-ltb table_size (rounded_up input) t, le-ltb list_size (rounded_up input) l)

  -- by its number
  data End : ℕ → Type 0 where
    long : most_field_bytes < length input → End 2
    short : length input ≤ most_field_bytes → TooShort input table_size list_size → End 13
    fits : length input ≤ most_field_bytes → (rounded_up input ≤ table_size) × (rounded_up input ≤ list_size) → End 0

  abbrev number : ℕ
  number = (mending input table_size list_size).number

  mend_end : End number
  mend_end = go (ltb most_field_bytes (length input)) (ltb table_size (rounded_up input)) (ltb list_size (rounded_up input)) refl refl refl
    where
      told : {m : Mending} → mending input table_size list_size ≡ m → End m.number → End number
      told is = subst (λ (m : Mending). End m.number) (sym is)

      go : (a b c : Bool) → ltb most_field_bytes (length input) ≡ a → ltb table_size (rounded_up input) ≡ b → ltb list_size (rounded_up input) ≡ c → End number
      go true b c ea eb ec = let h = ltb-true _ _ ea in told (mend_long h) (End.long h)
      go false true c ea eb ec = let h = ltb-false _ _ ea in let s : TooShort input table_size list_size = inl (ltb-true _ _ eb) in told (mend_short h s) (End.short h s)
      go false false true ea eb ec = let h = ltb-false _ _ ea in let s : TooShort input table_size list_size = inr (ltb-true _ _ ec) in told (mend_short h s) (End.short h s)
      go false false false ea eb ec = let h = ltb-false _ _ ea in let t = ltb-false _ _ eb in let l = ltb-false _ _ ec in told (mend_fits h t l) (End.fits h (t, l))

  pub two_exactly : (number ≡ 2) ↔ (most_field_bytes < length input)
  two_exactly = (λ e. go (subst End e mend_end), λ h. ap (λ (m : Mending). m.number) (mend_long h))
    where
      go : End 2 → most_field_bytes < length input
      go (End.long h) = h

  pub thirteen_exactly : (number ≡ 13) ↔ ((length input ≤ most_field_bytes) × TooShort input table_size list_size)
  thirteen_exactly = (λ e. go (subst End e mend_end), λ h. ap (λ (m : Mending). m.number) (mend_short h.0 h.1))
    where
      go : End 13 → (length input ≤ most_field_bytes) × TooShort input table_size list_size
      go (End.short h s) = (h, s)

  pub zero_exactly : (number ≡ 0) ↔ ((length input ≤ most_field_bytes) × (rounded_up input ≤ table_size) × (rounded_up input ≤ list_size))
  zero_exactly = (λ e. go (subst End e mend_end), λ h. ap (λ (m : Mending). m.number) (mend_fits h.0 h.1 h.2))
    where
      go : End 0 → (length input ≤ most_field_bytes) × (rounded_up input ≤ table_size) × (rounded_up input ≤ list_size)
      go (End.fits h r) = (h, r.0, r.1)

  -- nothing is written with a refusal, and both outputs without one
  pub refused_none : (number ≡ 0 → ⊥) → ((mending input table_size list_size).table ≡ []) × ((mending input table_size list_size).list ≡ [])
  unfolding mending mending_unless
  refused_none = go (first_number (mend_checks input table_size list_size))
    where
      go : (n : ℕ) → ((mending_unless n input).number ≡ 0 → ⊥) → ((mending_unless n input).table ≡ []) × ((mending_unless n input).list ≡ [])
      go zero f = absurd (f refl)
      go (suc n) f = (refl, refl)

  pub zero_mended : number ≡ 0 → mending input table_size list_size ≡ mended input
  unfolding mending mending_unless
  zero_mended = go (first_number (mend_checks input table_size list_size))
    where
      go : (n : ℕ) → (mending_unless n input).number ≡ 0 → mending_unless n input ≡ mended input
      go zero e = refl
      go (suc n) e = absurd (omega arith)

-- ---- what the planner makes of a clean table

-- a number that is given, up to 16 and not 16, is at most 10
pub to_ten : {n : ℕ} → Known n → n ≤ 16 → (n ≡ 16 → ⊥) → n ≤ 10
to_ten (Known.to_ten low nine) top other = low
to_ten Known.sixteen top other = absurd (other refl)
to_ten (Known.of_an_arc low high) top other = absurd (omega arith)

-- its number is none of those that a table is refused for, but for that of a blank
abbrev pub ForBlanksAlone : ℕ → Type 0
ForBlanksAlone n = (n ≡ 2 → ⊥) × (n ≡ 3 → ⊥) × ((n ≤ 16) ⊎ (n % 256 ≡ 24))

module _ {table : List ℕ} (clean : Clean table) (closed : List ℕ) (q : Request) (size : ℕ) where
  unless_blank : {n : ℕ} → (n ≡ 2 → ⊥) × (n ≡ 3 → ⊥) × (n ≤ 16) → ForBlanksAlone n
  unless_blank h = (h.0, h.1, inl h.2)

  clean_applies : {t i : ℕ} → Applies table closed q size t i → ForBlanksAlone i
  clean_applies (Applies.table_too_long h) = absurd (omega (arith, clean.few_bytes))
  clean_applies (Applies.table_torn h) = absurd (h clean.has_whole_arcs)
  clean_applies (Applies.buffer_too_small h) = unless_blank (omega arith)
  clean_applies (Applies.source_too_high h) = unless_blank (omega arith)
  clean_applies (Applies.terminal_too_high h) = unless_blank (omega arith)
  clean_applies (Applies.ends_equal h) = unless_blank (omega arith)
  clean_applies (Applies.reach_too_far h) = unless_blank (omega arith)
  clean_applies (Applies.allowance_none h) = unless_blank (omega arith)
  clean_applies (Applies.allowance_too_large h) = unless_blank (omega arith)
  clean_applies (Applies.arc_faulty k f b h) = absurd (sound_none (sound_at (arcs_of table) clean.sound k b) h)
  clean_applies (Applies.arc_blank k b h) = (λ e. omega arith, λ e. omega arith, inr (omega arith))
  clean_applies (Applies.set_not_whole h) = unless_blank (omega arith)
  clean_applies (Applies.set_past_table k b h) = unless_blank (omega arith)
  clean_applies (Applies.has_no_route h) = unless_blank (omega arith)

  pub clean_planned : ForBlanksAlone (answer_around table closed q size).number
  clean_planned = go (ltb (answer_around table closed q size).number 2) refl
    where
      go : (b : Bool) → ltb (answer_around table closed q size).number 2 ≡ b → ForBlanksAlone (answer_around table closed q size).number
      go true e = let low = ltb-true (answer_around table closed q size).number 2 e in unless_blank (omega arith)
      go false e = clean_applies (refused_told false table closed q size (ltb-false _ _ e) (inl refl)).applies

-- ---- what is left for a person

-- a sound arc, blank or not, is kept as it is where there is room for it
module _ (input : List ℕ) (k : ℕ) (whole : k < whole_arcs input) (sound : SoundArc (arc_at (arcs_of input) k)) (room : new_number input k < most_in_table) where
  here : arc_at (arcs_of input) k ≡ arc_of (record_at input k)
  here = arcs_at input k (omega arith)

  no_fault : fault_at input k ≡ None
  no_fault = ap fault_of (sym here) ∙ fault_sound (arc_at (arcs_of input) k) sound

  pub sound_left : arc_at (arcs_of (mended_table input)) (new_number input k) ≡ arc_at (arcs_of input) k
  sound_left =
      let kept = kept_record input (record { is_whole = whole; is_to_stay = ap may_stay no_fault; in_turn = refl; has_room = room }) in
      arcs_at (mended_table input) (new_number input k) (omega (arith, kept.0)) ∙ ap arc_of kept.1 ∙ sym here

  pub sound_unlisted : (reason : ℕ) → Listed input (lost k reason) → ⊥
  sound_unlisted reason l = go refl l
    where
      faulty : {f : Fault} {j : ℕ} → fault_at input j ≡ Some f → j ≡ k → ⊥
      faulty is e = true≢false (ap is_some (sym is ∙ ap (fault_at input) e ∙ no_fault))

      go : {c : Change} → c.old ≡ k → Listed input c → ⊥
      go e (Listed.bad_node j b is) = faulty is e
      go e (Listed.equal_ends j b is) = faulty is e
      go e (Listed.bad_length j b is) = faulty is e
      go e (Listed.past_limit j b is past) = omega (arith, ap (new_number input) e)
      go e (Listed.has_torn_end t) = omega arith
