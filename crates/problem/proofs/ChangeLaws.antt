-- Mending, the list: read back from its bytes, what stands in it and in which order, and the old number of each arc that is kept. Assumes nothing.
use Rattle.std.specs.Prelude.{Option, Some, None, is_some}
use Rattle.std.specs.Option.{option_map_or}
use mathlib.Core.Path.{◌≡◌, refl, sym, ap, ◌∙◌, subst}
use mathlib.Core.Logic.{◌⊎◌, inl, inr}
use mathlib.Core.Bool.{Bool, true, false, true≢false, false≢true}
use mathlib.Core.List.Memᴰ
use mathlib.Core.List.{List, [], ◌∷◌, ◌++◌, map, flat_map, Memᴰ}
use Prim.Native.Nat.{ℕ, zero, suc, ◌+◌, ◌*◌, ◌/◌, ◌%◌, ◌≤◌, ◌<◌}
use native.Mathlib.Omega.{arith}
use lib.Dec.{eqb, ltb}
use lib.ListN.{length, get_or, length-take}
use lib.Seq.{get_or-take}
use borrow.Author.Tests.{eqb-true, eqb-false, eq-eqb, ne_eqb, ltb-true, ltb-false, lt-ltb, le-ltb, le-leb, lt-leb}
use Rattle.laws.specs.Choosing.{numbers_from, keep, Pairwise}
use Rattle.laws.proofs.ListLaws.{get_or_mem, keep_in, keep_out, keep_none, keep_first, keep_past, length_keep, pairwise_append, pairwise_keep, pairwise_map}
use Rattle.laws.proofs.RowLaws.{numbers_in, numbers_out, numbers_rise, map_numbers, flat_length, flat_at}
use Rattle.problem.specs.declared.Fault.{Fault}
use Rattle.problem.specs.declared.Fault.TheVariants.{Node, EqualEnds, Length}
use Rattle.problem.specs.declared.Reason.{Reason}
use Rattle.problem.specs.declared.Reason.TheVariants.{BadNode, SameEnds, TooLong, PastLimit}
use Rattle.problem.specs.Table.{most_in_table, number_at, bytes_of, record_at, arcs_of, fault_number, arc_number}
use Rattle.problem.specs.Mending.{most_field_bytes, Clean, whole_arcs, fault_at, may_stay, stays, new_number, staying_below, kept_arcs, reason_for, reason_at, reason_number, no_number, Change, changed, torn_end, is_changed, change_at, changes_from, changes, change_bytes, mended_list, change_in, changes_in, old_number, KeptAs, lost, Listed}
use Rattle.problem.proofs.FaultLaws.{faultless_number}
use Rattle.problem.proofs.TableLaws.{arcs_length, arcs_at, number_sound}
use Rattle.problem.proofs.MendLaws.{new_below, new_more, new_same, kept_at, clean_sound}

-- ---- there and back

-- both numbers fit their two bytes
pub record Fits (c : Change) : Type 0 where
  pub old_fits : c.old < 65536
  pub new_fits : c.new < 65536

pub change_length : (c : Change) → length (change_bytes c) ≡ 16
unfolding change_bytes bytes_of
change_length c = refl

change_back : (c : Change) → Fits c → change_in (change_bytes c) ≡ c
unfolding change_in change_bytes number_at bytes_of
change_back c f =
    let old : c.old % 256 + 256 * (c.old / 256 % 256 + 256 * 0) ≡ c.old = omega (arith, f.old_fits) in
    let new : c.new % 256 + 256 * (c.new / 256 % 256 + 256 * 0) ≡ c.new = omega (arith, f.new_fits) in
    λ i. record { old = old i; reason = c.reason; new = new i }

list_length : (input : List ℕ) → length (mended_list input) ≡ 16 * length (changes input)
unfolding mended_list
list_length input = flat_length 16 change_bytes (changes input) (λ c m. change_length c)

read_back : (cs : List Change) → ((c : Change) → Memᴰ c cs → Fits c) → changes_in (flat_map change_bytes cs) ≡ cs
unfolding changes_in
read_back cs fit =
    let size : length (flat_map change_bytes cs) / 16 ≡ length cs = omega (arith, flat_length 16 change_bytes cs (λ c m. change_length c)) in
    ap (λ (n : ℕ). map (λ k. change_in (record_at (flat_map change_bytes cs) k)) (numbers_from 0 n)) size
    ∙ map_numbers (lost 0 0) (λ k. change_in (record_at (flat_map change_bytes cs) k)) cs (λ i h.
    ap change_in (flat_at 16 change_bytes (lost 0 0) cs (λ c m. change_length c) i h) ∙ change_back _ (fit _ (get_or_mem (lost 0 0) cs i h)))

-- a lost arc at x or before it puts x one further on; one behind x leaves it where it is
old_lost : (c : Change) (cs : List Change) (x : ℕ) → c.new ≡ no_number → c.old ≤ x → old_number (c ∷ cs) x ≡ old_number cs (suc x)
unfolding old_number
old_lost c cs x e h = rw (le-leb c.old x h, eq-eqb c.new no_number e)

old_later : (cs : List Change) (x : ℕ) → ((c : Change) → Memᴰ c cs → x < c.old) → old_number cs x ≡ x
unfolding old_number
old_later [] x f = refl
old_later (c ∷ cs) x f = rw (lt-leb c.old x (f c (Memᴰ.head refl))) (old_later cs x (λ d m. f d (Memᴰ.tail m)))

-- ---- the reason of one arc

-- what is removed is lost
pub removed_lost : (f : Option Fault) (n : ℕ) → may_stay f ≡ false → is_some (reason_for f n) ≡ true
removed_lost (Some Node) n e = refl
removed_lost (Some EqualEnds) n e = refl
removed_lost (Some Length) n e = refl
removed_lost None n e = absurd (true≢false e)

-- what stays within the limit is kept, and what stays past it is lost
pub kept_reason : (f : Option Fault) (n : ℕ) → may_stay f ≡ true → n < most_in_table → is_some (reason_for f n) ≡ false
kept_reason (Some Node) n e h = absurd (false≢true e)
kept_reason (Some EqualEnds) n e h = absurd (false≢true e)
kept_reason (Some Length) n e h = absurd (false≢true e)
kept_reason None n e h = rw (lt-ltb n most_in_table h)

pub past_reason : (f : Option Fault) (n : ℕ) → may_stay f ≡ true → most_in_table ≤ n → reason_for f n ≡ Some PastLimit
past_reason (Some Node) n e h = absurd (false≢true e)
past_reason (Some EqualEnds) n e h = absurd (false≢true e)
past_reason (Some Length) n e h = absurd (false≢true e)
past_reason None n e h = rw (le-ltb n most_in_table h)

-- ---- the list of one input

module _ (input : List ℕ) where
  -- a change of one of m arcs from k on
  record ChangeOf (k m : ℕ) (c : Change) : Type 0 where
    at : ℕ
    from : k ≤ at
    below : at < k + m
    has : is_changed input at ≡ true
    is : change_at input at ≡ c

  change_of : (k m : ℕ) {c : Change} → Memᴰ c (changes_from input k m) → ChangeOf k m c
  change_of k m x =
      let o = Memᴰ.of_map (change_at input) (keep (is_changed input) (numbers_from k m)) x in
      let kept = keep_out (is_changed input) (numbers_from k m) o.1 in
      let inside = numbers_out k m kept.0 in
      record { at = o.0; from = inside.0; below = inside.1; has = kept.1; is = o.2 }

  -- what becomes of a whole arc: it is lost, for a reason that the request gives, or kept as it is
  data Lot (k : ℕ) : Type 0 where
    goes : (reason : ℕ) → Listed input (lost k reason) → is_changed input k ≡ true → change_at input k ≡ lost k reason → Lot k
    as_it_is : KeptAs input k (new_number input k) → fault_at input k ≡ None → is_changed input k ≡ false → Lot k

  module _ (k : ℕ) (h : k < whole_arcs input) where
    -- by its first fault and, where it stays, by the limit
    by_fault : {f : Option Fault} → fault_at input k ≡ f → reason_at input k ≡ reason_for f (new_number input k)
    by_fault e = ap (λ (g : Option Fault). reason_for g (new_number input k)) e

    goes_by : (r : Reason) → reason_at input k ≡ Some r → Listed input (lost k (reason_number r)) → Lot k
    goes_by r e l = Lot.goes (reason_number r) l (ap is_some e) (ap (λ (s : Option Reason). changed k s (new_number input k)) e)

    kept_here : {f : Option Fault} → fault_at input k ≡ f → may_stay f ≡ true → new_number input k < most_in_table → KeptAs input k (new_number input k)
    kept_here e s room = record { is_whole = h; is_to_stay = ap may_stay e ∙ s; in_turn = refl; has_room = room }

    past_here : {f : Option Fault} → fault_at input k ≡ f → may_stay f ≡ true → most_in_table ≤ new_number input k → Lot k
    past_here {f} e s past = goes_by PastLimit (by_fault e ∙ past_reason f (new_number input k) s past) (Listed.past_limit k h (ap may_stay e ∙ s) past)

    lot : Lot k
    lot = go (fault_at input k) refl (ltb (new_number input k) most_in_table) refl
      where
        go : (f : Option Fault) → fault_at input k ≡ f → (b : Bool) → ltb (new_number input k) most_in_table ≡ b → Lot k
        go (Some Node) e b t = goes_by BadNode (by_fault e) (Listed.bad_node k h e)
        go (Some EqualEnds) e b t = goes_by SameEnds (by_fault e) (Listed.equal_ends k h e)
        go (Some Length) e b t = goes_by TooLong (by_fault e) (Listed.bad_length k h e)
        go None e true t =
            let is : reason_at input k ≡ None = by_fault e ∙ rw t in
            Lot.as_it_is (kept_here e refl (ltb-true _ _ t)) e (ap is_some is)
        go None e false t = past_here e refl (ltb-false _ _ t)

  -- what becomes of the input's end: it is whole, or torn
  pub whole_end : length input % 16 ≡ 0 → torn_end input ≡ []
  unfolding torn_end
  whole_end e = rw (eq-eqb (length input % 16) 0 e)

  pub has_torn_end : (length input % 16 ≡ 0 → ⊥) → torn_end input ≡ lost (whole_arcs input) 6 ∷ []
  unfolding torn_end
  has_torn_end e = rw (ne_eqb (length input % 16) 0 e)

  pub data Ended : Type 0 where
    whole : length input % 16 ≡ 0 → Ended
    torn : (length input % 16 ≡ 0 → ⊥) → Ended

  pub ended : Ended
  ended = go (eqb (length input % 16) 0) refl
    where
      go : (b : Bool) → eqb (length input % 16) 0 ≡ b → Ended
      go true e = Ended.whole (eqb-true _ _ e)
      go false e = Ended.torn (eqb-false _ _ e)

  torn_out : {c : Change} → Memᴰ c (torn_end input) → (c ≡ lost (whole_arcs input) 6) × (length input % 16 ≡ 0 → ⊥)
  torn_out {c} m = go ended
    where
      go : Ended → (c ≡ lost (whole_arcs input) 6) × (length input % 16 ≡ 0 → ⊥)
      go (Ended.whole e) = absurd (Memᴰ.not-nil (subst (Memᴰ c) (whole_end e) m))
      go (Ended.torn e) = (Memᴰ.eq_of_singleton (subst (Memᴰ c) (has_torn_end e) m), e)

  -- what stands in the list is what the request says
  whole_listed : {k : ℕ} → Lot k → is_changed input k ≡ true → Listed input (change_at input k)
  whole_listed (Lot.goes reason l c is) e = subst (Listed input) (sym is) l
  whole_listed (Lot.as_it_is kept f c) e = absurd (true≢false (sym e ∙ c))

  pub listed_out : {c : Change} → Memᴰ c (changes input) → Listed input c
  unfolding changes
  listed_out {c} m = go (Memᴰ.append_cases (changes_from input 0 (whole_arcs input)) m)
    where
      go : Memᴰ c (changes_from input 0 (whole_arcs input)) ⊎ Memᴰ c (torn_end input) → Listed input c
      go (inl q) =
          let o = change_of 0 (whole_arcs input) q in
          subst (Listed input) o.is (whole_listed (lot o.at (omega (arith, o.below))) o.has)
      go (inr q) = let t = torn_out q in subst (Listed input) (sym t.0) (Listed.has_torn_end t.1)

  -- and what the request says stands in the list
  listed_whole : (k : ℕ) → k < whole_arcs input → (r : Reason) → reason_at input k ≡ Some r → Memᴰ (lost k (reason_number r)) (changes input)
  unfolding changes
  listed_whole k h r e =
      Memᴰ.append_left (torn_end input)
      (Memᴰ.cast (ap (λ (s : Option Reason). changed k s (new_number input k)) (sym e))
      (Memᴰ.map (change_at input) (keep_in (is_changed input) (numbers_from 0 (whole_arcs input)) (numbers_in 0 (whole_arcs input) (omega arith) (omega arith)) (ap is_some e))))

  pub listed_in : {c : Change} → Listed input c → Memᴰ c (changes input)
  unfolding changes
  listed_in (Listed.bad_node k h e) = listed_whole k h BadNode (by_fault k h e)
  listed_in (Listed.equal_ends k h e) = listed_whole k h SameEnds (by_fault k h e)
  listed_in (Listed.bad_length k h e) = listed_whole k h TooLong (by_fault k h e)
  listed_in (Listed.past_limit k h s p) = listed_whole k h PastLimit (past_reason (fault_at input k) (new_number input k) s p)
  listed_in (Listed.has_torn_end t) = Memᴰ.append_right (changes_from input 0 (whole_arcs input)) (rw (has_torn_end t) (Memᴰ.head refl))

  -- no old number is past that of a torn end
  listed_below : {c : Change} → Memᴰ c (changes_from input 0 (whole_arcs input)) → c.old < whole_arcs input
  listed_below m =
      let o = change_of 0 (whole_arcs input) m in
      omega (arith, ap (λ (c : Change). c.old) o.is, o.below)

  -- the list rises by old number
  pub changes_rise : Pairwise (λ (a b : Change). a.old < b.old) (changes input)
  unfolding changes
  changes_rise =
      pairwise_append (torn_end input)
      (pairwise_map (change_at input) (λ a b l c e. omega (arith, l, ap (λ (x : Change). x.old) e)) (pairwise_keep (is_changed input) (numbers_rise 0 (whole_arcs input))))
      (one ended)
      (λ a b p q. omega (arith, listed_below p, ap (λ (c : Change). c.old) (torn_out q).0))
    where
      one : Ended → Pairwise (λ (a b : Change). a.old < b.old) (torn_end input)
      one (Ended.whole e) = rw (whole_end e) Pairwise.none
      one (Ended.torn e) = rw (has_torn_end e) (Pairwise.one (λ b m. absurd (Memᴰ.not-nil m)) Pairwise.none)

  -- every change fits its record
  listed_fits : length input ≤ most_field_bytes → {c : Change} → Listed input c → Fits c
  listed_fits s (Listed.bad_node k h e) = record { old_fits = omega arith; new_fits = omega arith }
  listed_fits s (Listed.equal_ends k h e) = record { old_fits = omega arith; new_fits = omega arith }
  listed_fits s (Listed.bad_length k h e) = record { old_fits = omega arith; new_fits = omega arith }
  listed_fits s (Listed.past_limit k h e p) = record { old_fits = omega arith; new_fits = omega arith }
  listed_fits s (Listed.has_torn_end t) = record { old_fits = omega arith; new_fits = omega arith }

  -- so the bytes say the changes
  pub list_says : length input ≤ most_field_bytes → changes_in (mended_list input) ≡ changes input
  unfolding mended_list
  list_says s = read_back (changes input) (λ c m. listed_fits s (listed_out m))

  -- ---- back to the old numbers

  -- those of m arcs from k on, and what stands behind them
  abbrev on_from : ℕ → ℕ → List Change → List Change
  on_from k m behind = changes_from input k m ++ behind

  on_rises : (m k : ℕ) (behind : List Change) → ((c : Change) → Memᴰ c behind → k + m ≤ c.old) → (c : Change) → Memᴰ c (on_from k m behind) → k ≤ c.old
  on_rises m k behind after c x = go (Memᴰ.append_cases (changes_from input k m) x)
    where
      go : Memᴰ c (changes_from input k m) ⊎ Memᴰ c behind → k ≤ c.old
      go (inl q) =
          let o = change_of k m q in
          omega (arith, ap (λ (d : Change). d.old) o.is, o.from)
      go (inr q) = omega (arith, after c q)

  -- an arc that is removed puts what is at it or behind it one further on
  past_removed : (m k x : ℕ) (behind : List Change) → stays input k ≡ false → k ≤ x → old_number (on_from k (suc m) behind) x ≡ old_number (on_from (suc k) m behind) (suc x)
  unfolding numbers_from
  past_removed m k x behind e h =
      let r = removed_lost (fault_at input k) (new_number input k) e in
      ap (λ (l : List ℕ). old_number (map (change_at input) l ++ behind) x) (keep_first (is_changed input) k (numbers_from (suc k) m) r)
      ∙ old_lost (change_at input k) (on_from (suc k) m behind) x (rw r) h

  -- one that is kept leaves it where it is
  past_kept : (m k x : ℕ) (behind : List Change) → stays input k ≡ true → new_number input k < most_in_table → old_number (on_from k (suc m) behind) x ≡ old_number (on_from (suc k) m behind) x
  unfolding numbers_from
  past_kept m k x behind e room =
      ap (λ (l : List ℕ). old_number (map (change_at input) l ++ behind) x) (keep_past (is_changed input) k (numbers_from (suc k) m) (kept_reason (fault_at input k) (new_number input k) e room))

  -- of the arcs in l, the one d places on is found from k + d on, where the limit is not yet reached
  abbrev FoundAmong : List ℕ → List Change → (k m d : ℕ) → Type 0
  FoundAmong l behind k m d = d < length l → new_number input (get_or l d 0) < most_in_table → old_number (on_from k m behind) (k + d) ≡ get_or l d 0

  -- of those that stay among m arcs from k on, each is
  abbrev Found : List Change → (k m : ℕ) → Type 0
  Found behind k m = (d : ℕ) → FoundAmong (keep (stays input) (numbers_from k m)) behind k m d

  found_on : (behind : List Change) (m k : ℕ) → ((c : Change) → Memᴰ c behind → k + m ≤ c.old) → Found behind k m
  unfolding numbers_from
  found_on behind zero k after = λ d h room. absurd (omega (arith, h, length_keep (stays input) []))
  found_on behind (suc m) k after = go (stays input k) refl (found_on behind m (suc k) (λ c x. omega (arith, after c x)))
    where
      rest : List ℕ
      rest = keep (stays input) (numbers_from (suc k) m)

      removed : stays input k ≡ false → Found behind (suc k) m → (d : ℕ) → FoundAmong rest behind k (suc m) d
      removed e ih d h room =
          let next : suc (k + d) ≡ suc k + d = omega arith in
          past_removed m k (k + d) behind e (omega arith) ∙ ap (old_number (on_from (suc k) m behind)) next ∙ ih d h room

      kept : stays input k ≡ true → Found behind (suc k) m → (d : ℕ) → FoundAmong (k ∷ rest) behind k (suc m) d
      kept e ih zero h room =
          let here : k + 0 ≡ k = omega arith in
          past_kept m k (k + 0) behind e room
          ∙ ap (old_number (on_from (suc k) m behind)) here
          ∙ old_later (on_from (suc k) m behind) k (on_rises m (suc k) behind (λ c x. omega (arith, after c x)))
      kept e ih (suc d) h room =
          let next : k + suc d ≡ suc k + d = omega arith in
          let inside : d < length rest = omega arith in
          let later = (numbers_out (suc k) m (keep_out (stays input) (numbers_from (suc k) m) (get_or_mem 0 rest d inside)).0).0 in
          past_kept m k (k + suc d) behind e (omega (arith, new_more input {j = k} {k = get_or rest d 0} (omega (arith, later))))
          ∙ ap (old_number (on_from (suc k) m behind)) next
          ∙ ih d inside room

      go : (b : Bool) → stays input k ≡ b → Found behind (suc k) m → (d : ℕ) → FoundAmong (keep (stays input) (k ∷ numbers_from (suc k) m)) behind k (suc m) d
      go true e ih d = subst (λ (l : List ℕ). FoundAmong l behind k (suc m) d) (sym (keep_first (stays input) k (numbers_from (suc k) m) e)) (kept e ih d)
      go false e ih d = subst (λ (l : List ℕ). FoundAmong l behind k (suc m) d) (sym (keep_past (stays input) k (numbers_from (suc k) m) e)) (removed e ih d)

  -- each arc of the table is found where it stood
  old_is : (i : ℕ) → i < length (kept_arcs input) → old_number (changes input) i ≡ get_or (kept_arcs input) i 0
  unfolding kept_arcs staying_below changes
  old_is i h =
      let all = numbers_from 0 (whole_arcs input) in
      let few = length-take most_in_table (keep (stays input) all) in
      let same = get_or-take most_in_table (keep (stays input) all) i 0 (omega (arith, few)) in
      let k = kept_at input i h in
      let here : i ≡ 0 + i = omega arith in
      ap (old_number (changes input)) here
      ∙ found_on (torn_end input) (whole_arcs input) 0 (λ c m. omega (arith, ap (λ (d : Change). d.old) (torn_out m).0)) i (omega (arith, few))
      (omega (arith, ap (new_number input) same, k.in_turn, k.has_room))
      ∙ sym same

  pub old_back : (i : ℕ) → i < length (kept_arcs input) → KeptAs input (old_number (changes input) i) i
  old_back i h = subst (λ (old : ℕ). KeptAs input old i) (sym (old_is i h)) (kept_at input i h)

  -- an arc is kept, or it is lost and stands in the list
  pub kept_or_lost : (k : ℕ) → k < whole_arcs input → KeptAs input k (new_number input k) ⊎ ((reason : ℕ) × Listed input (lost k reason))
  kept_or_lost k h = go (lot k h)
    where
      go : Lot k → KeptAs input k (new_number input k) ⊎ ((reason : ℕ) × Listed input (lost k reason))
      go (Lot.goes reason l c is) = inr (reason, l)
      go (Lot.as_it_is kept f c) = inl kept

  -- ---- an empty list

  clean_unlisted : Clean input → changes input ≡ []
  unfolding changes
  clean_unlisted clean =
      rw (
        whole_end clean.has_whole_arcs,
        keep_none (is_changed input) (numbers_from 0 (whole_arcs input)) (λ k m.
            let h : k < whole_arcs input = omega (arith, (numbers_out 0 (whole_arcs input) m).1) in
            rw (clean_sound input clean k h, lt-ltb (new_number input k) most_in_table (omega (arith, clean.few_bytes, new_below input k)))),
      )

  module _ (none : (c : Change) → Listed input c → ⊥) where
    unlisted_whole : length input % 16 ≡ 0
    unlisted_whole = go ended
      where
        go : Ended → length input % 16 ≡ 0
        go (Ended.whole e) = e
        go (Ended.torn e) = absurd (none _ (Listed.has_torn_end e))

    unlisted_same : (k : ℕ) → k < whole_arcs input → KeptAs input k (new_number input k) × (fault_at input k ≡ None)
    unlisted_same k h = go (lot k h)
      where
        go : Lot k → KeptAs input k (new_number input k) × (fault_at input k ≡ None)
        go (Lot.goes reason l c is) = absurd (none _ l)
        go (Lot.as_it_is kept f c) = (kept, f)

    unlisted_few : whole_arcs input ≤ most_in_table
    unlisted_few = go (ltb most_in_table (whole_arcs input)) refl
      where
        go : (b : Bool) → ltb most_in_table (whole_arcs input) ≡ b → whole_arcs input ≤ most_in_table
        go false e = ltb-false _ _ e
        go true e =
            let over = ltb-true most_in_table (whole_arcs input) e in
            omega (arith, (unlisted_same most_in_table over).0.has_room, new_same input most_in_table (λ j l. (unlisted_same j (omega arith)).0.is_to_stay))

    unlisted_clean : Clean input
    unlisted_clean = record {
      few_bytes = omega (arith, unlisted_few, unlisted_whole);
      has_whole_arcs = unlisted_whole;
      sound = number_sound (arcs_of input) (faultless_number (arcs_of input) (λ j b.
          let h : j < whole_arcs input = omega (arith, arcs_length input) in
          ap arc_number (arcs_at input j (omega arith)) ∙ ap (λ (f : Option Fault). option_map_or fault_number f 0) (unlisted_same j h).1));
    }

  -- the list is empty exactly where there is no change
  pub clean_empty : Clean input → mended_list input ≡ []
  unfolding mended_list flat_map
  clean_empty clean = rw (clean_unlisted clean)

  pub empty_clean : mended_list input ≡ [] → Clean input
  empty_clean e = unlisted_clean (λ c l. gone (changes input) (listed_in l) (omega (arith, list_length input, ap length e)))
    where
      gone : {c : Change} (cs : List Change) → Memᴰ c cs → length cs ≡ 0 → ⊥
      gone [] m z = Memᴰ.not-nil m
      gone (d ∷ cs) m z = omega arith
