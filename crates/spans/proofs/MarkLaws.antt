-- A record with another span says the arc with that span, and the table written so says the arcs with their marks. Assumes nothing.
use Prim.Native.Nat.{ℕ, suc, ◌+◌, ◌*◌, ◌-◌, ◌/◌, ◌%◌, ◌≤◌, ◌<◌}
use mathlib.Core.List.{List, [], ◌∷◌, ◌++◌, flat_map}
use mathlib.Core.Path.{◌≡◌, refl, sym, ap, ◌∙◌}
use native.Mathlib.Numerals.{add-one}
use native.Mathlib.Omega.{arith}
use lib.ListN.{length, take, drop, length-drop}
use lib.Seq.{take_all, length-take-le, ext_get_or}
use Rattle.laws.specs.Choosing.{numbers_from}
use Rattle.laws.proofs.RowLaws.{numbers_length, numbers_out, numbers_at, flat_length, flat_at}
use Rattle.problem.specs.declared.Arc.{Arc}
use Rattle.problem.specs.Table.{most_table_bytes, number_at, bytes_of, record_at, arc_of, arcs_of}
use Rattle.problem.specs.Spans.{mark, with_span, marked}
use Rattle.problem.specs.Routes.{arc_at}
use Rattle.problem.proofs.TableLaws.{arcs_length, arcs_at}
use Rattle.problem.proofs.SpanLaws.{marked_length, marked_at, mark_range}
use Rattle.spans.specs.Marks.{respanned, marked_record, marked_from, marked_table}

-- ---- one record

-- a record begins with its ends and its span
data Headed : List ℕ → Type 0 where
  headed : (tail head low high : ℕ) (rest : List ℕ) → Headed (tail ∷ head ∷ low ∷ high ∷ rest)

record_headed : (b : List ℕ) → length b ≡ 16 → Headed b
record_headed [] h = absurd (omega arith)
record_headed (a ∷ []) h = absurd (omega arith)
record_headed (a ∷ b ∷ []) h = absurd (omega arith)
record_headed (a ∷ b ∷ c ∷ []) h = absurd (omega arith)
record_headed (a ∷ b ∷ c ∷ d ∷ l) h = Headed.headed a b c d l

respanned_length : (b : List ℕ) (s : ℕ) → length b ≡ 16 → length (respanned b s) ≡ 16
unfolding respanned bytes_of
respanned_length b s h = go (record_headed b h) h
  where
    go : {b : List ℕ} → Headed b → length b ≡ 16 → length (respanned b s) ≡ 16
    go (Headed.headed tail head low high rest) h = h

-- as it is put: its first two bytes, the span, and the rest
pub respanned_written : (b : List ℕ) (s : ℕ) → length b ≡ 16 → take 2 b ++ bytes_of 2 s ++ take (length b - 4) (drop 4 b) ≡ respanned b s
unfolding respanned bytes_of
respanned_written b s h = go (record_headed b h)
  where
    go : {b : List ℕ} → Headed b → take 2 b ++ bytes_of 2 s ++ take (length b - 4) (drop 4 b) ≡ respanned b s
    go (Headed.headed tail head low high rest) =
        ap (λ (r : List ℕ). tail ∷ head ∷ (s % 256) ∷ (s / 256 % 256) ∷ r) (take_all (length (tail ∷ head ∷ low ∷ high ∷ rest) - 4) rest (omega arith))

-- what it says
respanned_arc : (b : List ℕ) (s : ℕ) → length b ≡ 16 → s < 65536 → arc_of (respanned b s) ≡ with_span (arc_of b) s
unfolding respanned bytes_of arc_of number_at
respanned_arc b s h small = go (record_headed b h)
  where
    span : s % 256 + 256 * (s / 256 % 256 + 256 * 0) ≡ s
    span = omega arith

    go : {b : List ℕ} → Headed b → arc_of (respanned b s) ≡ with_span (arc_of b) s
    go (Headed.headed tail head low high rest) = ap (with_span (arc_of (tail ∷ head ∷ low ∷ high ∷ rest))) span

-- ---- all records

module _ (table : List ℕ) where
  whole_record : (k : ℕ) → k < length table / 16 → length (record_at table k) ≡ 16
  whole_record k h = length-take-le 16 (drop (16 * k) table) (rw length-drop (omega arith))

  pub record_length : (k : ℕ) → k < length table / 16 → length (marked_record table k) ≡ 16
  unfolding marked_record
  record_length k h = respanned_length (record_at table k) _ (whole_record k h)

  -- the first of them, and the others
  pub marked_next : (k m : ℕ) → marked_from table k (suc m) ≡ marked_record table k ++ marked_from table (k + 1) m
  unfolding marked_from numbers_from flat_map
  marked_next k m = rw add-one

  pub marked_end : (k : ℕ) → marked_from table k 0 ≡ []
  unfolding marked_from numbers_from flat_map
  marked_end k = refl

  abbrev all : List ℕ
  all = numbers_from 0 (length table / 16)

  pub table_length : length (marked_table table) ≡ 16 * (length table / 16)
  unfolding marked_from
  table_length =
      flat_length 16 (marked_record table) all (λ k m. record_length k (omega (arith, (numbers_out 0 (length table / 16) m).1))) ∙ ap (λ (n : ℕ). 16 * n) (numbers_length 0 (length table / 16))

  table_record : (k : ℕ) → k < length table / 16 → record_at (marked_table table) k ≡ marked_record table k
  unfolding marked_from
  table_record k h =
      flat_at 16 (marked_record table) 0 all (λ j m. record_length j (omega (arith, (numbers_out 0 (length table / 16) m).1))) k (omega (arith, numbers_length 0 (length table / 16)))
      ∙ (let here : 0 + k ≡ k = omega arith in ap (marked_record table) (numbers_at 0 (length table / 16) k h ∙ here))

  module _ (few : length table ≤ most_table_bytes) where
    -- each arc with its mark
    record_says : (k : ℕ) → k < length table / 16 → arc_of (marked_record table k) ≡ arc_at (marked (arcs_of table)) k
    unfolding marked_record
    record_says k h =
        let inside : k < length (arcs_of table) = omega (arith, arcs_length table) in
        let m = mark_range (arcs_of table) k inside in
        respanned_arc (record_at table k) (mark (arcs_of table) (arc_at (arcs_of table) k).span) (whole_record k h) (omega (arith, m, arcs_length table))
        ∙ ap (λ (a : Arc). with_span a (mark (arcs_of table) (arc_at (arcs_of table) k).span)) (sym (arcs_at table k (omega arith)))
        ∙ sym (marked_at (arcs_of table) k)

    pub marked_arcs_lem : arcs_of (marked_table table) ≡ marked (arcs_of table)
    marked_arcs_lem = ext_get_or (arc_at [] 0) (arcs_of (marked_table table)) (marked (arcs_of table)) size (λ k h.
        let inside : k < length table / 16 = omega (arith, arcs_length (marked_table table), table_length) in
        arcs_at (marked_table table) k (omega (arith, table_length)) ∙ ap arc_of (table_record k inside) ∙ record_says k inside)
      where
        size : length (arcs_of (marked_table table)) ≡ length (marked (arcs_of table))
        size = omega (arith, arcs_length (marked_table table), table_length, marked_length (arcs_of table), arcs_length table)
