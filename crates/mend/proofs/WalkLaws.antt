-- All arcs mended, one after the other: what is left to be written, and what holds between two arcs. Assumes nothing.
use Rattle.std.specs.Prelude.{is_some, if◌then◌else◌}
use Prim.Native.Nat.{ℕ, suc, ◌+◌, ◌*◌, ◌-◌, ◌≤◌, ◌<◌}
use mathlib.Core.Bool.{Bool, true, false}
use mathlib.Core.List.{List, [], ◌∷◌, ◌++◌, map, flat_map}
use mathlib.Core.Path.{◌≡◌, refl, sym, ap, ap₂, ◌∙◌}
use native.Mathlib.Numerals.{add-one}
use native.Mathlib.Omega.{arith}
use lib.Dec.{ltb}
use lib.ListN.{length, take}
use lib.Seq.{take-nil}
use borrow.Author.Tests.{ltb-true, ltb-false}
use Rattle.laws.specs.Choosing.{numbers_from, keep}
use Rattle.laws.proofs.ListLaws.{keep_first, keep_past}
use Rattle.problem.specs.Table.{most_in_table, record_at}
use Rattle.problem.specs.Mending.{whole_arcs, fault_at, stays, staying_below, new_number, kept_arcs, mended_table, reason_at, is_changed, change_at, change_bytes}
use Rattle.problem.proofs.MendLaws.{new_stays, new_removed}
use Rattle.problem.proofs.ChangeLaws.{removed_lost, kept_reason, past_reason}
use Rattle.octets.proofs.PutLaws.{Unfinished, none_put, more_put, all_put, puts_length}
use Rattle.mend.specs.declared.Done.{Done}
use Rattle.mend.specs.Steps.{table_part, list_part, list_from, Ready, Stepped, Roomy, AllStepped}
use Rattle.mend.proofs.StepLaws.{table_part_short, list_part_short}

module _ (input : List ℕ) where
  -- the records of some arcs, one behind the other
  join : List ℕ → List ℕ
  join = flat_map (record_at input)

  -- what the m arcs from k on add to the table
  pub table_from : ℕ → ℕ → List ℕ
  table_from k m = join (take (most_in_table - new_number input k) (keep (stays input) (numbers_from k m)))

  part_lost : (k : ℕ) → is_some (reason_at input k) ≡ true → table_part input k ≡ []
  unfolding table_part
  part_lost k e = rw e

  part_kept : (k : ℕ) → is_some (reason_at input k) ≡ false → table_part input k ≡ record_at input k
  unfolding table_part
  part_kept k e = rw e

  -- those behind arc k, by how many stay up to it
  from_next : (k m : ℕ) {n : ℕ} → new_number input (k + 1) ≡ n → table_from (k + 1) m ≡ join (take (most_in_table - n) (keep (stays input) (numbers_from (suc k) m)))
  unfolding table_from
  from_next k m {n} e =
      ap (λ (x : ℕ). join (take (most_in_table - x) (keep (stays input) (numbers_from (k + 1) m)))) e
      ∙ ap (λ (j : ℕ). join (take (most_in_table - n) (keep (stays input) (numbers_from j m)))) (add-one k)

  -- arc k first
  table_next : (k m : ℕ) → table_from k (suc m) ≡ table_part input k ++ table_from (k + 1) m
  unfolding table_from join numbers_from flat_map
  table_next k m = go (stays input k) refl (ltb (new_number input k) most_in_table) refl
    where
      new : ℕ
      new = new_number input k

      rest : List ℕ
      rest = keep (stays input) (numbers_from (suc k) m)

      first : stays input k ≡ true → table_from k (suc m) ≡ join (take (most_in_table - new) (k ∷ rest))
      first e = ap (λ (l : List ℕ). join (take (most_in_table - new) l)) (keep_first (stays input) k (numbers_from (suc k) m) e)

      go : (b : Bool) → stays input k ≡ b → (t : Bool) → ltb new most_in_table ≡ t → table_from k (suc m) ≡ table_part input k ++ table_from (k + 1) m
      go false e t f =
          ap (λ (l : List ℕ). join (take (most_in_table - new) l)) (keep_past (stays input) k (numbers_from (suc k) m) e)
          ∙ sym (ap₂ (λ (x y : List ℕ). x ++ y) (part_lost k (removed_lost (fault_at input k) new e)) (from_next k m (new_removed input k e)))
      go true e true f =
          let room = ltb-true new most_in_table f in
          let one : most_in_table - new ≡ suc (most_in_table - (new + 1)) = omega arith in
          first e
          ∙ ap (λ (n : ℕ). join (take n (k ∷ rest))) one
          ∙ sym (ap₂ (λ (x y : List ℕ). x ++ y) (part_kept k (kept_reason (fault_at input k) new e room)) (from_next k m (new_stays input k e)))
      go true e false f =
          let past = ltb-false new most_in_table f in
          let none : most_in_table - new ≡ 0 = omega arith in
          let no_more : most_in_table - (new + 1) ≡ 0 = omega arith in
          first e
          ∙ ap (λ (n : ℕ). join (take n (k ∷ rest))) none
          ∙ sym (ap₂ (λ (x y : List ℕ). x ++ y) (part_lost k (ap is_some (past_reason (fault_at input k) new e past))) (from_next k m (new_stays input k e) ∙ ap (λ (n : ℕ). join (take n rest)) no_more))

  list_next : (k m : ℕ) → list_from input k (suc m) ≡ list_part input k ++ list_from input (k + 1) m
  unfolding list_from list_part numbers_from flat_map
  list_next k m = go (is_changed input k) refl ∙ ap (λ (j : ℕ). list_part input k ++ list_from input j m) (sym (add-one k))
    where
      told : List ℕ → List ℕ
      told l = flat_map change_bytes (map (change_at input) l)

      go : (b : Bool) → is_changed input k ≡ b → list_from input k (suc m) ≡ list_part input k ++ list_from input (suc k) m
      go true e = ap told (keep_first (is_changed input) k (numbers_from (suc k) m) e) ∙ sym (ap (λ (b : Bool). (if b then change_bytes (change_at input k) else []) ++ list_from input (suc k) m) e)
      go false e = ap told (keep_past (is_changed input) k (numbers_from (suc k) m) e) ∙ sym (ap (λ (b : Bool). (if b then change_bytes (change_at input k) else []) ++ list_from input (suc k) m) e)

  -- all arcs, and none
  table_all : table_from 0 (whole_arcs input) ≡ mended_table input
  unfolding table_from join mended_table kept_arcs staying_below numbers_from keep
  table_all = refl

  table_none : (k : ℕ) → table_from k 0 ≡ []
  unfolding table_from join numbers_from keep flat_map
  table_none k = ap join (take-nil (most_in_table - new_number input k))

  list_none : (k : ℕ) → list_from input k 0 ≡ []
  unfolding list_from numbers_from keep flat_map
  list_none k = refl

  -- ---- between two arcs

  -- those below k are mended
  pub record Underway (table₀ table list₀ list : List ℕ) (done : Done) (k : ℕ) : Type 0 where
    pub within : k ≤ whole_arcs input
    pub staying_is : done.staying ≡ new_number input k
    pub table_short : done.table ≤ 16 * k
    pub list_short : done.list ≤ 16 * k
    pub table_keeps_size : length table ≡ length table₀
    pub list_keeps_size : length list ≡ length list₀
    pub table_put : Unfinished (mended_table input) table₀ table done.table (table_from k (whole_arcs input - k))
    pub list_put : Unfinished (list_from input 0 (whole_arcs input)) list₀ list done.list (list_from input k (whole_arcs input - k))

  pub underway_start : (table list : List ℕ) → Underway table table list list (record { staying = 0; table = 0; list = 0 }) 0
  unfolding staying_below numbers_from keep
  underway_start table list = let all : whole_arcs input - 0 ≡ whole_arcs input = omega arith in record {
    within = omega arith;
    staying_is = refl;
    table_short = omega arith;
    list_short = omega arith;
    table_keeps_size = refl;
    list_keeps_size = refl;
    table_put = none_put table (ap (table_from 0) all ∙ table_all);
    list_put = none_put list (ap (list_from input 0) all);
  }

  module _ {table₀ table list₀ list : List ℕ} {done : Done} {k : ℕ} (u : Underway table₀ table list₀ list done k) where
    -- the next may be mended
    pub underway_ready : Roomy input (length table₀) (length list₀) → k < whole_arcs input → Ready input k done (length table) (length list)
    underway_ready room inside = record {
      few = room.few;
      is_whole = inside;
      staying_is = u.staying_is;
      table_room = omega (arith, u.table_short, u.table_keeps_size, room.table_room);
      list_room = omega (arith, u.list_short, u.list_keeps_size, room.list_room);
    }

    -- and is
    pub underway_next : Roomy input (length table₀) (length list₀) → k < whole_arcs input → {next : Done} {table' list' : List ℕ} → Stepped input k done next table table' list list'
        → Underway table₀ table' list₀ list' next (k + 1)
    underway_next room inside s =
        let one : whole_arcs input - k ≡ suc (whole_arcs input - (k + 1)) = omega arith in
        let ready = underway_ready room inside in
        let table_small = table_part_short input inside in
        let list_small = list_part_short input inside in
        record {
          within = omega arith;
          staying_is = s.staying_is;
          table_short = omega (arith, u.table_short, s.table_put.place);
          list_short = omega (arith, u.list_short, s.list_put.place);
          table_keeps_size = puts_length (omega (arith, s.table_put.place, ready.table_room)) s.table_put ∙ u.table_keeps_size;
          list_keeps_size = puts_length (omega (arith, s.list_put.place, ready.list_room)) s.list_put ∙ u.list_keeps_size;
          table_put = more_put u.table_put (ap (table_from k) one ∙ table_next k (whole_arcs input - (k + 1))) s.table_put;
          list_put = more_put u.list_put (ap (list_from input k) one ∙ list_next k (whole_arcs input - (k + 1))) s.list_put;
        }

    -- until all are
    pub underway_end : whole_arcs input ≤ k → AllStepped input done table₀ table list₀ list
    underway_end h =
        let none : whole_arcs input - k ≡ 0 = omega arith in
        let all : k ≡ whole_arcs input = omega (arith, u.within) in
        record {
          staying_is = u.staying_is ∙ ap (new_number input) all;
          table_put = all_put u.table_put (ap (table_from k) none ∙ table_none k);
          list_put = all_put u.list_put (ap (list_from input k) none ∙ list_none k);
          list_short = omega (arith, u.list_short, u.within);
        }
