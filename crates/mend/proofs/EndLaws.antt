-- From the ends of a call to what the definitions give. Assumes nothing.
use Prim.Native.Nat.{ℕ, ◌+◌, ◌≤◌}
use mathlib.Core.List.{List, ◌++◌}
use mathlib.Core.Path.{◌≡◌, refl, sym, ap, ◌∙◌}
use native.Mathlib.Omega.{arith}
use lib.ListN.{length}
use Rattle.laws.proofs.RowLaws.{flat_append}
use Rattle.problem.specs.Table.{most_table_bytes, over}
use Rattle.problem.specs.Reply.{first_number}
use Rattle.problem.specs.Mending.{most_field_bytes, whole_arcs, torn_end, changes_from, changes, change_bytes, mended_list, Mending, mend_checks, mending_unless, mending, Mends}
use Rattle.problem.proofs.MendLaws.{table_clean}
use Rattle.problem.proofs.MendCallLaws.{mend_fits, zero_exactly}
use Rattle.octets.specs.Puts.{Puts}
use Rattle.octets.proofs.PutLaws.{puts_as, puts_next, puts_whole, puts_length}
use Rattle.mend.specs.declared.Done.{Done}
use Rattle.mend.specs.declared.Refusal.{Refusal}
use Rattle.mend.specs.declared.Refusal.TheVariants.{InputTooLong, OutputTooShort}
use Rattle.mend.specs.Refusals.{refusal_number}
use Rattle.mend.specs.Steps.{list_from, torn_bytes, Roomy, AllStepped}
use Rattle.mend.proofs.WrittenLaws.{torn_short}

-- what a call does that gives this
ending : {input table₀ list₀ table list : List ℕ} {number n m : ℕ} {given : Mending} → mending input (length table₀) (length list₀) ≡ given → number ≡ given.number → n ≡ length given.table → m ≡ length given.list
    → table ≡ over given.table table₀ → list ≡ over given.list list₀ → Mends input table₀ list₀ number n m table list
ending {table₀ = table₀} {list₀} is number_is table_length list_length table_is list_is =
    record {
      number_is = number_is ∙ ap (λ (g : Mending). g.number) (sym is);
      table_length = table_length ∙ ap (λ (g : Mending). length g.table) (sym is);
      list_length = list_length ∙ ap (λ (g : Mending). length g.list) (sym is);
      table_is = table_is ∙ ap (λ (g : Mending). over g.table table₀) (sym is);
      list_is = list_is ∙ ap (λ (g : Mending). over g.list list₀) (sym is);
    }

-- by a check
pub refused : {input table list : List ℕ} (r : Refusal) → refusal_number r ≡ first_number (mend_checks input (length table) (length list)) → Mends input table list (refusal_number r) 0 0 table list
unfolding mending mending_unless
refused {input} InputTooLong e = ending (ap (λ (x : ℕ). mending_unless x input) (sym e)) refl refl refl refl refl
refused {input} OutputTooShort e = ending (ap (λ (x : ℕ). mending_unless x input) (sym e)) refl refl refl refl refl

-- by none
pub roomy : {input : List ℕ} {n m : ℕ} → 0 ≡ first_number (mend_checks input n m) → Roomy input n m
unfolding mending mending_unless
roomy {input} {n} {m} e =
    let r = (zero_exactly input n m).0 (ap (λ (x : ℕ). (mending_unless x input).number) (sym e)) in
    record { few = r.0; table_room = r.1; list_room = r.2 }

module _ {input table₀ table list₀ list : List ℕ} {done : Done} (room : Roomy input (length table₀) (length list₀)) (all : AllStepped input done table₀ table list₀ list) where
  -- there is room for a torn end
  pub torn_fits : done.list + length (torn_bytes input) ≤ length list
  torn_fits =
      let same = puts_length (omega (arith, all.list_short, room.list_room)) all.list_put in
      omega (arith, same, torn_short input, all.list_short, room.list_room)

  -- both lengths fit their words
  pub table_fits : done.table ≤ most_table_bytes
  table_fits = omega (arith, all.table_put.place, (table_clean input).few_bytes)

  pub list_fits : {end : ℕ} {list' : List ℕ} → Puts (torn_bytes input) list done.list list' end → end ≤ most_field_bytes
  list_fits torn = omega (arith, torn.place, torn_short input, all.list_short, room.few)

  -- the changes of whole arcs, and that of a torn end
  list_whole : list_from input 0 (whole_arcs input) ++ torn_bytes input ≡ mended_list input
  unfolding list_from torn_bytes mended_list changes
  list_whole = sym (flat_append change_bytes (changes_from input 0 (whole_arcs input)) (torn_end input))

  pub given : {end : ℕ} {list' : List ℕ} → Puts (torn_bytes input) list done.list list' end → Mends input table₀ list₀ 0 done.table end table list'
  given torn =
      let listed = puts_as list_whole (puts_next all.list_put torn) in
      ending (mend_fits input (length table₀) (length list₀) room.few room.table_room room.list_room) refl (omega (arith, all.table_put.place)) (omega (arith, listed.place))
      (puts_whole all.table_put) (puts_whole listed)
