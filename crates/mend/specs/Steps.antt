-- A table mended arc by arc: what each arc adds to the two outputs, what a step does, and all steps together. Assumes nothing.
use Rattle.std.specs.Prelude.{ℕ, ◌+◌, ◌*◌, ◌≤◌, ◌<◌, ◌≡◌, length, is_some, if◌then◌else◌}
use mathlib.Core.List.{List, [], flat_map}
use Rattle.problem.specs.Table.{record_at}
use Rattle.problem.specs.Mending.{most_field_bytes, whole_arcs, new_number, mended_table, reason_at, torn_end, is_changed, change_at, changes_from, change_bytes, rounded_up, Mends}
use Rattle.octets.specs.Puts.{Puts}
use Rattle.mend.specs.declared.Done.{Done}
use Rattle.mend.specs.declared.Mended.{Mended}

module _ (input : List ℕ) where
  -- what arc k adds to the table, and to the list
  unfoldable pub table_part : ℕ → List ℕ
  table_part k = if is_some (reason_at input k) then [] else record_at input k

  unfoldable pub list_part : ℕ → List ℕ
  list_part k = if is_changed input k then change_bytes (change_at input k) else []

  -- what the m arcs from k on add to the list
  unfoldable pub list_from : ℕ → ℕ → List ℕ
  list_from k m = flat_map change_bytes (changes_from input k m)

  -- and what a torn end adds
  unfoldable pub torn_bytes : List ℕ
  torn_bytes = flat_map change_bytes (torn_end input)

  -- arc k may be mended: those before it are, and there is room
  pub record Ready (k : ℕ) (done : Done) (table_size list_size : ℕ) : Type 0 where
    pub few : length input ≤ most_field_bytes
    pub is_whole : k < whole_arcs input
    pub staying_is : done.staying ≡ new_number input k
    pub table_room : done.table + 16 ≤ table_size
    pub list_room : done.list + 16 ≤ list_size

  -- and then it is
  pub record Stepped (k : ℕ) (done next : Done) (table₀ table list₀ list : List ℕ) : Type 0 where
    pub staying_is : next.staying ≡ new_number input (k + 1)
    pub table_put : Puts (table_part k) table₀ done.table table next.table
    pub list_put : Puts (list_part k) list₀ done.list list next.list

  -- the outputs have room for every arc
  pub record Roomy (table_size list_size : ℕ) : Type 0 where
    pub few : length input ≤ most_field_bytes
    pub table_room : rounded_up input ≤ table_size
    pub list_room : rounded_up input ≤ list_size

  -- all whole arcs are mended
  pub record AllStepped (done : Done) (table₀ table list₀ list : List ℕ) : Type 0 where
    pub staying_is : done.staying ≡ new_number input (whole_arcs input)
    pub table_put : Puts (mended_table input) table₀ 0 table done.table
    pub list_put : Puts (list_from 0 (whole_arcs input)) list₀ 0 list done.list
    pub list_short : done.list ≤ 16 * whole_arcs input

-- what a call of the entry does, by the fields of what it returns
abbrev pub MendsBy : (input table₀ list₀ : List ℕ) → Mended → (table list : List ℕ) → Type 0
MendsBy input table₀ list₀ r table list = Mends input table₀ list₀ r.number r.table_len r.list_len table list
