-- Request T-01, Mending tables from the field: which arcs are kept, what is changed or lost, the two outputs of the mender, and what a reader makes of the list. Assumes nothing.
use Rattle.std.specs.Prelude.{ℕ, zero, suc, ◌+◌, ◌*◌, ◌/◌, ◌%◌, ◌≤◌, ◌<◌, Bool, true, false, ◌&&◌, ◌||◌, ◌≡◌, eqb, leb, ltb, length, get_or, take, replicate, if◌then◌else◌, Option, Some, None, is_some}
use Rattle.std.specs.Option.{option_map_or}
use mathlib.Core.List.{List, [], ◌∷◌, ◌++◌, map, flat_map}
use Rattle.laws.specs.Choosing.{numbers_from, keep}
use Rattle.problem.specs.declared.Fault.{Fault}
use Rattle.problem.specs.declared.Fault.TheVariants.{Node, EqualEnds, Length}
use Rattle.problem.specs.declared.Reason.{Reason}
use Rattle.problem.specs.declared.Reason.TheVariants.{BadNode, SameEnds, TooLong, PastLimit, TornEnd}
use Rattle.problem.specs.Table.{most_table_bytes, most_in_table, number_at, bytes_of, over, record_at, arc_of, arcs_of, fault_of, all_sound}
use Rattle.problem.specs.Reply.{Check, check, first_number}

-- the longest input
abbrev pub most_field_bytes : ℕ
most_field_bytes = 4096

-- a table that the planner refuses neither for its length nor for a fault of an arc; a blank (T-09) is left for a person
pub record Clean (table : List ℕ) : Type 0 where
  pub few_bytes : length table ≤ most_table_bytes
  pub has_whole_arcs : length table % 16 ≡ 0
  pub sound : all_sound (arcs_of table) ≡ true

-- ---- what is kept

-- how many whole arcs the input has
abbrev pub whole_arcs : List ℕ → ℕ
whole_arcs input = length input / 16

-- the first fault of arc k
abbrev pub fault_at : List ℕ → ℕ → Option Fault
fault_at input k = fault_of (arc_of (record_at input k))

-- an arc with a bad node, equal ends or a bad length is removed
abbrev pub may_stay : Option Fault → Bool
may_stay (Some Node) = false
may_stay (Some EqualEnds) = false
may_stay (Some Length) = false
may_stay None = true

-- whether arc k stays, if there is room for it
abbrev pub stays : List ℕ → ℕ → Bool
stays input k = may_stay (fault_at input k)

-- of the arcs below k, those that stay
unfoldable pub staying_below : List ℕ → ℕ → List ℕ
staying_below input k = keep (stays input) (numbers_from 0 k)

-- the number of arc k afterwards, where it is kept: as many as stay before it
abbrev pub new_number : List ℕ → ℕ → ℕ
new_number input k = length (staying_below input k)

-- the arcs that are kept, by their old numbers: of those that stay, the first 128
unfoldable pub kept_arcs : List ℕ → List ℕ
kept_arcs input = take most_in_table (staying_below input (whole_arcs input))

-- the mended table
unfoldable pub mended_table : List ℕ → List ℕ
mended_table input = flat_map (record_at input) (kept_arcs input)

-- ---- what is changed or lost

-- why arc k is lost, by its first fault and its number afterwards: a fault is looked for before the limit of 128; none where it is kept
abbrev pub reason_for : Option Fault → ℕ → Option Reason
reason_for (Some Node) new = Some BadNode
reason_for (Some EqualEnds) new = Some SameEnds
reason_for (Some Length) new = Some TooLong
reason_for None new = if ltb new most_in_table then None else Some PastLimit

abbrev pub reason_at : List ℕ → ℕ → Option Reason
reason_at input k = reason_for (fault_at input k) (new_number input k)

-- the number of each
abbrev pub reason_number : Reason → ℕ
reason_number BadNode = 1
reason_number SameEnds = 2
reason_number TooLong = 3
reason_number PastLimit = 5
reason_number TornEnd = 6

-- in place of a new number, where there is none
abbrev pub no_number : ℕ
no_number = 65535

-- what the list says of an arc: its number in the input, the reason, its number afterwards
pub record Change : Type 0 where
  pub old : ℕ
  pub reason : ℕ
  pub new : ℕ

abbrev pub changed : ℕ → Option Reason → ℕ → Change
changed old reason new = record { old = old; reason = option_map_or reason_number reason 0; new = if is_some reason then no_number else new }

-- a torn end counts as the arc that it would have been
unfoldable pub torn_end : List ℕ → List Change
torn_end input = if eqb (length input % 16) 0 then [] else changed (whole_arcs input) (Some TornEnd) no_number ∷ []

-- whether arc k is lost, since only then it stands in the list, and its change; the changes of m arcs from k on
abbrev pub is_changed : List ℕ → ℕ → Bool
is_changed input k = is_some (reason_at input k)

abbrev pub change_at : List ℕ → ℕ → Change
change_at input k = changed k (reason_at input k) (new_number input k)

abbrev pub changes_from : List ℕ → ℕ → ℕ → List Change
changes_from input k m = map (change_at input) (keep (is_changed input) (numbers_from k m))

-- every change, by rising old number
unfoldable pub changes : List ℕ → List Change
changes input = changes_from input 0 (whole_arcs input) ++ torn_end input

-- a change as its record of 16 bytes
unfoldable pub change_bytes : Change → List ℕ
change_bytes c = bytes_of 2 c.old ++ c.reason ∷ 0 ∷ [] ++ bytes_of 2 c.new ++ replicate 10 0

-- the list
unfoldable pub mended_list : List ℕ → List ℕ
mended_list input = flat_map change_bytes (changes input)

-- ---- what a reader makes of the list

-- the change that 16 bytes say, and the changes that the list says
unfoldable pub change_in : List ℕ → Change
change_in b = record { old = number_at b 0 2; reason = get_or b 2 0; new = number_at b 4 2 }

unfoldable pub changes_in : List ℕ → List Change
changes_in list = map (λ k. change_in (record_at list k)) (numbers_from 0 (length list / 16))

-- the number in the input of the arc that now has the number `at`: each arc lost at or before it puts it one further on
unfoldable pub old_number : List Change → ℕ → ℕ
old_number [] at = at
old_number (c ∷ cs) at = old_number cs (if leb c.old at && eqb c.new no_number then suc at else at)

-- ---- a call

-- what a call of the mender gives: the number returned, and the bytes written to its two outputs, none with a refusal
pub record Mending : Type 0 where
  pub number : ℕ
  pub table : List ℕ
  pub list : List ℕ

-- the input's length, rounded up to 16
abbrev pub rounded_up : List ℕ → ℕ
rounded_up input = (length input + 15) / 16 * 16

-- the checks of a call, in their order; the sizes are those of the two outputs
unfoldable pub mend_checks : List ℕ → (table_size list_size : ℕ) → List Check
mend_checks input table_size list_size =
    check (ltb most_field_bytes (length input)) 2
    ∷ check (ltb table_size (rounded_up input) || ltb list_size (rounded_up input)) 13
    ∷ []

unfoldable pub mending_unless : ℕ → List ℕ → Mending
mending_unless zero input = record { number = 0; table = mended_table input; list = mended_list input }
mending_unless (suc n) input = record { number = suc n; table = []; list = [] }

-- for every input and whatever outputs
unfoldable pub mending : List ℕ → (table_size list_size : ℕ) → Mending
mending input table_size list_size = mending_unless (first_number (mend_checks input table_size list_size)) input

-- what a call of the mender does: it finds `table₀` and `list₀` in its outputs, returns a number and two lengths, and leaves `table` and `list`
pub record Mends (input table₀ list₀ : List ℕ) (number table_written list_written : ℕ) (table list : List ℕ) : Type 0 where
  pub number_is : number ≡ (mending input (length table₀) (length list₀)).number
  pub table_length : table_written ≡ length (mending input (length table₀) (length list₀)).table
  pub list_length : list_written ≡ length (mending input (length table₀) (length list₀)).list
  pub table_is : table ≡ over (mending input (length table₀) (length list₀)).table table₀
  pub list_is : list ≡ over (mending input (length table₀) (length list₀)).list list₀

-- ---- what the promises speak of

-- arc `old` of the input is arc `new` of the mended table
pub record KeptAs (input : List ℕ) (old new : ℕ) : Type 0 where
  pub is_whole : old < whole_arcs input
  pub is_to_stay : stays input old ≡ true
  pub in_turn : new_number input old ≡ new
  pub has_room : new < most_in_table

-- a change that loses arc k
abbrev pub lost : ℕ → ℕ → Change
lost k reason = record { old = k; reason = reason; new = no_number }

-- what must stand in the list, reason by reason
pub data Listed (input : List ℕ) : Change → Type 0 where
  bad_node : (k : ℕ) → k < whole_arcs input → fault_at input k ≡ Some Node → Listed input (lost k 1)
  equal_ends : (k : ℕ) → k < whole_arcs input → fault_at input k ≡ Some EqualEnds → Listed input (lost k 2)
  bad_length : (k : ℕ) → k < whole_arcs input → fault_at input k ≡ Some Length → Listed input (lost k 3)
  past_limit : (k : ℕ) → k < whole_arcs input → stays input k ≡ true → most_in_table ≤ new_number input k → Listed input (lost k 5)
  has_torn_end : (length input % 16 ≡ 0 → ⊥) → Listed input (lost (whole_arcs input) 6)
