-- 01, The span table: the limits, numbers in bytes, the arc of 16 bytes, its faults, the table. Assumes nothing.
use Rattle.std.specs.Prelude.{ℕ, zero, suc, ◌+◌, ◌*◌, ◌/◌, ◌%◌, ◌≤◌, ◌<◌, Bool, ◌||◌, List, [], ◌∷◌, ◌++◌, ◌≡◌, eqb, ltb, length, get_or, take, drop, if◌then◌else◌, Option, Some, None}
use Rattle.std.specs.Option.{option_map_or}
use Rattle.problem.specs.declared.Arc.{Arc}
use Rattle.problem.specs.declared.Fault.{Fault}
use Rattle.problem.specs.declared.Fault.TheVariants.{Node, EqualEnds, Length}

-- nodes are numbered from 0 to this
abbrev pub last_node : ℕ
last_node = 31

abbrev pub nodes : ℕ
nodes = suc last_node

-- a route of more arcs would meet a node twice
abbrev pub most_arcs : ℕ
most_arcs = 31

-- risks are numbered from 0 to one below this
abbrev pub risk_width : ℕ
risk_width = 64

-- what two routes can share at most: every risk, and the span of each arc
abbrev pub most_shared : ℕ
most_shared = risk_width + most_arcs

abbrev pub most_arc_metres : ℕ
most_arc_metres = 2000000

-- the largest reach. No route is longer, whatever the reach: most_arcs arcs of most_arc_metres (`no_path_longer` of proofs/Promises.antt)
abbrev pub most_reach : ℕ
most_reach = 62000000

abbrev pub most_allowance : ℕ
most_allowance = 1000000

abbrev pub most_table_bytes : ℕ
most_table_bytes = 2048

-- how many arcs the largest table has
abbrev pub most_in_table : ℕ
most_in_table = most_table_bytes / 16

-- what an exposure tells apart: the risks, and a span for each arc of the largest table
abbrev pub hazards : ℕ
hazards = risk_width + most_in_table

abbrev pub reply_size : ℕ
reply_size = 96

-- each of a list is a byte
abbrev pub Bytes : List ℕ → Type 0
Bytes l = (k : ℕ) → get_or l k 0 < 256

-- the number that n bytes from `at` on say, little-endian
unfoldable pub number_at : List ℕ → ℕ → ℕ → ℕ
number_at bytes at zero = 0
number_at bytes at (suc n) = get_or bytes at 0 + 256 * number_at bytes (suc at) n

-- a number as n bytes, little-endian
unfoldable pub bytes_of : ℕ → ℕ → List ℕ
bytes_of zero x = []
bytes_of (suc n) x = x % 256 ∷ bytes_of n (x / 256)

-- bytes written over the beginning of a buffer, which keeps what stands behind them
abbrev pub over : List ℕ → List ℕ → List ℕ
over bytes buffer = bytes ++ drop (length bytes) buffer

-- the bytes of record k, of records of 16 bytes one behind another
abbrev pub record_at : List ℕ → ℕ → List ℕ
record_at bytes k = take 16 (drop (16 * k) bytes)

-- the arc that 16 bytes say; bytes 2 and 3 are its span's number, 0 where that is not known (T-03)
unfoldable pub arc_of : List ℕ → Arc
arc_of b = record { tail = get_or b 0 0; head = get_or b 1 0; span = number_at b 2 2; metres = number_at b 4 4; risks = number_at b 8 8 }

-- the first n arcs of a table; arc number = position, from 0
unfoldable pub first_arcs : ℕ → List ℕ → List Arc
first_arcs zero table = []
first_arcs (suc n) table = arc_of (take 16 table) ∷ first_arcs n (drop 16 table)

unfoldable pub arcs_of : List ℕ → List Arc
arcs_of table = first_arcs (length table / 16) table

-- an arc whose every field is in its range; any span number is
pub record SoundArc (a : Arc) : Type 0 where
  pub tail_node : a.tail ≤ last_node
  pub head_node : a.head ≤ last_node
  pub ends_differ : a.tail ≡ a.head → ⊥
  pub metres_range : a.metres ≤ most_arc_metres

-- a fault that an arc has, whatever its others
pub data HasFault (a : Arc) : Fault → Type 0 where
  tail_too_high : last_node < a.tail → HasFault a Node
  head_too_high : last_node < a.head → HasFault a Node
  ends_equal : a.tail ≡ a.head → HasFault a EqualEnds
  too_long : most_arc_metres < a.metres → HasFault a Length

-- the first fault of an arc, in order; a sound arc has none
unfoldable pub fault_of : Arc → Option Fault
fault_of a =
    if ltb last_node a.tail || ltb last_node a.head then Some Node
    else (if eqb a.tail a.head then Some EqualEnds
    else (if ltb most_arc_metres a.metres then Some Length
    else None))

-- the number of each
abbrev pub fault_number : Fault → ℕ
fault_number Node = 20
fault_number EqualEnds = 21
fault_number Length = 22

-- the number of an arc's first fault; 0 for a sound arc
abbrev pub arc_number : Arc → ℕ
arc_number a = option_map_or fault_number (fault_of a) 0

-- of a list counted from i on, the first that has a number other than 0: that number, and 256 times which it is; 0 where none has
unfoldable pub first_told : {A : Type 0} → (A → ℕ) → ℕ → List A → ℕ
first_told number i [] = 0
first_told number i (a ∷ l) = if eqb (number a) 0 then first_told number (suc i) l else number a + 256 * i

-- the number returned for the lowest arc that has a fault: that of its first fault, and 256 times the arc's number; 0 where none has
unfoldable pub arcs_number : List Arc → ℕ
arcs_number arcs = first_told arc_number 0 arcs

-- every field of every arc is in its range
unfoldable pub all_sound : List Arc → Bool
all_sound arcs = eqb (arcs_number arcs) 0
