-- 01, The program `routes`: kilometres, and the bytes printed for what is read. Assumes nothing.
use Prim.Native.Char.{code}
use Rattle.std.specs.Prelude.{ℕ, zero, suc, ◌+◌, ◌/◌, ◌%◌, ◌≤◌, ◌<◌, Bool, true, false, ◌||◌, not, List, [], ◌∷◌, ◌++◌, ◌≡◌, eqb, ltb, length, get_or, drop, if◌then◌else◌}
use Prim.Native.String.{String}
use Rattle.problem.specs.Table.{reply_size, number_at}
use Rattle.problem.specs.declared.Request.{Request}
use Rattle.problem.specs.Reply.{request, Answer, answer, refuse, verdict_in, shared_in, floor_in, ranked_in, main_metres_in, standby_metres_in, main_in, standby_in}

-- metres plus 999, divided by 1,000, whole part: once per route
unfoldable pub kilometres : ℕ → ℕ
kilometres metres = (metres + 999) / 1000

-- the bytes of a text
unfoldable pub text : String → List ℕ
text String.[] = []
text (String.◌∷◌ c s) = code c ∷ text s

-- a number in decimal, of at most n digits
unfoldable pub digits : ℕ → ℕ → List ℕ
digits zero x = []
digits (suc n) x = elim (ltb x 10) [ true ↦ (48 + x) ∷ [] | false ↦ digits n (x / 10) ++ (48 + x % 10) ∷ [] ]

-- each number behind a space, then a line feed; 10 digits are enough for 32 bits
unfoldable pub fields : List ℕ → List ℕ
fields [] = text "\n"
fields (x ∷ xs) = text " " ++ digits 10 x ++ fields xs

-- the three lines for a reply record
unfoldable pub lines : List ℕ → List ℕ
lines reply =
    (if eqb (verdict_in reply) 0 then text "settled" else text "stopped") ++ fields (shared_in reply ∷ floor_in reply ∷ ranked_in reply ∷ [])
    ++ text "main" ++ fields (kilometres (main_metres_in reply) ∷ main_in reply)
    ++ text "standby" ++ fields (kilometres (standby_metres_in reply) ∷ standby_in reply)

-- what is printed for an answer
unfoldable pub printed : Answer → List ℕ
printed a = if ltb a.number 2 then lines a.reply else (text "refused" ++ fields (a.number ∷ []))

-- the request record of 16 bytes
unfoldable pub request_of : List ℕ → Request
request_of b = request (get_or b 0 0) (get_or b 1 0) (number_at b 4 4) (number_at b 8 4)

-- number 12: the input is under 16 bytes, or bytes 2 to 3 or 12 to 15 of the request are not zero
unfoldable pub faulty : List ℕ → Bool
faulty input = ltb (length input) 16 || not (eqb (number_at input 2 2) 0) || not (eqb (number_at input 12 4) 0)

-- the same in 01's words: input under 16 bytes, or a byte of the request that should be zero and is not
pub data Unreadable (input : List ℕ) : Type 0 where
  too_short : length input < 16 → Unreadable input
  not_zero_low : (k : ℕ) → 2 ≤ k → k ≤ 3 → (get_or input k 0 ≡ 0 → ⊥) → Unreadable input
  not_zero_high : (k : ℕ) → 12 ≤ k → k ≤ 15 → (get_or input k 0 ≡ 0 → ⊥) → Unreadable input

-- what the program prints for what it reads; number 12 is looked for first
unfoldable pub output : List ℕ → List ℕ
output input = printed (elim (faulty input) [ true ↦ refuse 12 | false ↦ answer (drop 16 input) (request_of input) reply_size ])
