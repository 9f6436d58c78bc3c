-- How much room the text takes, and its first line. Assumes nothing.
use Rattle.std.specs.Prelude.{ℕ, List, [], ◌∷◌, ◌++◌, eqb, if◌then◌else◌}
use Rattle.problem.specs.Reply.{verdict_in, shared_in, floor_in, ranked_in}
use Rattle.problem.specs.Printed.{text, fields}

-- three lines are at most 460 bytes: their words, 5 numbers of up to 10 digits, 96 of up to 3, a space before each, 3 line feeds;
-- a number is written only where there is room for 10 digits
abbrev pub print_room : ℕ
print_room = 480

-- the first of the three lines
unfoldable pub verdict_line : List ℕ → List ℕ
verdict_line reply = (if eqb (verdict_in reply) 0 then text "settled" else text "stopped") ++ fields (shared_in reply ∷ floor_in reply ∷ ranked_in reply ∷ [])
