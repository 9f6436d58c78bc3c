-- The tests of number 12, and what is printed of a reply buffer that the entry has filled. Assumes nothing.
use mathlib.Core.Path.{◌≡◌, refl, sym, ap, ap₂, ◌∙◌, subst}
use mathlib.Core.Bool.{Bool, true, false, true≢false}
use mathlib.Core.List.{List, [], ◌∷◌, ◌++◌, append-nil}
use Prim.Native.Nat.{ℕ, ◌≤◌, ◌<◌}
use native.Mathlib.Omega.{arith}
use lib.Dec.{ltb}
use lib.ListN.{length, get_or, drop, length-append, drop_of_length-le}
use borrow.Author.Tests.{ltb-true, ltb-false, lt-ltb}
use Rattle.std.specs.Prelude.{if◌then◌else◌}
use Rattle.octets.specs.Puts.{Puts}
use Rattle.problem.specs.Table.{reply_size, number_at}
use Rattle.problem.specs.declared.Request.{Request}
use Rattle.problem.specs.Closed.{none_closed}
use Rattle.problem.specs.Reply.{request, Answer, after, answer}
use Rattle.problem.specs.Calls.{Called}
use Rattle.problem.specs.Printed.{text, fields, lines, printed, request_of, faulty, output}
use Rattle.problem.proofs.CallLaws.{low_number}
use Rattle.problem.proofs.SaidLaws.{reply_size_lem}

pub faulty_short : (input : List ℕ) → length input < 16 → faulty input ≡ true
unfolding faulty
faulty_short input h = rw (lt-ltb (length input) 16 h)

pub output_fault : (input reply : List ℕ) → faulty input ≡ true → printed (record { number = 12; reply = reply }) ≡ output input
unfolding output printed
output_fault input reply e = rw (e)

pub faulty_long : (input : List ℕ) → faulty input ≡ false → 16 ≤ length input
faulty_long input e = go (ltb (length input) 16) refl
  where
    go : (b : Bool) → ltb (length input) 16 ≡ b → 16 ≤ length input
    go true f = absurd (true≢false (sym (faulty_short input (ltb-true (length input) 16 f)) ∙ e))
    go false f = ltb-false (length input) 16 f

-- what is printed of a buffer of 96 bytes that holds the reply is what is printed of the answer
pub printed_after : (table : List ℕ) (q : Request) (buffer : List ℕ) → length buffer ≡ reply_size
    → printed (record { number = (answer table q reply_size).number; reply = after (answer table q reply_size) buffer }) ≡ printed (answer table q reply_size)
unfolding printed after
printed_after table q buffer l = go (ltb (answer table q reply_size).number 2) refl
  where
    a : Answer
    a = answer table q reply_size

    go : (b : Bool) → ltb a.number 2 ≡ b
        → (if ltb a.number 2 then lines (a.reply ++ drop (length a.reply) buffer) else (text "refused" ++ fields (a.number ∷ [])))
        ≡ (if ltb a.number 2 then lines a.reply else (text "refused" ++ fields (a.number ∷ [])))
    go true e = rw (e) (ap lines (ap (λ (x : List ℕ). a.reply ++ x) (drop_of_length-le buffer {i = length a.reply} (omega (arith, l, reply_size_lem (low_number false table none_closed q reply_size (omega (arith, ltb-true a.number 2 e)))))) ∙ append-nil a.reply))
    go false e = rw (e)

pub output_answer : (input : List ℕ) → faulty input ≡ false → {n : ℕ} {before now : List ℕ} → length before ≡ reply_size
    → Called (drop 16 input) (request_of input) before n now → printed (record { number = n; reply = now }) ≡ output input
unfolding output
output_answer input e {n} {before} {now} l c =
    ap₂ (λ (x : ℕ) (y : List ℕ). printed (record { number = x; reply = y })) c.number_is c.buffer_is
    ∙ ap (λ (size : ℕ). printed (record { number = (answer (drop 16 input) (request_of input) size).number; reply = after (answer (drop 16 input) (request_of input) size) before })) l
    ∙ printed_after (drop 16 input) (request_of input) before l ∙ whole
  where
    whole : printed (answer (drop 16 input) (request_of input) reply_size) ≡ output input
    whole = rw (e)

-- bytes put at the beginning end inside the buffer
pub put_output : (a : Answer) (input before after : List ℕ) (next : ℕ) → Puts (printed a) before 0 after next → printed a ≡ output input → Puts (output input) before 0 after next × (next ≤ length after)
put_output a input before after next p e =
    (subst (λ (bytes : List ℕ). Puts bytes before 0 after next) e p, omega (arith, p.place, ap length p.holds, length-append (printed a) (drop next before)))

-- what the entry does with the request that was read is what it does with the request that the input says
pub asked_by : (input table before : List ℕ) (s t r a : ℕ) → table ≡ drop 16 input → s ≡ get_or input 0 0 → t ≡ get_or input 1 0 → r ≡ number_at input 4 4 → a ≡ number_at input 8 4
    → {n : ℕ} {now : List ℕ} → Called table (request s t r a) before n now → Called (drop 16 input) (request_of input) before n now
unfolding request_of
asked_by input table before s t r a te se tt re ae h = rw (sym te, sym se, sym tt, sym re, sym ae) h
