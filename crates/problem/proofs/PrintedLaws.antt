-- What is printed of a refusal says its number alone; so number 12 is printed just where it is looked for, and 9 and 11 nowhere. Assumes nothing.
use mathlib.Core.Path.{◌≡◌, refl, sym, ap, ◌∙◌, subst}
use mathlib.Core.Bool.{Bool, true, false, ◌||◌, not, or-true}
use mathlib.Core.Logic.{◌⊎◌, inl, inr, ◌↔◌}
use mathlib.Core.List.{List, [], ◌∷◌, ◌++◌, append_cancel_left, append_cancel_right}
use Prim.Native.Nat.{ℕ, zero, suc, ◌+◌, ◌^◌, ◌≤◌, ◌<◌}
use native.Mathlib.Omega.{arith}
use lib.Dec.{eqb, ltb}
use lib.ListN.{length, get_or, drop}
use borrow.Author.Tests.{ltb-true, lt-ltb, eqb-true, eqb-false, ne_eqb, not-true}
use Rattle.laws.proofs.BoolLaws.{or_cases}
use Rattle.problem.specs.Table.{reply_size, number_at}
use Rattle.problem.specs.Opened.{opened}
use Rattle.problem.specs.Closed.{none_closed}
use Rattle.problem.specs.Reply.{Answer, answer, verdict_in}
use Rattle.problem.specs.Printed.{text, digits, fields, lines, printed, request_of, faulty, Unreadable, output}
use Rattle.problem.proofs.DigitLaws.{digits_same}
use Rattle.problem.proofs.RefusalLaws.{Known, unknown}
use Rattle.problem.proofs.CallLaws.{number_known}

-- ---- the test

-- a number that is not zero has a byte that is not, and only such a number has
nonzero_byte : (bytes : List ℕ) (at n : ℕ) → (number_at bytes at n ≡ 0 → ⊥) → (k : ℕ) × (at ≤ k) × (k < at + n) × (get_or bytes k 0 ≡ 0 → ⊥)
unfolding number_at
nonzero_byte bytes at zero h = absurd (h refl)
nonzero_byte bytes at (suc n) h = go (eqb (get_or bytes at 0) 0) refl (nonzero_byte bytes (suc at) n)
  where
    go : (s : Bool) → eqb (get_or bytes at 0) 0 ≡ s
        → ((number_at bytes (suc at) n ≡ 0 → ⊥) → (k : ℕ) × (suc at ≤ k) × (k < suc at + n) × (get_or bytes k 0 ≡ 0 → ⊥))
        → (k : ℕ) × (at ≤ k) × (k < at + suc n) × (get_or bytes k 0 ≡ 0 → ⊥)
    go true e ih = let o = ih (λ z. h (omega (arith, eqb-true (get_or bytes at 0) 0 e))) in (o.0, omega (arith, o.1), omega (arith, o.2), o.3)
    go false e ih = (at, omega arith, omega arith, eqb-false (get_or bytes at 0) 0 e)

byte_nonzero : (bytes : List ℕ) (at n k : ℕ) → at ≤ k → k < at + n → (get_or bytes k 0 ≡ 0 → ⊥) → number_at bytes at n ≡ 0 → ⊥
unfolding number_at
byte_nonzero bytes at zero k l b h e = omega arith
byte_nonzero bytes at (suc n) k l b h e = go (eqb at k) refl (byte_nonzero bytes (suc at) n k)
  where
    go : (s : Bool) → eqb at k ≡ s → (suc at ≤ k → k < suc at + n → (get_or bytes k 0 ≡ 0 → ⊥) → number_at bytes (suc at) n ≡ 0 → ⊥) → ⊥
    go true q ih = h (ap (λ (j : ℕ). get_or bytes j 0) (sym (eqb-true at k q)) ∙ omega arith)
    go false q ih = ih (omega (arith, eqb-false at k q)) (omega arith) h (omega arith)

faulty_exactly : (input : List ℕ) → (faulty input ≡ true) ↔ Unreadable input
unfolding faulty
faulty_exactly input = (λ e. to (or_cases (ltb (length input) 16 || not (eqb (number_at input 2 2) 0)) (not (eqb (number_at input 12 4) 0)) e), from)
  where
    low : (ltb (length input) 16 ≡ true) ⊎ (not (eqb (number_at input 2 2) 0) ≡ true) → Unreadable input
    low (inl e) = Unreadable.too_short (ltb-true (length input) 16 e)
    low (inr e) =
        let o = nonzero_byte input 2 2 (eqb-false (number_at input 2 2) 0 (not-true _ e)) in Unreadable.not_zero_low o.0 o.1 (omega (arith, o.2)) o.3

    to : ((ltb (length input) 16 || not (eqb (number_at input 2 2) 0)) ≡ true) ⊎ (not (eqb (number_at input 12 4) 0) ≡ true) → Unreadable input
    to (inl e) = low (or_cases (ltb (length input) 16) (not (eqb (number_at input 2 2) 0)) e)
    to (inr e) =
        let o = nonzero_byte input 12 4 (eqb-false (number_at input 12 4) 0 (not-true _ e)) in Unreadable.not_zero_high o.0 o.1 (omega (arith, o.2)) o.3

    from : Unreadable input → faulty input ≡ true
    from (Unreadable.too_short h) = rw (lt-ltb (length input) 16 h)
    from (Unreadable.not_zero_low k l b h) = rw (ne_eqb (number_at input 2 2) 0 (byte_nonzero input 2 2 k l (omega arith) h), or-true (ltb (length input) 16))
    from (Unreadable.not_zero_high k l b h) = rw (ne_eqb (number_at input 12 4) 0 (byte_nonzero input 12 4 k l (omega arith) h)) (or-true (ltb (length input) 16 || not (eqb (number_at input 2 2) 0)))

-- ---- the text

-- the text of a refusal
abbrev refused_text : ℕ → List ℕ
refused_text n = text "refused" ++ fields (n ∷ [])

-- is that of no other number: what stands before and behind the digits is the same
refused_same : {m n : ℕ} → m < 10 ^ 10 → n < 10 ^ 10 → refused_text m ≡ refused_text n → m ≡ n
unfolding fields
refused_same {m} {n} h b e =
    let behind = append_cancel_left (text "refused") (fields (m ∷ [])) (fields (n ∷ [])) e in
    let between = append_cancel_right (text " " ++ digits 10 m) (text " " ++ digits 10 n) (text "\n") behind in
    digits_same 10 h b (append_cancel_left (text " ") (digits 10 m) (digits 10 n) between)

-- a reply's text begins with another letter
not_lines : (reply : List ℕ) (n : ℕ) → lines reply ≡ refused_text n → ⊥
unfolding lines text
not_lines reply n e = go (eqb (verdict_in reply) 0) refl
  where
    go : (s : Bool) → eqb (verdict_in reply) 0 ≡ s → ⊥
    go true q = omega (arith, ap (λ (l : List ℕ). get_or l 0 0) (rw (q, lines) at e))
    go false q = omega (arith, ap (λ (l : List ℕ). get_or l 0 0) (rw (q, lines) at e))

-- what is printed as refused by a number is refused by it
printed_number : (a : Answer) (n : ℕ) → a.number < 10 ^ 10 → n < 10 ^ 10 → printed a ≡ refused_text n → a.number ≡ n
unfolding printed
printed_number a n h b e = go (ltb a.number 2) refl
  where
    go : (s : Bool) → ltb a.number 2 ≡ s → a.number ≡ n
    go true q = absurd (not_lines a.reply n (rw (q, printed) at e))
    go false q = refused_same h b (rw (q, printed) at e)

past_twelve : (input : List ℕ) → faulty input ≡ false → output input ≡ printed (answer (drop 16 input) (request_of input) reply_size)
unfolding output
past_twelve input e = rw e

at_twelve : (input : List ℕ) → faulty input ≡ true → output input ≡ refused_text 12
unfolding output printed
at_twelve input e = rw e

text_of_nine : refused_text 9 ≡ text "refused 9\n"
unfolding opened
text_of_nine = refl

text_of_eleven : refused_text 11 ≡ text "refused 11\n"
unfolding opened
text_of_eleven = refl

text_of_twelve : refused_text 12 ≡ text "refused 12\n"
unfolding opened
text_of_twelve = refl

known_short : {n : ℕ} → Known n → n < 10 ^ 10
known_short (Known.to_ten low other) = omega arith
known_short Known.sixteen = omega arith
known_short (Known.of_an_arc low high) = omega arith

-- an answer of the entry is printed as refused by a number of the entry
entry_known : (input : List ℕ) (n : ℕ) → n < 10 ^ 10 → printed (answer (drop 16 input) (request_of input) reply_size) ≡ refused_text n → Known n
entry_known input n h e =
    let known = number_known false (drop 16 input) none_closed (request_of input) reply_size (inl refl) in
    subst Known (printed_number (answer (drop 16 input) (request_of input) reply_size) n (known_short known) h e) known

pub twelve_exactly : (input : List ℕ) → (output input ≡ text "refused 12\n") ↔ Unreadable input
twelve_exactly input = (λ e. to e (faulty input) refl, λ u. at_twelve input ((faulty_exactly input).1 u) ∙ text_of_twelve)
  where
    to : output input ≡ text "refused 12\n" → (s : Bool) → faulty input ≡ s → Unreadable input
    to e true q = (faulty_exactly input).0 q
    to e false q = absurd (unknown (inr (omega arith)) (entry_known input 12 (omega arith) (sym (past_twelve input q) ∙ e ∙ sym text_of_twelve)))

-- a number that is not the entry's, nor 12, is printed for no input
not_printed : (n : ℕ) → n < 10 ^ 10 → (Known n → ⊥) → (n ≡ 12 → ⊥) → (input : List ℕ) → output input ≡ refused_text n → ⊥
not_printed n h unknown other input e = go (faulty input) refl
  where
    go : (s : Bool) → faulty input ≡ s → ⊥
    go true q = other (sym (refused_same {m = 12} {n = n} (omega arith) h (sym (at_twelve input q) ∙ e)))
    go false q = unknown (entry_known input n h (sym (past_twelve input q) ∙ e))

pub never_prints_nine : (input : List ℕ) → output input ≡ text "refused 9\n" → ⊥
never_prints_nine input e = not_printed 9 (omega arith) (unknown (inl refl)) (λ z. omega arith) input (e ∙ sym text_of_nine)

pub never_prints_eleven : (input : List ℕ) → output input ≡ text "refused 11\n" → ⊥
never_prints_eleven input e = not_printed 11 (omega arith) (unknown (inr (omega arith))) (λ z. omega arith) input (e ∙ sym text_of_eleven)

-- otherwise what the entry answers is printed
pub otherwise_answered : (input : List ℕ) → (Unreadable input → ⊥) → output input ≡ printed (answer (drop 16 input) (request_of input) reply_size)
otherwise_answered input h = go (faulty input) refl
  where
    go : (s : Bool) → faulty input ≡ s → output input ≡ printed (answer (drop 16 input) (request_of input) reply_size)
    go true q = absurd (h ((faulty_exactly input).0 q))
    go false q = past_twelve input q
