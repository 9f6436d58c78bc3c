-- Bytes put one after the other are the bytes put together. Assumes nothing.
use Prim.Native.Nat.{ℕ, ◌≤◌}
use mathlib.Core.List.{List, [], ◌++◌, append-nil, append_assoc}
use mathlib.Core.Path.{◌≡◌, sym, ap, ap₂, ◌∙◌, subst}
use native.Mathlib.Nat.{zero-add}
use native.Mathlib.Omega.{arith}
use lib.ListN.{length, take, drop, length-append, length-drop, take-append-drop}
use lib.Seq.{length-take-le, take_at, drop_at, drop-drop}
use Rattle.octets.specs.Puts.{Puts}

pub puts_none : (before : List ℕ) (at : ℕ) → Puts [] before at before at
puts_none before at = record { place = omega arith; holds = sym (take-append-drop at before) ∙ ap (λ (l : List ℕ). l ++ drop at before) (sym (append-nil (take at before))) }

-- the same bytes, said otherwise
pub puts_as : {xs ys before : List ℕ} {at : ℕ} {after : List ℕ} {n : ℕ} → xs ≡ ys → Puts xs before at after n → Puts ys before at after n
puts_as {before = before} {at} {after} {n} e p = subst (λ (l : List ℕ). Puts l before at after n) e p

module _ {xs ys before : List ℕ} {at : ℕ} {between : List ℕ} {n : ℕ} {after : List ℕ} {m : ℕ}
    (inside : at ≤ length before) (p : Puts xs before at between n) (q : Puts ys between n after m) where
  front : length (take at before ++ xs) ≡ n
  front = rw (length-append, length-take-le at before inside) (sym p.place)

  -- what stands before the second bytes, and behind them
  first_part : take n between ≡ take at before ++ xs
  first_part = ap (take n) p.holds ∙ take_at (take at before ++ xs) (drop n before) n front

  last_part : drop m between ≡ drop m before
  last_part =
      ap (λ (k : ℕ). drop k between) q.place
      ∙ sym (drop-drop (length ys) n between)
      ∙ ap (drop (length ys)) (ap (drop n) p.holds ∙ drop_at (take at before ++ xs) (drop n before) n front)
      ∙ drop-drop (length ys) n before
      ∙ ap (λ (k : ℕ). drop k before) (sym q.place)

  pub puts_then : Puts (xs ++ ys) before at after m
  puts_then = record {
    place = rw length-append (omega (arith, p.place, q.place));
    holds = q.holds
        ∙ ap₂ (λ (l r : List ℕ). l ++ ys ++ r) first_part last_part
        ∙ ap (λ (l : List ℕ). l ++ drop m before) (append_assoc (take at before) xs ys);
  }

-- from the beginning on
pub puts_next : {xs ys before between : List ℕ} {n : ℕ} {after : List ℕ} {m : ℕ} → Puts xs before 0 between n → Puts ys between n after m → Puts (xs ++ ys) before 0 after m
puts_next p q = puts_then (omega arith) p q

-- the bytes, and behind them what was there
pub puts_whole : {bytes before after : List ℕ} {n : ℕ} → Puts bytes before 0 after n → after ≡ bytes ++ drop (length bytes) before
puts_whole {bytes} {before} p = p.holds ∙ ap (λ (k : ℕ). bytes ++ drop k before) (p.place ∙ zero-add (length bytes))

pub puts_taken : {bytes before after : List ℕ} {n : ℕ} → Puts bytes before 0 after n → take n after ≡ bytes
puts_taken {bytes} {before} {n = n} p = ap (take n) p.holds ∙ take_at bytes (drop n before) n (sym (p.place ∙ zero-add (length bytes)))

-- the buffer keeps its length
pub puts_length : {bytes before : List ℕ} {at : ℕ} {after : List ℕ} {n : ℕ} → n ≤ length before → Puts bytes before at after n → length after ≡ length before
puts_length {bytes} {before} {at} room p =
    ap length p.holds ∙ rw (length-append, length-append, length-drop, length-take-le at before (omega (arith, p.place))) (omega (arith, p.place))

-- ---- put part by part

-- of these bytes some are put, from the buffer's beginning on; `left` are the others
pub record Unfinished (bytes before after : List ℕ) (at : ℕ) (left : List ℕ) : Type 0 where
  pub done : List ℕ
  pub put : Puts done before 0 after at
  pub whole : done ++ left ≡ bytes

pub none_put : {bytes left : List ℕ} (before : List ℕ) → left ≡ bytes → Unfinished bytes before before 0 left
none_put before e = record { done = []; put = puts_none before 0; whole = e }

module _ {bytes before after : List ℕ} {at : ℕ} {left : List ℕ} (u : Unfinished bytes before after at left) where
  pub more_put : {part rest after' : List ℕ} {next : ℕ} → left ≡ part ++ rest → Puts part after at after' next → Unfinished bytes before after' next rest
  more_put {part} {rest} e p =
      record { done = u.done ++ part; put = puts_next u.put p; whole = append_assoc u.done part rest ∙ ap (λ (l : List ℕ). u.done ++ l) (sym e) ∙ u.whole }

  pub all_put : left ≡ [] → Puts bytes before 0 after at
  all_put e = puts_as (sym (append-nil u.done) ∙ ap (λ (l : List ℕ). u.done ++ l) (sym e) ∙ u.whole) u.put
