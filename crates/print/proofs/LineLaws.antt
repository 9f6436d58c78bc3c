-- The three lines put one after the other are the text; a refusal's text does not look at a reply. Assumes nothing.
use Prim.Native.Nat.{ℕ, ◌≤◌}
use mathlib.Core.List.{List, ◌∷◌, ◌++◌, append_assoc}
use mathlib.Core.Path.{◌≡◌, ap, ap₂, ◌∙◌}
use lib.Dec.{eqb}
use lib.ListN.{length, get_or, take, drop}
use borrow.Author.Tests.{le-ltb}
use Rattle.std.specs.Prelude.{if◌then◌else◌}
use Rattle.problem.specs.Table.{number_at}
use Rattle.problem.specs.Reply.{refuse}
use Rattle.problem.specs.Printed.{kilometres, text, digits, fields, lines, printed}
use Rattle.octets.specs.Puts.{Puts}
use Rattle.octets.proofs.PutLaws.{puts_next, puts_then}
use Rattle.print.specs.Print.{verdict_line}

module _ (reply : List ℕ) where
  pub verdict_put : {before a b c d end : List ℕ} {n m k l z : ℕ} {shared floor ranked : ℕ}
      → shared ≡ get_or reply 1 0 → floor ≡ get_or reply 2 0 → ranked ≡ number_at reply 8 4 → n ≤ length a → m ≤ length b → k ≤ length c
      → Puts (if eqb (get_or reply 0 0) 0 then text "settled" else text "stopped") before 0 a n
      → Puts (text " " ++ digits 10 shared) a n b m → Puts (text " " ++ digits 10 floor) b m c k → Puts (text " " ++ digits 10 ranked) c k d l
      → Puts (text "\n") d l end z → Puts (verdict_line reply) before 0 end z
  unfolding verdict_line fields
  verdict_put es ef er h i j word p q r line-feed =
      rw (← es, ← ef, ← er) (puts_next word (puts_then h p (puts_then i q (puts_then j r line-feed))))

  -- a route's kilometres and arc numbers: the places of its metres, of the count and of the first arc number
  abbrev route_fields : (metres count arcs : ℕ) → List ℕ
  route_fields metres count arcs = kilometres (number_at reply metres 4) ∷ take (get_or reply count 0) (drop arcs reply)

  pub route_fields_lem : (metres count arcs : ℕ) {m k : ℕ} {numbers : List ℕ} → k ≡ kilometres m → m ≡ number_at reply metres 4 → numbers ≡ take (get_or reply count 0) (drop arcs reply)
      → k ∷ numbers ≡ route_fields metres count arcs
  route_fields_lem metres count arcs ek em en = ap₂ (λ (x : ℕ) (l : List ℕ). x ∷ l) (ek ∙ ap kilometres em) en

  lines_split : verdict_line reply ++ (text "main" ++ fields (route_fields 12 3 32)) ++ (text "standby" ++ fields (route_fields 16 4 64)) ≡ lines reply
  unfolding lines verdict_line
  lines_split = simp append_assoc

  pub lines_put : {before first second third : List ℕ} {n m k : ℕ} {main standby : List ℕ}
      → main ≡ route_fields 12 3 32 → standby ≡ route_fields 16 4 64
      → Puts (verdict_line reply) before 0 first n → Puts (text "main" ++ fields main) first n second m → Puts (text "standby" ++ fields standby) second m third k
      → Puts (lines reply) before 0 third k
  lines_put em es p q r = rw (← lines_split, ← em, ← es) (puts_next (puts_next p q) r)

pub printed_refusal : (n : ℕ) (reply : List ℕ) → 2 ≤ n → printed (record { number = n; reply = reply }) ≡ printed (refuse n)
unfolding printed
printed_refusal n reply h = rw (le-ltb n 2 h)
