-- The bytes put so far, and those of what is left, are those of the number: at the end nothing is left. Assumes nothing.
use Rattle.std.proofs.Common.{◌≡◌, [], ◌∷◌, ◌+◌, ◌≤◌, ◌<◌, length, ℕ, ◌-◌, ◌/◌, ◌%◌, List, ◌++◌, take, suc, arith, append_assoc, ◌∙◌, ap}
use Rattle.std.proofs.lemmas.List.{take_more_set}
use Rattle.std.proofs.Math.ListN.{set}
use Rattle.std.proofs.lemmas.Grind.{common_steps}
use Rattle.problem.specs.Table.{bytes_of}
use Rattle.octets.proofs.put_number.Goals as goal

one_more : (put : List ℕ) (i n left : ℕ) → i < length put → i < n →
    take (i + 1) (set put i (left % 256)) ++ bytes_of (n - (i + 1)) (left / 256) ≡ take i put ++ bytes_of (n - i) left
unfolding bytes_of
one_more put i n left h k =
    let more : n - i ≡ suc (n - (i + 1)) = omega arith in
    ap (λ (l : List ℕ). l ++ bytes_of (n - (i + 1)) (left / 256)) (take_more_set put i (left % 256) h)
    ∙ append_assoc (take i put) (left % 256 ∷ []) (bytes_of (n - (i + 1)) (left / 256))
    ∙ rw more

none_left : (put bytes : List ℕ) (i n left : ℕ) → length put ≡ n → n ≤ i → take i put ++ bytes_of (n - i) left ≡ bytes → put ≡ bytes
unfolding bytes_of
none_left put bytes i n left size h e = let none : n - i ≡ 0 = omega arith in grind (arith, common_steps, rw none at e)

pub loop-byte-preserved : goal.loop-byte-preserved
loop-byte-preserved c = grind (arith, common_steps, one_more)

pub returns : goal.returns
returns c =
    let l = c.loop-byte in
    let size : length l.byte-items ≡ c.args.n = grind (arith, common_steps) in
    let all : l.byte-items ≡ bytes_of c.args.n c.args.x = none_left l.byte-items _ l.byte-index c.args.n l.left size (omega arith) l.invariant in
    grind (arith, common_steps, all, size)
