-- Growth in order of arc numbers lists arc lists in the order of lists, which is the ranking's order of routes of one length. Assumes nothing.
use mathlib.Core.Path.{◌≡◌, refl, ◌∙◌}
use mathlib.Core.Bool.{Bool, true, false}
use mathlib.Core.List.Memᴰ
use mathlib.Core.List.{List, [], ◌∷◌, ◌++◌, map, Memᴰ}
use Prim.Native.Nat.{ℕ, zero, suc, ◌+◌}
use native.Mathlib.Omega.{arith}
use lib.Dec.{eqb, ltb}
use borrow.Author.Tests.{lt-ltb}
use Rattle.laws.specs.Choosing.{lex_by, Pairwise}
use Rattle.laws.specs.Sets.{with}
use Rattle.laws.proofs.ListLaws.{pairwise_append, pairwise_map}
use Rattle.laws.proofs.OrderLaws.{ltb_total, lex_lt, lex_eq}
use Rattle.laws.proofs.SortLaws.{Strict}
use Rattle.problem.specs.declared.Arc.{Arc}
use Rattle.problem.specs.Routes.{opens, sprout, grow, Route, rank_key, precedes}
use Rattle.problem.proofs.RouteLaws.{sprout_out}

-- of two routes of one length the arc numbers decide
pub precedes_same_length : (r s : Route) → r.metres ≡ s.metres → precedes r s ≡ lex_by ltb r.arcs s.arcs
unfolding precedes rank_key
precedes_same_length r s e = lex_eq ltb ltb_total r.metres r.arcs s.metres s.arcs e

-- what begins with an arc comes before what begins with a later one
sprout_in_order : (rest : ℕ → ℕ → List (List ℕ)) (met at : ℕ) → ((s x : ℕ) → Strict (lex_by ltb) (rest s x)) → (k : ℕ) (arcs : List Arc) → Strict (lex_by ltb) (sprout rest met at k arcs)
unfolding sprout
sprout_in_order rest met at f k [] = Pairwise.none
sprout_in_order rest met at f k (a ∷ arcs) = go (opens met at a) (sprout_in_order rest met at f (suc k) arcs)
  where
    onward : List (List ℕ)
    onward = rest (with met a.head) a.head

    later : List (List ℕ)
    later = sprout rest met at (suc k) arcs

    ahead : (x y : List ℕ) → Memᴰ x (map (λ l. k ∷ l) onward) → Memᴰ y later → lex_by ltb x y ≡ true
    ahead x y u v =
        let o = Memᴰ.of_map (λ l. k ∷ l) onward u in
        let s = sprout_out rest met at (suc k) arcs v in
        rw (← o.2, s.is) (lex_lt ltb ltb_total k _ _ _ (lt-ltb k (suc k + s.i) (omega arith)))

    go : (b : Bool) → Strict (lex_by ltb) later → Strict (lex_by ltb) (elim b [ true ↦ map (λ l. k ∷ l) onward ++ later | false ↦ later ])
    go true s = pairwise_append later (pairwise_map (λ l. k ∷ l) (λ x y p c q. rw (← q) (lex_eq ltb ltb_total k x k y refl ∙ p)) (f (with met a.head) a.head)) s ahead
    go false s = s

-- at the terminal there is one list, and elsewhere those of l
grow_cases : (b : Bool) {l : List (List ℕ)} → Strict (lex_by ltb) l → Strict (lex_by ltb) (elim b [ true ↦ [] ∷ [] | false ↦ l ])
grow_cases true s = Pairwise.one (λ x m. absurd (Memᴰ.not-nil m)) Pairwise.none
grow_cases false s = s

pub grow_in_order : (arcs : List Arc) (terminal n met at : ℕ) → Pairwise (λ a b. lex_by ltb a b ≡ true) (grow arcs terminal n met at)
unfolding grow
grow_in_order arcs terminal zero met at = grow_cases (eqb at terminal) Pairwise.none
grow_in_order arcs terminal (suc n) met at = grow_cases (eqb at terminal) (sprout_in_order (grow arcs terminal n) met at (grow_in_order arcs terminal n) 0 arcs)
