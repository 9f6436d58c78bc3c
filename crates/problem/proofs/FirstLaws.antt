-- The first number of several lists of checks, one behind the other: a later list is looked at where the earlier ones tell no number. Assumes nothing.
use mathlib.Core.Path.{◌≡◌, refl, sym, ◌∙◌}
use mathlib.Core.Bool.{Bool, true, false, true≢false, not}
use mathlib.Core.List.{List, [], ◌∷◌, ◌++◌}
use Prim.Native.Nat.{ℕ, zero, suc}
use native.Mathlib.Omega.{arith}
use borrow.Author.Tests.{not-true}
use Rattle.problem.specs.declared.Request.{Request}
use Rattle.problem.specs.Table.{arcs_of, arcs_number, all_sound}
use Rattle.problem.specs.Blanks.{blanks_number, none_blank}
use Rattle.problem.specs.Reply.{Check, check, first_number, size_checks, request_checks, arc_checks, blank_checks, plain_checks}
use Rattle.problem.proofs.TableLaws.{sound_number, number_sound}
use Rattle.problem.proofs.BlankLaws.{listed_number, number_listed}

-- a number that refuses, or what follows it
unfoldable pub or_next : ℕ → ℕ → ℕ
or_next zero next = next
or_next (suc n) next = suc n

pub next_refuses : (n next : ℕ) → (n ≡ 0 → ⊥) → or_next n next ≡ n
unfolding or_next
next_refuses zero next h = absurd (h refl)
next_refuses (suc n) next h = refl

pub next_follows : {n : ℕ} (next : ℕ) → n ≡ 0 → or_next n next ≡ next
unfolding or_next
next_follows next z = rw z

-- the checks whose every number refuses
pub data Refusing : List Check → Type 0 where
  none : Refusing []
  more : {test : Bool} {n : ℕ} {cs : List Check} → (test ≡ true → n ≡ 0 → ⊥) → Refusing cs → Refusing (check test n ∷ cs)

-- of two lists, the second is looked at where the first gives no number
pub first_append : {cs : List Check} → Refusing cs → (ds : List Check) → first_number (cs ++ ds) ≡ or_next (first_number cs) (first_number ds)
unfolding first_number or_next
first_append Refusing.none ds = refl
first_append (Refusing.more {test = true} {n = zero} f r) ds = absurd (f refl refl)
first_append (Refusing.more {test = true} {n = suc n} f r) ds = refl
first_append (Refusing.more {test = false} f r) ds = first_append r ds

append_refusing : {cs ds : List Check} → Refusing cs → Refusing ds → Refusing (cs ++ ds)
append_refusing Refusing.none s = s
append_refusing (Refusing.more f r) s = Refusing.more f (append_refusing r s)

-- one whose number is written out
always : {test : Bool} {n : ℕ} {cs : List Check} → Refusing cs → Refusing (check test (suc n) ∷ cs)
always {test} {n} r = Refusing.more {test = test} {n = suc n} (λ t z. omega (arith, z)) r

sizes_refusing : (table : List ℕ) (size : ℕ) → Refusing (size_checks table size)
unfolding size_checks
sizes_refusing table size = always (always (always Refusing.none))

pub request_refusing : (q : Request) → Refusing (request_checks q)
unfolding request_checks
request_refusing q = always (always (always (always Refusing.none)))

-- a check whose test asks whether its number is 0: that number is then what it tells
own_refusing : {b : Bool} {n : ℕ} → (n ≡ 0 → b ≡ true) → Refusing (check (not b) n ∷ [])
own_refusing zero-then = Refusing.more (λ t z. true≢false (sym (zero-then z) ∙ not-true _ t)) Refusing.none

own_number : (b : Bool) {n : ℕ} → (b ≡ true → n ≡ 0) → first_number (check (not b) n ∷ []) ≡ n
unfolding first_number
own_number true then-zero = sym (then-zero refl)
own_number false then-zero = refl

module _ (table : List ℕ) where
  arcs_refusing : Refusing (arc_checks table)
  unfolding arc_checks
  arcs_refusing = own_refusing (number_sound (arcs_of table))

  pub first_arcs_lem : first_number (arc_checks table) ≡ arcs_number (arcs_of table)
  unfolding arc_checks
  first_arcs_lem = own_number (all_sound (arcs_of table)) (sound_number (arcs_of table))

  blanks_refusing : Refusing (blank_checks table)
  unfolding blank_checks
  blanks_refusing = own_refusing (number_listed (arcs_of table))

  pub first_blanks : first_number (blank_checks table) ≡ blanks_number (arcs_of table)
  unfolding blank_checks
  first_blanks = own_number (none_blank (arcs_of table)) (listed_number (arcs_of table))

  -- those before the blanks, and all of a call that brings no closed set
  pub early_refusing : (q : Request) (size : ℕ) → Refusing (size_checks table size ++ request_checks q ++ arc_checks table)
  early_refusing q size = append_refusing (append_refusing (sizes_refusing table size) (request_refusing q)) arcs_refusing

  pub plain_refusing : (q : Request) (size : ℕ) → Refusing (plain_checks table q size)
  plain_refusing q size = append_refusing (early_refusing q size) blanks_refusing
