-- The checks of a call in parts: those of the sizes, of the request, of the arcs for faults and for blanks, and of the closed set, one list behind the other. Assumes nothing.
use mathlib.Core.Path.{◌≡◌, refl, sym, ap, ap₂, ◌∙◌}
use mathlib.Core.Bool.{Bool, true, false, not}
use mathlib.Core.List.{List, ◌++◌}
use Prim.Native.Nat.{ℕ, ◌%◌, ◌≤◌, ◌^◌}
use lib.Dec.{ltb}
use lib.ListN.{length}
use borrow.Author.Tests.{le-ltb, eq-eqb, ne_eqb}
use Rattle.std.specs.Prelude.{if◌then◌else◌}
use Rattle.problem.specs.declared.Refusal.{Refusal}
use Rattle.problem.specs.declared.Request.{Request}
use Rattle.problem.specs.Table.{most_table_bytes, reply_size, arcs_of, arcs_number}
use Rattle.problem.specs.Blanks.{blanks_number}
use Rattle.problem.specs.Closed.{closed_size, closed_in, none_closed}
use Rattle.problem.specs.Reply.{first_number, size_checks, request_checks, arc_checks, blank_checks, closed_checks, plain_checks, refusal}
use Rattle.problem.specs.Refusals.{refusal_number}
use Rattle.problem.proofs.NumberLaws.{refused_some}
use Rattle.problem.proofs.FirstLaws.{or_next, next_refuses, next_follows, first_append, request_refusing, first_arcs_lem, first_blanks, early_refusing, plain_refusing}
use Rattle.problem.proofs.ReplyLaws.{refusal_passed}
use Rattle.problem.proofs.AroundLaws.{set_quiet, none_set}

-- the checks of the sizes have passed
pub record Sized (table : List ℕ) (size : ℕ) : Type 0 where
  pub few_bytes : length table ≤ most_table_bytes
  pub has_whole_arcs : length table % 16 ≡ 0
  pub room : reply_size ≤ size

module _ (table : List ℕ) (q : Request) (size : ℕ) (sized : Sized table size) where
  past_sizes : first_number (plain_checks table q size) ≡ or_next (or_next (first_number (request_checks q)) (arcs_number (arcs_of table))) (blanks_number (arcs_of table))
  unfolding size_checks first_number
  past_sizes = first_append (early_refusing table q size) (blank_checks table) ∙ ap₂ or_next early (first_blanks table)
    where
      early : first_number (size_checks table size ++ request_checks q ++ arc_checks table) ≡ or_next (first_number (request_checks q)) (arcs_number (arcs_of table))
      early =
          rw (le-ltb _ _ sized.few_bytes, eq-eqb _ _ sized.has_whole_arcs, le-ltb _ _ sized.room, ← first_arcs_lem table)
          (first_append (request_refusing q) (arc_checks table))

  pub refused_request : (r : Refusal) → refusal_number r ≡ first_number (request_checks q) → refusal_number r ≡ first_number (plain_checks table q size)
  refused_request r e =
      sym (past_sizes ∙ ap (λ (x : ℕ). or_next (or_next x (arcs_number (arcs_of table))) (blanks_number (arcs_of table))) (sym e)
      ∙ ap (λ (x : ℕ). or_next x (blanks_number (arcs_of table))) (next_refuses _ (arcs_number (arcs_of table)) (refused_some r))
      ∙ next_refuses _ (blanks_number (arcs_of table)) (refused_some r))

  module _ (passed : 0 ≡ first_number (request_checks q)) where
    past_request : first_number (plain_checks table q size) ≡ or_next (arcs_number (arcs_of table)) (blanks_number (arcs_of table))
    past_request = past_sizes ∙ ap (λ (x : ℕ). or_next x (blanks_number (arcs_of table))) (next_follows (arcs_number (arcs_of table)) (sym passed))

    pub refused_arcs : (r : Refusal) → refusal_number r ≡ arcs_number (arcs_of table) → refusal_number r ≡ first_number (plain_checks table q size)
    refused_arcs r e = sym (past_request ∙ ap (λ (x : ℕ). or_next x (blanks_number (arcs_of table))) (sym e) ∙ next_refuses _ (blanks_number (arcs_of table)) (refused_some r))

    pub past_faults : 0 ≡ arcs_number (arcs_of table) → blanks_number (arcs_of table) ≡ first_number (plain_checks table q size)
    past_faults z = sym (past_request ∙ next_follows (blanks_number (arcs_of table)) (sym z))

-- ---- the closed set

module _ (table closed : List ℕ) (q : Request) (size : ℕ) where
  past_plain : refusal table closed q size ≡ or_next (first_number (plain_checks table q size)) (first_number (closed_checks table closed))
  unfolding refusal
  past_plain = first_append (plain_refusing table q size) (closed_checks table closed)

  pub refused_plain : (r : Refusal) → refusal_number r ≡ first_number (plain_checks table q size) → refusal_number r ≡ refusal table closed q size
  refused_plain r e = sym (past_plain ∙ ap (λ (x : ℕ). or_next x (first_number (closed_checks table closed))) (sym e) ∙ next_refuses _ (first_number (closed_checks table closed)) (refused_some r))

  module _ (passed : 0 ≡ first_number (plain_checks table q size)) where
    -- the table is then one of at most 128 arcs
    pub plain_few : length table ≤ most_table_bytes
    plain_few = (refusal_passed table none_closed q size (set_quiet (none_set table) q size ∙ sym passed)).checked.few_bytes

    past_all : refusal table closed q size ≡ first_number (closed_checks table closed)
    past_all = past_plain ∙ next_follows (first_number (closed_checks table closed)) (sym passed)

    pub refused_length : (length closed ≡ closed_size → ⊥) → 16 ≡ refusal table closed q size
    unfolding closed_checks first_number
    refused_length h = sym (past_all ∙ rw (ne_eqb (length closed) closed_size h))

    -- what is told of a set of 16 bytes, by whether all that it closes is in the table
    by_inside : length closed ≡ closed_size → {b : Bool} → ltb (closed_in closed) (2 ^ length (arcs_of table)) ≡ b → refusal table closed q size ≡ (if b then 0 else 16)
    unfolding closed_checks first_number
    by_inside whole {b} e = past_all ∙ rw (eq-eqb (length closed) closed_size whole, e) (go b)
      where
        go : (b : Bool) → ◌≡◌ {A = ℕ} (if not b then 16 else 0) (if b then 0 else 16)
        go true = refl
        go false = refl

    pub refused_past : length closed ≡ closed_size → ltb (closed_in closed) (2 ^ length (arcs_of table)) ≡ false → 16 ≡ refusal table closed q size
    refused_past whole e = sym (by_inside whole e)

    pub all_passed : length closed ≡ closed_size → ltb (closed_in closed) (2 ^ length (arcs_of table)) ≡ true → 0 ≡ refusal table closed q size
    all_passed whole e = sym (by_inside whole e)
