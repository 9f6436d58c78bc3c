-- From the ends of a call to the answer of the definitions. Assumes nothing.
use mathlib.Core.Path.{◌≡◌, refl, sym, ap, ◌∙◌, subst}
use mathlib.Core.Bool.{Bool, false}
use mathlib.Core.List.{List, [], ◌++◌}
use Prim.Native.Nat.{ℕ, zero, suc}
use lib.ListN.{length, drop}
use Rattle.std.specs.Prelude.{Result}
use Rattle.problem.specs.declared.Arc.{Arc}
use Rattle.problem.specs.declared.Request.{Request}
use Rattle.problem.specs.declared.Refusal.{Refusal}
use Rattle.problem.specs.Table.{reply_size}
use Rattle.problem.specs.Refusals.{refusal_number, verdict_number}
use Rattle.problem.specs.Spans.{marked_arcs}
use Rattle.problem.specs.Closed.{closed_in, none_closed, shut_in, planned_arcs}
use Rattle.problem.specs.Routes.{Route}
use Rattle.problem.specs.Pairs.{Pair}
use Rattle.problem.specs.Apart.{judges}
use Rattle.problem.specs.Reply.{mesh_over, mesh_of, Answer, refuse, after, first_number, plain_checks, refusal, Passed, planned, planned_unless, answer_among}
use Rattle.problem.specs.Calls.{routes_of, CalledAmong}
use Rattle.problem.proofs.ClosedLaws.{planned_unclosed}
use Rattle.problem.proofs.ReplyLaws.{passed_refusal, planned_some}
use Rattle.problem.proofs.CallLaws.{WithPair, some_route}
use Rattle.problem.proofs.SaidLaws.{reply_size_lem}
use Rattle.problem.proofs.AroundLaws.{set_quiet, none_set}
use Rattle.choose.specs.Choose.{PairChosen}
use Rattle.planner.specs.declared.Made.{Made}
use Rattle.planner.specs.Planner.{PairMade, NoneMade, PlannedOver}
use Rattle.reply.specs.Record.{record_of}

-- ---- refusals

module _ (only : Bool) (table closed : List ℕ) (q : Request) (before : List ℕ) where
  -- a refusal leaves the buffer as it is
  untouched : {n : ℕ} → answer_among only table closed q (length before) ≡ refuse n → CalledAmong only table closed q before n before
  unfolding after
  untouched e = record { number_is = ap (λ (x : Answer). x.number) (sym e); buffer_is = ap (λ (x : Answer). after x before) (sym e) }

  -- by a check
  pub refused : {n : ℕ} → n ≡ refusal table closed q (length before) → (n ≡ 0 → ⊥) → CalledAmong only table closed q before n before
  unfolding answer_among planned_unless
  refused {n = zero} e h = absurd (h refl)
  refused {n = suc n} e h = untouched (ap (λ (x : ℕ). planned_unless only x (planned_arcs table closed) q) (sym e))

  module _ (passed : Passed table closed q (length before)) where
    -- the answer is that of planning
    is_planned : answer_among only table closed q (length before) ≡ planned (judges (mesh_of table closed q) only) (routes_of table closed q) q.allowance
    unfolding answer_among planned_unless
    is_planned = rw (passed_refusal passed)

    -- by the lack of a route
    has_no_route : routes_of table closed q ≡ [] → CalledAmong only table closed q before 10 before
    unfolding planned
    has_no_route e = untouched (is_planned ∙ rw e)

    abbrev ok : Pair → Bool
    ok = judges (mesh_of table closed q) only

    abbrev routes : List Route
    routes = routes_of table closed q

    -- what planning says where it makes nothing
    pub none_made : {r : Refusal} → NoneMade ok routes q.allowance r → CalledAmong only table closed q before (refusal_number r) before
    none_made (NoneMade.no_route none) = has_no_route none
    none_made (NoneMade.no_pair some o) =
        subst (λ (n : ℕ). CalledAmong only table closed q before n before) (sym o.number_is) (untouched (is_planned ∙ planned_some ok routes q.allowance some ∙ rw o.none))

    -- the bytes that are written where it makes a pair are those of the answer
    pub pair_made : {m : Made} → PairMade ok routes q.allowance m → {now : List ℕ} → now ≡ record_of m ++ drop reply_size before
        → CalledAmong only table closed q before (verdict_number m.choice.verdict) now
    unfolding after
    pair_made {m} p e =
        record {
          number_is = c.verdict_is ∙ ap (λ (x : Answer). x.number) (sym w.is);
          buffer_is =
              e ∙ ap (λ (bytes : List ℕ). bytes ++ drop reply_size before) same
              ∙ ap (λ (n : ℕ). (answer_among only table closed q (length before)).reply ++ drop n before) (sym (reply_size_lem w));
        }
      where
        c : PairChosen ok routes q.allowance m.choice
        c = p.chosen

        w : WithPair only table closed q (length before)
        w = some_route passed p.some_route c.some

        same : record_of m ≡ (answer_among only table closed q (length before)).reply
        same = rw (c.verdict_is, p.floor_is, c.ranked_is, c.pair_is, w.is)

-- ---- the entries

-- with nothing closed, the checks are those of a call that brings no set, and the arcs are all
pub plain_refusal : (table : List ℕ) (q : Request) (size : ℕ) {n : ℕ} → n ≡ first_number (plain_checks table q size) → n ≡ refusal table none_closed q size
plain_refusal table q size e = e ∙ sym (set_quiet (none_set table) q size)

pub plain_planned : (table : List ℕ) (q : Request) (m : Result Made Refusal) → PlannedOver false (mesh_over (marked_arcs table) q) q.allowance m
    → PlannedOver false (mesh_of table none_closed q) q.allowance m
plain_planned table q m = subst (λ (arcs : List Arc). PlannedOver false (mesh_over arcs q) q.allowance m) (sym (planned_unclosed table))

-- with the set that the bytes say
pub around_planned : (only : Bool) (table closed : List ℕ) (q : Request) (m : Result Made Refusal) {set : ℕ} → set ≡ closed_in closed → PlannedOver only (mesh_over (shut_in set (marked_arcs table)) q) q.allowance m
    → PlannedOver only (mesh_of table closed q) q.allowance m
around_planned only table closed q m = subst (λ (set : ℕ). PlannedOver only (mesh_over (shut_in set (marked_arcs table)) q) q.allowance m)
