-- How calls end: the verdict, which number goes with which end, the order of the checks, the arc that a number names, and what is answered as before there was a check for blanks. Assumes nothing.
use mathlib.Core.Path.{◌≡◌, refl, sym, ap, ◌∙◌, subst}
use mathlib.Core.Bool.{Bool, true, false, true≢false}
use mathlib.Core.Logic.{◌⊎◌, inl, inr, ◌↔◌}
use mathlib.Core.List.Memᴰ
use mathlib.Core.List.{List, [], ◌++◌, Memᴰ}
use Prim.Native.Nat.{ℕ, zero, suc, ◌+◌, ◌*◌, ◌/◌, ◌%◌, ◌≤◌, ◌<◌}
use native.Mathlib.Omega.{arith}
use lib.Dec.{leb, ltb}
use lib.ListN.{length}
use borrow.Author.Tests.{leb-true, leb-false, le-leb, lt-leb, ltb-true, ltb-false}
use Rattle.laws.proofs.ListLaws.{get_or_mem}
use Rattle.problem.specs.declared.Request.{Request}
use Rattle.problem.specs.Table.{arcs_of}
use Rattle.problem.specs.Blanks.{blanks_number}
use Rattle.problem.specs.Closed.{closed_size, closed_in, is_open, planned_arcs}
use Rattle.problem.specs.Routes.{Route, arc_at, route_of}
use Rattle.problem.specs.Pairs.{Pair, no_route, Step, every, some_at, least_settled, ranked, verdict}
use Rattle.problem.specs.Apart.{judges}
use Rattle.problem.specs.Reply.{mesh_of, Answer, first_number, size_checks, request_checks, arc_checks, blank_checks, closed_checks, refusal, Passed, planned_unless, answer_among, after}
use Rattle.problem.specs.Calls.{routes_of, RouteOf, Applies, Told, LowestFault, LowestBlank}
use Rattle.problem.proofs.FaultLaws.{arc_range, lowest_first}
use Rattle.problem.proofs.ClosedLaws.{planned_heads}
use Rattle.problem.proofs.BlankLaws.{lowest_told}
use Rattle.problem.proofs.FirstLaws.{or_next, first_append, early_refusing, plain_refusing, first_blanks}
use Rattle.problem.proofs.RankingLaws.{ranking_in, ranking_out}
use Rattle.problem.proofs.CandidateLaws.{some_more, every_some}
use Rattle.problem.proofs.SettleLaws.{some_ranked}
use Rattle.problem.proofs.ReplyLaws.{judges_of, answered, Outcome, outcome, passed_refusal, ranked_step}
use Rattle.problem.proofs.RefusalLaws.{NoneBefore, Known, turn_sixteen, turn_ten, told_two, told_own, told_same, told_faulty, told_blank, told_lowest, told_known, passed_ten, passed_before}

-- ---- the verdict

module _ (ok : Pair → Bool) (routes : List Route) (a : ℕ) where
  pub verdict_settled : least_settled ok routes ≤ a → verdict ok routes a ≡ 0
  unfolding verdict
  verdict_settled h = rw (le-leb (least_settled ok routes) a h)

  pub verdict_stopped : a < least_settled ok routes → verdict ok routes a ≡ 1
  unfolding verdict
  verdict_stopped h = rw (lt-leb (least_settled ok routes) a h)

  -- settled, or stopped
  pub data Verdict : Type 0 where
    settled_at : least_settled ok routes ≤ a → verdict ok routes a ≡ 0 → Verdict
    stopped_at : a < least_settled ok routes → verdict ok routes a ≡ 1 → Verdict

  pub verdict_cases : Verdict
  verdict_cases = go (leb (least_settled ok routes) a) refl
    where
      go : (b : Bool) → leb (least_settled ok routes) a ≡ b → Verdict
      go true e = let h = leb-true (least_settled ok routes) a e in settled_at h (verdict_settled h)
      go false e = let h = leb-false (least_settled ok routes) a e in stopped_at h (verdict_stopped h)

  pub verdict_small : verdict ok routes a < 2
  verdict_small = go verdict_cases
    where
      go : Verdict → verdict ok routes a < 2
      go (settled_at l e) = omega arith
      go (stopped_at l e) = omega arith

-- ---- ends and numbers

pub number_of : {a b : Answer} → a ≡ b → a.number ≡ b.number
number_of e = ap (λ (a : Answer). a.number) e

-- with number 0 or 1 the call ended with a pair
pub record WithPair (only : Bool) (table closed : List ℕ) (q : Request) (size : ℕ) : Type 0 where
  pub passed : Passed table closed q size
  pub some : 0 < length (routes_of table closed q)
  pub found : some_at (judges_of only table closed q) (routes_of table closed q) q.allowance ≡ true
  pub is : answer_among only table closed q size ≡ answered only table closed q

pub low_number : (only : Bool) (table closed : List ℕ) (q : Request) (size : ℕ) → (answer_among only table closed q size).number < 2 → WithPair only table closed q size
low_number only table closed q size h = go (outcome only table closed q size)
  where
    go : Outcome only table closed q size → WithPair only table closed q size
    go (Outcome.by_check n r told e) = absurd (omega (arith, number_of e, told_two table closed q size told))
    go (Outcome.has_no_route p none e) = absurd (omega (arith, number_of e))
    go (Outcome.with_pair p some found e) = record { passed = p; some = some; found = found; is = e }
    go (Outcome.none_at_all p some none l e) = absurd (omega (arith, number_of e))
    go (Outcome.none_yet p some none l e) = absurd (omega (arith, number_of e))

-- a call whose checks pass and that has a pair to judge ends with one
pub some_route : {only : Bool} {table closed : List ℕ} {q : Request} {size : ℕ} → Passed table closed q size → 0 < length (routes_of table closed q)
    → some_at (judges_of only table closed q) (routes_of table closed q) q.allowance ≡ true → WithPair only table closed q size
some_route {only} {table} {closed} {q} {size} passed some found = go (outcome only table closed q size)
  where
    go : Outcome only table closed q size → WithPair only table closed q size
    go (Outcome.by_check n r told e) = absurd (omega (arith, passed_refusal passed, told_two table closed q size told))
    go (Outcome.has_no_route p none e) = absurd (omega (arith, ap length none))
    go (Outcome.with_pair p more f e) = record { passed = p; some = more; found = f; is = e }
    go (Outcome.none_at_all p more none l e) = absurd (true≢false (sym found ∙ none))
    go (Outcome.none_yet p more none l e) = absurd (true≢false (sym found ∙ none))

-- where every pair is judged there is always one
pub every_found : {only : Bool} {table closed : List ℕ} {q : Request} {size : ℕ} → only ≡ false → Passed table closed q size → 0 < length (routes_of table closed q)
    → some_at (judges_of only table closed q) (routes_of table closed q) q.allowance ≡ true
unfolding judges
every_found {only = true} plain passed some = absurd (true≢false plain)
every_found {only = false} {table} {closed} {q} plain passed some =
    some_more every (routes_of table closed q) {i = 1} passed.checked.some_allowance (every_some (routes_of table closed q) (record { from_one = omega arith; to_N = some }))

-- the step whose best pair is replied
pub pair_step : {only : Bool} {table closed : List ℕ} {q : Request} {size : ℕ} → WithPair only table closed q size
    → Step (routes_of table closed q) (ranked (judges_of only table closed q) (routes_of table closed q) q.allowance)
pair_step {only} {table} {closed} {q} w = ranked_step (judges_of only table closed q) (routes_of table closed q) q.allowance w.some w.passed.checked.some_allowance

-- that step has a pair
pub some_pair : {only : Bool} {table closed : List ℕ} {q : Request} {size : ℕ} → WithPair only table closed q size
    → some_at (judges_of only table closed q) (routes_of table closed q) (ranked (judges_of only table closed q) (routes_of table closed q) q.allowance) ≡ true
some_pair {only} {table} {closed} {q} w = some_ranked (judges_of only table closed q) (routes_of table closed q) q.allowance w.some w.found

-- with a higher number nothing was written
high_number : (only : Bool) (table closed : List ℕ) (q : Request) (size : ℕ) → 2 ≤ (answer_among only table closed q size).number → (answer_among only table closed q size).reply ≡ []
high_number only table closed q size h = go (outcome only table closed q size)
  where
    go : Outcome only table closed q size → (answer_among only table closed q size).reply ≡ []
    go (Outcome.by_check n r told e) = ap (λ (a : Answer). a.reply) e
    go (Outcome.has_no_route p none e) = ap (λ (a : Answer). a.reply) e
    go (Outcome.with_pair p some found e) = absurd (omega (arith, number_of e, verdict_small (judges_of only table closed q) (routes_of table closed q) q.allowance))
    go (Outcome.none_at_all p some none l e) = ap (λ (a : Answer). a.reply) e
    go (Outcome.none_yet p some none l e) = ap (λ (a : Answer). a.reply) e

-- so every byte of the buffer stays
pub buffer_kept : (only : Bool) (table closed : List ℕ) (q : Request) (size : ℕ) → 2 ≤ (answer_among only table closed q size).number → (buffer : List ℕ) → after (answer_among only table closed q size) buffer ≡ buffer
unfolding after
buffer_kept only table closed q size h buffer = rw (high_number only table closed q size h)

-- ---- routes, or none

-- no list of arc numbers is a route of the call
abbrev NoRoute : (table closed : List ℕ) → Request → Type 0
NoRoute table closed q = (ks : List ℕ) → RouteOf table closed q ks → ⊥

none_listed : {table closed : List ℕ} {q : Request} {size : ℕ} → Passed table closed q size → routes_of table closed q ≡ [] → NoRoute table closed q
none_listed {table} {closed} {q} p none ks r =
    let m = ranking_in (mesh_of table closed q) (planned_heads table closed p.checked.sound) p.checked.source_node r in
    Memᴰ.not-nil (subst (λ (l : List Route). Memᴰ (route_of (planned_arcs table closed) ks) l) none m)

some_listed : (table closed : List ℕ) (q : Request) → 0 < length (routes_of table closed q) → NoRoute table closed q → ⊥
some_listed table closed q some f =
    let o = ranking_out (mesh_of table closed q) (get_or_mem no_route (routes_of table closed q) 0 some) in
    f o.list o.route

-- ---- the order of the checks

-- once the checks have passed and there is a route, no test holds
pub passed_none : {table closed : List ℕ} {q : Request} {size : ℕ} → Passed table closed q size → 0 < length (routes_of table closed q) → {t i : ℕ} → Applies table closed q size t i → ⊥
passed_none {table} {closed} {q} {size} passed some a = some_listed table closed q some (passed_ten table closed q size passed a).1

-- and where there is none, 10 is told
pub ten_told : {table closed : List ℕ} {q : Request} {size : ℕ} → Passed table closed q size → routes_of table closed q ≡ [] → Told table closed q size 10
ten_told {table} {closed} {q} {size} p none = told_own table closed q size (inr (omega arith)) (Applies.has_no_route (none_listed p none)) (passed_before table closed q size p)

-- a number of the table of numbers: where only pairs that are apart are judged, 14 and 15 are two more (T-05)
abbrev pub OfTable : (only : Bool) → ℕ → Type 0
OfTable only n = (only ≡ false) ⊎ ((n ≡ 14 → ⊥) × (n ≡ 15 → ⊥))

-- every number below 14 is, and every one past 15
of_table : {only : Bool} {n : ℕ} → (n < 14) ⊎ (15 < n) → OfTable only n
of_table (inl l) = inr (λ e. omega arith, λ e. omega arith)
of_table (inr l) = inr (λ e. omega arith, λ e. omega arith)

module _ (only : Bool) (table closed : List ℕ) (q : Request) (size : ℕ) where
  abbrev number : ℕ
  number = (answer_among only table closed q size).number

  -- whatever is refused by a number of the table is told
  pub refused_told : 2 ≤ number → OfTable only number → Told table closed q size number
  refused_told h of = go (outcome only table closed q size)
    where
      missing : Passed table closed q size → 0 < length (routes_of table closed q) → some_at (judges_of only table closed q) (routes_of table closed q) q.allowance ≡ false → (number ≡ 14) ⊎ (number ≡ 15) → OfTable only number → ⊥
      missing p some none e (inl plain) = true≢false (sym (every_found plain p some) ∙ none)
      missing p some none (inl e) (inr other) = other.0 e
      missing p some none (inr e) (inr other) = other.1 e

      go : Outcome only table closed q size → Told table closed q size number
      go (Outcome.by_check n r told e) = subst (Told table closed q size) (sym (number_of e)) told
      go (Outcome.has_no_route p none e) = subst (Told table closed q size) (sym (number_of e)) (ten_told p none)
      go (Outcome.with_pair p some found e) = absurd (omega (arith, number_of e, verdict_small (judges_of only table closed q) (routes_of table closed q) q.allowance))
      go (Outcome.none_at_all p some none l e) = absurd (missing p some none (inl (number_of e)) of)
      go (Outcome.none_yet p some none l e) = absurd (missing p some none (inr (number_of e)) of)

  -- whatever is answered is refused by none
  pub answered_none : number < 2 → {t i : ℕ} → Applies table closed q size t i → ⊥
  answered_none h a = let w = low_number only table closed q size h in passed_none w.passed w.some a

  -- a number that is told is returned
  told_number : {n : ℕ} → Told table closed q size n → number ≡ n
  told_number {n} told = go (outcome only table closed q size)
    where
      go : Outcome only table closed q size → number ≡ n
      go (Outcome.by_check m r own e) = number_of e ∙ told_same table closed q size own told
      go (Outcome.has_no_route p none e) = number_of e ∙ told_same table closed q size (ten_told p none) told
      go (Outcome.with_pair p some found e) = absurd (passed_none p some told.applies)
      go (Outcome.none_at_all p some none l e) = absurd (passed_none p some told.applies)
      go (Outcome.none_yet p some none l e) = absurd (passed_none p some told.applies)

  -- each number of the table exactly where it is told
  pub numbered : (n : ℕ) → 2 ≤ n → OfTable only n → (number ≡ n) ↔ Told table closed q size n
  numbered n two of = (λ e. subst (Told table closed q size) e (refused_told (omega arith) (subst (OfTable only) (sym e) of)), told_number)

  -- that of no route, where no turn before comes to a number
  pub no_route_exactly : NoneBefore table closed q size 12 → (number ≡ 10) ↔ NoRoute table closed q
  no_route_exactly before =
      (λ e. told_none (ten.0 e), λ f. ten.1 (told_own table closed q size (inr (omega arith)) (Applies.has_no_route f) before))
    where
      ten : (number ≡ 10) ↔ Told table closed q size 10
      ten = numbered 10 (omega arith) (of_table (inl (omega arith)))

      none : {i : ℕ} → Applies table closed q size 12 i → NoRoute table closed q
      none (Applies.has_no_route f) = f

      told_none : Told table closed q size 10 → NoRoute table closed q
      told_none told = none (subst (λ (t : ℕ). Applies table closed q size t 10) (turn_ten table closed q size told.applies) told.applies)

  -- that of the closed set, where no turn before it does
  pub set_exactly : NoneBefore table closed q size 11
      → (number ≡ 16) ↔ ((length closed ≡ closed_size → ⊥) ⊎ ((k : ℕ) × (length (arcs_of table) ≤ k) × (is_open (closed_in closed) k ≡ false)))
  set_exactly before = (λ e. told_set (sixteen.0 e), λ f. sixteen.1 (told_own table closed q size (inr (omega arith)) (applies f) before))
    where
      Bad : Type 0
      Bad = (length closed ≡ closed_size → ⊥) ⊎ ((k : ℕ) × (length (arcs_of table) ≤ k) × (is_open (closed_in closed) k ≡ false))

      sixteen : (number ≡ 16) ↔ Told table closed q size 16
      sixteen = numbered 16 (omega arith) (of_table (inr (omega arith)))

      applies : Bad → Applies table closed q size 11 16
      applies (inl h) = Applies.set_not_whole h
      applies (inr p) = Applies.set_past_table p.0 p.1 p.2

      bad : {i : ℕ} → Applies table closed q size 11 i → Bad
      bad (Applies.set_not_whole h) = inl h
      bad (Applies.set_past_table k b h) = inr (k, b, h)

      told_set : Told table closed q size 16 → Bad
      told_set told = bad (subst (λ (t : ℕ). Applies table closed q size t 16) (turn_sixteen table closed q size told.applies) told.applies)

  -- ---- the number of an arc

  -- a number past 10 that is told, but for 16, is told of an arc of the table: of its fault, or of its blank
  abbrev OfArc : ℕ → ℕ → Type 0
  OfArc i n = LowestFault (arcs_of table) i n ⊎ ((n ≡ 24) × LowestBlank (arcs_of table) i)

  lowest : 10 < number → (number ≡ 16 → ⊥) → OfTable only number → (i n : ℕ) → n < 256 → number ≡ n + 256 * i → OfArc i n
  lowest past other of = told_lowest table closed q size past other (refused_told (omega arith) of)

  pub arc_apart : 10 < number → (number ≡ 16 → ⊥) → OfTable only number → OfArc (number / 256) (number % 256)
  arc_apart past other of = lowest past other of (number / 256) (number % 256) (omega arith) (omega arith)

  -- so each number from 20 on
  past_twenty : (i n : ℕ) → 20 ≤ n → n < 256 → number ≡ n + 256 * i → OfArc i n
  past_twenty i n low high e = lowest (omega arith) (λ z. omega arith) (of_table (inr (omega arith))) i n high e

  -- a fault has a number up to 22, and a blank has 24
  of_fault : {i n : ℕ} → n ≤ 22 → OfArc i n → LowestFault (arcs_of table) i n
  of_fault small (inl l) = l
  of_fault small (inr b) = absurd (omega (arith, b.0))

  of_blank : {i n : ℕ} → 22 < n → OfArc i n → (n ≡ 24) × LowestBlank (arcs_of table) i
  of_blank {i} large (inl l) = absurd (omega (arith, l.first_fault, arc_range (arc_at (arcs_of table) i)))
  of_blank large (inr b) = b

  -- where no turn before that of faulty arcs comes to a number, which arc it names, and which fault
  pub arc_named : NoneBefore table closed q size 9 → (n i : ℕ) → 20 ≤ n → n ≤ 22 → (number ≡ n + 256 * i) ↔ LowestFault (arcs_of table) i n
  arc_named below n i low high = (
    λ e. of_fault high (past_twenty i n low (omega arith) e),
    λ l. told_number (subst (Told table closed q size) (omega (arith, l.first_fault)) (told_faulty table closed q size below (lowest_first (arcs_of table) l))),
  )

  -- 24 of an arc names the lowest blank one, and is given for it where no turn before that of blank arcs comes to a number
  pub blank_told : (i : ℕ) → number ≡ 24 + 256 * i → LowestBlank (arcs_of table) i
  blank_told i e = (of_blank (omega arith) (past_twenty i 24 (omega arith) (omega arith) e)).1

  pub blank_named : NoneBefore table closed q size 10 → (i : ℕ) → (number ≡ 24 + 256 * i) ↔ LowestBlank (arcs_of table) i
  blank_named below i = (blank_told i, λ l. told_number (told_blank table closed q size below l))

  -- no arc has a fault of number 23
  pub never_spare : (i : ℕ) → number ≡ 23 + 256 * i → ⊥
  never_spare i e = omega (arith, (of_blank (omega arith) (past_twenty i 23 (omega arith) (omega arith) e)).0)

  -- no number of the table is 9, or past 10 without an arc but for 16
  pub number_known : OfTable only number → Known number
  number_known of = go (ltb number 2) refl
    where
      go : (b : Bool) → ltb number 2 ≡ b → Known number
      go true e = let low = ltb-true number 2 e in Known.to_ten {n = number} (omega arith) (λ nine. omega arith)
      go false e = told_known table closed q size (refused_told (ltb-false number 2 e) of)

  -- ---- as before there was a check for blanks

  -- the checks before it, and those behind it
  abbrev early : ℕ
  early = first_number (size_checks table size ++ request_checks q ++ arc_checks table)

  abbrev late : ℕ
  late = first_number (closed_checks table closed)

  refusal_parts : refusal table closed q size ≡ or_next (or_next early (blanks_number (arcs_of table))) late
  unfolding refusal
  refusal_parts =
      first_append (plain_refusing table q size) (closed_checks table closed)
      ∙ ap (λ (n : ℕ). or_next n late) (first_append (early_refusing table q size) (blank_checks table) ∙ ap (or_next early) (first_blanks table))

  parts_before : first_number (size_checks table size ++ request_checks q ++ arc_checks table ++ closed_checks table closed) ≡ or_next early late
  parts_before = first_append (early_refusing table q size) (closed_checks table closed)

  -- a call that is not refused for a blank is answered as if none were looked for
  pub otherwise_before : ((i : ℕ) → number ≡ 24 + 256 * i → ⊥)
      → answer_among only table closed q size ≡ planned_unless only (first_number (size_checks table size ++ request_checks q ++ arc_checks table ++ closed_checks table closed)) (planned_arcs table closed) q
  unfolding answer_among planned_unless or_next
  otherwise_before other = ap (λ (n : ℕ). planned_unless only n (planned_arcs table closed) q) (refusal_parts ∙ go early (blanks_number (arcs_of table)) refl refl ∙ sym parts_before)
    where
      refused : (n : ℕ) → refusal table closed q size ≡ suc n → number ≡ suc n
      refused n e = ap (λ (m : ℕ). (planned_unless only m (planned_arcs table closed) q).number) e

      go : (n b : ℕ) → early ≡ n → blanks_number (arcs_of table) ≡ b → or_next (or_next n b) late ≡ or_next n late
      go (suc n) b en eb = refl
      go zero zero en eb = refl
      go zero (suc b) en eb =
          let t = lowest_told (arcs_of table) (λ z. omega (arith, sym z ∙ eb)) in
          absurd (other t.0 (refused b (refusal_parts ∙ rw (en, eb)) ∙ sym eb ∙ t.2))
