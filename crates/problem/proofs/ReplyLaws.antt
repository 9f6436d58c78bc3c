-- Calls: the checks as facts, the five ways a call can end, and the fields of a reply read back from its bytes. Assumes nothing.
use mathlib.Core.Path.{◌≡◌, refl, sym, ap, ◌∙◌}
use mathlib.Core.Bool.{Bool, true, false, true≢false, ◌||◌, not}
use mathlib.Core.List.{List, [], ◌∷◌}
use Prim.Native.Nat.{ℕ, zero, suc, ◌-◌, ◌/◌, ◌%◌, ◌^◌, ◌≤◌, ◌<◌}
use native.Mathlib.Omega.{arith}
use lib.Dec.{eqb, leb, ltb}
use lib.ListN.{length, take, replicate, length-append, length-replicate}
use lib.Seq.{take-append_seam, take-append-le, drop_at}
use borrow.Author.Tests.{leb-true, leb-false, ltb-true, ltb-false, lt-ltb, le-ltb, eqb-true, eqb-false, eq-eqb, ne_eqb, not-false}
use Rattle.std.specs.Prelude.{if◌then◌else◌}
use Rattle.laws.proofs.BoolLaws.{neither}
use Rattle.problem.specs.declared.Request.{Request}
use Rattle.problem.specs.Table.{last_node, most_arcs, most_reach, most_allowance, most_table_bytes, reply_size, bytes_of, arcs_of, arcs_number, all_sound}
use Rattle.problem.specs.Blanks.{blanks_number, none_blank}
use Rattle.problem.specs.Closed.{closed_size, closed_in, planned_arcs}
use Rattle.problem.specs.Routes.{Route}
use Rattle.problem.specs.Pairs.{Step, Pair, shared_risks, shared_count, shared_spans, floor, some_at, best, ranked, verdict}
use Rattle.problem.specs.Apart.{judges}
use Rattle.problem.specs.Reply.{mesh_of, Answer, refuse, places_of, reply_of, verdict_in, shared_in, floor_in, shared_spans_in, ranked_in, main_metres_in, standby_metres_in, shared_risks_in, main_in, standby_in, first_number, size_checks, request_checks, arc_checks, blank_checks, closed_checks, refusal, ClosedSet, Passed, planned, planned_unless, answer_among}
use Rattle.problem.specs.Calls.{routes_of, Told}
use Rattle.problem.proofs.ByteLaws.{field_at}
use Rattle.problem.proofs.TableLaws.{number_sound}
use Rattle.problem.proofs.BlankLaws.{number_listed}
use Rattle.problem.proofs.RefusalLaws.{refusal_told}
use Rattle.problem.proofs.SettleLaws.{least_settled_step}

-- ---- the checks

not_first : (b : Bool) (n r : ℕ) → (if b then suc n else r) ≡ 0 → (b ≡ false) × (r ≡ 0)
not_first true n r e = absurd (omega arith)
not_first false n r e = (refl, e)

-- a check whose test asks whether its number is 0: where no number is told, its own is none
quiet : (b : Bool) (m next : ℕ) → (m ≡ 0 → b ≡ true) → (if not b then m else next) ≡ 0 → (b ≡ true) × (next ≡ 0)
quiet true m next own e = (refl, e)
quiet false m next own e = absurd (true≢false (sym (own e)))

-- of the closed set, the last check
set_passed : (table closed : List ℕ) → (not (eqb (length closed) closed_size) || not (ltb (closed_in closed) (2 ^ length (arcs_of table)))) ≡ false → ClosedSet table closed
set_passed table closed e =
    let both = neither (not (eqb (length closed) closed_size)) (not (ltb (closed_in closed) (2 ^ length (arcs_of table)))) e in
    record { whole = eqb-true (length closed) closed_size (not-false _ both.0); inside = ltb-true (closed_in closed) (2 ^ length (arcs_of table)) (not-false _ both.1) }

pub refusal_passed : (table closed : List ℕ) (q : Request) (size : ℕ) → refusal table closed q size ≡ 0 → Passed table closed q size
unfolding refusal size_checks request_checks arc_checks blank_checks closed_checks first_number
refusal_passed table closed q size e =
    let a = not_first (ltb most_table_bytes (length table)) 1 _ e in
    let b = not_first (not (eqb (length table % 16) 0)) 2 _ a.1 in
    let c = not_first (ltb size reply_size) 3 _ b.1 in
    let d = not_first (ltb last_node q.source || ltb last_node q.terminal) 4 _ c.1 in
    let f = not_first (eqb q.source q.terminal) 5 _ d.1 in
    let g = not_first (ltb most_reach q.reach) 6 _ f.1 in
    let h = not_first (eqb q.allowance 0 || ltb most_allowance q.allowance) 7 _ g.1 in
    let i = quiet (all_sound (arcs_of table)) (arcs_number (arcs_of table)) _ (number_sound (arcs_of table)) h.1 in
    let k = quiet (none_blank (arcs_of table)) (blanks_number (arcs_of table)) _ (number_listed (arcs_of table)) i.1 in
    let j = not_first (not (eqb (length closed) closed_size) || not (ltb (closed_in closed) (2 ^ length (arcs_of table)))) 15 _ k.1 in
    let nodes = neither (ltb last_node q.source) (ltb last_node q.terminal) d.0 in
    let allowed = neither (eqb q.allowance 0) (ltb most_allowance q.allowance) h.0 in
    record {
      checked = record {
        few_bytes = ltb-false most_table_bytes (length table) a.0;
        has_whole_arcs = eqb-true (length table % 16) 0 (not-false _ b.0);
        source_node = ltb-false last_node q.source nodes.0;
        terminal_node = ltb-false last_node q.terminal nodes.1;
        ends_differ = eqb-false q.source q.terminal f.0;
        reach_range = ltb-false most_reach q.reach g.0;
        some_allowance = omega (arith, eqb-false q.allowance 0 allowed.0);
        allowance_range = ltb-false most_allowance q.allowance allowed.1;
        sound = i.0;
      };
      risks_listed = k.0;
      closed_set = set_passed table closed j.0;
      room = ltb-false size reply_size c.0;
    }

pub passed_refusal : {table closed : List ℕ} {q : Request} {size : ℕ} → Passed table closed q size → refusal table closed q size ≡ 0
unfolding refusal size_checks request_checks arc_checks blank_checks closed_checks first_number
passed_refusal {table} {closed} {q} {size} p =
    let c = p.checked in
    rw (
      le-ltb most_table_bytes (length table) c.few_bytes,
      eq-eqb (length table % 16) 0 c.has_whole_arcs,
      le-ltb size reply_size p.room,
      le-ltb last_node q.source c.source_node,
      le-ltb last_node q.terminal c.terminal_node,
      ne_eqb q.source q.terminal c.ends_differ,
      le-ltb most_reach q.reach c.reach_range,
      ne_eqb q.allowance 0 (λ e. omega (arith, c.some_allowance)),
      le-ltb most_allowance q.allowance c.allowance_range,
      c.sound,
      p.risks_listed,
      eq-eqb (length closed) closed_size p.closed_set.whole,
      lt-ltb (closed_in closed) (2 ^ length (arcs_of table)) p.closed_set.inside,
    )

-- ---- how a call ends

-- the pairs that a call judges: every one, or where `only` is true those that are apart (T-05)
abbrev pub judges_of : (only : Bool) (table closed : List ℕ) → Request → Pair → Bool
judges_of only table closed q = judges (mesh_of table closed q) only

-- the pair of the answer: best(ranked)
abbrev pub chosen : (only : Bool) (table closed : List ℕ) → Request → Pair
chosen only table closed q = best (judges_of only table closed q) (routes_of table closed q) (ranked (judges_of only table closed q) (routes_of table closed q) q.allowance)

-- the answer with a pair, of a ranking and of a call
abbrev pub paired : (Pair → Bool) → List Route → ℕ → Answer
paired ok routes allowance =
    record { number = verdict ok routes allowance; reply = reply_of (verdict ok routes allowance) (floor routes) (ranked ok routes allowance) (best ok routes (ranked ok routes allowance)) }

abbrev pub answered : (only : Bool) (table closed : List ℕ) → Request → Answer
answered only table closed q = paired (judges_of only table closed q) (routes_of table closed q) q.allowance

pub data Outcome (only : Bool) (table closed : List ℕ) (q : Request) (size : ℕ) : Type 0 where
  -- by one of the checks before 10
  by_check : (n : ℕ) → refusal table closed q size ≡ n → Told table closed q size n → answer_among only table closed q size ≡ refuse n → Outcome only table closed q size
  -- with 10
  has_no_route : Passed table closed q size → routes_of table closed q ≡ [] → answer_among only table closed q size ≡ refuse 10 → Outcome only table closed q size
  -- with 0 or 1
  with_pair : Passed table closed q size → 0 < length (routes_of table closed q) → some_at (judges_of only table closed q) (routes_of table closed q) q.allowance ≡ true
      → answer_among only table closed q size ≡ answered only table closed q → Outcome only table closed q size
  -- with 14: every route was a main
  none_at_all : Passed table closed q size → 0 < length (routes_of table closed q) → some_at (judges_of only table closed q) (routes_of table closed q) q.allowance ≡ false
      → length (routes_of table closed q) ≤ q.allowance → answer_among only table closed q size ≡ refuse 14 → Outcome only table closed q size
  -- with 15
  none_yet : Passed table closed q size → 0 < length (routes_of table closed q) → some_at (judges_of only table closed q) (routes_of table closed q) q.allowance ≡ false
      → q.allowance < length (routes_of table closed q) → answer_among only table closed q size ≡ refuse 15 → Outcome only table closed q size

pub ranked_step : (ok : Pair → Bool) (routes : List Route) (allowance : ℕ) → 0 < length routes → 0 < allowance → Step routes (ranked ok routes allowance)
unfolding ranked
ranked_step ok routes allowance h a = let s = least_settled_step ok routes h in record { from_one = omega (arith, s.from_one); to_N = omega (arith, s.to_N) }

module _ (ok : Pair → Bool) where
  planned_none : (routes : List Route) (allowance : ℕ) → length routes ≡ 0 → (routes ≡ []) × (planned ok routes allowance ≡ refuse 10)
  unfolding planned
  planned_none [] allowance e = (refl, refl)
  planned_none (r ∷ routes) allowance e = absurd (omega arith)

  pub planned_some : (routes : List Route) (allowance : ℕ) → 0 < length routes
      → planned ok routes allowance ≡ (if some_at ok routes allowance then paired ok routes allowance else refuse (if leb (length routes) allowance then 14 else 15))
  unfolding planned
  planned_some [] allowance h = absurd (omega arith)
  planned_some (r ∷ routes) allowance h = refl

pub outcome : (only : Bool) (table closed : List ℕ) (q : Request) (size : ℕ) → Outcome only table closed q size
unfolding answer_among planned_unless
outcome only table closed q size = by_number (refusal table closed q size) refl
  where
    ok : Pair → Bool
    ok = judges_of only table closed q

    routes : List Route
    routes = routes_of table closed q

    Planned : Type 0
    Planned = answer_among only table closed q size ≡ planned ok routes q.allowance

    by_pairs : Passed table closed q size → 0 < length routes → Planned → (b : Bool) → some_at ok routes q.allowance ≡ b → (c : Bool) → leb (length routes) q.allowance ≡ c → Outcome only table closed q size
    by_pairs p some f true e c g = with_pair p some e (f ∙ planned_some ok routes q.allowance some ∙ rw e)
    by_pairs p some f false e true g = none_at_all p some e (leb-true (length routes) q.allowance g) (f ∙ planned_some ok routes q.allowance some ∙ rw (e, g))
    by_pairs p some f false e false g = none_yet p some e (leb-false (length routes) q.allowance g) (f ∙ planned_some ok routes q.allowance some ∙ rw (e, g))

    by_length : Passed table closed q size → (n : ℕ) → length routes ≡ n → Planned → Outcome only table closed q size
    by_length p zero e f = let o = planned_none ok routes q.allowance e in has_no_route p o.0 (f ∙ o.1)
    by_length p (suc n) e f = by_pairs p (omega arith) f (some_at ok routes q.allowance) refl (leb (length routes) q.allowance) refl

    by_number : (n : ℕ) → refusal table closed q size ≡ n → Outcome only table closed q size
    by_number zero e = by_length (refusal_passed table closed q size e) (length routes) refl (ap (λ (x : ℕ). planned_unless only x (planned_arcs table closed) q) e)
    by_number (suc n) e = by_check (suc n) e (refusal_told table closed q size n e) (ap (λ (x : ℕ). planned_unless only x (planned_arcs table closed) q) e)

-- ---- the fields of a reply, read back

length_bytes : (n x : ℕ) → length (bytes_of n x) ≡ n
unfolding bytes_of
length_bytes zero x = refl
length_bytes (suc n) x = ap suc (length_bytes n (x / 256))

length_places : (r : Route) → length r.arcs ≤ most_arcs → length (places_of r) ≡ 32
unfolding places_of
length_places r h = simp (length-append, length-replicate) (omega arith)

long_places : (r : Route) → length r.arcs ≤ length (places_of r)
unfolding places_of
long_places r = simp length-append (omega arith)

take_places : (r : Route) → take (length r.arcs) (places_of r) ≡ r.arcs
unfolding places_of
take_places r = take-append_seam r.arcs (replicate (32 - length r.arcs) 255)

module _ (v low r : ℕ) (p : Pair) where
  pub reply_verdict : verdict_in (reply_of v low r p) ≡ v
  unfolding reply_of
  reply_verdict = refl

  pub reply_shared : shared_in (reply_of v low r p) ≡ shared_count p
  unfolding reply_of
  reply_shared = refl

  pub reply_shared_spans : shared_spans_in (reply_of v low r p) ≡ shared_spans p
  unfolding reply_of
  reply_shared_spans = refl

  pub reply_floor : floor_in (reply_of v low r p) ≡ low
  unfolding reply_of
  reply_floor = refl

  pub reply_ranked : r < 2 ^ 32 → ranked_in (reply_of v low r p) ≡ r
  unfolding reply_of bytes_of
  reply_ranked h = field_at (reply_of v low r p) _ 8 4 r refl h

  pub reply_main_metres : p.main.metres < 2 ^ 32 → main_metres_in (reply_of v low r p) ≡ p.main.metres
  unfolding reply_of bytes_of
  reply_main_metres h = field_at (reply_of v low r p) _ 12 4 p.main.metres refl h

  pub reply_standby_metres : p.standby.metres < 2 ^ 32 → standby_metres_in (reply_of v low r p) ≡ p.standby.metres
  unfolding reply_of bytes_of
  reply_standby_metres h = field_at (reply_of v low r p) _ 16 4 p.standby.metres refl h

  pub reply_shared_risks : shared_risks p < 2 ^ 64 → shared_risks_in (reply_of v low r p) ≡ shared_risks p
  unfolding reply_of bytes_of
  reply_shared_risks h = field_at (reply_of v low r p) _ 24 8 (shared_risks p) refl h

  pub reply_main : main_in (reply_of v low r p) ≡ p.main.arcs
  unfolding reply_of bytes_of
  reply_main = take-append-le (length p.main.arcs) (places_of p.main) (places_of p.standby) (long_places p.main) ∙ take_places p.main

  pub reply_standby : length p.main.arcs ≤ most_arcs → standby_in (reply_of v low r p) ≡ p.standby.arcs
  unfolding reply_of bytes_of
  reply_standby h =
      ap (take (length p.standby.arcs)) (drop_at (places_of p.main) (places_of p.standby) 32 (length_places p.main h))
      ∙ take_places p.standby

pub reply_length : (v low r : ℕ) (p : Pair) → length p.main.arcs ≤ most_arcs → length p.standby.arcs ≤ most_arcs → length (reply_of v low r p) ≡ reply_size
unfolding reply_of
reply_length v low r p h b = simp (length-append, length_bytes, length_places p.main h, length_places p.standby b)
