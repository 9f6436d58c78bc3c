-- Spans known by their first arcs: the arcs are the same but for that, two arcs have one mark exactly where they have one span, and where there are no spans
-- nothing changes. Assumes nothing.
use mathlib.Core.Path.{◌≡◌, refl, sym, ap, ap₂, ◌∙◌}
use mathlib.Core.Logic.{◌↔◌}
use mathlib.Core.Bool.{Bool, true, false}
use mathlib.Core.List.{List, [], ◌∷◌, map}
use Prim.Native.Nat.{ℕ, zero, suc, ◌+◌, ◌≤◌, ◌<◌, ◌^◌}
use native.Mathlib.Nat.{not-suc-le-zero}
use native.Mathlib.Omega.{arith}
use lib.Dec.{eqb}
use lib.ListN.{length, length-map, get_or}
use borrow.Author.Tests.{eqb-true, eqb-false, eq-eqb, ne_eqb}
use Rattle.std.specs.Prelude.{if◌then◌else◌}
use Rattle.problem.specs.declared.Arc.{Arc}
use Rattle.problem.specs.Table.{risk_width, Bytes, arcs_of, arc_number, all_sound}
use Rattle.problem.specs.Spans.{first_with, mark, with_span, marked, spanless, marked_arcs}
use Rattle.problem.specs.Exposures.{of_arc, spans_in}
use Rattle.problem.specs.Routes.{arc_at, exposure_of}
use Rattle.problem.proofs.ExposureLaws.{spans_of_arc, spans_unknown, spans_joined, spans_nothing}
use Rattle.problem.proofs.FaultLaws.{faultless_number, arc_sound}
use Rattle.problem.proofs.TableLaws.{arc_risks_below, risks_below, number_sound, sound_at}

-- ---- the arcs

mapped_at : (f : Arc → Arc) (d : Arc) (arcs : List Arc) (k : ℕ) → f d ≡ d → get_or (map f arcs) k d ≡ f (get_or arcs k d)
mapped_at f d [] k e = sym e
mapped_at f d (a ∷ arcs) zero e = refl
mapped_at f d (a ∷ arcs) (suc k) e = mapped_at f d arcs k e

module _ (arcs : List Arc) where
  pub marked_length : length (marked arcs) ≡ length arcs
  unfolding marked
  marked_length = length-map arcs (λ a. with_span a (mark arcs a.span))

  -- arc k has its span's mark, and is the same but for that
  pub marked_at : (k : ℕ) → arc_at (marked arcs) k ≡ with_span (arc_at arcs k) (mark arcs (arc_at arcs k).span)
  unfolding marked mark
  marked_at k = mapped_at (λ a. with_span a (mark arcs a.span)) (arc_at [] 0) arcs k refl

  pub marked_sound : all_sound arcs ≡ true → all_sound (marked arcs) ≡ true
  marked_sound s = number_sound (marked arcs) (faultless_number (marked arcs) (λ j h.
      let a = sound_at arcs s j (omega (arith, h, marked_length)) in
      ap arc_number (marked_at j)
      ∙ arc_sound _ (record { tail_node = a.tail_node; head_node = a.head_node; ends_differ = a.ends_differ; metres_range = a.metres_range })))

-- ---- the marks

first_from_lem : (s i : ℕ) (arcs : List Arc) → i ≤ first_with s i arcs
unfolding first_with
first_from_lem s i [] = omega arith
first_from_lem s i (a ∷ arcs) = go (eqb a.span s) refl (first_from_lem s (suc i) arcs)
  where
    go : (b : Bool) → eqb a.span s ≡ b → suc i ≤ first_with s (suc i) arcs → i ≤ first_with s i (a ∷ arcs)
    go true q ih = rw (q, first_with) (omega arith)
    go false q ih = rw (q, first_with) (omega (arith, ih))

-- the first is no later than any arc that has the span, and has it itself
first_before : (s i : ℕ) (arcs : List Arc) (k : ℕ) → k < length arcs → (arc_at arcs k).span ≡ s → first_with s i arcs ≤ i + k
unfolding first_with
first_before s i [] k h e = absurd (not-suc-le-zero h)
first_before s i (a ∷ arcs) k h e = go (eqb a.span s) refl k h e (first_before s (suc i) arcs)
  where
    go : (b : Bool) → eqb a.span s ≡ b → (k : ℕ) → k < length (a ∷ arcs) → (arc_at (a ∷ arcs) k).span ≡ s
        → ((j : ℕ) → j < length arcs → (arc_at arcs j).span ≡ s → first_with s (suc i) arcs ≤ suc i + j) → first_with s i (a ∷ arcs) ≤ i + k
    go true q k h e ih = rw (q, first_with) (omega arith)
    go false q zero h e ih = absurd (eqb-false a.span s q e)
    go false q (suc k) h e ih = rw (q, first_with) (omega (arith, ih k (omega arith) e))

first_has : (s i : ℕ) (arcs : List Arc) (k : ℕ) → first_with s i arcs ≡ i + k → k < length arcs → (arc_at arcs k).span ≡ s
unfolding first_with
first_has s i [] k e h = absurd (not-suc-le-zero h)
first_has s i (a ∷ arcs) k e h = go (eqb a.span s) refl k e h (first_has s (suc i) arcs)
  where
    go : (b : Bool) → eqb a.span s ≡ b → (k : ℕ) → first_with s i (a ∷ arcs) ≡ i + k → k < length (a ∷ arcs)
        → ((j : ℕ) → first_with s (suc i) arcs ≡ suc i + j → j < length arcs → (arc_at arcs j).span ≡ s) → (arc_at (a ∷ arcs) k).span ≡ s
    go true q zero e h ih = eqb-true a.span s q
    go true q (suc k) e h ih = absurd (let at : i ≡ i + suc k = rw (q, first_with) at e in omega arith)
    go false q zero e h ih = absurd (let at : first_with s (suc i) arcs ≡ i + 0 = rw (q, first_with) at e in omega (arith, at, first_from_lem s (suc i) arcs))
    go false q (suc k) e h ih = let at : first_with s (suc i) arcs ≡ i + suc k = rw (q, first_with) at e in ih k (omega (arith, at)) (omega arith)

-- which arc the first is, where none before it has the span; and where none has
pub first_at : (s i : ℕ) (arcs : List Arc) (k : ℕ) → ((j : ℕ) → j < k → (arc_at arcs j).span ≡ s → ⊥) → k < length arcs → (arc_at arcs k).span ≡ s → first_with s i arcs ≡ i + k
unfolding first_with
first_at s i [] k none h e = absurd (not-suc-le-zero h)
first_at s i (a ∷ arcs) zero none h e = rw (eq-eqb a.span s e) (omega arith)
first_at s i (a ∷ arcs) (suc k) none h e =
    rw (ne_eqb a.span s (none 0 (omega arith))) (omega (arith, first_at s (suc i) arcs k (λ j l. none (suc j) (omega arith)) (omega arith) e))

pub first_none : (s i : ℕ) (arcs : List Arc) → ((j : ℕ) → j < length arcs → (arc_at arcs j).span ≡ s → ⊥) → first_with s i arcs ≡ i + length arcs
unfolding first_with
first_none s i [] none = omega arith
first_none s i (a ∷ arcs) none = rw (ne_eqb a.span s (none 0 (omega arith))) (omega (arith, first_none s (suc i) arcs (λ j l. none (suc j) (omega arith))))

pub mark_unknown : (arcs : List Arc) → mark arcs 0 ≡ 0
unfolding mark
mark_unknown arcs = refl

pub mark_known : (arcs : List Arc) (s : ℕ) → (s ≡ 0 → ⊥) → mark arcs s ≡ suc (first_with s 0 arcs)
unfolding mark
mark_known arcs s ne = rw (ne_eqb s 0 ne)

pub mark_zero : (arcs : List Arc) (s : ℕ) → mark arcs s ≡ 0 → s ≡ 0
unfolding mark
mark_zero arcs s = go (eqb s 0) refl
  where
    go : (b : Bool) → eqb s 0 ≡ b → (if b then 0 else suc (first_with s 0 arcs)) ≡ 0 → s ≡ 0
    go true e z = eqb-true s 0 e
    go false e z = absurd (omega arith)

module _ (arcs : List Arc) where
  -- a mark is at most the number of arcs
  pub mark_range : (k : ℕ) → k < length arcs → mark arcs (arc_at arcs k).span ≤ length arcs
  mark_range k h = go (eqb (arc_at arcs k).span 0) refl
    where
      go : (b : Bool) → eqb (arc_at arcs k).span 0 ≡ b → mark arcs (arc_at arcs k).span ≤ length arcs
      go true e = let z : (arc_at arcs k).span ≡ 0 = eqb-true _ 0 e in omega (arith, ap (mark arcs) z, mark_unknown arcs)
      go false e = omega (arith, mark_known arcs (arc_at arcs k).span (eqb-false _ 0 e), first_before (arc_at arcs k).span 0 arcs k h refl)

  -- the number of a span, read back from its mark
  abbrev span_by : ℕ → ℕ
  span_by zero = 0
  span_by (suc k) = (arc_at arcs k).span

  span_back : (k : ℕ) → k < length arcs → span_by (mark arcs (arc_at arcs k).span) ≡ (arc_at arcs k).span
  span_back k h = go (eqb (arc_at arcs k).span 0) refl
    where
      go : (b : Bool) → eqb (arc_at arcs k).span 0 ≡ b → span_by (mark arcs (arc_at arcs k).span) ≡ (arc_at arcs k).span
      go true e = ap (λ (s : ℕ). span_by (mark arcs s)) (eqb-true _ 0 e) ∙ ap span_by (mark_unknown arcs) ∙ sym (eqb-true _ 0 e)
      go false e =
          let s = (arc_at arcs k).span in
          ap span_by (mark_known arcs s (eqb-false s 0 e)) ∙ first_has s 0 arcs (first_with s 0 arcs) (omega arith) (omega (arith, first_before s 0 arcs k h refl))

  -- two arcs have one mark exactly where they have one span
  pub mark_same : (j k : ℕ) → j < length arcs → k < length arcs → (mark arcs (arc_at arcs j).span ≡ mark arcs (arc_at arcs k).span) ↔ ((arc_at arcs j).span ≡ (arc_at arcs k).span)
  mark_same j k hj hk = (λ e. sym (span_back j hj) ∙ ap span_by e ∙ span_back k hk, λ e. ap (mark arcs) e)

-- ---- where there are no spans

map_same : (f : Arc → Arc) (arcs : List Arc) → ((k : ℕ) → k < length arcs → f (arc_at arcs k) ≡ arc_at arcs k) → map f arcs ≡ arcs
map_same f [] same = refl
map_same f (a ∷ arcs) same = ap₂ (λ (x : Arc) (l : List Arc). x ∷ l) (same 0 (omega arith)) (map_same f arcs (λ k h. same (suc k) (omega arith)))

pub unspanned_same : (arcs : List Arc) → ((k : ℕ) → k < length arcs → (arc_at arcs k).span ≡ 0) → marked arcs ≡ arcs
unfolding marked
unspanned_same arcs none = map_same (λ a. with_span a (mark arcs a.span)) arcs (λ k h.
    let m : mark arcs (arc_at arcs k).span ≡ (arc_at arcs k).span = ap (mark arcs) (none k h) ∙ mark_unknown arcs ∙ sym (none k h) in
    ap (with_span (arc_at arcs k)) m)

-- with spans left out: where there are none, the same arcs; and nothing but risks is shared
pub spanless_same : (arcs : List Arc) → ((k : ℕ) → k < length arcs → (arc_at arcs k).span ≡ 0) → marked arcs ≡ spanless arcs
unfolding spanless
spanless_same arcs none = unspanned_same arcs none ∙ sym (map_same (λ a. with_span a 0) arcs (λ k h. ap (with_span (arc_at arcs k)) (sym (none k h))))

spanless_at : (arcs : List Arc) (k : ℕ) → (arc_at (spanless arcs) k).span ≡ 0
unfolding spanless
spanless_at arcs k = ap (λ (a : Arc). a.span) (mapped_at (λ a. with_span a 0) (arc_at [] 0) arcs k refl)

pub spanless_none : (arcs : List Arc) (ks : List ℕ) → spans_in (exposure_of (spanless arcs) ks) ≡ 0
unfolding exposure_of
spanless_none arcs [] = spans_nothing
spanless_none arcs (k ∷ ks) =
    let own : spans_in (of_arc (arc_at (spanless arcs) k)) ≡ 0 = spans_unknown (arc_at (spanless arcs) k) (spanless_at arcs k) in
    omega (arith, spans_joined (of_arc (arc_at (spanless arcs) k)) (exposure_of (spanless arcs) ks), own, spanless_none arcs ks)

-- a list of arcs crosses no more spans than it has arcs
pub spans_most : (arcs : List Arc) (ks : List ℕ) → spans_in (exposure_of arcs ks) ≤ length ks
unfolding exposure_of
spans_most arcs [] = omega (arith, spans_nothing)
spans_most arcs (k ∷ ks) = omega (arith, spans_joined (of_arc (arc_at arcs k)) (exposure_of arcs ks), spans_of_arc (arc_at arcs k), spans_most arcs ks)

-- ---- the arcs of a table

pub marked_risks_below : (table : List ℕ) → Bytes table → (ks : List ℕ) → (exposure_of (marked_arcs table) ks).risks < 2 ^ risk_width
marked_risks_below table bytes = risks_below (marked_arcs table) (λ k. omega (arith, ap (λ (a : Arc). a.risks) (marked_at (arcs_of table) k), arc_risks_below table bytes k))
