-- What an arc or a route is exposed to, its risks and its spans; what two of them have in common, and how many that is. But for the reply's field of shared risks and
-- its count of shared spans, no other definition of the problem knows how many of these there can be, or that they are the bits of numbers; what is proved of it is in proofs/ExposureLaws.antt.
-- Spans are known by their first arcs, counted from 1 (Spans.antt): span s is bit s - 1, the first 64 in the field `low`, the next 64 in the field `high`. Assumes nothing.
use Rattle.std.specs.Prelude.{ℕ, ◌+◌, ◌-◌, ◌/◌, ◌%◌, ◌^◌, Bool, ◌&&◌, eqb, leb, ltb, if◌then◌else◌}
use Rattle.std.specs.Int.Bits.{bit_and, bit_or}
use Rattle.std.specs.Int.Count.{ones_in}
use Rattle.laws.specs.Sets.{bit}
use Rattle.problem.specs.declared.Arc.{Arc}
use Rattle.problem.specs.declared.Exposure.{Exposure}
use Rattle.problem.specs.Table.{risk_width}

-- the three fields by number, and the exposure that has these
unfoldable pub field_of : Exposure → ℕ → ℕ
field_of e i = if eqb i 0 then e.risks else (if eqb i 1 then e.low else e.high)

abbrev pub by_field : (ℕ → ℕ) → Exposure
by_field f = record { risks = f 0; low = f 1; high = f 2 }

-- 1 where it is exposed to hazard r, else 0. The bits of the three fields are counted in turn, so that each field may be as wide as it likes; those that arcs have are 0 to one below `hazards`
unfoldable pub exposed : Exposure → ℕ → ℕ
exposed e r = bit (field_of e (r % 3)) (r / 3)

-- to nothing, to all that there is, to hazard r alone
unfoldable pub to_nothing : Exposure
to_nothing = by_field (λ i. 0)

unfoldable pub to_all : Exposure
to_all = by_field (λ i. 2 ^ risk_width - 1)

unfoldable pub to_one : ℕ → Exposure
to_one r = by_field (λ i. if eqb (r % 3) i then 2 ^ (r / 3) else 0)

-- span s in a field for the 64 spans from `first` on; none where it is no such span
unfoldable pub span_field : (first s : ℕ) → ℕ
span_field first s = if leb first s && ltb (s - first) 64 then 2 ^ (s - first) else 0

-- to what an arc is
unfoldable pub of_arc : Arc → Exposure
of_arc a = record { risks = a.risks; low = span_field 1 a.span; high = span_field 65 a.span }

-- to what either is
unfoldable pub joined : Exposure → Exposure → Exposure
joined a b = by_field (λ i. bit_or (field_of a i) (field_of b i))

-- to what both are
unfoldable pub common : Exposure → Exposure → Exposure
common a b = by_field (λ i. bit_and (field_of a i) (field_of b i))

-- how many spans that are, and how many risks and spans
unfoldable pub spans_in : Exposure → ℕ
spans_in e = ones_in 64 e.low + ones_in 64 e.high

unfoldable pub size : Exposure → ℕ
size e = ones_in risk_width e.risks + spans_in e

-- how many two have in common
unfoldable pub sharing : Exposure → Exposure → ℕ
sharing a b = size (common a b)

-- whether two have nothing in common
unfoldable pub disjoint : Exposure → Exposure → Bool
disjoint a b = eqb (common a b).risks 0 && (eqb (common a b).low 0 && eqb (common a b).high 0)
