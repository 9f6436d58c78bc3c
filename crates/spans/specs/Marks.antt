-- A table written anew, each span's mark in the place of its number. Assumes nothing.
use Rattle.std.specs.Prelude.{ℕ, ◌/◌, ◌<◌, ◌≡◌, length, take, drop}
use mathlib.Core.List.{List, ◌++◌, flat_map}
use Rattle.laws.specs.Choosing.{numbers_from}
use Rattle.problem.specs.declared.Arc.{Arc}
use Rattle.problem.specs.Table.{bytes_of, record_at, arcs_of}
use Rattle.problem.specs.Spans.{mark}
use Rattle.problem.specs.Routes.{arc_at}

-- an arc that has a span
pub record SomeSpan (arcs : List Arc) : Type 0 where
  pub place : ℕ
  pub inside : place < length arcs
  pub known : (arc_at arcs place).span ≡ 0 → ⊥

-- no arc has one
abbrev pub NoSpan : List Arc → Type 0
NoSpan arcs = (k : ℕ) → k < length arcs → (arc_at arcs k).span ≡ 0

-- a record with another span
unfoldable pub respanned : List ℕ → ℕ → List ℕ
respanned b s = take 2 b ++ bytes_of 2 s ++ drop 4 b

-- the record of arc k, with the mark of its span; and those of m arcs from k on
unfoldable pub marked_record : List ℕ → ℕ → List ℕ
marked_record table k = respanned (record_at table k) (mark (arcs_of table) (arc_at (arcs_of table) k).span)

unfoldable pub marked_from : List ℕ → ℕ → ℕ → List ℕ
marked_from table k m = flat_map (marked_record table) (numbers_from k m)

-- all of them
abbrev pub marked_table : List ℕ → List ℕ
marked_table table = marked_from table 0 (length table / 16)
