-- An arc by its fields, and the part of the table that its reader is handed. Assumes nothing.
use mathlib.Core.Path.{◌≡◌, sym, ap, ◌∙◌}
use mathlib.Core.List.{List}
use Prim.Native.Nat.{ℕ, ◌+◌, ◌*◌, ◌-◌, ◌≤◌}
use lib.ListN.{length, get_or, take, drop}
use Rattle.problem.specs.declared.Arc.{Arc}
use Rattle.problem.specs.Table.{number_at, arc_of, arcs_of}
use Rattle.problem.specs.Routes.{arc_at}
use Rattle.problem.proofs.TableLaws.{record_part, arcs_at}

pub arc_read : (b : List ℕ) (s m r : ℕ) → s ≡ number_at b 2 2 → m ≡ number_at b 4 4 → r ≡ number_at b 8 8
    → ◌≡◌ {A = Arc} (record { tail = get_or b 0 0; head = get_or b 1 0; span = s; metres = m; risks = r }) (arc_of b)
unfolding arc_of
arc_read b s m r es em er = λ i. record { tail = get_or b 0 0; head = get_or b 1 0; span = es i; metres = em i; risks = er i }

pub arc_part : (table : List ℕ) (k : ℕ) → 16 * k + 16 ≤ length table
    → arc_of (take (16 * k + 16 - 16 * k) (drop (16 * k) table)) ≡ arc_at (arcs_of table) k
arc_part table k h = ap arc_of (record_part table k) ∙ sym (arcs_at table k h)
