-- `spans::put_marked` meets its contract: the part from 16 * k on is the record, and is put with the mark. Assumes nothing.
use Prim.Native.Nat.{ℕ, ◌+◌, ◌*◌, ◌-◌}
use mathlib.Core.List.{List}
use mathlib.Core.Path.{◌≡◌, ap, ap₂, ◌∙◌}
use native.Mathlib.Omega.{arith}
use lib.ListN.{take, drop, length-take, length-drop}
use Rattle.problem.specs.declared.Arc.{Arc}
use Rattle.problem.specs.Table.{record_at, arcs_of}
use Rattle.problem.specs.Spans.{mark}
use Rattle.problem.proofs.TableLaws.{record_part}
use Rattle.octets.proofs.PutLaws.{puts_as}
use Rattle.spans.specs.Marks.{respanned, marked_record}
use Rattle.spans.proofs.put_marked.Goals as goal

-- the bytes that are put, of an arc that is read and a mark that is made
marked_is : (table : List ℕ) (k : ℕ) {a b : Arc} {m : ℕ} → a ≡ b → m ≡ mark (arcs_of table) a.span
    → respanned (take (16 * k + 16 - 16 * k) (drop (16 * k) table)) m ≡ respanned (record_at table k) (mark (arcs_of table) b.span)
marked_is table k e f = ap₂ respanned (record_part table k) (f ∙ ap (λ (x : Arc). mark (arcs_of table) x.span) e)

pub put_respanned-requires : goal.put_respanned-requires
put_respanned-requires c = simp (length-take, length-drop) (omega arith)

pub returns : goal.returns
unfolding marked_record
returns c =
    puts_as (marked_is c.args.table.now c.args.k c.arc_at-a.ensures c.mark-span.ensures) c.put_respanned.ensures
