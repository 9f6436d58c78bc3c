-- One arc mended: what the calls answer is what the arc adds to the outputs, and at most one record to each. Assumes nothing.
use Prim.Native.Nat.{ℕ, ◌+◌, ◌≤◌, ◌<◌}
use mathlib.Core.Bool.{Bool, true, false}
use mathlib.Core.List.{List, []}
use mathlib.Core.Path.{◌≡◌, refl, sym, ap, ◌∙◌, subst}
use native.Mathlib.Omega.{arith}
use lib.ListN.{length}
use Rattle.std.specs.Prelude.{Option, Some, None, is_some, not, if◌then◌else◌}
use Rattle.problem.specs.declared.Fault.{Fault}
use Rattle.problem.specs.declared.Fault.TheVariants.{Node, EqualEnds, Length}
use Rattle.problem.specs.declared.Reason.{Reason}
use Rattle.problem.specs.Table.{record_at, arcs_of, fault_of}
use Rattle.problem.specs.Routes.{arc_at}
use Rattle.problem.specs.Mending.{whole_arcs, fault_at, may_stay, new_number, reason_for, reason_at, reason_number, changed, is_changed, change_at, change_bytes, lost}
use Rattle.problem.proofs.TableLaws.{arcs_at}
use Rattle.problem.proofs.MendLaws.{whole_record, new_stays, new_removed}
use Rattle.problem.proofs.ChangeLaws.{change_length}
use Rattle.octets.specs.Puts.{Puts}
use Rattle.octets.proofs.PutLaws.{puts_none, puts_as}
use Rattle.mend.specs.declared.Done.{Done}
use Rattle.mend.specs.Steps.{table_part, list_part, Stepped}

module _ (input : List ℕ) {k : ℕ} (inside : k < whole_arcs input) where
  -- the fault that is found
  pub fault_is : {f : Option Fault} → f ≡ fault_of (arc_at (arcs_of input) k) → f ≡ fault_at input k
  fault_is e = e ∙ ap fault_of (arcs_at input k (omega arith))

  pub reason_is : {f : Option Fault} {n : ℕ} {r : Option Reason} → r ≡ reason_for f n → f ≡ fault_at input k → n ≡ new_number input k → r ≡ reason_at input k
  reason_is {f} {n} e is new = e ∙ ap (λ (g : Option Fault). reason_for g n) is ∙ ap (reason_for (fault_at input k)) new

  -- a kept arc goes to the table
  pub kept_table : None ≡ reason_at input k → record_at input k ≡ table_part input k
  unfolding table_part
  kept_table e = ap (λ (r : Option Reason). if is_some r then [] else record_at input k) e

  pub kept_list : None ≡ reason_at input k → [] ≡ list_part input k
  unfolding list_part
  kept_list e = ap (λ (r : Option Reason). if is_some r then change_bytes (changed k r (new_number input k)) else []) e

  -- and the loss of another to the list
  pub lost_table : {r : Reason} → Some r ≡ reason_at input k → [] ≡ table_part input k
  unfolding table_part
  lost_table e = ap (λ (r : Option Reason). if is_some r then [] else record_at input k) e

  pub lost_list : {r : Reason} → Some r ≡ reason_at input k → change_bytes (lost k (reason_number r)) ≡ list_part input k
  unfolding list_part
  lost_list e = ap (λ (r : Option Reason). if is_some r then change_bytes (changed k r (new_number input k)) else []) e

  -- what the arm of a kept arc leaves, and that of a lost one, once the arc is counted
  pub record Counted (done next : Done) : Type 0 where
    pub staying_is : next.staying ≡ new_number input (k + 1)
    pub table_same : next.table ≡ done.table
    pub list_same : next.list ≡ done.list

  pub kept_stepped : {done next : Done} {table₀ list₀ out bytes : List ℕ} {n : ℕ} → Counted done next → None ≡ reason_at input k → bytes ≡ record_at input k
      → Puts bytes table₀ next.table out n → Stepped input k done (record { staying = next.staying; table = n; list = next.list }) table₀ out list₀ list₀
  kept_stepped {done} {table₀ = table₀} {list₀} {out} {bytes} {n} c kept is put = record {
    staying_is = c.staying_is;
    table_put = puts_as (is ∙ kept_table kept) (subst (λ (at : ℕ). Puts bytes table₀ at out n) c.table_same put);
    list_put = rw c.list_same (puts_as (kept_list kept) (puts_none list₀ done.list));
  }

  pub loss_stepped : {done next : Done} {table₀ list₀ out : List ℕ} {n : ℕ} {why : Reason} → Counted done next → Some why ≡ reason_at input k
      → Puts (change_bytes (lost k (reason_number why))) list₀ next.list out n → Stepped input k done (record { staying = next.staying; table = next.table; list = n }) table₀ table₀ list₀ out
  loss_stepped {done} {table₀ = table₀} {list₀} {out} {n} {why} c gone put = record {
    staying_is = c.staying_is;
    table_put = rw c.table_same (puts_as (lost_table gone) (puts_none table₀ done.table));
    list_put = puts_as (lost_list gone) (subst (λ (at : ℕ). Puts (change_bytes (lost k (reason_number why))) list₀ at out n) c.list_same put);
  }

  pub table_part_short : length (table_part input k) ≤ 16
  unfolding table_part
  table_part_short = go (is_some (reason_at input k)) refl
    where
      go : (b : Bool) → is_some (reason_at input k) ≡ b → length (if b then [] else record_at input k) ≤ 16
      go true e = omega arith
      go false e = omega (arith, whole_record input inside)

  pub list_part_short : length (list_part input k) ≤ 16
  unfolding list_part
  list_part_short = go (is_changed input k)
    where
      go : (b : Bool) → length (if b then change_bytes (change_at input k) else []) ≤ 16
      go true = omega (arith, change_length (change_at input k))
      go false = omega arith

-- how many stay then
none_stays : (f : Option Fault) → may_stay f ≡ not (is_some f)
none_stays None = refl
none_stays (Some Node) = refl
none_stays (Some EqualEnds) = refl
none_stays (Some Length) = refl

module _ (input : List ℕ) (k : ℕ) {f : Option Fault} (is : f ≡ fault_at input k) where
  pub one_stays : is_some f ≡ false → new_number input (k + 1) ≡ new_number input k + 1
  one_stays e = new_stays input k (ap may_stay (sym is) ∙ none_stays f ∙ ap not e)

  pub none_stays_more : is_some f ≡ true → new_number input (k + 1) ≡ new_number input k
  none_stays_more e = new_removed input k (ap may_stay (sym is) ∙ none_stays f ∙ ap not e)
