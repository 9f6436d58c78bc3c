-- From what is told of arcs one after the other to the number of the first of them (`first_told`). Assumes nothing.
use mathlib.Core.Path.{◌≡◌, refl, sym, ◌∙◌, subst}
use mathlib.Core.Bool.{Bool, true, false}
use mathlib.Core.List.{List, []}
use Prim.Native.Nat.{ℕ, ◌+◌, ◌*◌}
use native.Mathlib.Omega.{arith}
use Rattle.std.specs.Prelude.{Option, Some, None, Result, Ok, Err, if◌then◌else◌}
use Rattle.std.specs.Option.{option_map, option_map_or}
use Rattle.problem.specs.declared.Arc.{Arc}
use Rattle.problem.specs.declared.Fault.{Fault}
use Rattle.problem.specs.declared.Refusal.{Refusal}
use Rattle.problem.specs.declared.Refusal.TheVariants.{FaultyArc, BlankArc}
use Rattle.problem.specs.Table.{fault_of, fault_number, arc_number, first_told}
use Rattle.problem.specs.Blanks.{is_blank, blank_number}
use Rattle.problem.specs.Routes.{arc_at}
use Rattle.problem.specs.Refusals.{refusal_number, told}
use Rattle.problem.proofs.FaultLaws.{fault_range}
use Rattle.problem.proofs.ToldLaws.{first_told_lem, none_told}
use Rattle.arcs.specs.Looked.{FirstRefused}

-- what is told of an arc where it has a number, and that there is nothing to tell where it has none
pub data Numbered (n k : ℕ) : Option Refusal → Type 0 where
  none : n ≡ 0 → Numbered n k None
  some : {r : Refusal} → (n ≡ 0 → ⊥) → refusal_number r ≡ n + 256 * k → Numbered n k (Some r)

abbrev pub by_fault : Arc → ℕ → Option Refusal
by_fault a k = option_map (λ f. FaultyArc f k) (fault_of a)

abbrev pub by_blank : Arc → ℕ → Option Refusal
by_blank a k = if is_blank a then Some (BlankArc k) else None

pub faults_numbered : (a : Arc) (k : ℕ) → Numbered (arc_number a) k (by_fault a k)
faults_numbered a k = go (fault_of a)
  where
    go : (f : Option Fault) → Numbered (option_map_or fault_number f 0) k (option_map (λ f. FaultyArc f k) f)
    go None = none refl
    go (Some f) = some {r = FaultyArc f k} (λ z. omega (arith, z, (fault_range f).0)) refl

pub blanks_numbered : (a : Arc) (k : ℕ) → Numbered (blank_number a) k (by_blank a k)
blanks_numbered a k = go (is_blank a)
  where
    go : (b : Bool) → Numbered (if b then 24 else 0) k (if b then Some (BlankArc k) else None)
    go true = some {r = BlankArc k} (λ z. omega (arith, z)) refl
    go false = none refl

-- so the refusal is that of the first arc with a number
pub told_first : (number : Arc → ℕ) (answer : Arc → ℕ → Option Refusal) → ((a : Arc) (k : ℕ) → Numbered (number a) k (answer a k)) → (tells : Arc → ℕ → Option Refusal → Type 0)
    → (arcs : List Arc) (result : Result (Unit {0}) Refusal) → FirstRefused tells arcs result → ((a : Arc) (k : ℕ) (o : Option Refusal) → tells a k o → answer a k ≡ o) → told result ≡ first_told number 0 arcs
unfolding FirstRefused
told_first number answer numbered tells arcs result first answers = go result first
  where
    at : (a : Arc) (k : ℕ) {o : Option Refusal} → tells a k o → Numbered (number a) k o
    at a k {o} t = subst (Numbered (number a) k) (answers a k o t) (numbered a k)

    quiet : {n k : ℕ} → Numbered n k None → n ≡ 0
    quiet (none z) = z

    loud : {n k : ℕ} {r : Refusal} → Numbered n k (Some r) → (n ≡ 0 → ⊥) × (refusal_number r ≡ n + 256 * k)
    loud (some f e) = (f, e)

    go : (o : Result (Unit {0}) Refusal) → FirstRefused tells arcs o → told o ≡ first_told number 0 arcs
    go (Ok _) all = sym (none_told number (arc_at [] 0) arcs (λ j b. quiet (at (arc_at arcs j) j (all j b))))
    go (Err r) f =
        let l = loud (at (arc_at arcs f.0) f.0 f.2) in
        l.1 ∙ sym (first_told_lem number (arc_at [] 0) (record { inside = f.1; has = l.0; none_before = λ j b. quiet (at (arc_at arcs j) j (f.3 j b)) }))
