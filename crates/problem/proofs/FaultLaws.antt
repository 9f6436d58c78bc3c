-- An arc's faults: the first is one that it has, and it has none before that; a sound arc has none. Of several arcs, the lowest that has one. Assumes nothing.
use mathlib.Core.Path.{◌≡◌, refl, sym, ap, ◌∙◌, subst}
use mathlib.Core.Logic.{◌↔◌}
use mathlib.Core.Bool.{Bool, true, false, ◌||◌, or-true}
use mathlib.Core.List.{List, []}
use Prim.Native.Nat.{ℕ, ◌+◌, ◌*◌, ◌≤◌, ◌<◌}
use native.Mathlib.Omega.{arith}
use lib.Dec.{eqb, ltb}
use lib.ListN.{length}
use borrow.Author.Tests.{ltb-true, lt-ltb, eqb-true, eq-eqb}
use Rattle.std.specs.Prelude.{if◌then◌else◌, Option, Some, None, IfSome}
use Rattle.std.specs.Option.{option_map_or}
use Rattle.problem.specs.declared.Arc.{Arc}
use Rattle.problem.specs.declared.Fault.{Fault}
use Rattle.problem.specs.declared.Fault.TheVariants.{Node, EqualEnds, Length}
use Rattle.problem.specs.Table.{last_node, most_arc_metres, SoundArc, HasFault, fault_of, fault_number, arc_number, arcs_number}
use Rattle.problem.specs.Routes.{arc_at}
use Rattle.problem.specs.Calls.{LowestFault}
use Rattle.problem.proofs.ToldLaws.{FirstAt, first_told_lem, none_told}

-- ---- of one arc

-- what the definition's tests lead to
abbrev tested : (node ends length : Bool) → Option Fault
tested n e m = if n then Some Node else (if e then Some EqualEnds else (if m then Some Length else None))

-- there is a first fault, and it comes no later than another
abbrev NoLater : Option Fault → Fault → Type 0
NoLater f g = (20 ≤ option_map_or fault_number f 0) × (option_map_or fault_number f 0 ≤ fault_number g)

at_node : (e m : Bool) → NoLater (tested true e m) Node
at_node e m = (omega arith, omega arith)

at_ends : (n m : Bool) → NoLater (tested n true m) EqualEnds
at_ends true m = (omega arith, omega arith)
at_ends false m = (omega arith, omega arith)

at_length : (n e : Bool) → NoLater (tested n e true) Length
at_length true e = (omega arith, omega arith)
at_length false true = (omega arith, omega arith)
at_length false false = (omega arith, omega arith)

module _ (a : Arc) where
  abbrev node : Bool
  node = ltb last_node a.tail || ltb last_node a.head

  abbrev ends : Bool
  ends = eqb a.tail a.head

  abbrev long : Bool
  long = ltb most_arc_metres a.metres

  had : (t h e m : Bool) → ltb last_node a.tail ≡ t → ltb last_node a.head ≡ h → eqb a.tail a.head ≡ e → ltb most_arc_metres a.metres ≡ m
      → IfSome (tested (t || h) e m) (HasFault a)
  had true h e m is-t is-h is-e is_m = HasFault.tail_too_high (ltb-true _ _ is-t)
  had false true e m is-t is-h is-e is_m = HasFault.head_too_high (ltb-true _ _ is-h)
  had false false true m is-t is-h is-e is_m = HasFault.ends_equal (eqb-true _ _ is-e)
  had false false false true is-t is-h is-e is_m = HasFault.too_long (ltb-true _ _ is_m)
  had false false false false is-t is-h is-e is_m = tt

  had_first : IfSome (fault_of a) (HasFault a)
  unfolding fault_of
  had_first = had (ltb last_node a.tail) (ltb last_node a.head) (eqb a.tail a.head) (ltb most_arc_metres a.metres) refl refl refl refl

  -- the first fault is one that the arc has
  pub fault_had : {f : Fault} → fault_of a ≡ Some f → HasFault a f
  fault_had e = subst (λ (o : Option Fault). IfSome o (HasFault a)) e had_first

  -- and where a number is told, it is that of one
  pub some_fault : (arc_number a ≡ 0 → ⊥) → (f : Fault) × HasFault a f × (fault_number f ≡ arc_number a)
  some_fault = go (fault_of a) had_first
    where
      go : (o : Option Fault) → IfSome o (HasFault a) → (option_map_or fault_number o 0 ≡ 0 → ⊥) → (f : Fault) × HasFault a f × (fault_number f ≡ option_map_or fault_number o 0)
      go None h some = absurd (some refl)
      go (Some f) h some = (f, h, refl)

  -- and none that it has comes before
  pub fault_first : {g : Fault} → HasFault a g → (20 ≤ arc_number a) × (arc_number a ≤ fault_number g)
  unfolding fault_of
  fault_first (HasFault.tail_too_high h) = rw (lt-ltb last_node a.tail h) (at_node ends long)
  fault_first (HasFault.head_too_high h) = rw (lt-ltb last_node a.head h, or-true (ltb last_node a.tail)) (at_node ends long)
  fault_first (HasFault.ends_equal h) = rw (eq-eqb a.tail a.head h) (at_ends node long)
  fault_first (HasFault.too_long h) = rw (lt-ltb most_arc_metres a.metres h) (at_length node ends)

-- no two faults have the same number
fault_of_lem : ℕ → Fault
fault_of_lem n =
    if eqb n (fault_number Node) then Node
    else (if eqb n (fault_number EqualEnds) then EqualEnds
    else Length)

of_number : (f : Fault) → fault_of_lem (fault_number f) ≡ f
unfolding fault_of_lem
of_number Node = refl
of_number EqualEnds = refl
of_number Length = refl

same_fault : {f g : Fault} → fault_number f ≡ fault_number g → f ≡ g
same_fault {f} {g} e = sym (of_number f) ∙ ap fault_of_lem e ∙ of_number g

-- so the first is that of the smallest number
pub first_exactly : (a : Arc) (f : Fault) → (fault_of a ≡ Some f) ↔ (HasFault a f × ((g : Fault) → fault_number g < fault_number f → HasFault a g → ⊥))
first_exactly a f = (to, λ h. from h (fault_of a) refl)
  where
    number : {o : Option Fault} → fault_of a ≡ o → arc_number a ≡ option_map_or fault_number o 0
    number e = ap (λ (o : Option Fault). option_map_or fault_number o 0) e

    to : fault_of a ≡ Some f → HasFault a f × ((g : Fault) → fault_number g < fault_number f → HasFault a g → ⊥)
    to e = (fault_had a e, λ g l h. omega (arith, number e, (fault_first a h).1))

    from : HasFault a f × ((g : Fault) → fault_number g < fault_number f → HasFault a g → ⊥) → (o : Option Fault) → fault_of a ≡ o → fault_of a ≡ Some f
    from h None e = absurd (omega (arith, number e, (fault_first a h.0).0))
    from h (Some g) e =
        let not_less : fault_number g < fault_number f → ⊥ = λ l. h.1 g l (fault_had a e) in
        e ∙ ap Some (same_fault (omega (arith, number e, (fault_first a h.0).1)))

pub fault_range : (f : Fault) → (20 ≤ fault_number f) × (fault_number f ≤ 22)
fault_range Node = (omega arith, omega arith)
fault_range EqualEnds = (omega arith, omega arith)
fault_range Length = (omega arith, omega arith)

pub arc_range : (a : Arc) → arc_number a ≤ 22
arc_range a = go (fault_of a)
  where
    go : (o : Option Fault) → option_map_or fault_number o 0 ≤ 22
    go None = omega arith
    go (Some f) = (fault_range f).1

-- a sound arc has none
pub sound_none : {a : Arc} {f : Fault} → SoundArc a → HasFault a f → ⊥
sound_none s (HasFault.tail_too_high h) = omega (arith, s.tail_node)
sound_none s (HasFault.head_too_high h) = omega (arith, s.head_node)
sound_none s (HasFault.ends_equal h) = s.ends_differ h
sound_none s (HasFault.too_long h) = omega (arith, s.metres_range)

-- and an arc that has none is sound
pub none_sound : (a : Arc) → ((f : Fault) → HasFault a f → ⊥) → SoundArc a
none_sound a none =
    let low_tail : last_node < a.tail → ⊥ = λ h. none _ (HasFault.tail_too_high h) in
    let low_head : last_node < a.head → ⊥ = λ h. none _ (HasFault.head_too_high h) in
    let short : most_arc_metres < a.metres → ⊥ = λ h. none _ (HasFault.too_long h) in
    record {
      tail_node = omega arith;
      head_node = omega arith;
      ends_differ = λ h. none _ (HasFault.ends_equal h);
      metres_range = omega arith;
    }

pub sound_arc : (a : Arc) → arc_number a ≡ 0 → SoundArc a
sound_arc a z = none_sound a (λ f h. omega (arith, (fault_first a h).0))

pub fault_sound : (a : Arc) → SoundArc a → fault_of a ≡ None
fault_sound a s = go (fault_of a) refl
  where
    go : (o : Option Fault) → fault_of a ≡ o → fault_of a ≡ None
    go None e = e
    go (Some f) e = absurd (sound_none s (fault_had a e))

pub arc_sound : (a : Arc) → SoundArc a → arc_number a ≡ 0
arc_sound a s = rw (fault_sound a s)

-- ---- of several arcs

module _ (arcs : List Arc) where
  -- arc k is the first with a fault
  abbrev pub Faulty : ℕ → Type 0
  Faulty = FirstAt arc_number (arc_at [] 0) arcs

  -- the number told of it, and that of arcs all sound
  pub faulty_number : {k : ℕ} → Faulty k → arcs_number arcs ≡ arc_number (arc_at arcs k) + 256 * k
  unfolding arcs_number
  faulty_number f = first_told_lem arc_number (arc_at [] 0) f

  pub faultless_number : ((j : ℕ) → j < length arcs → arc_number (arc_at arcs j) ≡ 0) → arcs_number arcs ≡ 0
  unfolding arcs_number
  faultless_number = none_told arc_number (arc_at [] 0) arcs

  pub lowest_first : {k n : ℕ} → LowestFault arcs k n → Faulty k
  lowest_first l = record { inside = l.in_table; has = λ z. omega (arith, l.is_fault, l.first_fault); none_before = λ j b. arc_sound _ (l.sound_below j b) }
