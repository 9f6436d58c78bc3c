-- A part of a list: some of its elements, in their order. Assumes nothing.
use mathlib.Core.Path.{◌≡◌, refl}
use mathlib.Core.Logic.{◌⊎◌, inl, inr}
use mathlib.Core.Bool.{Bool, true, false}
use mathlib.Core.List.Memᴰ
use mathlib.Core.List.{List, [], ◌∷◌, Memᴰ}
use Prim.Native.Nat.{ℕ}
use lib.Dec.{eqb}
use borrow.Author.Tests.{eqb-true, eqb-false}
use Rattle.laws.proofs.ListLaws.{cons_mem}

pub data Part {A : Type 0} : List A → List A → Type 0 where
  none : Part [] []
  past : {a : A} {l r : List A} → Part l r → Part l (a ∷ r)
  with_it : {a : A} {l r : List A} → Part l r → Part (a ∷ l) (a ∷ r)

pub part_whole : {A : Type 0} (l : List A) → Part l l
part_whole [] = Part.none
part_whole (a ∷ l) = Part.with_it (part_whole l)

pub part_trans : {A : Type 0} {l m r : List A} → Part l m → Part m r → Part l r
part_trans p Part.none = p
part_trans p (Part.past q) = Part.past (part_trans p q)
part_trans (Part.past p) (Part.with_it q) = Part.past (part_trans p q)
part_trans (Part.with_it p) (Part.with_it q) = Part.with_it (part_trans p q)

pub part_mem : {A : Type 0} {l r : List A} {x : A} → Part l r → Memᴰ x l → Memᴰ x r
part_mem Part.none m = m
part_mem (Part.past p) m = Memᴰ.tail (part_mem p m)
part_mem (Part.with_it p) m = cons_mem (λ q. part_mem p q) m

-- a number stands in a list, or it does not
pub mem_or_not : (v : ℕ) (l : List ℕ) → Memᴰ v l ⊎ (Memᴰ v l → ⊥)
mem_or_not v [] = inr (λ m. Memᴰ.not-nil m)
mem_or_not v (x ∷ l) = go (eqb v x) refl (mem_or_not v l)
  where
    neither : (v ≡ x → ⊥) → (Memᴰ v l → ⊥) → (v ≡ x) ⊎ Memᴰ v l → ⊥
    neither f g (inl e) = f e
    neither f g (inr m) = g m

    go : (b : Bool) → eqb v x ≡ b → Memᴰ v l ⊎ (Memᴰ v l → ⊥) → Memᴰ v (x ∷ l) ⊎ (Memᴰ v (x ∷ l) → ⊥)
    go true e ih = inl (Memᴰ.head (eqb-true v x e))
    go false e (inl m) = inl (Memᴰ.tail m)
    go false e (inr n) = inr (λ m. neither (eqb-false v x e) n (Memᴰ.cases_cons m))
