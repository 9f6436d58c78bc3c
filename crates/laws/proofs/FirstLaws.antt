-- The first of a list by an order is one of the list, and none of the list stands before it; the least number that passes a test. Assumes nothing.
use mathlib.Core.Path.{◌≡◌, refl, sym, ap, ap₂, ◌∙◌}
use mathlib.Core.Logic.{◌⊎◌, inl, inr}
use mathlib.Core.Bool.{Bool, true, false, false≢true}
use mathlib.Core.List.Memᴰ
use mathlib.Core.List.{List, [], ◌∷◌, Memᴰ}
use Prim.Native.Nat.{ℕ, zero, suc, ◌+◌, ◌≤◌, ◌<◌}
use native.Mathlib.Omega.{arith}
use lib.Dec.{eqb}
use borrow.Author.Tests.{eqb-true, eqb-false}
use Rattle.laws.specs.Choosing.{least_from, first_from, first_by}
use Rattle.laws.proofs.OrderLaws.{Weak, weak_asym}

module _ {A : Type 0} (before : A → A → Bool) where
  first_from_mem : (a : A) (l : List A) → Memᴰ (first_from before a l) (a ∷ l)
  unfolding first_from
  first_from_mem a [] = Memᴰ.head refl
  first_from_mem a (b ∷ l) = go (before b a) refl (first_from_mem a l) (first_from_mem b l)
    where
      past : {x : A} → Memᴰ x (a ∷ l) → Memᴰ x (a ∷ b ∷ l)
      past (Memᴰ.head e) = Memᴰ.head e
      past (Memᴰ.tail m) = Memᴰ.tail (Memᴰ.tail m)

      go : (s : Bool) → before b a ≡ s → Memᴰ (first_from before a l) (a ∷ l) → Memᴰ (first_from before b l) (b ∷ l) → Memᴰ (first_from before a (b ∷ l)) (a ∷ b ∷ l)
      go true e p q = rw (e, first_from) (Memᴰ.tail q)
      go false e p q = rw (e, first_from) (past p)

  pub first_mem : (other : A) {l : List A} {x : A} → Memᴰ x l → Memᴰ (first_by before other l) l
  unfolding first_by
  first_mem other {l} m = go l m
    where
      go : {x : A} (l : List A) → Memᴰ x l → Memᴰ (first_by before other l) l
      go [] m = absurd (Memᴰ.not-nil m)
      go (a ∷ l) m = first_from_mem a l

  module _ (w : Weak before) where
    first_from_least : (a : A) (l : List A) (x : A) → Memᴰ x (a ∷ l) → before x (first_from before a l) ≡ false
    unfolding first_from
    first_from_least a [] x m = ap (λ (y : A). before y a) (Memᴰ.eq_of_singleton m) ∙ w.irrefl a
    first_from_least a (b ∷ l) x m = go (before b a) refl (Memᴰ.cases_cons m) (first_from_least a l) (first_from_least b l)
      where
        Least : A → Type 0
        Least c = (y : A) → Memᴰ y (c ∷ l) → before y (first_from before c l) ≡ false

        behind : (x ≡ b) ⊎ Memᴰ x l → before b a ≡ false → Least a → before x (first_from before a l) ≡ false
        behind (inl e) p ih = ap (λ (y : A). before y (first_from before a l)) e ∙ w.not_after (first_from before a l) a b (ih a (Memᴰ.head refl)) p
        behind (inr q) p ih = ih x (Memᴰ.tail q)

        go : (s : Bool) → before b a ≡ s → (x ≡ a) ⊎ Memᴰ x (b ∷ l) → Least a → Least b → before x (first_from before a (b ∷ l)) ≡ false
        go true e (inl p) ih jh =
            rw (e, first_from) (ap (λ (y : A). before y (first_from before b l)) p ∙ w.not_after (first_from before b l) b a (jh b (Memᴰ.head refl)) (weak_asym w b a e))
        go true e (inr q) ih jh = rw (e, first_from) (jh x q)
        go false e (inl p) ih jh = rw (e, first_from) (ih x (Memᴰ.head p))
        go false e (inr q) ih jh = rw (e, first_from) (behind (Memᴰ.cases_cons q) e ih)

    pub first_least : (other : A) {l : List A} {x : A} → Memᴰ x l → before x (first_by before other l) ≡ false
    unfolding first_by
    first_least other {l} {x} m = go l m
      where
        go : (l : List A) → Memᴰ x l → before x (first_by before other l) ≡ false
        go [] m = absurd (Memᴰ.not-nil m)
        go (a ∷ l) m = first_from_least a l x m

-- J passes the test, and nothing from j up to J does
pub record Least (test : ℕ → Bool) (j J : ℕ) : Type 0 where
  pub from : j ≤ J
  pub holds : test J ≡ true
  pub none_before : (i : ℕ) → j ≤ i → i < J → test i ≡ false

-- from j on, where some number within n steps passes
pub least_from_lem : (test : ℕ → Bool) (n j top : ℕ) → j ≤ top → top ≤ n + j → test top ≡ true → Least test j (least_from test n j)
unfolding least_from
least_from_lem test zero j top h b e =
    let same : top ≡ j = omega arith in
    record { from = omega arith; holds = ap test (sym same) ∙ e; none_before = λ i p q. absurd (omega arith) }
least_from_lem test (suc n) j top h b e = go (test j) refl (least_from_lem test n (suc j) top)
  where
    here : test j ≡ true → Least test j j
    here f = record { from = omega arith; holds = f; none_before = λ i p q. absurd (omega arith) }

    later : test j ≡ false → {J : ℕ} → Least test (suc j) J → Least test j J
    later f {J} l = record { from = omega (arith, l.from); holds = l.holds; none_before = λ i p q. step i p q (eqb i j) refl }
      where
        step : (i : ℕ) → j ≤ i → i < J → (s : Bool) → eqb i j ≡ s → test i ≡ false
        step i p q true g = ap test (eqb-true i j g) ∙ f
        step i p q false g = l.none_before i (omega (arith, eqb-false i j g)) q

    go : (s : Bool) → test j ≡ s → (suc j ≤ top → top ≤ n + suc j → test top ≡ true → Least test (suc j) (least_from test n (suc j))) → Least test j (least_from test (suc n) j)
    go true f ih = rw (f, least_from) (here f)
    go false f ih =
        let off : j ≡ top → ⊥ = λ q. false≢true (sym f ∙ ap test q ∙ e) in
        rw (f, least_from) (later f (ih (omega (arith, off)) (omega arith) e))

-- tests that say the same have the same least number
pub least_same : (f g : ℕ → Bool) → ((j : ℕ) → f j ≡ g j) → (n j : ℕ) → least_from f n j ≡ least_from g n j
unfolding least_from
least_same f g same zero j = refl
least_same f g same (suc n) j = ap₂ (λ (b : Bool) (k : ℕ). elim b [ true ↦ j | false ↦ k ]) (same j) (least_same f g same n (suc j))
