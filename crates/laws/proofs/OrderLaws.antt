-- Strict total orders; the order of lists by the first place where they differ is one; an order by a key. Assumes nothing.
use mathlib.Core.Path.{◌≡◌, refl, sym, ap₂, ◌∙◌, subst}
use mathlib.Core.Logic.{◌⊎◌, inl, inr}
use mathlib.Core.Bool.{Bool, true, false, true≢false, false≢true}
use mathlib.Core.List.{List, [], ◌∷◌}
use native.Mathlib.Omega.{arith}
use lib.Dec.{ltb}
use borrow.Author.Tests.{ltb-true, ltb-false, lt-ltb, le-ltb}
use Rattle.laws.specs.Choosing.{lex_by}

-- of any two different things one stands before the other, never each before the other
pub record Total {A : Type 0} (before : A → A → Bool) : Type 0 where
  pub irrefl : (a : A) → before a a ≡ false
  pub trans : (a b c : A) → before a b ≡ true → before b c ≡ true → before a c ≡ true
  pub tri : (a b : A) → before a b ≡ false → before b a ≡ false → a ≡ b

-- the same but for the last: different things may stand at one place
pub record Weak {A : Type 0} (before : A → A → Bool) : Type 0 where
  pub irrefl : (a : A) → before a a ≡ false
  pub trans : (a b c : A) → before a b ≡ true → before b c ≡ true → before a c ≡ true
  pub not_after : (a b c : A) → before b a ≡ false → before c b ≡ false → before c a ≡ false

pub total_weak : {A : Type 0} {before : A → A → Bool} → Total before → Weak before
total_weak {A} {before} t = record { irrefl = t.irrefl; trans = t.trans; not_after = λ a b c p q. go a b c p q (before c a) refl (before a b) refl }
  where
    go : (a b c : A) → before b a ≡ false → before c b ≡ false → (s : Bool) → before c a ≡ s → (u : Bool) → before a b ≡ u → before c a ≡ false
    go a b c p q false e u f = e
    go a b c p q true e true f = absurd (true≢false (sym (t.trans c a b e f) ∙ q))
    go a b c p q true e false f = absurd (true≢false (sym (subst (λ (x : A). before c x ≡ true) (t.tri a b f p) e) ∙ q))

pub weak_asym : {A : Type 0} {before : A → A → Bool} → Weak before → (a b : A) → before a b ≡ true → before b a ≡ false
weak_asym {A} {before} w a b p = go (before b a) refl
  where
    go : (s : Bool) → before b a ≡ s → before b a ≡ false
    go false e = e
    go true e = absurd (true≢false (sym (w.trans a b a p e) ∙ w.irrefl a))

-- by a key
pub keyed_weak : {A K : Type 0} {before : K → K → Bool} (key : A → K) → Weak before → Weak (λ (a b : A). before (key a) (key b))
keyed_weak key w =
    record { irrefl = λ a. w.irrefl (key a); trans = λ a b c. w.trans (key a) (key b) (key c); not_after = λ a b c. w.not_after (key a) (key b) (key c) }

pub ltb_total : Total ltb
ltb_total =
    record {
      irrefl = λ a. le-ltb a a (omega arith);
      trans = λ a b c p q. lt-ltb a c (omega (arith, ltb-true a b p, ltb-true b c q));
      tri = λ a b p q. omega (arith, ltb-false a b p, ltb-false b a q);
    }

module _ {A : Type 0} (before : A → A → Bool) (t : Total before) where
  pub lex_lt : (x : A) (xs : List A) (y : A) (ys : List A) → before x y ≡ true → lex_by before (x ∷ xs) (y ∷ ys) ≡ true
  unfolding lex_by
  lex_lt x xs y ys e = rw e

  pub lex_eq : (x : A) (xs : List A) (y : A) (ys : List A) → x ≡ y → lex_by before (x ∷ xs) (y ∷ ys) ≡ lex_by before xs ys
  unfolding lex_by
  lex_eq x xs y ys e = rw (e, t.irrefl y)

  -- what a comparison that holds, or that does not, says of the first place
  pub lex_true : (x : A) (xs : List A) (y : A) (ys : List A) → lex_by before (x ∷ xs) (y ∷ ys) ≡ true → (before x y ≡ true) ⊎ ((x ≡ y) × (lex_by before xs ys ≡ true))
  unfolding lex_by
  lex_true x xs y ys h = go (before x y) refl (before y x) refl
    where
      go : (s : Bool) → before x y ≡ s → (u : Bool) → before y x ≡ u → (before x y ≡ true) ⊎ ((x ≡ y) × (lex_by before xs ys ≡ true))
      go true e u f = inl e
      go false e true f = absurd (false≢true (rw (e, f) at h))
      go false e false f = inr (t.tri x y e f, rw (e, f) at h)

  pub lex_false : (x : A) (xs : List A) (y : A) (ys : List A) → lex_by before (x ∷ xs) (y ∷ ys) ≡ false → (before y x ≡ true) ⊎ ((x ≡ y) × (lex_by before xs ys ≡ false))
  unfolding lex_by
  lex_false x xs y ys h = go (before x y) refl (before y x) refl
    where
      go : (s : Bool) → before x y ≡ s → (u : Bool) → before y x ≡ u → (before y x ≡ true) ⊎ ((x ≡ y) × (lex_by before xs ys ≡ false))
      go true e u f = absurd (true≢false (rw e at h))
      go false e true f = inl f
      go false e false f = inr (t.tri x y e f, rw (e, f) at h)

  lex_irrefl : (a : List A) → lex_by before a a ≡ false
  unfolding lex_by
  lex_irrefl [] = refl
  lex_irrefl (x ∷ a) = lex_eq x a x a refl ∙ lex_irrefl a

  lex_trans : (a b c : List A) → lex_by before a b ≡ true → lex_by before b c ≡ true → lex_by before a c ≡ true
  unfolding lex_by
  lex_trans [] [] c p q = absurd (false≢true p)
  lex_trans [] (y ∷ b) [] p q = absurd (false≢true q)
  lex_trans [] (y ∷ b) (z ∷ c) p q = refl
  lex_trans (x ∷ a) [] c p q = absurd (false≢true p)
  lex_trans (x ∷ a) (y ∷ b) [] p q = absurd (false≢true q)
  lex_trans (x ∷ a) (y ∷ b) (z ∷ c) p q = go (lex_true x a y b p) (lex_true y b z c q) (lex_trans a b c)
    where
      go : (before x y ≡ true) ⊎ ((x ≡ y) × (lex_by before a b ≡ true)) → (before y z ≡ true) ⊎ ((y ≡ z) × (lex_by before b c ≡ true))
          → (lex_by before a b ≡ true → lex_by before b c ≡ true → lex_by before a c ≡ true) → lex_by before (x ∷ a) (z ∷ c) ≡ true
      go (inl u) (inl v) f = lex_lt x a z c (t.trans x y z u v)
      go (inl u) (inr v) f = lex_lt x a z c (rw (← v.0) u)
      go (inr u) (inl v) f = lex_lt x a z c (rw u.0 v)
      go (inr u) (inr v) f = lex_eq x a z c (u.0 ∙ v.0) ∙ f u.1 v.1

  lex_tri : (a b : List A) → lex_by before a b ≡ false → lex_by before b a ≡ false → a ≡ b
  unfolding lex_by
  lex_tri [] [] p q = refl
  lex_tri [] (y ∷ b) p q = absurd (true≢false p)
  lex_tri (x ∷ a) [] p q = absurd (true≢false q)
  lex_tri (x ∷ a) (y ∷ b) p q = go (lex_false x a y b p) (lex_false y b x a q) (lex_tri a b)
    where
      go : (before y x ≡ true) ⊎ ((x ≡ y) × (lex_by before a b ≡ false)) → (before x y ≡ true) ⊎ ((y ≡ x) × (lex_by before b a ≡ false))
          → (lex_by before a b ≡ false → lex_by before b a ≡ false → a ≡ b) → x ∷ a ≡ y ∷ b
      go (inl u) v f = absurd (true≢false (sym (lex_lt y b x a u) ∙ q))
      go (inr u) (inl v) f = absurd (true≢false (sym (lex_lt x a y b v) ∙ p))
      go (inr u) (inr v) f = ap₂ (λ (z : A) (l : List A). z ∷ l) u.0 (f u.1 v.1)

  pub lex_total : Total (lex_by before)
  lex_total = record { irrefl = lex_irrefl; trans = lex_trans; tri = lex_tri }
