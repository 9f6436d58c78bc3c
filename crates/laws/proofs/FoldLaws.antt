-- Lists and folds, whatever they hold: what is kept, how much of it, lists with the same members, and the first of many by a fold. Assumes nothing.
use Rattle.std.specs.Prelude.{if◌then◌else◌}
use mathlib.Core.Path.{◌≡◌, refl, sym, ap, ap₂, ◌∙◌}
use mathlib.Core.Logic.{◌⊎◌, inl, inr, ◌↔◌}
use mathlib.Core.Bool.{Bool, true, false, true≢false}
use mathlib.Core.List.Memᴰ
use mathlib.Core.List.{List, [], ◌∷◌, foldl, Memᴰ}
use Prim.Native.Nat.{ℕ, ◌+◌, ◌≤◌, min, max}
use native.Mathlib.Omega.{arith}
use lib.Dec.{ltb}
use lib.ListN.{length}
use borrow.Author.Tests.{ltb-true, ltb-false}
use Rattle.laws.specs.Choosing.{keep, insert_by, sort_by, Pairwise}
use Rattle.laws.proofs.OrderLaws.{Weak}
use Rattle.laws.proofs.SortLaws.{Strict}
use Rattle.laws.proofs.SetLaws.{digit}

-- ---- what is kept

module _ {A : Type 0} where
  pub keep_same : (f g : A → Bool) (l : List A) → ((x : A) → Memᴰ x l → f x ≡ g x) → keep f l ≡ keep g l
  unfolding keep
  keep_same f g [] h = refl
  keep_same f g (a ∷ l) h =
      rw (h a (Memᴰ.head refl), keep) (ap (λ (r : List A). elim (g a) [ true ↦ a ∷ r | false ↦ r ]) (keep_same f g l (λ x m. h x (Memᴰ.tail m))))

  -- where all pass, all are kept
  pub keep_all : (f : A → Bool) (l : List A) → ((x : A) → Memᴰ x l → f x ≡ true) → keep f l ≡ l
  unfolding keep
  keep_all f [] h = refl
  keep_all f (a ∷ l) h = rw (h a (Memᴰ.head refl), keep) (ap (λ (r : List A). a ∷ r) (keep_all f l (λ x m. h x (Memᴰ.tail m))))

  -- a wider test before changes nothing
  pub keep_keep : (f g : A → Bool) → ((x : A) → f x ≡ true → g x ≡ true) → (l : List A) → keep f (keep g l) ≡ keep f l
  unfolding keep
  keep_keep f g wider [] = refl
  keep_keep f g wider (a ∷ l) = go (f a) refl (g a) refl (keep_keep f g wider l)
    where
      go : (b : Bool) → f a ≡ b → (c : Bool) → g a ≡ c → keep f (keep g l) ≡ keep f l → keep f (keep g (a ∷ l)) ≡ keep f (a ∷ l)
      go true e true h ih = rw (h, keep, e, keep) (ap (λ (r : List A). a ∷ r) ih)
      go true e false h ih = absurd (true≢false (sym (wider a e) ∙ h))
      go false e true h ih = rw (h, keep, e, keep) ih
      go false e false h ih = rw (h, keep, e, keep) ih

  -- ---- how many are kept

  pub count_cons : (f : A → Bool) (a : A) (l : List A) → length (keep f (a ∷ l)) ≡ digit (f a) + length (keep f l)
  unfolding keep digit
  count_cons f a l = go (f a)
    where
      go : (b : Bool) → length {A = A} (elim b [ true ↦ a ∷ keep f l | false ↦ keep f l ]) ≡ digit b + length (keep f l)
      go true = omega arith
      go false = omega arith

  module _ (before : A → A → Bool) (f : A → Bool) where
    count_insert : (a : A) (l : List A) → length (keep f (insert_by before a l)) ≡ digit (f a) + length (keep f l)
    unfolding insert_by
    count_insert a [] = count_cons f a []
    count_insert a (b ∷ l) = go (before a b) (count_insert a l)
      where
        go : (s : Bool) → length (keep f (insert_by before a l)) ≡ digit (f a) + length (keep f l)
            → length (keep f (elim s [ true ↦ a ∷ b ∷ l | false ↦ b ∷ insert_by before a l ])) ≡ digit (f a) + length (keep f (b ∷ l))
        go true ih = count_cons f a (b ∷ l)
        go false ih = omega (arith, count_cons f b (insert_by before a l), count_cons f b l)

    -- a list in order has as many that pass
    pub count_sort : (l : List A) → length (keep f (sort_by before l)) ≡ length (keep f l)
    unfolding sort_by
    count_sort [] = refl
    count_sort (a ∷ l) = omega (arith, count_insert a (sort_by before l), count_cons f a l, count_sort l)

  -- ---- lists in order

  -- what holds of two members, where R does
  pub pairwise_members : {R S : A → A → Type 0} {l : List A} → ((a b : A) → Memᴰ a l → Memᴰ b l → R a b → S a b) → Pairwise R l → Pairwise S l
  pairwise_members f Pairwise.none = Pairwise.none
  pairwise_members f (Pairwise.one {a = a} g p) =
      Pairwise.one (λ b m. f a b (Memᴰ.head refl) (Memᴰ.tail m) (g b m)) (pairwise_members (λ x y m n. f x y (Memᴰ.tail m) (Memᴰ.tail n)) p)

  -- with the same members they are the same list
  module _ (before : A → A → Bool) (w : Weak before) where
    pub strict_same : {l r : List A} → Strict before l → Strict before r → ((x : A) → Memᴰ x l ↔ Memᴰ x r) → l ≡ r
    strict_same Pairwise.none Pairwise.none same = refl
    strict_same Pairwise.none (Pairwise.one {a = b} g q) same = absurd (Memᴰ.not-nil ((same b).1 (Memᴰ.head refl)))
    strict_same (Pairwise.one {a = a} f p) Pairwise.none same = absurd (Memᴰ.not-nil ((same a).0 (Memᴰ.head refl)))
    strict_same (Pairwise.one {a = a} {l = l} f p) (Pairwise.one {a = b} {l = r} g q) same =
        ap₂ (λ (x : A) (xs : List A). x ∷ xs) heads (strict_same p q (λ x. (λ m. on x m (Memᴰ.cases_cons ((same x).0 (Memᴰ.tail m))), λ m. back x m (Memᴰ.cases_cons ((same x).1 (Memᴰ.tail m))))))
      where
        never : {x y : A} → before x y ≡ true → y ≡ x → ⊥
        never {x} e s = true≢false (sym e ∙ ap (before x) s ∙ w.irrefl x)

        first : (a ≡ b) ⊎ Memᴰ a r → (b ≡ a) ⊎ Memᴰ b l → a ≡ b
        first (inl e) k = e
        first (inr m) (inl e) = sym e
        first (inr m) (inr n) = absurd (never (w.trans a b a (f b n) (g a m)) refl)

        heads : a ≡ b
        heads = first (Memᴰ.cases_cons ((same a).0 (Memᴰ.head refl))) (Memᴰ.cases_cons ((same b).1 (Memᴰ.head refl)))

        on : (x : A) → Memᴰ x l → (x ≡ b) ⊎ Memᴰ x r → Memᴰ x r
        on x m (inl e) = absurd (never (f x m) (e ∙ sym heads))
        on x m (inr n) = n

        back : (x : A) → Memᴰ x r → (x ≡ a) ⊎ Memᴰ x l → Memᴰ x l
        back x m (inl e) = absurd (never (g x m) (e ∙ heads))
        back x m (inr n) = n

-- ---- folds

-- a step that is idle where a test fails folds over what is kept
pub fold_keep : {A S : Type 0} (test : A → Bool) (step : S → A → S) (s : S) (l : List A) → foldl (λ (t : S) (a : A). if test a then step t a else t) s l ≡ foldl step s (keep test l)
unfolding keep
fold_keep test step s [] = refl
fold_keep {A} {S} test step s (a ∷ l) = go (test a) (fold_keep test step (step s a) l) (fold_keep test step s l)
  where
    idle : S → A → S
    idle t x = if test x then step t x else t

    go : (b : Bool) → foldl idle (step s a) l ≡ foldl step (step s a) (keep test l) → foldl idle s l ≡ foldl step s (keep test l)
        → foldl idle (if b then step s a else s) l ≡ foldl step s (elim b [ true ↦ a ∷ keep test l | false ↦ keep test l ])
    go true p q = p
    go false p q = q

-- an order of numbers, up or down
pub record Order (R : ℕ → ℕ → Type 0) : Type 0 where
  pub self : (a : ℕ) → R a a
  pub trans : (a b c : ℕ) → R a b → R b c → R a c
  pub antisym : (a b : ℕ) → R a b → R b a → a ≡ b

pub smaller : Order ◌≤◌
smaller = record { self = λ a. omega arith; trans = λ a b c p q. omega arith; antisym = λ a b p q. omega arith }

abbrev pub AtLeast : ℕ → ℕ → Type 0
AtLeast a b = b ≤ a

pub larger : Order AtLeast
larger = record { self = λ a. omega arith; trans = λ a b c p q. omega arith; antisym = λ a b p q. omega arith }

-- of b and all numbers that P holds of, x is the first by R
pub record FirstOf (R : ℕ → ℕ → Type 0) (b : ℕ) (P : ℕ → Type 0) (x : ℕ) : Type 0 where
  pub from_start : R x b
  pub from_each : (n : ℕ) → P n → R x n
  pub is_one : (x ≡ b) ⊎ P x

-- of two numbers
pub min_first : (b k : ℕ) → FirstOf ◌≤◌ b (λ n. n ≡ k) (min b k)
min_first b k = record { from_start = omega arith; from_each = λ n e. omega arith; is_one = go (ltb k b) refl }
  where
    go : (s : Bool) → ltb k b ≡ s → (min b k ≡ b) ⊎ (min b k ≡ k)
    go true e = inr (omega (arith, ltb-true))
    go false e = inl (omega (arith, ltb-false))

pub max_first : (b k : ℕ) → FirstOf AtLeast b (λ n. n ≡ k) (max b k)
max_first b k = record { from_start = omega arith; from_each = λ n e. omega arith; is_one = go (ltb b k) refl }
  where
    go : (s : Bool) → ltb b k ≡ s → (max b k ≡ b) ⊎ (max b k ≡ k)
    go true e = inr (omega (arith, ltb-true))
    go false e = inl (omega (arith, ltb-false))

-- one of the list gives the number
pub record Given {A : Type 0} (Q : A → ℕ → Type 0) (l : List A) (n : ℕ) : Type 0 where
  pub by : A
  pub listed : Memᴰ by l
  pub gives : Q by n

pub given_same : {A : Type 0} {Q : A → ℕ → Type 0} {l r : List A} → ((a : A) → Memᴰ a l → Memᴰ a r) → {n : ℕ} → Given Q l n → Given Q r n
given_same f g = record { by = g.by; listed = f g.by g.listed; gives = g.gives }

module _ {R : ℕ → ℕ → Type 0} (order : Order R) where
  pub first_same : {b x : ℕ} {P P' : ℕ → Type 0} → ((n : ℕ) → P n ↔ P' n) → FirstOf R b P x → FirstOf R b P' x
  first_same {b} {x} {P} {P'} same f = record { from_start = f.from_start; from_each = λ n p. f.from_each n ((same n).1 p); is_one = go f.is_one }
    where
      go : (x ≡ b) ⊎ P x → (x ≡ b) ⊎ P' x
      go (inl e) = inl e
      go (inr p) = inr ((same x).0 p)

  -- there is one first
  pub first_unique : {b x y : ℕ} {P : ℕ → Type 0} → FirstOf R b P x → FirstOf R b P y → x ≡ y
  first_unique {b} {x} {y} {P} f g = order.antisym x y (go f g.is_one) (go g f.is_one)
    where
      go : {u v : ℕ} → FirstOf R b P u → (v ≡ b) ⊎ P v → R u v
      go {u} h (inl e) = rw e h.from_start
      go {u} {v} h (inr p) = h.from_each v p

  -- only the members count, and not their order
  pub first_members : {A : Type 0} {Q : A → ℕ → Type 0} {b x y : ℕ} {l r : List A} → ((a : A) → Memᴰ a l ↔ Memᴰ a r)
      → FirstOf R b (Given Q l) x → FirstOf R b (Given Q r) y → x ≡ y
  first_members same f g = first_unique f (first_same (λ n. (given_same (λ a. (same a).1), given_same (λ a. (same a).0))) g)

  -- where each step takes the first of what is there and what one gives, the fold takes the first of all
  module _ {A : Type 0} (Q : A → ℕ → Type 0) (step : ℕ → A → ℕ) (ok : (b : ℕ) (a : A) → FirstOf R b (Q a) (step b a)) where
    pub first_fold : (b : ℕ) (l : List A) → FirstOf R b (Given Q l) (foldl step b l)
    first_fold b [] = record { from_start = order.self b; from_each = λ n g. absurd (Memᴰ.not-nil g.listed); is_one = inl refl }
    first_fold b (a ∷ l) = go (ok b a) (first_fold (step b a) l)
      where
        go : {x y : ℕ} → FirstOf R b (Q a) x → FirstOf R x (Given Q l) y → FirstOf R b (Given Q (a ∷ l)) y
        go {x} {y} f g = record { from_start = order.trans y x b g.from_start f.from_start; from_each = λ n h. each n h.gives (Memᴰ.cases_cons h.listed); is_one = one g.is_one f.is_one }
          where
            each : (n : ℕ) {c : A} → Q c n → (c ≡ a) ⊎ Memᴰ c l → R y n
            each n q (inl e) = order.trans y x n g.from_start (f.from_each n (rw e at q))
            each n {c} q (inr m) = g.from_each n (record { by = c; listed = m; gives = q })

            one : (y ≡ x) ⊎ Given Q l y → (x ≡ b) ⊎ Q a x → (y ≡ b) ⊎ Given Q (a ∷ l) y
            one (inr h) k = inr (given_same (λ c m. Memᴰ.tail m) h)
            one (inl e) (inl d) = inl (e ∙ d)
            one (inl e) (inr q) = inr (record { by = a; listed = Memᴰ.head refl; gives = rw e q })
