-- Choosing: numbers in a row, those of a list that pass a test, the order of lists, a list in order, the first of a list. Assumes nothing.
use Rattle.std.specs.Prelude.{ℕ, zero, suc, Bool, true, false, ◌&&◌, ◌||◌, not, ◌≡◌}
use mathlib.Core.List.{List, [], ◌∷◌, Memᴰ}

-- the least number from j on that passes the test; after n failures, the number then reached
unfoldable pub least_from : (ℕ → Bool) → ℕ → ℕ → ℕ
least_from test zero j = j
least_from test (suc n) j = elim (test j) [ true ↦ j | false ↦ least_from test n (suc j) ]

-- n numbers from k on, the lowest first
unfoldable pub numbers_from : ℕ → ℕ → List ℕ
numbers_from k zero = []
numbers_from k (suc n) = k ∷ numbers_from (suc k) n

-- R holds of each element of a list and every later one
pub data Pairwise {A : Type 0} (R : A → A → Type 0) : List A → Type 0 where
  none : Pairwise R []
  one : {a : A} {l : List A} → ((b : A) → Memᴰ b l → R a b) → Pairwise R l → Pairwise R (a ∷ l)

-- nothing stands twice in a list
abbrev pub Distinct : {A : Type 0} → List A → Type 0
Distinct {A} = Pairwise (λ (a b : A). a ≡ b → ⊥)

-- those that pass the test, in their order
unfoldable pub keep : {A : Type 0} → (A → Bool) → List A → List A
keep test [] = []
keep test (a ∷ l) = elim (test a) [ true ↦ a ∷ keep test l | false ↦ keep test l ]

module _ {A : Type 0} (before : A → A → Bool) where
  -- the first place where two lists differ decides; a beginning stands before what goes on
  unfoldable pub lex_by : List A → List A → Bool
  lex_by [] [] = false
  lex_by [] (y ∷ ys) = true
  lex_by (x ∷ xs) [] = false
  lex_by (x ∷ xs) (y ∷ ys) = before x y || (not (before y x) && lex_by xs ys)

  -- a list in order; `insert_by` puts a in front of the first that it stands before
  unfoldable pub insert_by : A → List A → List A
  insert_by a [] = a ∷ []
  insert_by a (b ∷ l) = elim (before a b) [ true ↦ a ∷ b ∷ l | false ↦ b ∷ insert_by a l ]

  unfoldable pub sort_by : List A → List A
  sort_by [] = []
  sort_by (a ∷ l) = insert_by a (sort_by l)

  -- the first of a and l
  unfoldable pub first_from : A → List A → A
  first_from a [] = a
  first_from a (b ∷ l) = elim (before b a) [ true ↦ first_from b l | false ↦ first_from a l ]

  -- the first of a list, or `other` where it is empty
  unfoldable pub first_by : A → List A → A
  first_by other [] = other
  first_by other (a ∷ l) = first_from a l
