-- Numbers in a row (`numbers_from`), those of them that pass a test and the places where these come to stand; a list joined from parts of one length (`flat_map`). Assumes nothing.
use mathlib.Core.Path.{◌≡◌, refl, sym, ap, ◌∙◌}
use mathlib.Core.Logic.{◌⊎◌, inl, inr}
use mathlib.Core.Bool.{Bool, true, false}
use mathlib.Core.List.Memᴰ
use mathlib.Core.List.{List, [], ◌∷◌, ◌++◌, map, flat_map, append_assoc, Memᴰ}
use Prim.Native.Nat.{ℕ, zero, suc, ◌+◌, ◌*◌, ◌-◌, ◌≤◌, ◌<◌, suc-le-suc}
use native.Mathlib.Nat.{add-zero, not-suc-le-zero, le_of_suc-le-suc}
use native.Mathlib.Omega.{arith}
use lib.Dec.{eqb}
use lib.ListN.{length, get_or, take, drop, length-append}
use lib.Seq.{take_at, drop_at, drop-drop, get_or-append_seam}
use borrow.Author.Tests.{eqb-true, eqb-false}
use Rattle.laws.specs.Choosing.{numbers_from, keep, Pairwise}
use Rattle.laws.proofs.ListLaws.{get_or_mem, keep_out, keep_append, keep_first, pairwise_keep, pairwise_at}

-- ---- numbers in a row

pub numbers_length : (k n : ℕ) → length (numbers_from k n) ≡ n
unfolding numbers_from
numbers_length k zero = refl
numbers_length k (suc n) = ap suc (numbers_length (suc k) n)

pub numbers_append : (k m n : ℕ) → numbers_from k (m + n) ≡ numbers_from k m ++ numbers_from (k + m) n
unfolding numbers_from
numbers_append k zero n =
    let none : 0 + n ≡ n = omega arith in
    let here : k ≡ k + 0 = omega arith in
    ap (numbers_from k) none ∙ ap (λ (j : ℕ). numbers_from j n) here
numbers_append k (suc m) n =
    let more : suc m + n ≡ suc (m + n) = omega arith in
    let next : suc k + m ≡ k + suc m = omega arith in
    ap (numbers_from k) more ∙ ap (λ (l : List ℕ). k ∷ l) (numbers_append (suc k) m n ∙ ap (λ (j : ℕ). numbers_from (suc k) m ++ numbers_from j n) next)

pub numbers_in : (k n : ℕ) {x : ℕ} → k ≤ x → x < k + n → Memᴰ x (numbers_from k n)
unfolding numbers_from
numbers_in k zero from below = absurd (omega arith)
numbers_in k (suc n) {x} from below = go (eqb x k) refl (numbers_in (suc k) n)
  where
    go : (b : Bool) → eqb x k ≡ b → (suc k ≤ x → x < suc k + n → Memᴰ x (numbers_from (suc k) n)) → Memᴰ x (k ∷ numbers_from (suc k) n)
    go true e f = Memᴰ.head (eqb-true x k e)
    go false e f = let off = eqb-false x k e in Memᴰ.tail (f (omega arith) (omega arith))

pub numbers_out : (k n : ℕ) {x : ℕ} → Memᴰ x (numbers_from k n) → (k ≤ x) × (x < k + n)
unfolding numbers_from
numbers_out k zero m = absurd (Memᴰ.not-nil m)
numbers_out k (suc n) {x} m = go (Memᴰ.cases_cons m) (numbers_out (suc k) n)
  where
    go : (x ≡ k) ⊎ Memᴰ x (numbers_from (suc k) n) → (Memᴰ x (numbers_from (suc k) n) → (suc k ≤ x) × (x < suc k + n)) → (k ≤ x) × (x < k + suc n)
    go (inl e) f = (omega arith, omega arith)
    go (inr q) f = let p = f q in (omega (arith, p.0), omega (arith, p.1))

pub numbers_at : (k n i : ℕ) → i < n → get_or (numbers_from k n) i 0 ≡ k + i
unfolding numbers_from
numbers_at k zero i h = absurd (not-suc-le-zero h)
numbers_at k (suc n) zero h = omega arith
numbers_at k (suc n) (suc i) h = let next : suc k + i ≡ k + suc i = omega arith in numbers_at (suc k) n i (le_of_suc-le-suc h) ∙ next

pub numbers_rise : (k n : ℕ) → Pairwise ◌<◌ (numbers_from k n)
unfolding numbers_from
numbers_rise k zero = Pairwise.none
numbers_rise k (suc n) = Pairwise.one (λ b m. (numbers_out (suc k) n m).0) (numbers_rise (suc k) n)

-- a list is what it has at each place
map_numbers_from : {A : Type 0} (d : A) (f : ℕ → A) (l : List A) (k : ℕ) → ((i : ℕ) → i < length l → f (k + i) ≡ get_or l i d) → map f (numbers_from k (length l)) ≡ l
unfolding numbers_from
map_numbers_from d f [] k same = refl
map_numbers_from {A} d f (a ∷ l) k same =
    ap (λ (x : A). x ∷ map f (numbers_from (suc k) (length l))) (ap f (sym (add-zero k)) ∙ same 0 (omega arith))
    ∙ ap (λ (r : List A). a ∷ r) (map_numbers_from d f l (suc k) (λ i h. let next : suc k + i ≡ k + suc i = omega arith in ap f next ∙ same (suc i) (suc-le-suc h)))

pub map_numbers : {A : Type 0} (d : A) (f : ℕ → A) (l : List A) → ((i : ℕ) → i < length l → f i ≡ get_or l i d) → map f (numbers_from 0 (length l)) ≡ l
map_numbers d f l same = map_numbers_from d f l 0 (λ i h. let here : 0 + i ≡ i = omega arith in ap f here ∙ same i h)

-- ---- those that pass a test

module _ (test : ℕ → Bool) where
  -- how many pass below x
  abbrev passing : ℕ → ℕ
  passing x = length (keep test (numbers_from 0 x))

  numbers_next : (x : ℕ) → numbers_from 0 (suc x) ≡ numbers_from 0 x ++ x ∷ []
  unfolding numbers_from
  numbers_next x =
      let more : suc x ≡ x + 1 = omega arith in
      let here : 0 + x ≡ x = omega arith in
      ap (numbers_from 0) more ∙ numbers_append 0 x 1 ∙ ap (λ (j : ℕ). numbers_from 0 x ++ j ∷ []) here

  passing_step : (x : ℕ) → passing (suc x) ≡ passing x + length (keep test (x ∷ []))
  passing_step x =
      ap (λ (l : List ℕ). length (keep test l)) (numbers_next x)
      ∙ ap length (keep_append test (numbers_from 0 x) (x ∷ []))
      ∙ length-append (keep test (numbers_from 0 x)) (keep test (x ∷ []))

  pub passing_next : (x : ℕ) → test x ≡ true → passing (suc x) ≡ suc (passing x)
  unfolding keep
  passing_next x e = passing_step x ∙ rw (e, keep) (omega arith)

  pub passing_same : (x : ℕ) → test x ≡ false → passing (suc x) ≡ passing x
  unfolding keep
  passing_same x e = passing_step x ∙ rw (e, keep) (omega arith)

  pub passing_more : {x y : ℕ} → x ≤ y → passing x ≤ passing y
  passing_more {x} {y} h =
      let whole : x + (y - x) ≡ y = omega arith in
      omega (
        arith,
        ap (λ (n : ℕ). length (keep test (numbers_from 0 n))) whole,
        ap (λ (l : List ℕ). length (keep test l)) (numbers_append 0 x (y - x)),
        ap length (keep_append test (numbers_from 0 x) (numbers_from (0 + x) (y - x))),
        length-append (keep test (numbers_from 0 x)) (keep test (numbers_from (0 + x) (y - x))),
      )

  pub passing_below : {x y : ℕ} → x < y → test x ≡ true → passing x < passing y
  passing_below {x} h e = omega (arith, passing_next x e, passing_more {x = suc x} h)

  -- one that passes stands behind all that pass below it
  pub passing_place : {x n : ℕ} → x < n → test x ≡ true → get_or (keep test (numbers_from 0 n)) (passing x) 0 ≡ x
  unfolding numbers_from
  passing_place {x} {n} h e =
      let whole : n ≡ x + suc (n - suc x) = omega arith in
      let here : 0 + x ≡ x = omega arith in
      ap (λ (m : ℕ). get_or (keep test (numbers_from 0 m)) (passing x) 0) whole
      ∙ ap (λ (l : List ℕ). get_or (keep test l) (passing x) 0) (numbers_append 0 x (suc (n - suc x)) ∙ ap (λ (j : ℕ). numbers_from 0 x ++ numbers_from j (suc (n - suc x))) here)
      ∙ ap (λ (l : List ℕ). get_or l (passing x) 0) (keep_append test (numbers_from 0 x) (x ∷ numbers_from (suc x) (n - suc x)) ∙ ap (λ (l : List ℕ). keep test (numbers_from 0 x) ++ l) (keep_first test x (numbers_from (suc x) (n - suc x)) e))
      ∙ get_or-append_seam (keep test (numbers_from 0 x)) x (keep test (numbers_from (suc x) (n - suc x))) 0

  -- and what stands at place i is one that passes, with i that pass below it
  pub record PassingAt (n i x : ℕ) : Type 0 where
    pub below : x < n
    pub passes : test x ≡ true
    pub place : passing x ≡ i

  pub passing_at : (n i : ℕ) → i < passing n → PassingAt n i (get_or (keep test (numbers_from 0 n)) i 0)
  passing_at n i h = record { below = below; passes = out.1; place = same }
    where
      x : ℕ
      x = get_or (keep test (numbers_from 0 n)) i 0

      out : Memᴰ x (numbers_from 0 n) × (test x ≡ true)
      out = keep_out test (numbers_from 0 n) (get_or_mem 0 (keep test (numbers_from 0 n)) i h)

      below : x < n
      below = omega (arith, (numbers_out 0 n out.0).1)

      rise : Pairwise ◌<◌ (keep test (numbers_from 0 n))
      rise = pairwise_keep test (numbers_rise 0 n)

      same : passing x ≡ i
      same =
          let at = passing_place below out.1 in
          let inside = passing_below below out.1 in
          let not_less : passing x < i → ⊥ = λ l. omega (arith, at, pairwise_at 0 (keep test (numbers_from 0 n)) rise (passing x) i l h) in
          let not_more : i < passing x → ⊥ = λ l. omega (arith, at, pairwise_at 0 (keep test (numbers_from 0 n)) rise i (passing x) l inside) in
          omega arith

-- ---- parts one behind another

pub flat_append : {A B : Type 0} (f : A → List B) (l r : List A) → flat_map f (l ++ r) ≡ flat_map f l ++ flat_map f r
unfolding flat_map
flat_append f [] r = refl
flat_append {B = B} f (a ∷ l) r = ap (λ (z : List B). f a ++ z) (flat_append f l r) ∙ sym (append_assoc (f a) (flat_map f l) (flat_map f r))

-- of one length

module _ {A B : Type 0} (w : ℕ) (f : A → List B) where
  pub flat_length : (l : List A) → ((x : A) → Memᴰ x l → length (f x) ≡ w) → length (flat_map f l) ≡ w * length l
  unfolding flat_map
  flat_length [] each = omega arith
  flat_length (a ∷ l) each =
      let rest = flat_length l (λ x m. each x (Memᴰ.tail m)) in
      length-append (f a) (flat_map f l) ∙ (let first = each a (Memᴰ.head refl) in omega arith)

  pub flat_at : (d : A) (l : List A) → ((x : A) → Memᴰ x l → length (f x) ≡ w) → (i : ℕ) → i < length l → take w (drop (w * i) (flat_map f l)) ≡ f (get_or l i d)
  unfolding flat_map
  flat_at d [] each i h = absurd (not-suc-le-zero h)
  flat_at d (a ∷ l) each zero h =
      let none : w * 0 ≡ 0 = omega arith in
      rw none (take_at (f a) (flat_map f l) w (each a (Memᴰ.head refl)))
  flat_at d (a ∷ l) each (suc i) h =
      let more : w * suc i ≡ w + w * i = omega arith in
      ap (λ (n : ℕ). take w (drop n (f a ++ flat_map f l))) more
      ∙ ap (take w) (sym (drop-drop (w * i) w (f a ++ flat_map f l)) ∙ ap (drop (w * i)) (drop_at (f a) (flat_map f l) w (each a (Memᴰ.head refl))))
      ∙ flat_at d l (λ x m. each x (Memᴰ.tail m)) i (le_of_suc-le-suc h)
