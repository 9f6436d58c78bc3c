-- Lists: places and members, `keep`, `Pairwise`. Assumes nothing.
use mathlib.Core.Path.{◌≡◌, refl, sym, ap, ◌∙◌}
use mathlib.Core.Logic.{◌⊎◌, inl, inr}
use mathlib.Core.Bool.{Bool, true, false, true≢false}
use mathlib.Core.List.Memᴰ
use mathlib.Core.List.{List, [], ◌∷◌, ◌++◌, map, Memᴰ}
use Prim.Native.Nat.{ℕ, zero, suc, ◌≤◌, ◌<◌, min, suc-le-suc}
use native.Mathlib.Nat.{le_of_suc-le-suc, not-suc-le-zero}
use native.Mathlib.Omega.{arith}
use lib.ListN.{length, get_or, take}
use Rattle.laws.specs.Choosing.{keep, Pairwise}

module _ {A : Type 0} where
  -- ---- places and members

  pub get_or_mem : (d : A) (l : List A) (k : ℕ) → k < length l → Memᴰ (get_or l k d) l
  get_or_mem d [] k h = absurd (not-suc-le-zero h)
  get_or_mem d (a ∷ l) zero h = Memᴰ.head refl
  get_or_mem d (a ∷ l) (suc k) h = Memᴰ.tail (get_or_mem d l k (le_of_suc-le-suc h))

  -- where a member stands
  pub record Place (d x : A) (l : List A) : Type 0 where
    pub at : ℕ
    pub inside : at < length l
    pub is : x ≡ get_or l at d

  pub mem_place : (d : A) {x : A} {l : List A} → Memᴰ x l → Place d x l
  mem_place d (Memᴰ.head e) = record { at = 0; inside = omega arith; is = e }
  mem_place d (Memᴰ.tail m) = let p = mem_place d m in record { at = suc p.at; inside = suc-le-suc p.inside; is = p.is }

  -- a member of the first n stands among them
  pub record Early (d x : A) (l : List A) (n : ℕ) : Type 0 where
    pub at : ℕ
    pub early : at < n
    pub inside : at < length l
    pub is : x ≡ get_or l at d

  pub take_place : (d : A) {x : A} (n : ℕ) (l : List A) → Memᴰ x (take n l) → Early d x l n
  take_place d zero l m = absurd (Memᴰ.not-nil m)
  take_place d (suc n) [] m = absurd (Memᴰ.not-nil m)
  take_place d {x} (suc n) (a ∷ l) m = go (Memᴰ.cases_cons m) (λ q. take_place d n l q)
    where
      go : (x ≡ a) ⊎ Memᴰ x (take n l) → (Memᴰ x (take n l) → Early d x l n) → Early d x (a ∷ l) (suc n)
      go (inl e) f = record { at = 0; early = omega arith; inside = omega arith; is = e }
      go (inr q) f = let p = f q in record { at = suc p.at; early = suc-le-suc p.early; inside = suc-le-suc p.inside; is = p.is }

  pub get_or_take_mem : (d : A) (n : ℕ) (l : List A) (k : ℕ) → k < n → k < length l → Memᴰ (get_or l k d) (take n l)
  get_or_take_mem d zero l k h b = absurd (not-suc-le-zero h)
  get_or_take_mem d (suc n) [] k h b = absurd (not-suc-le-zero b)
  get_or_take_mem d (suc n) (a ∷ l) zero h b = Memᴰ.head refl
  get_or_take_mem d (suc n) (a ∷ l) (suc k) h b = Memᴰ.tail (get_or_take_mem d n l k (le_of_suc-le-suc h) (le_of_suc-le-suc b))

  -- those of the first i are among the first j
  pub take_more : (d : A) {i j : ℕ} (l : List A) → i ≤ j → {x : A} → Memᴰ x (take i l) → Memᴰ x (take j l)
  take_more d {i} {j} l h m = let e = take_place d i l m in Memᴰ.cast e.is (get_or_take_mem d j l e.at (omega (arith, e.early)) e.inside)

  -- and the first of a list are among its members
  pub take_mem : (d : A) (n : ℕ) {l : List A} {x : A} → Memᴰ x (take n l) → Memᴰ x l
  take_mem d n {l} m = let e = take_place d n l m in Memᴰ.cast e.is (get_or_mem d l e.at e.inside)

  -- the first n of a list are no more than it has
  pub take_inside : (d : A) (n : ℕ) (l : List A) {x : A} → Memᴰ x (take n l) → Memᴰ x (take (min n (length l)) l)
  take_inside d n l m =
      let e = take_place d n l m in Memᴰ.cast e.is (get_or_take_mem d (min n (length l)) l e.at (omega (arith, e.early, e.inside)) e.inside)

  pub cons_mem : {a x : A} {l r : List A} → (Memᴰ x l → Memᴰ x r) → Memᴰ x (a ∷ l) → Memᴰ x (a ∷ r)
  cons_mem f (Memᴰ.head e) = Memᴰ.head e
  cons_mem f (Memᴰ.tail m) = Memᴰ.tail (f m)

  -- ---- keep

  pub keep_in : (test : A → Bool) (l : List A) {x : A} → Memᴰ x l → test x ≡ true → Memᴰ x (keep test l)
  unfolding keep
  keep_in test [] m e = absurd (Memᴰ.not-nil m)
  keep_in test (a ∷ l) {x} m e = go (test a) refl (Memᴰ.cases_cons m) (λ q. keep_in test l q e)
    where
      go : (s : Bool) → test a ≡ s → (x ≡ a) ⊎ Memᴰ x l → (Memᴰ x l → Memᴰ x (keep test l)) → Memᴰ x (keep test (a ∷ l))
      go true f (inl q) ih = rw (f, keep) (Memᴰ.head q)
      go true f (inr q) ih = rw (f, keep) (Memᴰ.tail (ih q))
      go false f (inl q) ih = absurd (true≢false (sym e ∙ ap test q ∙ f))
      go false f (inr q) ih = rw (f, keep) (ih q)

  pub keep_out : (test : A → Bool) (l : List A) {x : A} → Memᴰ x (keep test l) → Memᴰ x l × (test x ≡ true)
  unfolding keep
  keep_out test [] m = absurd (Memᴰ.not-nil m)
  keep_out test (a ∷ l) {x} m = go (test a) refl (λ q. keep_out test l q)
    where
      here : test a ≡ true → (x ≡ a) ⊎ Memᴰ x (keep test l) → (Memᴰ x (keep test l) → Memᴰ x l × (test x ≡ true)) → Memᴰ x (a ∷ l) × (test x ≡ true)
      here f (inl e) ih = (Memᴰ.head e, ap test e ∙ f)
      here f (inr q) ih = let p = ih q in (Memᴰ.tail p.0, p.1)

      go : (s : Bool) → test a ≡ s → (Memᴰ x (keep test l) → Memᴰ x l × (test x ≡ true)) → Memᴰ x (a ∷ l) × (test x ≡ true)
      go true f ih = here f (Memᴰ.cases_cons (rw (f, keep) at m)) ih
      go false f ih = let p = ih (rw (f, keep) at m) in (Memᴰ.tail p.0, p.1)

  -- where none passes, none is kept
  pub keep_append : (test : A → Bool) (l r : List A) → keep test (l ++ r) ≡ keep test l ++ keep test r
  unfolding keep
  keep_append test [] r = refl
  keep_append test (a ∷ l) r = go (test a) refl (keep_append test l r)
    where
      go : (c : Bool) → test a ≡ c → keep test (l ++ r) ≡ keep test l ++ keep test r → keep test (a ∷ (l ++ r)) ≡ keep test (a ∷ l) ++ keep test r
      go true e ih = rw (e, keep) (ap (λ (z : List A). a ∷ z) ih)
      go false e ih = rw (e, keep) ih

  pub keep_first : (test : A → Bool) (a : A) (l : List A) → test a ≡ true → keep test (a ∷ l) ≡ a ∷ keep test l
  unfolding keep
  keep_first test a l e = rw (e, keep)

  pub keep_past : (test : A → Bool) (a : A) (l : List A) → test a ≡ false → keep test (a ∷ l) ≡ keep test l
  unfolding keep
  keep_past test a l e = rw (e, keep)

  pub keep_none : (test : A → Bool) (l : List A) → ((x : A) → Memᴰ x l → test x ≡ false) → keep test l ≡ []
  unfolding keep
  keep_none test [] f = refl
  keep_none test (a ∷ l) f = rw (f a (Memᴰ.head refl), keep) (keep_none test l (λ x m. f x (Memᴰ.tail m)))

  pub length_keep : (test : A → Bool) (l : List A) → length (keep test l) ≤ length l
  unfolding keep
  length_keep test [] = omega arith
  length_keep test (a ∷ l) = go (test a) refl (length_keep test l)
    where
      go : (s : Bool) → test a ≡ s → length (keep test l) ≤ length l → length (keep test (a ∷ l)) ≤ length (a ∷ l)
      go true e ih = rw (e, keep) (omega arith)
      go false e ih = rw (e, keep) (omega arith)

  -- ---- Pairwise

  module _ {R : A → A → Type 0} where
    pub pairwise_tail : {a : A} {l : List A} → Pairwise R (a ∷ l) → Pairwise R l
    pairwise_tail (Pairwise.one f p) = p

    pub pairwise_head : {a : A} {l : List A} → Pairwise R (a ∷ l) → (b : A) → Memᴰ b l → R a b
    pairwise_head (Pairwise.one f p) = f

    pub pairwise_append : {xs : List A} (ys : List A) → Pairwise R xs → Pairwise R ys → ((a b : A) → Memᴰ a xs → Memᴰ b ys → R a b) → Pairwise R (xs ++ ys)
    pairwise_append ys Pairwise.none q f = q
    pairwise_append ys (Pairwise.one {a = x} {l = xs} g p) q f =
        Pairwise.one (λ b m. cases b (Memᴰ.append_cases xs m)) (pairwise_append ys p q (λ a b u v. f a b (Memᴰ.tail u) v))
      where
        cases : (b : A) → Memᴰ b xs ⊎ Memᴰ b ys → R x b
        cases b (inl u) = g b u
        cases b (inr v) = f x b (Memᴰ.head refl) v

    pub pairwise_keep : (test : A → Bool) {l : List A} → Pairwise R l → Pairwise R (keep test l)
    unfolding keep
    pairwise_keep test Pairwise.none = Pairwise.none
    pairwise_keep test (Pairwise.one {a = x} {l = xs} g p) = go (test x) refl (pairwise_keep test p)
      where
        go : (s : Bool) → test x ≡ s → Pairwise R (keep test xs) → Pairwise R (keep test (x ∷ xs))
        go true e ih = rw (e, keep) (Pairwise.one (λ b m. g b (keep_out test xs m).0) ih)
        go false e ih = rw (e, keep) ih

    pub pairwise_at : (d : A) (l : List A) → Pairwise R l → (i k : ℕ) → i < k → k < length l → R (get_or l i d) (get_or l k d)
    pairwise_at d [] p i k h b = absurd (not-suc-le-zero b)
    pairwise_at d (a ∷ l) p i zero h b = absurd (not-suc-le-zero h)
    pairwise_at d (a ∷ l) p zero (suc k) h b = pairwise_head p (get_or l k d) (get_or_mem d l k (le_of_suc-le-suc b))
    pairwise_at d (a ∷ l) p (suc i) (suc k) h b = pairwise_at d l (pairwise_tail p) i k (le_of_suc-le-suc h) (le_of_suc-le-suc b)

  -- through a function that turns R into S
  pub pairwise_map : {B : Type 0} {R : A → A → Type 0} {S : B → B → Type 0} (f : A → B) → ((a b : A) → R a b → (c : B) → f b ≡ c → S (f a) c)
      → {l : List A} → Pairwise R l → Pairwise S (map f l)
  pairwise_map f g Pairwise.none = Pairwise.none
  pairwise_map f g (Pairwise.one {a = x} {l = xs} h p) =
      Pairwise.one (λ c m. let o = Memᴰ.of_map f xs m in g x o.0 (h o.0 o.1) c o.2) (pairwise_map f g p)
