-- A list put in order: it has the same members, each stands before all later ones, and its places are its ranks. Assumes nothing.
use mathlib.Core.Path.{◌≡◌, refl, sym, ap, ap₂, ◌∙◌}
use mathlib.Core.Logic.{◌⊎◌, inl, inr, ◌↔◌}
use mathlib.Core.Bool.{Bool, true, false, true≢false}
use mathlib.Core.List.Memᴰ
use mathlib.Core.List.{List, [], ◌∷◌, Memᴰ}
use Prim.Native.Nat.{ℕ, ◌<◌}
use native.Mathlib.Omega.{arith}
use lib.ListN.{length, get_or, take}
use lib.Dec.{ltb, eqb}
use borrow.Author.Tests.{ltb-true, ltb-false, eqb-true, eqb-false}
use Rattle.laws.specs.Choosing.{insert_by, sort_by, keep, Pairwise}
use Rattle.laws.proofs.ListLaws.{cons_mem, pairwise_tail, pairwise_head, pairwise_at, keep_none}
use Rattle.laws.proofs.OrderLaws.{Weak, weak_asym}

module _ {A : Type 0} (before : A → A → Bool) where
  -- each stands before all later ones
  abbrev pub Strict : List A → Type 0
  Strict l = Pairwise (λ (a b : A). before a b ≡ true) l

  -- no two stand at one place
  abbrev pub Untied : List A → Type 0
  Untied l = Pairwise (λ (a b : A). before a b ≡ false → before b a ≡ true) l

  insert_mem : (a : A) (l : List A) (x : A) → Memᴰ x (a ∷ l) ↔ Memᴰ x (insert_by before a l)
  unfolding insert_by
  insert_mem a [] x = (λ m. m, λ m. m)
  insert_mem a (b ∷ l) x = go (before a b) refl (insert_mem a l x)
    where
      Same : List A → Type 0
      Same r = Memᴰ x (a ∷ l) ↔ Memᴰ x r

      put : Same (insert_by before a l) → Memᴰ x (a ∷ b ∷ l) → Memᴰ x (b ∷ insert_by before a l)
      put ih (Memᴰ.head e) = Memᴰ.tail (ih.0 (Memᴰ.head e))
      put ih (Memᴰ.tail (Memᴰ.head e)) = Memᴰ.head e
      put ih (Memᴰ.tail (Memᴰ.tail m)) = Memᴰ.tail (ih.0 (Memᴰ.tail m))

      past : (x ≡ a) ⊎ Memᴰ x l → Memᴰ x (a ∷ b ∷ l)
      past (inl e) = Memᴰ.head e
      past (inr m) = Memᴰ.tail (Memᴰ.tail m)

      back : Same (insert_by before a l) → Memᴰ x (b ∷ insert_by before a l) → Memᴰ x (a ∷ b ∷ l)
      back ih (Memᴰ.head e) = Memᴰ.tail (Memᴰ.head e)
      back ih (Memᴰ.tail m) = past (Memᴰ.cases_cons (ih.1 m))

      go : (s : Bool) → before a b ≡ s → Same (insert_by before a l) → Memᴰ x (a ∷ b ∷ l) ↔ Memᴰ x (insert_by before a (b ∷ l))
      go true e ih = rw (e, insert_by) (λ m. m, λ m. m)
      go false e ih = rw (e, insert_by) (put ih, back ih)

  pub sort_mem : (l : List A) (x : A) → Memᴰ x l ↔ Memᴰ x (sort_by before l)
  unfolding sort_by
  sort_mem [] x = (λ m. m, λ m. m)
  sort_mem (a ∷ l) x =
      (λ m. (insert_mem a (sort_by before l) x).0 (cons_mem (sort_mem l x).0 m), λ m. cons_mem (sort_mem l x).1 ((insert_mem a (sort_by before l) x).1 m))

  module _ (w : Weak before) where
    insert_strict : (a : A) (l : List A) → ((x : A) → Memᴰ x l → before a x ≡ false → before x a ≡ true) → Strict l → Strict (insert_by before a l)
    unfolding insert_by
    insert_strict a [] u s = Pairwise.one (λ x m. absurd (Memᴰ.not-nil m)) Pairwise.none
    insert_strict a (b ∷ l) u s = go (before a b) refl (insert_strict a l (λ x m. u x (Memᴰ.tail m)) (pairwise_tail s))
      where
        ahead : before a b ≡ true → (x : A) → (x ≡ b) ⊎ Memᴰ x l → before a x ≡ true
        ahead e x (inl p) = ap (before a) p ∙ e
        ahead e x (inr m) = w.trans a b x e (pairwise_head s x m)

        behind : before a b ≡ false → (x : A) → (x ≡ a) ⊎ Memᴰ x l → before b x ≡ true
        behind e x (inl p) = ap (before b) p ∙ u b (Memᴰ.head refl) e
        behind e x (inr m) = pairwise_head s x m

        go : (t : Bool) → before a b ≡ t → Strict (insert_by before a l) → Strict (insert_by before a (b ∷ l))
        go true e ih = rw (e, insert_by) (Pairwise.one (λ x m. ahead e x (Memᴰ.cases_cons m)) s)
        go false e ih = rw (e, insert_by) (Pairwise.one (λ x m. behind e x (Memᴰ.cases_cons ((insert_mem a l x).1 m))) ih)

    -- what no two of stand at one place is put strictly in order
    pub sort_strict : {l : List A} → Untied l → Strict (sort_by before l)
    unfolding sort_by
    sort_strict Pairwise.none = Pairwise.none
    sort_strict (Pairwise.one {a = a} {l = l} u p) = insert_strict a (sort_by before l) (λ x m. u x ((sort_mem l x).1 m)) (sort_strict p)

    -- the order of two places is the order of what stands there
    pub place_order : (d : A) (l : List A) → Strict l → (i k : ℕ) → i < length l → k < length l → before (get_or l i d) (get_or l k d) ≡ ltb i k
    place_order d l s i k h b = go (ltb i k) refl (eqb i k) refl
      where
        go : (p : Bool) → ltb i k ≡ p → (q : Bool) → eqb i k ≡ q → before (get_or l i d) (get_or l k d) ≡ ltb i k
        go true e q f = pairwise_at d l s i k (ltb-true i k e) b ∙ sym e
        go false e true f = ap (λ (n : ℕ). before (get_or l i d) (get_or l n d)) (sym (eqb-true i k f)) ∙ w.irrefl (get_or l i d) ∙ sym e
        go false e false f = weak_asym w (get_or l k d) (get_or l i d) (pairwise_at d l s k i (omega (arith, ltb-false i k e, eqb-false i k f)) h) ∙ sym e

    pub place_unique : (d : A) (l : List A) → Strict l → (i k : ℕ) → i < length l → k < length l → get_or l i d ≡ get_or l k d → i ≡ k
    place_unique d l s i k h b e = go (ltb i k) refl (ltb k i) refl
      where
        never : (m n : ℕ) → m < n → n < length l → get_or l m d ≡ get_or l n d → ⊥
        never m n p q f = true≢false (sym (pairwise_at d l s m n p q) ∙ ap (λ (x : A). before x (get_or l n d)) f ∙ w.irrefl (get_or l n d))

        go : (p : Bool) → ltb i k ≡ p → (q : Bool) → ltb k i ≡ q → i ≡ k
        go true f q g = absurd (never i k (ltb-true i k f) b e)
        go false f true g = absurd (never k i (ltb-true k i g) h (sym e))
        go false f false g = omega (arith, ltb-false i k f, ltb-false k i g)

    -- what stands strictly in order is settled by who is in it
    pub strict_unique : (l r : List A) → Strict l → Strict r → ((x : A) → Memᴰ x l ↔ Memᴰ x r) → l ≡ r
    strict_unique [] [] s t f = refl
    strict_unique [] (b ∷ r) s t f = absurd (Memᴰ.not-nil ((f b).1 (Memᴰ.head refl)))
    strict_unique (a ∷ l) [] s t f = absurd (Memᴰ.not-nil ((f a).0 (Memᴰ.head refl)))
    strict_unique (a ∷ l) (b ∷ r) s t f =
        ap₂ (λ (x : A) (m : List A). x ∷ m) same
        (strict_unique l r (pairwise_tail s) (pairwise_tail t) (λ x. (
          λ m. behind s same x m (Memᴰ.cases_cons ((f x).0 (Memᴰ.tail m))),
          λ m. behind t (sym same) x m (Memᴰ.cases_cons ((f x).1 (Memᴰ.tail m))),
        )))
      where
        never : (x : A) → before x x ≡ true → ⊥
        never x e = true≢false (sym e ∙ w.irrefl x)

        heads : (a ≡ b) ⊎ Memᴰ a r → (b ≡ a) ⊎ Memᴰ b l → a ≡ b
        heads (inl e) q = e
        heads (inr m) (inl e) = sym e
        heads (inr m) (inr n) = absurd (never a (w.trans a b a (pairwise_head s b n) (pairwise_head t a m)))

        same : a ≡ b
        same = heads (Memᴰ.cases_cons ((f a).0 (Memᴰ.head refl))) (Memᴰ.cases_cons ((f b).1 (Memᴰ.head refl)))

        -- who stands behind the first of one list is not the first of the other
        behind : {c d : A} {k m : List A} → Strict (c ∷ k) → c ≡ d → (x : A) → Memᴰ x k → (x ≡ d) ⊎ Memᴰ x m → Memᴰ x m
        behind u e x i (inl p) = absurd (never x (ap (λ (y : A). before y x) (p ∙ sym e) ∙ pairwise_head u x i))
        behind u e x i (inr j) = j

  -- what passes a test that holds of everything before what passes it is a beginning of the list
  pub keep_beginning : (test : A → Bool) {l : List A} → Strict l → ((a b : A) → before a b ≡ true → test b ≡ true → test a ≡ true) → keep test l ≡ take (length (keep test l)) l
  unfolding keep
  keep_beginning test Pairwise.none down = refl
  keep_beginning test (Pairwise.one {a = a} {l = l} f p) down = go (test a) refl (keep_beginning test p down)
    where
      out : test a ≡ false → (x : A) → Memᴰ x l → (s : Bool) → test x ≡ s → test x ≡ false
      out e x m false g = g
      out e x m true g = absurd (true≢false (sym (down a x (f x m) g) ∙ e))

      go : (s : Bool) → test a ≡ s → keep test l ≡ take (length (keep test l)) l → keep test (a ∷ l) ≡ take (length (keep test (a ∷ l))) (a ∷ l)
      go true e ih = rw (e, keep) (ap (λ (r : List A). a ∷ r) ih)
      go false e ih = rw (e, keep, keep_none test l (λ x m. out e x m (test x) refl)) refl
