-- Pairs: who is among them, the judgement, the floor. Assumes nothing.
use mathlib.Core.Path.{◌≡◌, refl, sym, ap, ap₂, ◌∙◌}
use mathlib.Core.Logic.{◌⊎◌, inl, inr, ◌↔◌}
use mathlib.Core.Bool.{Bool, true, false, ◌&&◌, ◌||◌, not, and-false}
use mathlib.Core.List.Memᴰ
use mathlib.Core.List.{List, [], ◌∷◌, map, Memᴰ, head-eq_of_cons-eq, tail-eq_of_cons-eq}
use Prim.Native.Nat.{ℕ, ◌+◌, ◌-◌, ◌≤◌, ◌<◌}
use native.Mathlib.Nat.{add_comm}
use native.Mathlib.Omega.{arith}
use lib.Dec.{ltb}
use lib.ListN.{length}
use borrow.Author.Tests.{ltb-true, ltb-false, lt-ltb, le-ltb}
use Rattle.laws.specs.Choosing.{lex_by}
use Rattle.laws.specs.Sets.{in_both}
use Rattle.laws.proofs.OrderLaws.{Total, Weak, weak_asym, total_weak, keyed_weak, ltb_total, lex_total, lex_false, lex_lt, lex_eq}
use Rattle.laws.proofs.SortLaws.{Strict, place_order}
use Rattle.problem.specs.Table.{risk_width, hazards}
use Rattle.problem.specs.Routes.{Route, rank_key, precedes}
use Rattle.problem.specs.Exposures.{exposed, to_all, common, sharing}
use Rattle.problem.specs.Pairs.{Pair, pair, shared_count, shared_spans, total, judge_key, judged, NoWorse, pairs_of, no_route, Step, of_rank, ranked_key, on_every, floor}
use Rattle.problem.proofs.ExposureLaws.{exposed_all, exposed_common, Inside, size_mono, sharing_mono, sharing_comm, sharing_size}
use Rattle.problem.proofs.RankingLaws.{key_total, precedes_weak}

-- ---- who is among the pairs

pub pairs_in : {m s : Route} {mains standbys : List Route} → Memᴰ m mains → Memᴰ s standbys → Memᴰ (pair m s) (pairs_of mains standbys)
unfolding pairs_of
pairs_in {m} {s} {standbys = standbys} (Memᴰ.head e) q = Memᴰ.append_left _ (Memᴰ.cast (ap (λ (r : Route). pair r s) e) (Memᴰ.map (λ (r : Route). pair _ r) q))
pairs_in {standbys = standbys} (Memᴰ.tail {x = x} p) q = Memᴰ.append_right (map (λ (r : Route). pair x r) standbys) (pairs_in p q)

pub pairs_out : (mains standbys : List Route) {p : Pair} → Memᴰ p (pairs_of mains standbys) → Memᴰ p.main mains × Memᴰ p.standby standbys
unfolding pairs_of
pairs_out [] standbys x = absurd (Memᴰ.not-nil x)
pairs_out (m ∷ mains) standbys {p} x = go (Memᴰ.append_cases (map (λ (r : Route). pair m r) standbys) x) (λ y. pairs_out mains standbys y)
  where
    go : Memᴰ p (map (λ (r : Route). pair m r) standbys) ⊎ Memᴰ p (pairs_of mains standbys)
        → (Memᴰ p (pairs_of mains standbys) → Memᴰ p.main mains × Memᴰ p.standby standbys) → Memᴰ p.main (m ∷ mains) × Memᴰ p.standby standbys
    go (inl y) f =
        let o = Memᴰ.of_map (λ (r : Route). pair m r) standbys y in
        (Memᴰ.head (ap (λ (q : Pair). q.main) (sym o.2)), Memᴰ.cast (ap (λ (q : Pair). q.standby) (sym o.2)) o.1)
    go (inr y) f = let o = f y in (Memᴰ.tail o.0, o.1)

-- ---- the judgement

pub judge_total : Total (lex_by (lex_by ltb))
judge_total = lex_total (lex_by ltb) key_total

pub judged_weak : Weak judged
unfolding judged
judged_weak = keyed_weak judge_key (total_weak judge_total)

-- pairs that neither is judged before the other have the same two routes, by their arcs
pub judged_tri : (p q : Pair) → judged p q ≡ false → judged q p ≡ false → (p.main.arcs ≡ q.main.arcs) × (p.standby.arcs ≡ q.standby.arcs)
unfolding judged judge_key rank_key
judged_tri p q u v =
    let e = tail-eq_of_cons-eq (judge_total.tri (judge_key p) (judge_key q) u v) in
    (tail-eq_of_cons-eq (head-eq_of_cons-eq e), tail-eq_of_cons-eq (head-eq_of_cons-eq (tail-eq_of_cons-eq e)))

-- by rank: with ranks for routes the judgement is that of shared count, total, rank of the main, rank of the standby
flat : (a a' b b' r : Bool)
    → ((a || (not a' && (b || (not b' && false)))) || (not (a' || (not a && (b' || (not b && false)))) && r)) ≡ (a || (not a' && (b || (not b' && r))))
flat true a' b b' r = refl
flat false true b b' r = refl
flat false false true b' r = refl
flat false false false true r = refl
flat false false false false r = refl

lex_flat : (n t n' t' : ℕ) (x y x' y' : List ℕ) (i k i' k' : ℕ) → lex_by ltb x x' ≡ ltb i i' → lex_by ltb x' x ≡ ltb i' i → lex_by ltb y y' ≡ ltb k k' → lex_by ltb y' y ≡ ltb k' k
    → lex_by (lex_by ltb) ((n ∷ t ∷ []) ∷ x ∷ y ∷ []) ((n' ∷ t' ∷ []) ∷ x' ∷ y' ∷ []) ≡ lex_by ltb (n ∷ t ∷ i ∷ k ∷ []) (n' ∷ t' ∷ i' ∷ k' ∷ [])
unfolding lex_by
lex_flat n t n' t' x y x' y' i k i' k' a b c d =
    rw (a, b, c, d) (flat (ltb n n') (ltb n' n) (ltb t t') (ltb t' t) (ltb i i' || (not (ltb i' i) && (ltb k k' || (not (ltb k' k) && false)))))

ltb_pred : (i k : ℕ) → 0 < i → 0 < k → ltb (i - 1) (k - 1) ≡ ltb i k
ltb_pred i k h b = go (ltb i k) refl
  where
    go : (s : Bool) → ltb i k ≡ s → ltb (i - 1) (k - 1) ≡ ltb i k
    go true e = lt-ltb (i - 1) (k - 1) (omega (arith, ltb-true i k e)) ∙ sym e
    go false e = le-ltb (i - 1) (k - 1) (omega (arith, ltb-false i k e)) ∙ sym e

-- the judgement by the routes' own order is 01's judgement by rank
pub judged_by_rank : (routes : List Route) → Strict precedes routes → {m s m' s' : ℕ} → Step routes m → Step routes s → Step routes m' → Step routes s'
    → judged (pair (of_rank routes m) (of_rank routes s)) (pair (of_rank routes m') (of_rank routes s')) ≡ lex_by ltb (ranked_key routes m s) (ranked_key routes m' s')
unfolding judged judge_key precedes
judged_by_rank routes strict {m} {s} {m'} {s'} a b c d = lex_flat _ _ _ _ _ _ _ _ m s m' s' (place a c) (place c a) (place b d) (place d b)
  where
    place : {i k : ℕ} → Step routes i → Step routes k → lex_by ltb (rank_key (of_rank routes i)) (rank_key (of_rank routes k)) ≡ ltb i k
    place {i} {k} x y =
        place_order precedes precedes_weak no_route routes strict (i - 1) (k - 1) (omega (arith, x.from_one, x.to_N)) (omega (arith, y.from_one, y.to_N))
        ∙ ltb_pred i k x.from_one y.from_one

-- of two lists of one number
single : (d b : ℕ) → b ≤ d → lex_by ltb (d ∷ []) (b ∷ []) ≡ false
unfolding lex_by
single d b l = rw (le-ltb d b l) (and-false (not (ltb b d)))

-- no worse exactly where the other is not before it by shared count and then total
pub no_worse_exactly : (a b c d : ℕ) → NoWorse a b c d ↔ (lex_by ltb (c ∷ d ∷ []) (a ∷ b ∷ []) ≡ false)
no_worse_exactly a b c d = (to, λ h. by_shared (lex_false ltb ltb_total c (d ∷ []) a (b ∷ []) h))
  where
    to : NoWorse a b c d → lex_by ltb (c ∷ d ∷ []) (a ∷ b ∷ []) ≡ false
    to (NoWorse.fewer l) = weak_asym (total_weak key_total) (a ∷ b ∷ []) (c ∷ d ∷ []) (lex_lt ltb ltb_total a (b ∷ []) c (d ∷ []) (lt-ltb a c l))
    to (NoWorse.as_many e l) = lex_eq ltb ltb_total c (d ∷ []) a (b ∷ []) (sym e) ∙ single d b l

    by_total : c ≡ a → (ltb b d ≡ true) ⊎ ((d ≡ b) × (lex_by ltb [] [] ≡ false)) → NoWorse a b c d
    by_total e (inl l) = NoWorse.as_many (sym e) (omega (arith, ltb-true b d l))
    by_total e (inr l) = NoWorse.as_many (sym e) (omega arith)

    by_shared : (ltb a c ≡ true) ⊎ ((c ≡ a) × (lex_by ltb (d ∷ []) (b ∷ []) ≡ false)) → NoWorse a b c d
    by_shared (inl l) = NoWorse.fewer (ltb-true a c l)
    by_shared (inr l) = by_total l.0 (lex_false ltb ltb_total d [] b [] l.1)

-- what the first place of the judgement says
pub judged_no_worse : (p q : Pair) → judged q p ≡ false → NoWorse (shared_count p) (total p) (shared_count q) (total q)
unfolding judged judge_key
judged_no_worse p q h = (no_worse_exactly (shared_count p) (total p) (shared_count q) (total q)).1 (go (lex_false (lex_by ltb) key_total _ _ _ _ h))
  where
    go : (lex_by ltb (shared_count p ∷ total p ∷ []) (shared_count q ∷ total q ∷ []) ≡ true)
        ⊎ (((shared_count q ∷ total q ∷ []) ≡ (shared_count p ∷ total p ∷ [])) × (lex_by (lex_by ltb) (rank_key q.main ∷ rank_key q.standby ∷ []) (rank_key p.main ∷ rank_key p.standby ∷ []) ≡ false))
        → lex_by ltb (shared_count q ∷ total q ∷ []) (shared_count p ∷ total p ∷ []) ≡ false
    go (inl e) = weak_asym (total_weak key_total) _ _ e
    go (inr e) = ap (λ (l : List ℕ). lex_by ltb l (shared_count p ∷ total p ∷ [])) e.0 ∙ key_total.irrefl (shared_count p ∷ total p ∷ [])

-- ---- routes exposed to no more share no more

pub shared_mono : (p q : Pair) → Inside p.main.exposure q.main.exposure → Inside p.standby.exposure q.standby.exposure → shared_count p ≤ shared_count q
unfolding shared_count
shared_mono p q f g = sharing_mono p.main.exposure p.standby.exposure q.main.exposure q.standby.exposure f g

-- the shared count is the size of the common risk set, how many of the 64 risks are on both routes, and how many spans both cross
pub shared_size : (p : Pair) → shared_count p ≡ length (in_both risk_width p.main.exposure.risks p.standby.exposure.risks) + shared_spans p
unfolding shared_count shared_spans
shared_size p = sharing_size p.main.exposure p.standby.exposure

-- ---- the same two routes the other way round

pub swap_shared : (m s : Route) → shared_count (pair m s) ≡ shared_count (pair s m)
unfolding shared_count
swap_shared m s = sharing_comm m.exposure s.exposure

pub swap_total : (m s : Route) → total (pair m s) ≡ total (pair s m)
unfolding total
swap_total m s = add_comm m.metres s.metres

-- with the earlier of the two as main the pair is judged first
pub swap_judged : (m s : Route) → precedes s m ≡ true → judged (pair s m) (pair m s) ≡ true
unfolding judged judge_key precedes
swap_judged m s e =
    lex_eq (lex_by ltb) key_total (shared_count (pair s m) ∷ total (pair s m) ∷ []) _ (shared_count (pair m s) ∷ total (pair m s) ∷ []) _
    (ap₂ (λ (a b : ℕ). a ∷ b ∷ []) (swap_shared s m) (swap_total s m))
    ∙ lex_lt (lex_by ltb) key_total (rank_key s) (rank_key m ∷ []) (rank_key m) (rank_key s ∷ []) e

-- ---- the floor

pub every_inside : (routes : List Route) {r : Route} → Memᴰ r routes → Inside (on_every routes) r.exposure
unfolding on_every
every_inside [] m b = absurd (Memᴰ.not-nil m)
every_inside (s ∷ routes) (Memᴰ.head e) b = rw (exposed_common, e) (omega arith)
every_inside (s ∷ routes) (Memᴰ.tail m) b = rw exposed_common (omega (arith, every_inside routes m b))

-- what each route is exposed to lies on every route
pub every_all : (routes : List Route) (b : ℕ) → b < hazards → ((r : Route) → Memᴰ r routes → exposed r.exposure b ≡ 1) → exposed (on_every routes) b ≡ 1
unfolding on_every
every_all [] b h f = exposed_all b h
every_all (r ∷ routes) b h f = rw exposed_common (omega (arith, f r (Memᴰ.head refl), every_all routes b h (λ s m. f s (Memᴰ.tail m))))

pub every_inside_all : (routes : List Route) → Inside (on_every routes) to_all
unfolding on_every
every_inside_all [] b = omega arith
every_inside_all (r ∷ routes) b = rw exposed_common (omega (arith, every_inside_all routes b))

-- the floor is at most the shared count of any pair
pub floor_le : (routes : List Route) {m s : Route} → Memᴰ m routes → Memᴰ s routes → floor routes ≤ shared_count (pair m s)
unfolding floor shared_count sharing
floor_le routes {m} {s} p q = size_mono (on_every routes) (common m.exposure s.exposure) (λ b. rw exposed_common (omega (arith, every_inside routes p b, every_inside routes q b)))
