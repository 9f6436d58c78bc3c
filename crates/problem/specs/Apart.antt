-- Request T-05, Pairs that meet in no building: two lists of arcs that have only the two end nodes in common, and no arc. Said of lists, so that it speaks of ways too.
-- `Apart` says it in words, `lists_apart` as a test: `apart_exactly` of proofs/Promises.antt says that they are the same. Assumes nothing.
use Rattle.std.specs.Prelude.{ℕ, Bool, true, false, ◌&&◌, ◌||◌, not, ◌⊎◌, ◌≡◌, eqb}
use mathlib.Core.List.{List, [], ◌∷◌, Memᴰ}
use Rattle.laws.specs.Choosing.{keep}
use Rattle.problem.specs.Routes.{Mesh, nodes_from}
use Rattle.problem.specs.Pairs.{Pair}

-- no arc stands in both lists, and a node that both meet is the source or the terminal
pub record Apart (m : Mesh) (ks ls : List ℕ) : Type 0 where
  pub no_common_arc : (k : ℕ) → Memᴰ k ks → Memᴰ k ls → ⊥
  pub ends_only : (v : ℕ) → Memᴰ v (nodes_from m.arcs m.source ks) → Memᴰ v (nodes_from m.arcs m.source ls) → (v ≡ m.source) ⊎ (v ≡ m.terminal)

-- x stands in a list
unfoldable pub is_in : List ℕ → ℕ → Bool
is_in [] x = false
is_in (y ∷ l) x = eqb x y || is_in l x

-- nothing stands in both lists
unfoldable pub none_in_both : List ℕ → List ℕ → Bool
none_in_both [] r = true
none_in_both (x ∷ l) r = not (is_in r x) && none_in_both l r

module _ (m : Mesh) where
  -- the nodes that a list meets from the source on, but for the two ends
  unfoldable pub inner_nodes : List ℕ → List ℕ
  inner_nodes ks = keep (λ v. not (eqb v m.source || eqb v m.terminal)) (nodes_from m.arcs m.source ks)

  unfoldable pub lists_apart : List ℕ → List ℕ → Bool
  lists_apart ks ls = none_in_both ks ls && none_in_both (inner_nodes ks) (inner_nodes ls)

  -- the pairs that a call judges: every one (01), or where `only` is true those that are apart
  unfoldable pub judges : (only : Bool) → Pair → Bool
  judges only p = not only || lists_apart p.main.arcs p.standby.arcs
