-- A main is tried by the least key of its standbys: below the bound that the best pair sets, the least key makes the best pair; else the best pair stays. Assumes nothing.
use mathlib.Core.Path.{◌≡◌, refl, sym, ap, ◌∙◌, subst}
use mathlib.Core.Logic.{◌↔◌}
use mathlib.Core.Bool.{Bool, true, false}
use mathlib.Core.List.{List, [], ◌∷◌, foldl}
use Prim.Native.Nat.{ℕ, ◌+◌, ◌≤◌, ◌<◌, min}
use native.Mathlib.Omega.{arith}
use lib.Dec.{eqb, leb, ltb}
use borrow.Author.Tests.{leb-true, ltb-true, ltb-false}
use Rattle.std.specs.Prelude.{if◌then◌else◌}
use Rattle.problem.specs.Table.{hazards, most_reach}
use Rattle.problem.specs.Exposures.{sharing}
use Rattle.problem.specs.Routes.{Mesh}
use Rattle.problem.proofs.ExposureLaws.{sharing_le}
use Rattle.keys.specs.Keys.{standby_key, OfStandby, pair_key, bound_for, pair_of}
use Rattle.keys.proofs.BoundLaws.{pair_of_key, bound_better, pairs_better}
use Rattle.net.specs.declared.Behind.{Behind}
use Rattle.net.specs.Search.{along, last_of, no_arc, visit}
use Rattle.bars.specs.declared.Barred.{Barred}
use Rattle.bars.specs.Bars.{start_barred, unbarred}
use Rattle.standby.specs.Standby.{offered}
use Rattle.standby.specs.Ahead.{quest, least_of}
use Rattle.mains.specs.Mains.{paired, best_with}

module _ (m : Mesh) (main : Behind) (best : ℕ) (near : m.reach ≤ most_reach) (xs : main.metres ≤ most_reach) where
  abbrev x : ℕ
  x = main.metres

  -- the least key of the standbys so far, and the best pair's key so far
  pub data Beside (key pair : ℕ) : Type 0 where
    kept : key ≡ bound_for best x → pair ≡ best → Beside key pair
    better : (n y : ℕ) → n ≤ hazards → y ≤ m.reach → key ≡ standby_key n y → pair ≡ pair_key n (x + y) x → key < bound_for best x → Beside key pair

  -- one more standby
  step : (n y key pair : ℕ) → n ≤ hazards → y ≤ m.reach → Beside key pair → Beside (min key (standby_key n y)) (min pair (pair_key n (x + y) x))
  step n y key pair ns ys (kept e f) = go (ltb (standby_key n y) (bound_for best x)) refl
    where
      both : (standby_key n y < bound_for best x) ↔ (pair_key n (x + y) x < best)
      both = bound_better x n y xs (omega arith) best

      go : (b : Bool) → ltb (standby_key n y) (bound_for best x) ≡ b → Beside (min key (standby_key n y)) (min pair (pair_key n (x + y) x))
      go true g = let l = ltb-true _ _ g in let h = both.0 l in better n y ns ys (omega arith) (omega arith) (omega arith)
      go false g =
          let l = ltb-false (standby_key n y) (bound_for best x) g in
          let no : pair_key n (x + y) x < best → ⊥ = λ h. omega (arith, both.1 h) in
          kept (omega arith) (omega (arith, no))
  step n y key pair ns ys (better n' y' ns' ys' e f b) = go (ltb (standby_key n y) (standby_key n' y')) refl
    where
      both : (standby_key n y < standby_key n' y') ↔ (pair_key n (x + y) x < pair_key n' (x + y') x)
      both = pairs_better x n' y' xs (omega arith) n y (omega arith)

      go : (c : Bool) → ltb (standby_key n y) (standby_key n' y') ≡ c → Beside (min key (standby_key n y)) (min pair (pair_key n (x + y) x))
      go true g = let l = ltb-true _ _ g in let h = both.0 l in better n y ns ys (omega arith) (omega arith) (omega arith)
      go false g =
          let l = ltb-false (standby_key n y) (standby_key n' y') g in
          let no : pair_key n (x + y) x < pair_key n' (x + y') x → ⊥ = λ h. omega (arith, both.1 h) in
          let k : min key (standby_key n y) ≡ key = omega arith in
          better n' y' ns' ys' (k ∙ e) (omega (arith, no)) (omega arith)

  -- a standby at whose end this lies behind, and which ends with arc k
  offered_beside : (last key pair : ℕ) (s : Behind) (k : ℕ) → Beside key pair → Beside (offered m main.exposure last key s k) (paired m main last pair s k)
  unfolding offered paired
  offered_beside last key pair s k b = own (eqb k last) (go (leb s.metres m.reach) refl)
    where
      shared : ℕ
      shared = sharing main.exposure s.exposure

      go : (c : Bool) → leb s.metres m.reach ≡ c
          → Beside (if c then min key (standby_key shared s.metres) else key) (if c then min pair (pair_key shared (x + s.metres) x) else pair)
      go true e = step (sharing main.exposure s.exposure) s.metres key pair (sharing_le main.exposure s.exposure) (leb-true _ _ e) b
      go false e = b

      own : (c : Bool) {u v : ℕ} → Beside u v → Beside (if c then key else u) (if c then pair else v)
      own true o = b
      own false o = o

  beside_fold : (off : Barred) (key pair : ℕ) (l : List (List ℕ)) → Beside key pair
      → Beside (foldl (visit m.arcs (offered m main.exposure off.last) (start_barred m off)) key l) (foldl (visit m.arcs (paired m main off.last) (start_barred m off)) pair l)
  beside_fold off key pair [] b = b
  beside_fold off key pair (ks ∷ l) b = beside_fold off (offered m main.exposure off.last key (along m.arcs (start_barred m off) ks) (last_of no_arc ks)) (paired m main off.last pair (along m.arcs (start_barred m off) ks) (last_of no_arc ks)) l (offered_beside off.last key pair (along m.arcs (start_barred m off) ks) (last_of no_arc ks) b)

  -- all of them
  pub beside_all : (off : Barred) {bound key : ℕ} → bound ≡ bound_for best x → key ≡ least_of (quest m main.exposure off) bound → Beside key (best_with m main off best)
  unfolding best_with least_of
  beside_all off {bound} {key} e h =
      subst (λ (k : ℕ). Beside k (foldl (visit m.arcs (paired m main off.last) (start_barred m off)) best (unbarred m off))) (sym (h ∙ ap (least_of (quest m main.exposure off)) e))
      (beside_fold off (bound_for best x) best (unbarred m off) (kept refl refl))

  -- a key below the bound can be made a pair's, and is the best's
  pub record Made (key pair : ℕ) : Type 0 where
    pub of_standby : OfStandby key
    pub is : pair_of x key ≡ pair

  pub beside_made : {key pair : ℕ} → Beside key pair → key < bound_for best x → Made key pair
  beside_made (kept e f) l = absurd (omega arith)
  beside_made (better n y ns ys e f b) l =
      record {
        of_standby = record { shared = n; metres = y; shared_range = ns; metres_range = omega arith; is = e };
        is = ap (pair_of x) e ∙ pair_of_key x n y xs (omega arith) ∙ sym f;
      }

  pub beside_kept : {key pair : ℕ} → Beside key pair → bound_for best x ≤ key → pair ≡ best
  beside_kept (kept e f) l = f
  beside_kept (better n y ns ys e f b) l = absurd (omega arith)
