-- What an offer does to the least key of the standbys. Assumes nothing.
use mathlib.Core.Path.{◌≡◌, refl, ap}
use mathlib.Core.Bool.{Bool, true, false}
use mathlib.Core.List.{List}
use Prim.Native.Nat.{ℕ, ◌+◌, ◌≤◌, ◌<◌}
use native.Mathlib.Omega.{arith}
use lib.Dec.{eqb, leb}
use borrow.Author.Tests.{eq-eqb, ne_eqb, le-leb, lt-leb}
use Rattle.problem.specs.declared.Exposure.{Exposure}
use Rattle.problem.specs.Exposures.{joined, sharing}
use Rattle.problem.specs.Routes.{Mesh, metres_of, exposure_of}
use Rattle.keys.specs.Keys.{standby_key}
use Rattle.keys.proofs.BoundLaws.{standby_key_mono}
use Rattle.net.specs.declared.Behind.{Behind}
use Rattle.net.specs.Search.{along}
use Rattle.net.proofs.SearchLaws.{along_metres, along_exposure}
use Rattle.standby.specs.Standby.{offered}

module _ (m : Mesh) (main : Exposure) (last : ℕ) (b : Behind) (least : ℕ) where
  -- what goes past the reach is no standby
  pub offer_far : (ks : List ℕ) → m.reach < b.metres + metres_of m.arcs ks → (k : ℕ) → offered m main last least (along m.arcs b ks) k ≡ least
  unfolding offered
  offer_far ks h k = go (eqb k last) refl
    where
      go : (s : Bool) → eqb k last ≡ s → offered m main last least (along m.arcs b ks) k ≡ least
      go true d = rw (d, offered)
      go false d = rw (d, lt-leb (along m.arcs b ks).metres m.reach (omega (arith, along_metres m.arcs b ks)), offered)

  -- what shares as many as the least key allows, and is as long, changes nothing
  pub offer_no_better : (lower shared : ℕ) (ks : List ℕ) → lower ≤ metres_of m.arcs ks → shared ≤ sharing main (joined b.exposure (exposure_of m.arcs ks))
      → least ≤ standby_key shared (b.metres + lower) → (k : ℕ) → offered m main last least (along m.arcs b ks) k ≡ least
  unfolding offered
  offer_no_better lower shared ks l s h k = go (eqb k last) refl (leb (along m.arcs b ks).metres m.reach) refl
    where
      go : (z : Bool) → eqb k last ≡ z → (c : Bool) → leb (along m.arcs b ks).metres m.reach ≡ c → offered m main last least (along m.arcs b ks) k ≡ least
      go true d c e = rw (d, offered)
      go false d true e =
          let longer : b.metres + lower ≤ (along m.arcs b ks).metres = omega (arith, along_metres m.arcs b ks) in
          let more : shared ≤ sharing main (along m.arcs b ks).exposure = omega (arith, s, ap (sharing main) (along_exposure m.arcs b ks)) in
          rw (d, e, offered) (omega (arith, h, standby_key_mono more longer))
      go false d false e = rw (d, e, offered)

  -- a better one that ends here is the least
  pub offer_ends : (k : ℕ) → (k ≡ last → ⊥) → b.metres ≤ m.reach → standby_key (sharing main b.exposure) b.metres < least
      → offered m main last least b k ≡ standby_key (sharing main b.exposure) b.metres
  unfolding offered
  offer_ends k ne h l = rw (ne_eqb k last ne, le-leb b.metres m.reach h) (omega arith)

  -- what ends with the barred arc is no standby
  pub offer_barred : (k : ℕ) → k ≡ last → offered m main last least b k ≡ least
  unfolding offered
  offer_barred k e = rw (eq-eqb k last e)
