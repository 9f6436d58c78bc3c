-- What clearing leaves of an exposure: what can be avoided within reach is cleared, and nothing else. What is left is on every way where clearing is
-- sure; after one question, r is: no way within reach is free of it. Assumes nothing.
use mathlib.Core.Path.{◌≡◌, refl, sym, ◌∙◌}
use mathlib.Core.Bool.{Bool, true, false, false≢true}
use mathlib.Core.List.{List}
use Prim.Native.Nat.{ℕ, ◌≤◌, ◌<◌}
use native.Mathlib.Decide.{ℕ_discrete}
use native.Mathlib.Omega.{arith}
use lib.Dec.{eqb, leb}
use borrow.Author.Tests.{eqb-false, eq-eqb, ne_eqb, le-leb, leb-true}
use Rattle.laws.proofs.BoolLaws.{both}
use Rattle.laws.proofs.SetLaws.{digit}
use Rattle.problem.specs.declared.Arc.{Arc}
use Rattle.problem.specs.declared.Exposure.{Exposure}
use Rattle.problem.specs.Table.{hazards}
use Rattle.problem.specs.Exposures.{exposed, to_nothing, to_one, common}
use Rattle.problem.specs.Routes.{Mesh, metres_of, exposure_of, FreeWay}
use Rattle.problem.proofs.ExposureLaws.{exposed_le_one, exposed_common, disjoint_one, one_disjoint}
use Rattle.exposure.specs.Parts.{all_but}
use Rattle.exposure.proofs.PartLaws.{exposed_all_but}
use Rattle.side.specs.declared.Distance.{Distance}
use Rattle.side.specs.Side.{entry_at, SideTable}
use Rattle.floor.specs.declared.Held.{Held}
use Rattle.floor.specs.Clearing.{held_at, exposure_at, Clearing, Finished}
use Rattle.floor.specs.Floor.{is_near, narrowed, OnEveryWay, Narrowed, Asked}
use Rattle.floor.proofs.ClearLaws.{way_free}

-- ---- whether an entry says a way within reach

pub unreached_not_near : (e : Distance) (reach : ℕ) → e.reached ≡ false → false ≡ is_near e reach
unfolding is_near
unreached_not_near e reach f = rw f

pub reached_near : (e : Distance) (reach : ℕ) → e.reached ≡ true → leb e.metres reach ≡ is_near e reach
unfolding is_near
reached_near e reach f = rw f

near_says : (e : Distance) (reach : ℕ) → is_near e reach ≡ true → (e.reached ≡ true) × (e.metres ≤ reach)
unfolding is_near
near_says e reach f = let b = both e.reached (leb e.metres reach) f in (b.0, leb-true _ _ b.1)

near_by : (e : Distance) (reach : ℕ) → e.reached ≡ true → e.metres ≤ reach → is_near e reach ≡ true
near_by e reach f h = sym (reached_near e reach f) ∙ le-leb e.metres reach h

-- where none is said, none is there: no free way is shorter than the side table's entry
module _ {arcs : List Arc} {terminal : ℕ} {banned : Exposure} {s : List Distance} (table : SideTable arcs terminal banned s) where
  none_near : (v reach : ℕ) → is_near (entry_at s v) reach ≡ false → (ks : List ℕ) → FreeWay arcs banned terminal v ks → metres_of arcs ks ≤ reach → ⊥
  none_near v reach f ks w h = go (entry_at s v).reached refl
    where
      go : (b : Bool) → (entry_at s v).reached ≡ b → ⊥
      go true e = false≢true (sym f ∙ near_by (entry_at s v) reach e (omega (arith, table.least v ks w)))
      go false e = table.none v e ks w

-- lengths grow within reach only
near_plain : {arcs : List Arc} {terminal reach : ℕ} {plain : List Distance} {s : List Held} → Clearing arcs terminal reach plain s → (v : ℕ)
    → is_near (entry_at plain v) reach ≡ true → is_near (held_at s v).entry reach ≡ true
near_plain {reach = reach} {plain} {s} c v f =
    let e = near_says (entry_at plain v) reach f in
    near_by (held_at s v).entry reach (c.same_reached v ∙ e.0) (omega (arith, c.within v, e.1))

-- ---- what `narrow` returns

module _ (left : Exposure) (s : List Held) (source reach : ℕ) where
  pub narrowed_not : is_near (held_at s source).entry reach ≡ false → left ≡ narrowed left s source reach
  unfolding narrowed
  narrowed_not e = rw e

  pub narrowed_near : is_near (held_at s source).entry reach ≡ true → common left (exposure_at s source) ≡ narrowed left s source reach
  unfolding narrowed
  narrowed_near e = rw e

-- ---- and what it says

narrowed_same : (m : Mesh) (left : Exposure) → Narrowed m left left
narrowed_same m left = record { kept = λ b l o h. h; fewer = λ b. omega arith }

module _ (m : Mesh) (left : Exposure) (plain : List Distance) (s : List Held) where
  abbrev narrowing : Exposure
  narrowing = narrowed left s m.source m.reach

  abbrev near : Bool
  near = is_near (held_at s m.source).entry m.reach

  pub narrowed_says : Clearing m.arcs m.terminal m.reach plain s → Narrowed m left narrowing
  narrowed_says c = go near refl
    where
      has : near ≡ true → (b : ℕ) → b < hazards → OnEveryWay m b → exposed (exposure_at s m.source) b ≡ 0 → ⊥
      has f b l o z =
          let e = near_says (held_at s m.source).entry m.reach f in
          let w = c.avoids m.source e.0 b l z in
          omega (arith, o w.list (record { way = w.way; within_reach = omega (arith, w.short, e.1) }), w.free)

      go : (t : Bool) → near ≡ t → Narrowed m left narrowing
      go false f = rw (← (narrowed_not left s m.source m.reach f)) (narrowed_same m left)
      go true f =
          rw (← (narrowed_near left s m.source m.reach f))
          (record {
            kept = λ b l o i. rw exposed_common (let p = has f b l o in omega (arith, p, exposed_le_one (exposure_at s m.source) b));
            fewer = λ b. rw exposed_common (omega arith);
          })

  -- what clearing leaves is decided where it is sure; where the source's entry is out of reach, no way is within it
  pub narrowed_sure : SideTable m.arcs m.terminal to_nothing plain → Finished m plain s true → (b : ℕ) → exposed narrowing b ≡ 1 → OnEveryWay m b
  narrowed_sure table f b i ks w = go near refl (is_near (entry_at plain m.source) m.reach) refl
    where
      go : (t : Bool) → near ≡ t → (p : Bool) → is_near (entry_at plain m.source) m.reach ≡ p → exposed (exposure_of m.arcs ks) b ≡ 1
      go true e p d =
          let has = rw (← (narrowed_near left s m.source m.reach e), exposed_common) at i in
          f.is_on_every refl b (omega (arith, has, exposed_le_one left b, exposed_le_one (exposure_at s m.source) b)) ks w.way
      go false e true d = absurd (false≢true (sym e ∙ near_plain f.clearing m.source d))
      go false e false d = absurd (none_near table m.source m.reach d ks (way_free m.arcs m.terminal w.way) w.within_reach)

-- ---- what `ask` returns

module _ (m : Mesh) (left : Exposure) (r : ℕ) where
  -- r is not left: nothing is asked
  pub asked_out : (b : Bool) → b ≡ eqb (exposed left r) 1 → b ≡ false → Asked m left r left
  asked_out b e f = record { narrowing = narrowed_same m left; decided = λ h. absurd (eqb-false (exposed left r) 1 (sym e ∙ f) h) }

  -- the side table that bans r alone decides r
  module _ (banned : Exposure) (s : List Distance) (single : banned ≡ to_one r) (table : SideTable m.arcs m.terminal banned s) where
    -- no way within reach is free of r
    pub asked_none : is_near (entry_at s m.source) m.reach ≡ false → Asked m left r left
    asked_none f = record { narrowing = narrowed_same m left; decided = λ h ks w. every ks w }
      where
        every : OnEveryWay m r
        every ks w =
            let has : exposed (exposure_of m.arcs ks) r ≡ 0 → ⊥ = λ z. none_near (rw single at table) m.source m.reach f ks (record { way = w.way; free = disjoint_one (exposure_of m.arcs ks) r z }) w.within_reach in
            omega (arith, exposed_le_one (exposure_of m.arcs ks) r)

    -- one is, so that r is taken out
    pub asked_free : is_near (entry_at s m.source) m.reach ≡ true → Asked m left r (all_but left r)
    unfolding digit
    asked_free f = record {
      narrowing = record {
        kept = λ b l o i. elim (ℕ_discrete b r) [ yes q ↦ absurd (avoided (rw q at o)) | no n ↦ rw (exposed_all_but, ne_eqb b r n) (omega (arith, i)) ];
        fewer = λ b. rw exposed_all_but (omega arith);
      };
      decided = λ h. absurd (omega (arith, rw (exposed_all_but, eq-eqb r r refl) at h, exposed_le_one left r));
    }
      where
        avoided : OnEveryWay m r → ⊥
        avoided o =
            let e = near_says (entry_at s m.source) m.reach f in
            let way = (rw single at table).entries.reaches m.source e.0 in
            omega (arith, o way.list (record { way = way.free_way.way; within_reach = omega (arith, way.same_metres, e.1) }), one_disjoint _ r way.free_way.free)
