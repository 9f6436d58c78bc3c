-- What lies on every way within reach: what a table of ways leaves of an exposure, and what asking about one risk after the other does. Assumes nothing.
use Rattle.std.specs.Prelude.{◌≡◌, Bool, ◌&&◌, List, ℕ, ◌≤◌, ◌<◌, leb, if◌then◌else◌}
use Rattle.problem.specs.declared.Exposure.{Exposure}
use Rattle.problem.specs.Table.{hazards}
use Rattle.problem.specs.Exposures.{exposed, common}
use Rattle.problem.specs.Routes.{Mesh, exposure_of, IsWay}
use Rattle.side.specs.declared.Distance.{Distance}
use Rattle.floor.specs.declared.Held.{Held}
use Rattle.floor.specs.Clearing.{held_at, exposure_at}

-- an entry says a way within reach
unfoldable pub is_near : Distance → (reach : ℕ) → Bool
is_near e reach = e.reached && leb e.metres reach

-- only what the source is exposed to as well, where its entry's length is within reach
unfoldable pub narrowed : (left : Exposure) → List Held → (source reach : ℕ) → Exposure
narrowed left s source reach = if is_near (held_at s source).entry reach then common left (exposure_at s source) else left

module _ (m : Mesh) where
  -- risk b lies on every way within reach; loops are allowed
  abbrev pub OnEveryWay : ℕ → Type 0
  OnEveryWay b = (ks : List ℕ) → IsWay m ks → exposed (exposure_of m.arcs ks) b ≡ 1

  -- no risk of every way is lost, and none comes in
  pub record Narrowed (left after : Exposure) : Type 0 where
    pub kept : (b : ℕ) → b < hazards → OnEveryWay b → exposed left b ≡ 1 → exposed after b ≡ 1
    pub fewer : (b : ℕ) → exposed after b ≤ exposed left b

  -- besides, r is still there only where it lies on every way
  pub record Asked (left : Exposure) (r : ℕ) (after : Exposure) : Type 0 where
    pub narrowing : Narrowed left after
    pub decided : exposed after r ≡ 1 → OnEveryWay r
