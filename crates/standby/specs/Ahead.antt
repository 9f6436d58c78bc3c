-- Why a search for a standby need not go on: what is ahead of a node, said of ways, loops allowed, so that it does not matter by which nodes it was come to.
-- Assumes nothing.
use Rattle.std.specs.Prelude.{ℕ, ◌+◌, ◌≤◌, List, length}
use Rattle.problem.specs.declared.Exposure.{Exposure}
use Rattle.problem.specs.Exposures.{to_nothing, joined, sharing}
use Rattle.problem.specs.Routes.{Mesh, metres_of, exposure_of, Way}
use Rattle.keys.specs.Keys.{standby_key}
use Rattle.net.specs.Search.{searched}
use Rattle.bars.specs.declared.Barred.{Barred}
use Rattle.bars.specs.Bars.{start_barred, Avoids}
use Rattle.standby.specs.Standby.{offered}

-- what is asked: the standbys of a main exposed to `main`, that keep off what is barred
pub record Quest : Type 0 where
  pub mesh : Mesh
  pub main : Exposure
  pub off : Barred

abbrev pub quest : Mesh → Exposure → Barred → Quest
quest m main off = record { mesh = m; main = main; off = off }

-- a way on from v that a standby may take, with so many metres behind it
pub record Onward (q : Quest) (v metres : ℕ) (ks : List ℕ) : Type 0 where
  pub way : Way q.mesh.arcs v q.mesh.terminal ks
  pub avoids : Avoids q.mesh q.off ks
  pub within_reach : metres + metres_of q.mesh.arcs ks ≤ q.mesh.reach

-- the key of a standby that has come so far, exposed to so much, and goes on by ks
abbrev pub key_by : Quest → (metres : ℕ) → Exposure → List ℕ → ℕ
key_by q metres e ks = standby_key (sharing q.main (joined e (exposure_of q.mesh.arcs ks))) (metres + metres_of q.mesh.arcs ks)

-- no way on from v over at most n arcs makes a key below x
pub record Ahead (q : Quest) (n x v metres : ℕ) (e : Exposure) : Type 0 where
  pub above : (ks : List ℕ) → Onward q v metres ks → length ks ≤ n → x ≤ key_by q metres e ks

-- no standby has a key below x
pub record NoneBelow (q : Quest) (x : ℕ) : Type 0 where
  pub ahead : (n : ℕ) → Ahead q n x q.mesh.source 0 to_nothing

-- the least of a bound and the keys of all standbys that are asked for
unfoldable pub least_of : Quest → ℕ → ℕ
least_of q bound = searched q.mesh (offered q.mesh q.main q.off.last) (start_barred q.mesh q.off) q.mesh.source bound
