-- What a search for a standby gives, from a node on: its least key, and labels that are true. Assumes nothing.
use Rattle.std.specs.Prelude.{ℕ, suc, ◌≤◌, ◌≡◌}
use Rattle.laws.specs.Sets.{bit}
use Rattle.problem.specs.declared.Exposure.{Exposure}
use Rattle.problem.specs.Table.{last_node}
use Rattle.labels.specs.declared.Labels.{Labels}
use Rattle.labels.specs.Labels.{label_metres, label_exposure}
use Rattle.net.specs.declared.Net.{Net}
use Rattle.net.specs.declared.Behind.{Behind}
use Rattle.net.specs.Net.{mesh_in}
use Rattle.net.specs.Search.{searched}
use Rattle.bars.specs.Bars.{barred}
use Rattle.standby.specs.Standby.{offered}
use Rattle.standby.specs.Ahead.{Quest, quest, Ahead}

-- every label is true as far as n arcs: nothing on from its node makes a key below x
pub record TrueLabels (q : Quest) (n x : ℕ) (labels : Labels) : Type 0 where
  pub told : (v : ℕ) → v ≤ last_node → bit labels.labelled v ≡ 1 → Ahead q n x v (label_metres labels v) (label_exposure labels v)

-- nothing on from the nodes met, but for `at`, makes a key below x
pub record Back (q : Quest) (n x at : ℕ) (b : Behind) : Type 0 where
  pub back : (u : ℕ) → bit b.met u ≡ 1 → bit q.off.nodes u ≡ 0 → (u ≡ at → ⊥) → Ahead q n x u b.metres b.exposure

-- what a search from `at` gives
pub record Sought (net : Net) (main : Exposure) (last at : ℕ) (b : Behind) (bound : ℕ) (before after : Labels) (least : ℕ) : Type 0 where
  pub no_more : least ≤ bound
  -- it is the bound, or the key of a standby
  pub real : searched (mesh_in net) (offered (mesh_in net) main last) b at bound ≤ least
  -- nothing ahead makes a key below it, and the labels that it leaves are true, as far as those are that it found, and the nodes behind
  pub all : (nodes n x : ℕ) → x ≤ least → Back (quest (mesh_in net) main (barred nodes last)) n x at b → TrueLabels (quest (mesh_in net) main (barred nodes last)) n x before
      → Ahead (quest (mesh_in net) main (barred nodes last)) (suc n) x at b.metres b.exposure × TrueLabels (quest (mesh_in net) main (barred nodes last)) n x after
