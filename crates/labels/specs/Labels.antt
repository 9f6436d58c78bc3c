-- Labels of nodes, which a search leaves: how far and exposed to what it came to a node from which it has gone on. Assumes nothing.
use Rattle.std.specs.Prelude.{ℕ, ◌≤◌, ◌<◌, true, ◌≡◌, get_or}
use Rattle.laws.specs.Sets.{bit, with}
use Rattle.problem.specs.declared.Exposure.{Exposure}
use Rattle.problem.specs.Exposures.{to_nothing}
use Rattle.problem.specs.Table.{last_node}
use Rattle.exposure.specs.Parts.{inside}
use Rattle.labels.specs.declared.Label.{Label}
use Rattle.labels.specs.declared.Labels.{Labels}

-- what is read where there is no node
abbrev no_label : Label
no_label = record { metres = 0; exposure = to_nothing }

abbrev pub label_of : Labels → ℕ → Label
label_of labels v = get_or labels.of_node v no_label

abbrev pub label_metres : Labels → ℕ → ℕ
label_metres labels v = (label_of labels v).metres

abbrev pub label_exposure : Labels → ℕ → Exposure
label_exposure labels v = (label_of labels v).exposure

-- the label of v is no longer than this, and exposed to no more
pub record Known (labels : Labels) (v metres : ℕ) (e : Exposure) : Type 0 where
  pub labelled : bit labels.labelled v ≡ 1
  pub no_longer : label_metres labels v ≤ metres
  pub no_more : inside (label_exposure labels v) e ≡ true

-- it is shorter than this, and exposed to no more
pub record Shorter (labels : Labels) (v metres : ℕ) (e : Exposure) : Type 0 where
  pub labelled : bit labels.labelled v ≡ 1
  pub is_shorter : label_metres labels v < metres
  pub no_more : inside (label_exposure labels v) e ≡ true

-- no node has a label
abbrev pub Cleared : Labels → Type 0
Cleared labels = labels.labelled ≡ 0

-- v has this label, and the others are as they were
pub record Labelled (v metres : ℕ) (e : Exposure) (before after : Labels) : Type 0 where
  pub labelled : after.labelled ≡ with before.labelled v
  pub metres_is : label_metres after v ≡ metres
  pub exposure_is : label_exposure after v ≡ e
  pub other_metres : (u : ℕ) → u ≤ last_node → (u ≡ v → ⊥) → label_metres after u ≡ label_metres before u
  pub other_exposure : (u : ℕ) → u ≤ last_node → (u ≡ v → ⊥) → label_exposure after u ≡ label_exposure before u
