-- Cores in a store: which mains they cover, what leaves them as they were, and how one is put beside the others or in the place of one. Assumes nothing.
use mathlib.Core.Path.{◌≡◌, refl, sym, ap, ◌∙◌, subst}
use Prim.Native.Nat.{ℕ, ◌≤◌, ◌<◌, min}
use native.Mathlib.Decide.{ℕ_discrete}
use native.Mathlib.Omega.{arith}
use lib.Bits.{bit_or}
use lib.ListN.{length, set}
use lib.Seq.{get_or-set_same, get_or-set_other}
use Rattle.laws.specs.Sets.{bit}
use Rattle.laws.proofs.SetLaws.{bit_or_lem}
use Rattle.problem.specs.declared.Exposure.{Exposure}
use Rattle.problem.specs.Routes.{Mesh}
use Rattle.exposure.proofs.WordLaws.{inside_at}
use Rattle.net.specs.declared.Net.{Net}
use Rattle.net.specs.Net.{IsNet, mesh_in}
use Rattle.net.specs.Search.{no_arc}
use Rattle.bars.specs.declared.Barred.{Barred}
use Rattle.bars.specs.Bars.{barred}
use Rattle.keys.specs.Keys.{raised}
use Rattle.keys.proofs.BoundLaws.{raised_more}
use Rattle.standby.specs.Ahead.{Quest, quest, NoneBelow, least_of}
use Rattle.standby.proofs.AvoidLaws.{milder_same, milder_nodes}
use Rattle.standby.proofs.AheadLaws.{none_below_least, least_raised, none_below_core}
use Rattle.cores.specs.declared.Core.{Core}
use Rattle.cores.specs.declared.Cores.{Cores}
use Rattle.cores.specs.Cores.{most_cores, no_core, core_of, AllHold, Covered, CoresKept, Remembers}

-- where no core is counted, all hold
pub stored_none : (net : Net) (cores : Cores) → cores.count ≡ 0 → AllHold net cores
stored_none net cores e = record { sized = omega arith; held = λ j h. absurd (omega arith) }

-- ---- what a core says

module _ (net : Net) (cores : Cores) (main : Exposure) (off : Barred) (bound : ℕ) (words : IsNet net) (s : AllHold net cores) where
  covered_below : Covered cores main off.nodes bound → NoneBelow (quest (mesh_in net) main off) bound
  covered_below c =
      let core : Core = core_of cores c.number in
      let f = c.covers in
      none_below_core (mesh_in net) core.exposure main (barred core.nodes no_arc) off (inside_at core.exposure main f.main_inside)
      (milder_nodes (mesh_in net) core.nodes off (omega (arith, words.few)) (among core.nodes f.nodes_inside)) f.no_smaller
      (s.held c.number c.counted)
    where
      among : (fewer : ℕ) → bit_or fewer off.nodes ≡ off.nodes → (u : ℕ) → bit fewer u ≤ bit off.nodes u
      among fewer e u = omega (arith, bit_or_lem fewer off.nodes u, ap (λ (x : ℕ). bit x u) e)

  pub covered_least : Covered cores main off.nodes bound → bound ≡ least_of (quest (mesh_in net) main off) bound
  covered_least c = sym (none_below_least (quest (mesh_in net) main off) (covered_below c))

-- what a search that barred nodes alone has found is true of a core: a smaller bound holds too
pub core_below : (m : Mesh) (core : Exposure) (nodes : ℕ) {off : Barred} {x y : ℕ} → off ≡ barred nodes no_arc → y ≤ x → NoneBelow (quest m core off) x → NoneBelow (quest m core (barred nodes no_arc)) y
core_below m core nodes {off} {x} {y} e h a =
    subst (λ (b : Barred). NoneBelow (quest m core b) y) e (none_below_core m core core off off (λ r. omega arith) (milder_same m off) h a)

-- the bound that a search starts from may be raised
pub least_unraised : (q : Quest) (bound metres : ℕ) {top key least : ℕ} → top ≡ raised bound metres → key ≡ least_of q top → least ≡ min bound key → least ≡ least_of q bound
least_unraised q bound metres {top} t k l = omega (arith, k, least_raised q {bound = bound} {top = top} (omega (arith, t, raised_more bound metres)))

-- nothing is below 0
pub least_zero : (q : Quest) {bound : ℕ} → bound ≡ 0 → 0 ≡ least_of q bound
least_zero q {bound} z = omega (arith, least_raised q {bound = bound} {top = bound} (omega arith))

-- ---- the cores as they were

pub kept_same : (cores : Cores) → CoresKept cores cores
kept_same cores = record { count_same = refl; known_same = refl }

pub kept_then : {one two three : Cores} → CoresKept one two → CoresKept two three → CoresKept one three
kept_then f g = record { count_same = g.count_same ∙ f.count_same; known_same = g.known_same ∙ f.known_same }

pub stored_kept : (net : Net) {before after : Cores} → CoresKept before after → AllHold net before → AllHold net after
stored_kept net {before} {after} k s = record {
  sized = omega (arith, s.sized, k.count_same);
  held = λ j h. rw k.known_same (s.held j (omega (arith, k.count_same)));
}

-- ---- a core put there

-- what is counted then is the core, at its number, and some of those before, where they were
pub remembered : {core : Core} {before after : Cores} (number : ℕ) → number < length before.known → number < after.count → after.count ≤ most_cores
    → ((j : ℕ) → j < after.count → (j ≡ number → ⊥) → j < before.count) → after.known ≡ set before.known number core → Remembers core before after
remembered {core} {before} {after} number room counted few old is = record {
  number = number;
  counted = counted;
  is = rw is (get_or-set_same before.known number core no_core room);
  put = is;
  old = old;
  stored = λ net s n. record {
    sized = few;
    held = λ j h. elim (ℕ_discrete j number) [
      | yes e ↦ rw (is, e, get_or-set_same before.known number core no_core room) n
      | no ne ↦ rw (is, get_or-set_other before.known number j core no_core ne) (s.held j (old j h ne))
    ];
  };
}
