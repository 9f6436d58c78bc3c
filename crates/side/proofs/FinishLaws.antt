-- A node finished: what relaxing an arc into it does, and what is left of it while the free arcs into it are relaxed and their tails put together. Assumes nothing.
use mathlib.Core.Path.{◌≡◌, refl, sym, ap, ◌∙◌}
use mathlib.Core.Bool.{Bool, true, false}
use mathlib.Core.List.{List, [], ◌∷◌, foldl}
use Prim.Native.Nat.{ℕ, suc, ◌≤◌}
use native.Mathlib.Omega.{arith}
use lib.ListN.{length, set, length-set}
use lib.Seq.{get_or-set_other, set-get_or}
use Rattle.std.specs.List.{All, filter}
use Rattle.std.proofs.lemmas.List.Elements.{filter_passes, All-filter}
use Rattle.laws.specs.Sets.{with}
use Rattle.problem.specs.declared.Arc.{Arc}
use Rattle.problem.specs.declared.Exposure.{Exposure}
use Rattle.problem.specs.Table.{nodes, most_reach, all_sound, SoundArc}
use Rattle.problem.specs.Exposures.{of_arc, disjoint}
use Rattle.problem.proofs.TableLaws.{sound_at}
use Rattle.side.specs.declared.Distance.{Distance}
use Rattle.side.specs.Side.{unreached, entry_at, metres_at}
use Rattle.side.specs.Relaxing.{Fits, relaxed_in, free_into, relaxed_by, finished_in, with_tail, tails_into, Finishing}
use Rattle.side.proofs.RelaxLaws.{gains, gains_gained, nearer_not}
use Rattle.side.proofs.FreeArcsLaws.{exposed, free_into_lem, free_head, fold_filter, each_sound}

-- ---- an arc into v relaxed, and its tail put to others

module _ (banned : Exposure) (v : ℕ) (s : List Distance) (a : Arc) where
  pub relaxed_not : free_into banned v a ≡ false → relaxed_by banned v s a ≡ s
  unfolding relaxed_by
  relaxed_not e = rw e

  relaxed_free : free_into banned v a ≡ true → relaxed_by banned v s a ≡ relaxed_in s a.tail v a.metres
  unfolding relaxed_by
  relaxed_free e = rw e

  pub relaxed_gains : a.head ≡ v → gains banned s a ≡ true → relaxed_by banned v s a ≡ relaxed_in s a.tail a.head a.metres
  relaxed_gains here g =
      relaxed_free (free_into_lem banned v a here (gains_gained banned s a g).free)
      ∙ ap (λ (head : ℕ). relaxed_in s a.tail head a.metres) (sym here)

  -- an arc that gains nothing changes nothing
  pub relaxed_idle : a.head ≡ v → gains banned s a ≡ false → relaxed_by banned v s a ≡ s
  unfolding gains relaxed_in
  relaxed_idle here none = go (disjoint (of_arc a) banned) refl
    where
      go : (free : Bool) → disjoint (of_arc a) banned ≡ free → relaxed_by banned v s a ≡ s
      go false f = relaxed_not (exposed banned v a f)
      go true f =
          relaxed_free (free_into_lem banned v a here f)
          ∙ ap (set s a.tail) (sym (nearer_not (entry_at s a.tail) (entry_at s v) a.metres (rw (f, here) at none)))
          ∙ set-get_or s a.tail unreached

module _ (banned : Exposure) (v tails : ℕ) (a : Arc) where
  pub tails_not : free_into banned v a ≡ false → with_tail banned v tails a ≡ tails
  unfolding with_tail
  tails_not e = rw e

  pub tails_free : free_into banned v a ≡ true → with_tail banned v tails a ≡ with tails a.tail
  unfolding with_tail
  tails_free e = rw e

-- ---- v under way

-- these free arcs into v are left, and the entries have room for them; in the end the entries will be `whole`, and the tails `all`
pub record Underway (banned : Exposure) (v : ℕ) (whole : List Distance) (all : ℕ) (s : List Distance) (tails : ℕ) (left : List Arc) : Type 0 where
  pub sound : All SoundArc left
  pub free : All (λ a. free_into banned v a ≡ true) left
  pub relaxed : foldl (relaxed_by banned v) s left ≡ whole
  pub gathered : foldl (with_tail banned v) tails left ≡ all
  pub size : length s ≡ nodes
  pub near : metres_at s v ≤ most_reach

pub underway_first : (banned : Exposure) (v : ℕ) (arcs : List Arc) (s : List Distance) (left : List Arc) → all_sound arcs ≡ true → Finishing s v → left ≡ filter (free_into banned v) arcs
    → Underway banned v (finished_in banned v s arcs) (tails_into banned v arcs) s 0 left
unfolding finished_in tails_into
underway_first banned v arcs s left sound f is = rw is (record {
  sound = All-filter (free_into banned v) SoundArc arcs (each_sound arcs (sound_at arcs sound));
  free = filter_passes (free_into banned v) arcs;
  relaxed = fold_filter (relaxed_by banned v) (free_into banned v) (relaxed_not banned v) arcs s;
  gathered = fold_filter (with_tail banned v) (free_into banned v) (tails_not banned v) arcs 0;
  size = f.size;
  near = f.near;
})

module _ {banned : Exposure} {v : ℕ} {whole : List Distance} {all : ℕ} {s : List Distance} {tails : ℕ} where
  pub underway_none : Underway banned v whole all s tails [] → (s ≡ whole) × (tails ≡ all)
  underway_none u = (u.relaxed, u.gathered)

  module _ {a : Arc} {left : List Arc} (u : Underway banned v whole all s tails (a ∷ left)) where
    pub underway_sound : SoundArc a
    underway_sound = u.sound 0 a (omega arith)

    is_free : free_into banned v a ≡ true
    is_free = u.free 0 a (omega arith)

    head_is : a.head ≡ v
    head_is = free_head banned v a is_free

    pub underway_fits : Fits s a.tail v a.metres
    underway_fits = record {
      tail_inside = omega (arith, u.size, underway_sound.tail_node);
      head_inside = omega (arith, u.size, head_is, underway_sound.head_node);
      room = omega (arith, u.near, underway_sound.metres_range);
    }

    -- v's own entry is not the tail's
    same_entry : entry_at (relaxed_in s a.tail v a.metres) v ≡ entry_at s v
    unfolding relaxed_in
    same_entry = get_or-set_other s a.tail v _ unreached (λ e. underway_sound.ends_differ (sym e ∙ sym head_is))

    -- one turn: a is relaxed
    pub underway_next : Underway banned v whole all (relaxed_in s a.tail v a.metres) (with tails a.tail) left
    unfolding relaxed_in
    underway_next = record {
      sound = λ k d h. u.sound (suc k) d (omega arith);
      free = λ k d h. u.free (suc k) d (omega arith);
      relaxed = ap (λ (t : List Distance). foldl (relaxed_by banned v) t left) (sym (relaxed_free banned v s a is_free)) ∙ u.relaxed;
      gathered = ap (λ (t : ℕ). foldl (with_tail banned v) t left) (sym (tails_free banned v tails a is_free)) ∙ u.gathered;
      size = simp length-set u.size;
      near = omega (arith, ap (λ (e : Distance). e.metres) same_entry, u.near);
    }
