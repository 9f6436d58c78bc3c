-- What an arc does to a sweep: which routes over it are met, and which are cut off. Assumes nothing.
use mathlib.Core.Path.{◌≡◌, refl, sym, ap, ◌∙◌, subst}
use mathlib.Core.Logic.{◌⊎◌, inl, inr}
use mathlib.Core.Bool.{Bool, true, false, true≢false}
use mathlib.Core.List.Memᴰ
use mathlib.Core.List.{List, [], ◌∷◌, Memᴰ}
use Prim.Native.Nat.{ℕ, zero, suc, ◌+◌, ◌≤◌, ◌<◌, min}
use native.Mathlib.Omega.{arith}
use lib.Dec.{ltb}
use lib.ListN.{length, drop_of_length-le}
use borrow.Author.Tests.{lt-ltb, le-ltb, eq-eqb}
use Rattle.laws.specs.Sets.{bit, with, unmet}
use Rattle.problem.specs.Table.{last_node}
use Rattle.problem.specs.Routes.{Mesh, arc_at, metres_of, sprout, grow, paths}
use Rattle.problem.proofs.GrowthLaws.{fold_idle, grow_way, left_from}
use Rattle.net.specs.declared.Net.{Net}
use Rattle.net.specs.declared.Behind.{Behind}
use Rattle.net.specs.Net.{next_of, arcs_in, mesh_in, IsNet, lower_at, first_at}
use Rattle.net.specs.Search.{start, onto, along, last_of, no_arc, visit, onward, searched}
use Rattle.net.proofs.SearchLaws.{along_metres, Left, over, Place, place_first, left_first, left_last, place_next, next_past, head_node, fewer, left_met, left_idle, left_there, left_onward, list_from, list_first, list_next}
use Rattle.look.specs.declared.Leg.TheVariants.{Met, Past, Ends, Leads}
use Rattle.look.specs.Look.{leg_at}
use Rattle.look.proofs.LookLaws.{met_is, past_is, ends_is, leads_is, Ending, Leading}
use Rattle.tally.specs.declared.Tally.{Tally}
use Rattle.mains.specs.Mains.{tried}
use Rattle.sweep.specs.declared.Swept.{Swept}
use Rattle.sweep.specs.declared.Window.{Window}
use Rattle.sweep.specs.Sweep.{ended, met, Sweeps, SweptAll}

-- ---- what meeting a route does

module _ (only : Bool) (m : Mesh) (w : Window) where
  met_far : (t : Tally) (e : Behind) (k : ℕ) → w.hi < e.metres → met only m w t e k ≡ t
  unfolding met
  met_far t e k h = rw (lt-ltb w.hi e.metres h)

  met_ends : (t : Tally) (e : Behind) (k : ℕ) → e.metres ≤ w.hi → met only m w t e k ≡ ended only m w e k t
  unfolding met
  met_ends t e k h = rw (le-ltb w.hi e.metres h)

  -- past the cap nothing changes any more
  met_over : (t : Tally) (e : Behind) (k : ℕ) → t.over ≡ true → met only m w t e k ≡ t
  unfolding met ended tried
  met_over t e k o = go (ltb w.hi e.metres) refl (ltb e.metres w.lo) refl
    where
      go : (a : Bool) → ltb w.hi e.metres ≡ a → (b : Bool) → ltb e.metres w.lo ≡ b → met only m w t e k ≡ t
      go true p b q = rw (p, met)
      go false p true q = rw (p, q, met)
      go false p false q = rw (p, q, o, met)

-- ---- the search over the words

module _ (net : Net) (w : Window) (at : ℕ) (b : Behind) where
  abbrev m : Mesh
  m = mesh_in net

  abbrev only : Bool
  only = net.apart

  abbrev end : Tally → Behind → ℕ → Tally
  end = met only m w

  -- the sweep stands at arc i of the chain: what is left makes of the tally so far what is wanted, and what lies past the window's end is cut off or still ahead
  pub record Rest (s r : Swept) (i : ℕ) : Type 0 where
    pub place : Place net end b at i
    pub left : Left net end b at i r.tally ≡ searched m end b at s.tally
    pub cut_falls : r.cut ≤ s.cut
    pub cut_past : w.hi < s.cut → w.hi < r.cut
    pub none_between : r.tally.over ≡ false → (ks : List ℕ) → Memᴰ ks (onward m b at) → w.hi < b.metres + metres_of (arcs_in net) ks
        → (r.cut ≤ b.metres + metres_of (arcs_in net) ks) ⊎ Memᴰ ks (list_from net end b at i)

  module _ (words : IsNet net) where
    pub rest_start : (s : Swept) → at ≤ last_node → (at ≡ m.terminal → ⊥) → Rest s s (first_at net at)
    rest_start s node on =
        record {
          place = place_first net end b at words node;
          left = left_first net end b at words s.tally node on;
          cut_falls = omega arith;
          cut_past = λ h. h;
          none_between = λ o ks x h. inr (subst (λ (l : List (List ℕ)). Memᴰ ks l) (list_first net end b at words node on) x);
        }

    -- past the last arc nothing is left
    pub rest_end : {s r : Swept} {i : ℕ} → Rest s r i → length (arcs_in net) ≤ i → Sweeps net w at b s r
    unfolding sprout
    rest_end {s} {r} {i} rest h =
        record {
          tally_is = sym (left_last net end b at words i r.tally h) ∙ rest.left;
          cut_falls = rest.cut_falls;
          cut_past = rest.cut_past;
          none_between = λ o ks x l. done (rest.none_between o ks x l);
        }
      where
        done : {ks : List ℕ} → (r.cut ≤ b.metres + metres_of (arcs_in net) ks) ⊎ Memᴰ ks (list_from net end b at i) → r.cut ≤ b.metres + metres_of (arcs_in net) ks
        done (inl q) = q
        done {ks} (inr q) = absurd (Memᴰ.not-nil (rw (drop_of_length-le (arcs_in net) h) at q))

    -- past the cap the rest may be left out
    pub rest_over : {s r : Swept} {i : ℕ} → Rest s r i → r.tally.over ≡ true → Sweeps net w at b s r
    unfolding left_from
    rest_over {s} {r} {i} rest e =
        record {
          tally_is = sym (fold_idle (visit (arcs_in net) end b) r.tally (list_from net end b at i) (λ ks x. met_over only m w r.tally (along (arcs_in net) b ks) (last_of no_arc ks) e)) ∙ rest.left;
          cut_falls = rest.cut_falls;
          cut_past = rest.cut_past;
          none_between = λ o. absurd (true≢false (sym e ∙ o));
        }

    module _ {s r : Swept} {i : ℕ} (rest : Rest s r i) (l : i < length (arcs_in net)) (was : r.tally.over ≡ false) where
      abbrev next : ℕ
      next = next_of net i

      abbrev head : ℕ
      head = (arc_at (arcs_in net) i).head

      abbrev lower : ℕ
      lower = lower_at net head

      pub arc_past : i < next_of net i
      arc_past = next_past net end b at words rest.place l

      -- on to the next arc: what lies past the window's end over this one is cut off
      turn : (r' : Swept) → Left net end b at i r.tally ≡ Left net end b at next r'.tally → r'.cut ≤ r.cut → (w.hi < r.cut → w.hi < r'.cut)
          → (r'.tally.over ≡ false → (more : List ℕ) → bit b.met head ≡ 0 → Memᴰ more (grow (arcs_in net) m.terminal (unmet 32 b.met) (with b.met head) head)
          → w.hi < b.metres + metres_of (arcs_in net) (i ∷ more) → r'.cut ≤ b.metres + metres_of (arcs_in net) (i ∷ more))
          → Rest s r' next
      turn r' e falls past ahead =
          record {
            place = place_next net end b at words rest.place l;
            left = sym e ∙ rest.left;
            cut_falls = omega (arith, rest.cut_falls);
            cut_past = λ h. past (rest.cut_past h);
            none_between = λ o ks x h. go o h (rest.none_between was ks x h);
          }
        where
          Ahead : List ℕ → Type 0
          Ahead ks = (r'.cut ≤ b.metres + metres_of (arcs_in net) ks) ⊎ Memᴰ ks (list_from net end b at next)

          split : r'.tally.over ≡ false → {ks : List ℕ} → w.hi < b.metres + metres_of (arcs_in net) ks
              → ((more : List ℕ) × (ks ≡ i ∷ more) × (bit b.met head ≡ 0) × Memᴰ more (grow (arcs_in net) m.terminal (unmet 32 b.met) (with b.met head) head))
              ⊎ Memᴰ ks (list_from net end b at next) → Ahead ks
          split q {ks} h (inl o) =
              inl (subst (λ (x : List ℕ). r'.cut ≤ b.metres + metres_of (arcs_in net) x) (sym o.1) (ahead q o.0 o.2 o.3 (subst (λ (x : List ℕ). w.hi < b.metres + metres_of (arcs_in net) x) o.1 h)))
          split o h (inr q) = inr q

          go : r'.tally.over ≡ false → {ks : List ℕ} → w.hi < b.metres + metres_of (arcs_in net) ks
              → (r.cut ≤ b.metres + metres_of (arcs_in net) ks) ⊎ Memᴰ ks (list_from net end b at i) → Ahead ks
          go o h (inl q) = inl (omega arith)
          go o h (inr q) = split o h (list_next net end b at words rest.place l q)

      pub rest_met : leg_at net w.hi b i ≡ Met → Rest s r (next_of net i)
      rest_met e =
          let x = met_is m.terminal w.hi lower b (arc_at (arcs_in net) i) e in
          turn r (left_met net end b at words rest.place l r.tally x) (omega arith) (λ h. h) (λ o more z. absurd (omega arith))

      pub rest_cut : {to : ℕ} → leg_at net w.hi b i ≡ Past to → (r' : Swept) → r'.tally ≡ r.tally → r'.cut ≡ min r.cut to → Rest s r' (next_of net i)
      unfolding metres_of
      rest_cut {to} e r' same cut =
          let p = past_is m.terminal w.hi lower b (arc_at (arcs_in net) i) e in
          turn r'
          (left_idle net end b at words rest.place l r.tally (λ ks x f k. met_far only m w r.tally _ k (omega (arith, p.past_end, along_metres (arcs_in net) (over net end b at i) ks)))
          ∙ ap (Left net end b at next) (sym same))
          (omega arith)
          (λ h. omega (arith, p.past_end, p.is))
          (λ o more z x h.
          let f = words.lower head (head_node net end b at words rest.place l) (grow_way (arcs_in net) m.terminal (unmet 32 b.met) (with b.met head) head x) in
          omega (arith, f, p.is))

      pub ends_in : {e : Behind} → leg_at net w.hi b i ≡ Ends e → e.metres ≤ w.hi
      ends_in {e} q = let o = ends_is m.terminal w.hi lower b (arc_at (arcs_in net) i) q in omega (arith, ap (λ (x : Behind). x.metres) o.is, o.inside)

      pub rest_ends : {e : Behind} → leg_at net w.hi b i ≡ Ends e → (r' : Swept) → r'.tally ≡ ended only m w e i r.tally → r'.cut ≡ r.cut → Rest s r' (next_of net i)
      unfolding metres_of grow
      rest_ends {e} q r' met-it cut = go (ends_is m.terminal w.hi lower b (arc_at (arcs_in net) i) q)
        where
          alone : (more : List ℕ) (n : ℕ) → head ≡ m.terminal → Memᴰ more (grow (arcs_in net) m.terminal n (with b.met head) head) → more ≡ []
          alone more zero t x = Memᴰ.eq_of_singleton (rw (eq-eqb head m.terminal t, grow) at x)
          alone more (suc n) t x = Memᴰ.eq_of_singleton (rw (eq-eqb head m.terminal t, grow) at x)

          go : Ending m.terminal w.hi lower b (arc_at (arcs_in net) i) e → Rest s r' next
          go o =
              turn r'
              (left_there net end b at words rest.place l r.tally o.new o.at_terminal
              ∙ ap (Left net end b at next) (met_ends only m w r.tally (onto b (arc_at (arcs_in net) i)) i (omega (arith, o.inside)) ∙ ap (λ (x : Behind). ended only m w x i r.tally) (sym o.is) ∙ sym met-it))
              (omega arith)
              (λ h. omega arith)
              (λ y more z x h. absurd (omega (arith, o.inside, ap (metres_of (arcs_in net)) (alone more (unmet 32 b.met) o.at_terminal x))))

      -- what the call on the arc's head needs and gives
      pub record Onward (h : ℕ) (e : Behind) : Type 0 where
        pub node : h ≤ last_node
        pub goes_on : h ≡ m.terminal → ⊥
        pub in_window : e.metres ≤ w.hi
        pub fewer_nodes : unmet 32 b.met ≡ suc (unmet 32 e.met)
        pub gives : (r' : Swept) → Sweeps net w h e r r' → Rest s r' (next_of net i)

      pub rest_leads : {h : ℕ} {e : Behind} → leg_at net w.hi b i ≡ Leads h e → Onward h e
      unfolding metres_of
      rest_leads {h} {e} q = go (leads_is m.terminal w.hi lower b (arc_at (arcs_in net) i) q)
        where
          same_search : h ≡ head → e ≡ onto b (arc_at (arcs_in net) i) → searched m end (onto b (arc_at (arcs_in net) i)) head r.tally ≡ searched m end e h r.tally
          same_search p q = rw (p, q)

          moved : bit b.met head ≡ 0 → h ≡ head → e ≡ onto b (arc_at (arcs_in net) i) → {more : List ℕ} → Memᴰ more (grow (arcs_in net) m.terminal (unmet 32 b.met) (with b.met head) head)
              → Memᴰ more (onward m e h)
          moved n p q {more} x =
              rw (p, q) (subst (λ (k : ℕ). Memᴰ more (grow (arcs_in net) m.terminal k (with b.met head) head)) (fewer net end b at words rest.place l n) x)

          go : Leading m.terminal w.hi lower b (arc_at (arcs_in net) i) h e → Onward h e
          go o =
              let length_is : e.metres ≡ b.metres + (arc_at (arcs_in net) i).metres = ap (λ (x : Behind). x.metres) o.is in
              record {
                node = omega (arith, o.head_is, head_node net end b at words rest.place l);
                goes_on = λ x. o.goes_on (sym o.head_is ∙ x);
                in_window = omega (arith, length_is, o.inside);
                fewer_nodes = fewer net end b at words rest.place l o.new ∙ ap (λ (x : Behind). suc (unmet 32 x.met)) (sym o.is);
                gives = λ r' sw.
                    turn r'
                    (left_onward net end b at words rest.place l r.tally o.new o.goes_on ∙ ap (Left net end b at next) (same_search o.head_is o.is ∙ sym sw.tally_is))
                    sw.cut_falls sw.cut_past
                    (λ y more z x f. omega (arith, length_is, sw.none_between y more (moved o.new o.head_is o.is x) (omega (arith, length_is))));
              }

-- past the cap there is nothing to sweep for
pub over_all : (only : Bool) (m : Mesh) (w : Window) (t : Tally) (cut : ℕ) → w.hi < cut → t.over ≡ true → SweptAll only m w t (record { tally = t; cut = cut })
over_all only m w t cut past o =
    record {
      tally_is = sym (fold_idle (visit m.arcs (met only m w) (start m)) t (paths m) (λ ks x. met_over only m w t (along m.arcs (start m) ks) (last_of no_arc ks) o));
      cut_past = past;
      none_between = λ n. absurd (true≢false (sym o ∙ n));
    }
