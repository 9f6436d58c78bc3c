-- A search with labels: what is left of it behind each arc of a node's chain, and why nothing that was passed over makes a better key. Assumes nothing.
use mathlib.Core.Path.{◌≡◌, sym, ap, ap₂, ◌∙◌, subst}
use mathlib.Core.List.{List}
use Prim.Native.Nat.{ℕ, suc, ◌+◌, ◌≤◌, ◌<◌}
use native.Mathlib.Nat.{zero-add}
use native.Mathlib.Decide.{ℕ_discrete, dec_lt}
use native.Mathlib.Omega.{arith}
use lib.Bits.{bit_or, or_zero_r}
use lib.ListN.{length}
use Rattle.laws.specs.Sets.{bit, with, unmet}
use Rattle.laws.proofs.SetLaws.{bit_with, bit_with_other}
use Rattle.problem.specs.declared.Arc.{Arc}
use Rattle.problem.specs.declared.Exposure.{Exposure}
use Rattle.problem.specs.Table.{last_node}
use Rattle.problem.specs.Exposures.{to_nothing, of_arc, joined, common, sharing}
use Rattle.problem.specs.Routes.{Mesh, arc_at, metres_of, Way}
use Rattle.problem.proofs.ExposureLaws.{Inside, exposed_common, exposed_joined, nothing_joined}
use Rattle.problem.proofs.GrowthLaws.{left_from}
use Rattle.exposure.proofs.WordLaws.{joined_by_field}
use Rattle.keys.specs.Keys.{standby_key}
use Rattle.labels.specs.declared.Labels.{Labels}
use Rattle.labels.specs.Labels.{Known, Cleared, Labelled}
use Rattle.net.specs.declared.Net.{Net}
use Rattle.net.specs.declared.Behind.{Behind}
use Rattle.net.specs.Net.{next_of, arcs_in, mesh_in, IsNet, lower_at, first_at}
use Rattle.net.specs.Search.{behind, onto, onward, searched}
use Rattle.bars.specs.declared.Barred.{Barred}
use Rattle.bars.specs.Bars.{barred, start_barred}
use Rattle.net.proofs.SearchLaws.{Left, list_from, over, Place, place_first, place_next, next_past, next_arc, head_node, fewer, left_first, left_last, left_met, left_idle, left_there, left_onward}
use Rattle.standby.specs.declared.Hop.{Hop}
use Rattle.standby.specs.declared.Hop.TheVariants.{Passed, Ends, Leads}
use Rattle.standby.specs.Standby.{offered, EveryDoor, key_over, hop_at, Seeking}
use Rattle.standby.specs.Ahead.{Quest, quest, Ahead, NoneBelow, least_of}
use Rattle.standby.specs.Sought.{TrueLabels, Back, Sought}
use Rattle.standby.proofs.DoorLaws.{way_door, shared_ahead, shared_door}
use Rattle.standby.proofs.HopLaws.{Skips, passed_is, Ending, ends_is, Leading, leads_is}
use Rattle.standby.proofs.OfferLaws.{offer_far, offer_no_better, offer_ends, offer_barred}
use Rattle.standby.proofs.AheadLaws.{ahead_fewer, ahead_more, ahead_far, ahead_no_better, ahead_step, fold_less, fold_mono, above_all}
use Rattle.standby.proofs.LabelLaws.{labels_none, labels_known, labels_kept, Around, knot}

-- what was passed on lies inside what has one more arc behind it
part_onto : (main e a : Exposure) → Inside (common main e) (joined e a)
part_onto main e a r = simp (exposed_common, exposed_joined) (omega arith)

-- over an arc without spans, the spans behind are as they were
pub same_spans : (on before own : Exposure) → on ≡ joined before own → own.low ≡ 0 → own.high ≡ 0 → on ≡ record { risks = on.risks; low = before.low; high = before.high }
same_spans on before own e low high =
    let fields = e ∙ joined_by_field before own in
    let l : on.low ≡ before.low = ap (λ (x : Exposure). x.low) fields ∙ (ap (bit_or before.low) low ∙ or_zero_r before.low) in
    let h : on.high ≡ before.high = ap (λ (x : Exposure). x.high) fields ∙ (ap (bit_or before.high) high ∙ or_zero_r before.high) in
    λ i. record { risks = on.risks; low = l i; high = h i }

module _ (net : Net) (main : Exposure) (last : ℕ) (b : Behind) (at : ℕ) where
  abbrev m : Mesh
  m = mesh_in net

  abbrev arcs : List Arc
  arcs = arcs_in net

  abbrev asked : ℕ → Quest
  asked nodes = quest m main (barred nodes last)

  abbrev left : ℕ → ℕ → ℕ
  left i least = Left net (offered m main last) b at i least

  left_mono : (i : ℕ) {x y : ℕ} → x ≤ y → left i x ≤ left i y
  unfolding left_from
  left_mono i h = fold_mono (asked 0) b (list_from net (offered m main last) b at i) h

  -- nothing that goes over arc k, if that is not barred, makes a key below x
  abbrev Over : (nodes n x : ℕ) → ℕ → Type 0
  Over nodes n x k = bit nodes (arc_at arcs k).head ≡ 0 → ((arc_at arcs k).head ≡ m.terminal → k ≡ last → ⊥)
      → Ahead (asked nodes) n x (arc_at arcs k).head (b.metres + (arc_at arcs k).metres) (joined b.exposure (of_arc (arc_at arcs k)))

  -- the search stands at arc i of the chain
  pub record Going (bound : ℕ) (before store : Labels) (least i : ℕ) : Type 0 where
    pub place : Place net (offered m main last) b at i
    pub no_more : least ≤ bound
    pub real : searched m (offered m main last) b at bound ≤ left i least
    pub done : (nodes n x : ℕ) → x ≤ least → Around (asked nodes) n x b → TrueLabels (asked nodes) n x before
        → ((k : ℕ) → k < i → (arc_at arcs k).tail ≡ at → Over nodes n x k) × TrueLabels (asked nodes) n x store

  pub going_start : {door : ℕ} → Seeking net main door at b.metres → (bound : ℕ) (store : Labels) → Going bound store store bound (first_at net at)
  going_start r bound store =
      record {
        place = place_first net (offered m main last) b at r.words r.node;
        no_more = omega arith;
        real = omega (arith, left_first net (offered m main last) b at r.words bound r.node r.onward);
        done = λ nodes n x h f l. (λ k c t. absurd ((r.words.first at r.node).skipped k (omega arith) c t), l);
      }

  -- an arc in hand
  pub record InHand (door bound : ℕ) (before store : Labels) (least i : ℕ) : Type 0 where
    pub start : Seeking net main door at b.metres
    pub going : Going bound before store least i
    pub inside : i < length arcs

  module _ {door bound least i : ℕ} {before store : Labels} (hand : InHand door bound before store least i) where
    abbrev g : Going bound before store least i
    g = hand.going

    abbrev l : i < length arcs
    l = hand.inside

    abbrev words : IsNet net
    words = hand.start.words

    abbrev next : ℕ
    next = next_of net i

    abbrev arc : Arc
    arc = arc_at arcs i

    abbrev lower : ℕ
    lower = lower_at net (arc_at arcs i).head

    pub arc_past : i < next_of net i
    arc_past = next_past net (offered m main last) b at words g.place l

    node : (arc_at arcs i).head ≤ last_node
    node = head_node net (offered m main last) b at words g.place l

    low : (ks : List ℕ) → Way arcs (arc_at arcs i).head m.terminal ks → lower ≤ metres_of arcs ks
    low ks w = words.lower (arc_at arcs i).head node w

    turn : (x : ℕ) (after : Labels) → x ≤ least → left i least ≤ left next x
        → ((nodes n y : ℕ) → y ≤ x → Around (asked nodes) n y b → TrueLabels (asked nodes) n y store → Over nodes n y i × TrueLabels (asked nodes) n y after)
        → Going bound before after x next
    turn x after h r f = record {
      place = place_next net (offered m main last) b at words g.place l;
      no_more = omega (arith, g.no_more);
      real = omega (arith, g.real);
      done = λ nodes n y p a s.
          let d = g.done nodes n y (omega arith) a s in
          let e = f nodes n y p a d.1 in (
            λ k c t. elim (ℕ_discrete k i) [
              | yes z ↦ subst (λ (j : ℕ). Over nodes n y j) (sym z) e.0
              | no z ↦ older nodes n y d.0 k c t z
            ],
            e.1,
          );
    }
      where
        older : (nodes n y : ℕ) → ((k : ℕ) → k < i → (arc_at arcs k).tail ≡ at → Over nodes n y k) → (k : ℕ) → k < next → (arc_at arcs k).tail ≡ at → (k ≡ i → ⊥) → Over nodes n y k
        older nodes n y d k c t z = elim (dec_lt k i) [
          | yes q ↦ d k q t
          | no q ↦ absurd ((next_arc net (offered m main last) b at words g.place l).skipped k (omega (arith, q, z)) c t)
        ]

    -- what is left where what grows from the head finds x at most
    left_below : (x : ℕ) → bit b.met (arc_at arcs i).head ≡ 0 → ((arc_at arcs i).head ≡ m.terminal → ⊥) → searched m (offered m main last) (onto b (arc_at arcs i)) (arc_at arcs i).head least ≤ x → left i least ≤ left next x
    left_below x e on h = omega (arith, left_onward net (offered m main last) b at words g.place l least e on, left_mono next h)

    no_better_over : (nodes n x : ℕ) → x ≤ key_over lower main door b (arc_at arcs i) → Over nodes n x i
    no_better_over nodes n x h e f = ahead_no_better (asked nodes) lower _ low (λ ks w. shared_ahead hand.start.doors i l b.exposure w) h

    pub going_past : {r : Hop Behind} → r ≡ hop_at net main door last least b i → r ≡ Passed → Going bound before store least (next_of net i)
    going_past e f = go (passed_is m lower main door last least b i (arc_at arcs i) (sym e ∙ f))
      where
        go : Skips m lower main door last least b i (arc_at arcs i) → Going bound before store least next
        go (Skips.met_before n) =
            turn least store (omega arith) (omega (arith, left_met net (offered m main last) b at words g.place l least n))
            (λ nodes k x h a s. (λ c d. ahead_more (asked nodes) b.exposure _ (a.back (arc_at arcs i).head n c) (omega arith) (part_onto main b.exposure (of_arc (arc_at arcs i))), s))
        go (Skips.too_far f) =
            turn least store (omega arith)
            (omega (arith, left_idle net (offered m main last) b at words g.place l least (λ ks w x. offer_far m main last (over net (offered m main last) b at i) least ks (omega arith))))
            (λ nodes k x h a s. (λ c d. ahead_far (asked nodes) lower low f, s))
        go (Skips.no_better f) =
            turn least store (omega arith)
            (omega (arith, left_idle net (offered m main last) b at words g.place l least (λ ks w x. offer_no_better m main last (over net (offered m main last) b at i) least _ _ ks x (shared_ahead hand.start.doors i l b.exposure w) f)))
            (λ nodes k x h a s. (no_better_over nodes k x (omega (arith, f)), s))
        go (Skips.barred_end n t e) =
            turn least store (omega arith)
            (omega (arith, left_there net (offered m main last) b at words g.place l least n t, ap (left next) (offer_barred m main last (over net (offered m main last) b at i) least i e)))
            (λ nodes k x h a s. (λ c d. absurd (d t e), s))

    pub going_ends : {r : Hop Behind} {k : ℕ} → r ≡ hop_at net main door last least b i → r ≡ Ends k → Going bound before store k (next_of net i)
    going_ends {r} {k} e f = go (ends_is m lower main door last least b i (arc_at arcs i) (sym e ∙ f))
      where
        go : Ending m lower main door last least b i (arc_at arcs i) k → Going bound before store k next
        go o =
            let near : lower ≡ 0 = ap (λ (v : ℕ). lower_at net v) o.at_terminal ∙ words.lower_terminal in
            let to : b.metres + (arc_at arcs i).metres + lower ≡ b.metres + (arc_at arcs i).metres = omega arith in
            let c = over net (offered m main last) b at i in
            let key : k ≡ standby_key (sharing main c.exposure) c.metres = o.is ∙ ap₂ standby_key (shared_door hand.start.doors i l b.exposure o.at_terminal) to in
            let same : left i least ≡ left next k =
            left_there net (offered m main last) b at words g.place l least o.opens.new o.at_terminal
            ∙ ap (Left net (offered m main last) b at next) (offer_ends m main last c least i o.not_barred (omega (arith, o.opens.in_reach)) (omega (arith, o.opens.better, o.is)) ∙ sym key) in
            turn k store (omega (arith, o.opens.better, o.is)) (omega (arith, same)) (λ nodes n x h a s. (no_better_over nodes n x (omega (arith, o.is)), s))

    -- what the label of the arc's head needs and gives, and the call on it
    pub record Onto (h : ℕ) (e : Behind) : Type 0 where
      pub is : e ≡ onto b (arc_at arcs i)
      pub seeking : Seeking net main door h e.metres
      pub fewer_nodes : unmet 32 b.met ≡ suc (unmet 32 e.met)
      pub by_label : Known store h e.metres e.exposure → Going bound before store least (next_of net i)
      pub gives : (x : ℕ) (after : Labels) → Sought net main last h e least store after x → Going bound before after x (next_of net i)

    pub going_leads : {r : Hop Behind} {h : ℕ} {e : Behind} → r ≡ hop_at net main door last least b i → r ≡ Leads h e → Onto h e
    going_leads {r} {h} {e} p q = go (leads_is m lower main door last least b i (arc_at arcs i) (sym p ∙ q))
      where
        given : (x : ℕ) (after : Labels) → bit b.met (arc_at arcs i).head ≡ 0 → ((arc_at arcs i).head ≡ m.terminal → ⊥) → Sought net main last (arc_at arcs i).head (onto b (arc_at arcs i)) least store after x → Going bound before after x next
        given x after new on s =
            turn x after s.no_more (left_below x new on s.real)
            (λ nodes n y p f r.
            let w = s.all nodes n y p (record { back = λ u k c ne. back nodes n y f u (omega (arith, k, bit_with_other b.met (arc_at arcs i).head u ne)) c }) r in
            (λ c d. ahead_fewer (asked nodes) w.0 (omega arith), w.1))
          where
            back : (nodes n y : ℕ) → Around (asked nodes) n y b → (u : ℕ) → bit b.met u ≡ 1 → bit nodes u ≡ 0
                → Ahead (asked nodes) n y u (b.metres + (arc_at arcs i).metres) (joined b.exposure (of_arc (arc_at arcs i)))
            back nodes n y f u k c = ahead_more (asked nodes) b.exposure _ (f.back u k c) (omega arith) (part_onto main b.exposure (of_arc (arc_at arcs i)))

        labelled : bit b.met (arc_at arcs i).head ≡ 0 → ((arc_at arcs i).head ≡ m.terminal → ⊥) → Known store (arc_at arcs i).head (b.metres + (arc_at arcs i).metres) (joined b.exposure (of_arc (arc_at arcs i)))
            → Going bound before store least next
        labelled new on k =
            turn least store (omega arith) (left_below least new on (fold_less (asked 0) (onto b (arc_at arcs i)) least (onward m (onto b (arc_at arcs i)) (arc_at arcs i).head)))
            (λ nodes n x h a s. (λ c d. labels_known (asked nodes) store node s k, s))

        go : Leading m lower main door last least b i (arc_at arcs i) h e → Onto h e
        go o = record {
          is = o.is;
          seeking = record {
            words = words;
            doors = hand.start.doors;
            node = omega (arith, o.head_is, node);
            onward = λ x. o.goes_on (sym o.head_is ∙ x);
            in_reach = omega (arith, ap (λ (c : Behind). c.metres) o.is, o.opens.in_reach);
          };
          fewer_nodes = fewer net (offered m main last) b at words g.place l o.opens.new ∙ ap (λ (c : Behind). suc (unmet 32 c.met)) (sym o.is);
          by_label = λ k. labelled o.opens.new o.goes_on (rw (o.head_is, o.is) at k);
          gives = λ x after s. given x after o.opens.new o.goes_on (rw (o.head_is, o.is) at s);
        }

  -- the loop's end, and the node's own label
  pub going_end : {door bound least i : ℕ} {before store after : Labels} → Seeking net main door at b.metres → Going bound before store least i → length arcs ≤ i
      → Labelled at b.metres (common main b.exposure) store after → Sought net main last at b bound before after least
  going_end {door} {bound} {least} {i} {before} {store} {after} r g e keeps = record {
    no_more = g.no_more;
    real = omega (arith, g.real, left_last net (offered m main last) b at r.words i least e);
    all = λ nodes n x h. knot (asked nodes) r.onward (end nodes x h) n;
  }
    where
      end : (nodes x : ℕ) → x ≤ least → (n : ℕ) → Around (asked nodes) n x b → TrueLabels (asked nodes) n x before
          → Ahead (asked nodes) (suc n) x at b.metres b.exposure × TrueLabels (asked nodes) n x after
      end nodes x h n a s =
          let d = g.done nodes n x h a s in
          let w : Ahead (asked nodes) (suc n) x at b.metres b.exposure = ahead_step (asked nodes) r.onward (λ k c t o f. d.0 k (omega arith) t o f) in
          (w, labels_kept (asked nodes) b.exposure d.1 (ahead_fewer (asked nodes) w (omega arith)) keeps)

-- ---- from the source

-- nothing is below a bound that what every door shares, over the shortest way, is not below
pub none_below_door : (net : Net) (main : Exposure) {door : ℕ} (off : Barred) {bound : ℕ} → IsNet net → EveryDoor (mesh_in net) main door
    → bound ≤ standby_key door (lower_at net (mesh_in net).source) → NoneBelow (quest (mesh_in net) main off) bound
none_below_door net main {door} off {bound} words doors h =
    let lower : ℕ = lower_at net (mesh_in net).source in
    let from_none : bound ≤ standby_key door (0 + lower) = omega (arith, h, ap (standby_key door) (zero-add lower)) in record {
      ahead = λ n. ahead_no_better (quest (mesh_in net) main off) lower door (λ ks w. words.lower (mesh_in net).source words.source_node w)
          (λ ks w. rw nothing_joined (way_door doors ks words.ends_differ w)) from_none;
    }

module _ (net : Net) (main : Exposure) (off : Barred) (bound : ℕ) {at met key : ℕ} {e : Exposure} {before after : Labels}
    (a : at ≡ (mesh_in net).source) (s : met ≡ with off.nodes at) (n : e ≡ to_nothing) (c : Cleared before) (f : Sought net main off.last at (behind met 0 e) bound before after key) where
  abbrev q : Quest
  q = quest (mesh_in net) main off

  abbrev first : Behind
  first = start_barred (mesh_in net) off

  from_first : Sought net main off.last (mesh_in net).source first bound before after key
  from_first = same a (s ∙ ap (with off.nodes) a) n f
    where
      same : {at met : ℕ} {e : Exposure} → at ≡ (mesh_in net).source → met ≡ with off.nodes (mesh_in net).source → e ≡ to_nothing → Sought net main off.last at (behind met 0 e) bound before after key
          → Sought net main off.last (mesh_in net).source first bound before after key
      same p q r x = rw (p, q, r) at x

  -- but for barred nodes, only the source was met
  back : (k : ℕ) → Back q k key (mesh_in net).source first
  back k = record { back = λ u b o ne. absurd (omega (arith, b, o, bit_with_other off.nodes (mesh_in net).source u ne)) }

  pub sought_below : NoneBelow (quest (mesh_in net) main off) key
  sought_below = record {
    ahead = λ k. ahead_fewer q (from_first.all off.nodes k key (omega arith) (back k) (labels_none q k key c)).0 (omega arith);
  }

  pub sought_least : key ≡ least_of (quest (mesh_in net) main off) bound
  unfolding least_of
  sought_least = omega (arith, from_first.real, above_all q first key (mesh_in net).source bound (λ u. omega (arith, bit_with off.nodes (mesh_in net).source u)) sought_below.ahead f.no_more)
