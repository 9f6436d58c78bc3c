-- What is looked for by a key's numbers, and that what is found is the best pair of every step that has the key. Assumes nothing.
use mathlib.Core.Path.{◌≡◌, refl, sym, ap, ap₂, ◌∙◌, subst}
use mathlib.Core.Bool.{Bool}
use Prim.Native.Nat.{ℕ, ◌+◌, ◌≤◌, ◌<◌}
use native.Mathlib.Omega.{arith}
use lib.ListN.{length, get_or}
use borrow.Author.Tests.{eqb-true}
use Rattle.laws.specs.Choosing.{keep}
use Rattle.std.specs.Prelude.{Result, Ok, IsOk}
use Rattle.problem.specs.declared.Exposure.{Exposure}
use Rattle.problem.specs.Table.{most_reach}
use Rattle.problem.specs.Routes.{Mesh, Route, route_of, ranking, count, shorter}
use Rattle.problem.specs.Pairs.{Pair, pair, no_route, shared_count, best}
use Rattle.problem.specs.Apart.{judges}
use Rattle.keys.specs.Keys.{standby_key, shared_of, total_of, main_of, no_standby}
use Rattle.keys.proofs.BoundLaws.{standby_below}
use Rattle.keys.proofs.ChoiceLaws.{pair_key_parts}
use Rattle.bars.specs.declared.Barred.{Barred}
use Rattle.bars.specs.Bars.{nothing_barred, barred_by_list, unbarred}
use Rattle.bars.proofs.BarsLaws.{Regular}
use Rattle.standby.specs.Ahead.{quest, NoneBelow}
use Rattle.standby.proofs.LeastLaws.{least_below}
use Rattle.mains.proofs.TallyLaws.{end_exposure}
use Rattle.track.specs.Track.{route_in, pair_in}
use Rattle.find.specs.declared.Role.TheVariants.{Main, Standby}
use Rattle.find.specs.declared.Want.{Want}
use Rattle.find.specs.declared.Found.{Found}
use Rattle.find.specs.Find.{is_wanted, First, count_of, InRange, Sure, Outcome, OutcomeOverAll}
use Rattle.choose.specs.declared.Numbers.{Numbers}
use Rattle.choose.specs.Choose.{Readable, ReadOff, OfStep, BestOf}
use Rattle.choose.proofs.RouteChoice.{as_long, within_reach, standby_in_lem, x_range, y_range, n_range, best_key, wanted_as_main, wanted_as_standby, main_somewhere, standby_somewhere, best_is_pair, place, main_place, main_early}

-- ---- the numbers read off a key

pub key_parts : {key : ℕ} (r : Readable key) → (shared_of key ≡ r.shared) × (total_of key ≡ r.main + r.standby) × (main_of key ≡ r.main)
key_parts r =
    let p = pair_key_parts r.shared r.main r.standby r.main_range r.standby_range in
    (ap shared_of r.is ∙ p.0, ap total_of r.is ∙ p.1, ap main_of r.is ∙ p.2)

-- the key of a step's best pair
pub step_readable : (only : Bool) (m : Mesh) → Regular m → m.reach ≤ most_reach → {key j : ℕ} → OfStep (judges m only) (ranking m) key j → Readable key
step_readable only m regular near {key} {j} o =
    let b = best (judges m only) (ranking m) j in
    record {
      shared = shared_count b;
      main = b.main.metres;
      standby = b.standby.metres;
      shared_range = n_range only m regular near o;
      main_range = x_range only m regular near o;
      standby_range = y_range only m regular near o;
      is = best_key only m regular near o;
    }

-- of a main nothing need be sure
pub sure_main : (m : Mesh) (metres key : ℕ) → Sure m (record { metres = metres; key = key; role = Main nothing_barred })
sure_main m metres key = record { in_reach = λ z. absurd z; least = λ main off z. cc }

module _ {key : ℕ} (n : Numbers) (read : ReadOff key n) where
  abbrev pub want_main : Want
  want_main = record { metres = n.main; key = n.key; role = Main nothing_barred }

  abbrev pub want_standby : Exposure → Barred → Want
  want_standby e off = record { metres = n.standby; key = n.key; role = Standby e off }

  -- ---- what is looked for is no longer and no larger than anything that is found

  module _ (r : Readable key) where
    main_read : n.main ≡ r.main
    main_read = read.main_is ∙ (key_parts r).2

    standby_read : n.standby ≡ r.standby
    standby_read = omega (arith, read.standby_is, (key_parts r).1, (key_parts r).2)

    key_read : n.key ≡ standby_key r.shared r.standby
    key_read = read.key_is ∙ ap₂ standby_key (key_parts r).0 standby_read

    key_small : n.key < no_standby
    key_small = standby_below (record { shared = _; metres = _; shared_range = r.shared_range; metres_range = r.standby_range; is = key_read })

    pub main_in_range : InRange want_main
    main_in_range = record { metres_range = omega (arith, main_read, r.main_range); key_range = key_small }

    pub standby_in_range : (e : Exposure) (off : Barred) → InRange (want_standby e off)
    standby_in_range e off = record { metres_range = omega (arith, standby_read, r.standby_range); key_range = key_small }

  -- ---- what is found

  module _ (only : Bool) (m : Mesh) (regular : Regular m) (near : m.reach ≤ most_reach) {j : ℕ} (o : OfStep (judges m only) (ranking m) key j) where
    abbrev b : Pair
    b = best (judges m only) (ranking m) j

    abbrev readable : Readable key
    readable = step_readable only m regular near o

    same_main : want_main ≡ wanted_as_main only m regular near o
    unfolding step_readable
    same_main = ap₂ (λ (x y : ℕ). record { metres = x; key = y; role = Main nothing_barred }) (main_read readable) (key_read readable)

    module _ {result : Result Found ℕ} (of_main : OutcomeOverAll only m want_main result) where
      outcome_main : OutcomeOverAll only m (wanted_as_main only m regular near o) result
      outcome_main = subst (λ (w : Want). OutcomeOverAll only m w result) same_main of_main

      -- the main is found
      pub main_some : IsOk result
      main_some = go outcome_main
        where
          go : {r : Result Found ℕ} → OutcomeOverAll only m (wanted_as_main only m regular near o) r → IsOk r
          go (Outcome.first f u p r) = refl
          go (Outcome.nowhere no_main p q) = absurd (main_somewhere only m regular near o no_main)

      record MainFound (u : Found) : Type 0 where
        first : First only m (wanted_as_main only m regular near o) (unbarred m nothing_barred)
        passed_is : u.passed ≡ count_of m.arcs b.main.metres first.before
        route_is : route_in u.track ≡ route_of m.arcs first.ks

      main_found : (u : Found) → result ≡ Ok u → MainFound u
      main_found u is = go is outcome_main
        where
          go : {r : Result Found ℕ} → r ≡ Ok u → OutcomeOverAll only m (wanted_as_main only m regular near o) r → MainFound u
          go e (Outcome.first f v p r) =
              let same : v ≡ u = cc in
              record { first = f; passed_is = ap (λ (x : Found). x.passed) (sym same) ∙ p; route_is = ap (λ (x : Found). route_in x.track) (sym same) ∙ r }
          go e (Outcome.nowhere no_main p q) = absurd (main_somewhere only m regular near o no_main)

    module _ {result : Result Found ℕ} (of_main : OutcomeOverAll only m want_main result) (u : Found) (is : result ≡ Ok u) where
      found : MainFound of_main u
      found = main_found of_main u is

      abbrev f : First only m (wanted_as_main only m regular near o) (unbarred m nothing_barred)
      f = found.first

      -- with what the main bars
      module _ {barred : Barred} (bars : barred ≡ barred_by_list only m (route_in u.track).arcs) where
        same_standby : want_standby u.track.exposure barred ≡ wanted_as_standby only m regular near o f
        unfolding route_in route_of step_readable
        same_standby =
            wants (standby_read readable) (key_read readable) (ap (λ (r : Route). r.exposure) found.route_is) (bars ∙ ap (λ (r : Route). barred_by_list only m r.arcs) found.route_is)
          where
            wants : {x x' y y' : ℕ} {e e' : Exposure} {f f' : Barred} → x ≡ x' → y ≡ y' → e ≡ e' → f ≡ f'
                → ◌≡◌ {A = Want} (record { metres = x; key = y; role = Standby e f }) (record { metres = x'; key = y'; role = Standby e' f' })
            wants p q r s = cc

        -- the main passed its test: no standby of it that keeps off what it bars, and no way, has a smaller key
        sure_standby : Sure m (wanted_as_standby only m regular near o f)
        unfolding is_wanted
        sure_standby = record {
          in_reach = λ z. within_reach only m regular near (standby_in_lem only m regular near o);
          least = λ main off z.
              let same : ◌≡◌ {A = Exposure × Barred} ((route_of m.arcs f.ks).exposure, barred_by_list only m f.ks) (main, off) = cc in
              subst (λ (r : Exposure × Barred). NoneBelow (quest m r.0 r.1) best_standby_key) same least_here;
        }
          where
            best_standby_key : ℕ
            best_standby_key = standby_key (shared_count b) b.standby.metres

            least_here : NoneBelow (quest m (route_of m.arcs f.ks).exposure (barred_by_list only m f.ks)) best_standby_key
            least_here =
                subst (λ (e : Exposure). NoneBelow (quest m e (barred_by_list only m f.ks)) best_standby_key) (end_exposure m nothing_barred f.ks)
                (least_below m regular.heads regular.ends_differ _ (barred_by_list only m f.ks) (best_standby_key + 1) (eqb-true _ best_standby_key f.passes))

        -- and the standby is found
        module _ {result' : Result Found ℕ} (of_standby : Sure m (want_standby u.track.exposure barred) → OutcomeOverAll only m (want_standby u.track.exposure barred) result') where
          outcome_standby : OutcomeOverAll only m (wanted_as_standby only m regular near o f) result'
          outcome_standby = subst (λ (w : Want). OutcomeOverAll only m w result') same_standby (of_standby (subst (λ (w : Want). Sure m w) (sym same_standby) sure_standby))

          pub standby_some : IsOk result'
          standby_some = go outcome_standby
            where
              go : {r : Result Found ℕ} → OutcomeOverAll only m (wanted_as_standby only m regular near o f) r → IsOk r
              go (Outcome.first g s p r) = refl
              go (Outcome.nowhere none_passes p q) = absurd (standby_somewhere only m regular near o f none_passes)

          module _ (s : Found) (standby_is : result' ≡ Ok s) where
            -- the two routes are the best pair
            pair_found : pair_in u.track s.track ≡ b
            pair_found = go standby_is outcome_standby
              where
                go : {r : Result Found ℕ} → r ≡ Ok s → OutcomeOverAll only m (wanted_as_standby only m regular near o f) r → pair_in u.track s.track ≡ b
                go e (Outcome.first g v p r) =
                    let same : v ≡ s = cc in
                    ap₂ (λ (x y : Route). pair x y) found.route_is (ap (λ (x : Found). route_in x.track) (sym same) ∙ r) ∙ sym (best_is_pair only m regular near o f g)
                go e (Outcome.nowhere none_passes p q) = absurd (standby_somewhere only m regular near o f none_passes)

            -- the main's place, within what is counted
            passed_all : u.passed ≡ length (keep (as_long m.arcs b.main.metres) f.before)
            passed_all = omega (arith, found.passed_is, main_early only m regular near o f, o.few)

            metres_is : u.track.metres ≡ b.main.metres
            unfolding route_in
            metres_is = ap (λ (p : Pair). p.main.metres) pair_found

            place_is : count (shorter u.track.metres) (ranking m) + u.passed ≡ place only m regular near o f
            place_is = ap₂ ◌+◌ (ap (λ (x : ℕ). count (shorter x) (ranking m)) metres_is) passed_all

            pub best_found : BestOf (judges m only) (ranking m) j (record { main = u.track; standby = s.track; passed = u.passed })
            best_found =
                record {
                  pair_is = pair_found;
                  place_is = ap (λ (k : ℕ). get_or (ranking m) k no_route) place_is ∙ main_place only m regular near o f ∙ sym found.route_is;
                  early = omega (arith, place_is, main_early only m regular near o f);
                }
