-- A search written to: what is wanted stays, an arc put down goes in front of those found, and nothing is found where none is put down. Assumes nothing.
use Rattle.std.proofs.lemmas.List.{reverse-append, take_more_set}
use mathlib.Core.Path.{◌≡◌, refl, sym, ap, ◌∙◌}
use mathlib.Core.Logic.{◌⊎◌, inl, inr}
use mathlib.Core.Bool.{Bool, true, false}
use mathlib.Core.List.Memᴰ
use mathlib.Core.List.{List, [], ◌∷◌, Memᴰ}
use Prim.Native.Nat.{ℕ, suc, ◌+◌, ◌≤◌, ◌<◌, min}
use native.Mathlib.Omega.{arith}
use lib.ListN.{length, take, set}
use Rattle.std.specs.Prelude.{reverse}
use borrow.Author.Tests.{lt-ltb, le-ltb}
use Rattle.problem.specs.declared.Arc.{Arc}
use Rattle.problem.specs.Table.{most_allowance}
use Rattle.problem.specs.Routes.{Mesh, Route, route_of}
use Rattle.net.specs.declared.Net.{Net}
use Rattle.net.specs.declared.Behind.{Behind}
use Rattle.net.specs.Net.{arcs_in, mesh_in}
use Rattle.bars.specs.declared.Barred.{Barred}
use Rattle.find.specs.declared.Role.TheVariants.{Main}
use Rattle.find.specs.declared.Run.{Run}
use Rattle.find.specs.Find.{IsStandby, is_wanted, Sought}
use Rattle.find.specs.Run.{arcs_found, sought_so_far, UnderWay, PutDown, ArcsKnown, Meets}
use Rattle.find.proofs.SeekLaws.{meet_other, meet_standby, meet_wanted, meet_passed, in_front}

-- ---- an arc put down

pub put_written : (run : Run) (k : ℕ) → run.count < length run.arcs → PutDown k run (record { want = run.want; passed = run.passed; count = run.count + 1; arcs = set run.arcs run.count k })
unfolding arcs_found
put_written run k room =
    record {
      want_same = refl;
      passed_same = refl;
      one_more = refl;
      put_in_front = ap reverse (take_more_set run.arcs run.count k room) ∙ reverse-append (take run.count run.arcs) (k ∷ []);
    }

-- ---- what is found then

none_found : (run : Run) → run.count ≡ 0 → arcs_found run ≡ []
unfolding arcs_found
none_found run e = ap (λ (n : ℕ). reverse (take n run.arcs)) e

module _ (m : Mesh) {run run' : Run} {k : ℕ} (p : PutDown k run run') where
  put_found : sought_so_far m.arcs run' ≡ record { found = true; passed = run.passed; route = route_of m.arcs (k ∷ arcs_found run) }
  unfolding arcs_found
  put_found = rw (p.passed_same, lt-ltb 0 run'.count (omega (arith, p.one_more))) (ap (λ (l : List ℕ). record { found = true; passed = run.passed; route = route_of m.arcs l }) p.put_in_front)

  put_first : run.count ≡ 0 → sought_so_far m.arcs run' ≡ record { found = true; passed = run.passed; route = route_of m.arcs (k ∷ []) }
  put_first e = put_found ∙ ap (λ (l : List ℕ). record { found = true; passed = run.passed; route = route_of m.arcs (k ∷ l) }) (none_found run e)

  pub put_in_front : 0 < run.count → sought_so_far m.arcs run' ≡ in_front m k (sought_so_far m.arcs run)
  unfolding in_front route_of
  put_in_front h = put_found ∙ rw (lt-ltb 0 run.count h, in_front)

-- where nothing is found, nothing goes in front
pub none_in_front : (m : Mesh) (k : ℕ) (run : Run) → run.count ≡ 0 → sought_so_far m.arcs run ≡ in_front m k (sought_so_far m.arcs run)
unfolding in_front
none_in_front m k run e = rw (le-ltb 0 run.count (omega arith), in_front)

-- ---- what is put down

pub known_none : (net : Net) (run : Run) (most : ℕ) → run.count ≡ 0 → ArcsKnown net run most
known_none net run most e = record { few = omega arith; inside = λ k x. absurd (Memᴰ.not-nil (rw (none_found run e) at x)) }

pub known_most : {net : Net} {run : Run} {n most : ℕ} → ArcsKnown net run n → n ≤ most → ArcsKnown net run most
known_most l h = record { few = omega (arith, l.few); inside = l.inside }

pub known_more : {net : Net} {run run' : Run} {k n : ℕ} → PutDown k run run' → ArcsKnown net run n → k < length (arcs_in net) → ArcsKnown net run' (suc n)
known_more {net} {run} {run'} {k} {n} p l inside = record { few = omega (arith, p.one_more, l.few); inside = λ j x. go j (Memᴰ.cases_cons (rw p.put_in_front at x)) }
  where
    go : (j : ℕ) → (j ≡ k) ⊎ Memᴰ j (arcs_found run) → j < length (arcs_in net)
    go j (inl e) = omega arith
    go j (inr x) = l.inside j x

-- ---- a route's end

pub none_so_far : (arcs : List Arc) (run : Run) → run.count ≡ 0 → sought_so_far arcs run ≡ record { found = false; passed = run.passed; route = route_of arcs [] }
none_so_far arcs run e = rw (le-ltb 0 run.count (omega arith)) (ap (λ (l : List ℕ). record { found = false; passed = run.passed; route = route_of arcs l }) (none_found run e))

-- arc k ends a route that is the wanted one, or is not, by the test b of what is wanted
module _ (net : Net) (k : ℕ) (route : Behind) {run : Run} (u : UnderWay run) where
  abbrev only : Bool
  only = net.apart

  abbrev m : Mesh
  m = mesh_in net

  abbrev so_far : Sought
  so_far = sought_so_far (arcs_in net) run

  open_yet : so_far.found ≡ false
  open_yet = le-ltb 0 run.count (omega (arith, u.none_yet))

  pub met_other : (route.metres ≡ run.want.metres → ⊥) → Meets net k route run run
  met_other ne =
      record { want_same = refl; known = known_none net run 1 u.none_yet; sought = sym (meet_other only m run.want so_far route k (k ∷ []) ne) }

  module _ {b : Bool} (test : b ≡ is_wanted net.apart (mesh_in net) run.want route k) where
    pub met_standby : IsStandby run.want.role → b ≡ false → Meets net k route run run
    met_standby standby fails =
        record { want_same = refl; known = known_none net run 1 u.none_yet; sought = sym (meet_standby only m run.want so_far route k (k ∷ []) standby (λ e. sym test ∙ fails)) }

    module _ (same : route.metres ≡ run.want.metres) where
      pub met_wanted : b ≡ true → k < length (arcs_in net) → {run' : Run} → PutDown k run run' → Meets net k route run run'
      met_wanted passes inside p =
          record {
            want_same = p.want_same;
            known = known_more p (known_none net run 0 u.none_yet) inside;
            sought = put_first m p u.none_yet ∙ sym (meet_wanted only m run.want so_far route k (k ∷ []) open_yet same (sym test ∙ passes));
          }

      pub met_passed : {off : Barred} → run.want.role ≡ Main off → b ≡ false → {p : ℕ} → p ≡ min (run.passed + 1) most_allowance
          → Meets net k route run (record { want = run.want; passed = p; count = run.count; arcs = run.arcs })
      unfolding arcs_found
      met_passed main fails {p} q =
          let after : Run = record { want = run.want; passed = p; count = run.count; arcs = run.arcs } in
          record {
            want_same = refl;
            known = known_none net after 1 u.none_yet;
            sought =
                none_so_far (arcs_in net) after u.none_yet
                ∙ ap (λ (r : Route). record { found = false; passed = p; route = r }) (ap (route_of (arcs_in net)) (sym (none_found run u.none_yet)))
                ∙ sym (meet_passed only m run.want so_far route k (k ∷ []) open_yet same main (sym test ∙ fails) q);
          }
