-- `standby::look` meets its contract: each return is one kind of arc, by the tests that led there; what was read are the arc's own fields,
-- the lower bound is that of its head, and what is carried over it is true. Assumes nothing.
use mathlib.Core.Path.{◌≡◌, refl, sym, ap, ap₂, ◌∙◌}
use Prim.Native.Nat.{ℕ, ◌+◌, ◌≤◌, ◌<◌, max}
use native.Mathlib.Omega.{arith}
use Rattle.laws.specs.Sets.{bit}
use Rattle.problem.specs.declared.Arc.{Arc}
use Rattle.problem.specs.declared.Exposure.{Exposure}
use Rattle.problem.specs.Exposures.{of_arc, joined, sharing}
use Rattle.problem.specs.Routes.{arc_at}
use Rattle.keys.specs.Keys.{standby_key}
use Rattle.net.specs.declared.Net.{Net}
use Rattle.net.specs.declared.Behind.{Behind}
use Rattle.net.specs.Net.{arcs_in, mesh_in, lower_at}
use Rattle.net.proofs.SearchLaws.{has_met, has_not_met, onto_read}
use Rattle.standby.specs.declared.Hop.TheVariants.{Ends, Leads}
use Rattle.standby.specs.Standby.{key_over}
use Rattle.standby.specs.Trail.{behind_by}
use Rattle.standby.proofs.HopLaws.{Opens, hop_met, hop_far, hop_no_better, hop_barred, hop_ends, hop_leads}
use Rattle.standby.proofs.look.Given.{Over}
use Rattle.standby.proofs.look.Goals.{After-standby_key-key}
use Rattle.standby.proofs.look.Goals as goal

length_is : (net : Net) (a : Arc) (metres : ℕ) {head own low : ℕ} → head ≡ a.head → own ≡ a.metres → low ≡ lower_at net head
    → metres + own + low ≡ metres + a.metres + lower_at net a.head
length_is net a metres h o l = ap₂ (λ (x y : ℕ). metres + x + y) o (l ∙ ap (λ (v : ℕ). lower_at net v) h)

-- ---- where the key is known

module _ (g : Over) (c : After-standby_key-key g) where
  abbrev net : Net
  net = c.args.net.now

  abbrev arc : Arc
  arc = arc_at (arcs_in net) c.args.i

  abbrev lower : ℕ
  lower = lower_at net arc.head

  abbrev passed : Behind
  passed = behind_by g.C.Carried.exposed_to c.args.trail.now

  abbrev main : Exposure
  main = c.args.main.now.exposure

  abbrev door : ℕ
  door = c.args.main.now.door

  abbrev last : ℕ
  last = c.args.main.now.last

  new : bit passed.met arc.head ≡ 0
  new = has_not_met passed.met c.head-head.ensures.0 c.has.ensures c.if-has.false

  -- what the main shares once the arc lies behind it
  shared_is : c.shared_over-shared.result ≡ sharing main (joined passed.exposure (of_arc arc))
  shared_is = c.shared_over-shared.ensures.is

  to_is : passed.metres + c.metres.result + c.lower.result ≡ passed.metres + arc.metres + lower
  to_is = length_is net arc passed.metres c.head-head.ensures.0 c.metres.ensures.0 c.lower.ensures.0

  key_is : c.standby_key-key.result ≡ key_over lower main door passed arc
  key_is = c.standby_key-key.ensures ∙ ap₂ standby_key (c.max.ensures ∙ ap (max door) shared_is) to_is

  reached : passed.metres + arc.metres + lower ≤ (mesh_in net).reach
  reached = omega (arith, to_is, c.if-reach-to.false, c.reach.ensures.0)

  opens : c.standby_key-key.result < c.args.least → Opens (mesh_in net) lower main door last c.args.least passed c.args.i arc
  opens b = record { new = new; in_reach = reached; better = omega (arith, key_is) }

-- ---- what it says

pub returns-then-has-clause-is : goal.returns-then-has-clause-is
returns-then-has-clause-is g c =
    let main = c.args.main.now in
    let b = behind_by g.C.Carried.exposed_to c.args.trail.now in
    sym (hop_met _ _ main.exposure main.door main.last c.args.least b c.args.i _ (has_met b.met c.head-head.ensures.0 c.has.ensures c.if-has.true))

pub returns-then-reach-to-clause-is : goal.returns-then-reach-to-clause-is
returns-then-reach-to-clause-is g c =
    let main = c.args.main.now in
    let b = behind_by g.C.Carried.exposed_to c.args.trail.now in
    let a : Arc = arc_at (arcs_in c.args.net.now) c.args.i in
    let to = length_is c.args.net.now a b.metres c.head-head.ensures.0 c.metres.ensures.0 c.lower.ensures.0 in
    sym (hop_far (mesh_in c.args.net.now) (lower_at c.args.net.now a.head) main.exposure main.door main.last c.args.least b c.args.i a
    (has_not_met b.met c.head-head.ensures.0 c.has.ensures c.if-has.false) (omega (arith, to, c.if-reach-to.true, c.reach.ensures.0)))

pub returns-then-least-key-clause-is : goal.returns-then-least-key-clause-is
returns-then-least-key-clause-is g c =
    let k = (goal.at.returns-then-least-key-clause-is g c).After-standby_key-key in
    sym (hop_no_better (mesh_in (net g k)) (lower g k) (main g k) (door g k) (last g k) k.args.least (passed g k) k.args.i (arc g k) (new g k) (reached g k) (omega (arith, key_is g k, c.if-least-key.true)))

pub returns-then-i-main-clause-is : goal.returns-then-i-main-clause-is
returns-then-i-main-clause-is g c =
    let k = (goal.at.returns-then-i-main-clause-is g c).After-standby_key-key in
    sym (hop_barred (mesh_in (net g k)) (lower g k) (main g k) (door g k) (last g k) k.args.least (passed g k) k.args.i (arc g k) (opens g k c.if-least-key.false)
    (sym c.head-head.ensures.0 ∙ c.if-head-terminal.true ∙ c.terminal.ensures.0) c.if-i-main.true)

pub returns-then-head-terminal-clause-is : goal.returns-then-head-terminal-clause-is
returns-then-head-terminal-clause-is g c =
    let k = (goal.at.returns-then-head-terminal-clause-is g c).After-standby_key-key in
    ap Ends (key_is g k)
    ∙ sym (hop_ends (mesh_in (net g k)) (lower g k) (main g k) (door g k) (last g k) k.args.least (passed g k) k.args.i (arc g k) (opens g k c.if-least-key.false)
    (sym c.head-head.ensures.0 ∙ c.if-head-terminal.true ∙ c.terminal.ensures.0) c.if-i-main.false)

pub returns-clause-is : goal.returns-clause-is
returns-clause-is g c =
    let k = (goal.at.returns-clause-is g c).After-standby_key-key in
    let on = onto_read (passed g k) (arc g k) {r = of_arc (arc g k)} c.with.ensures c.head-head.ensures.0 c.metres.ensures.0 c.over.ensures.exposed refl in
    ap₂ Leads c.head-head.ensures.0 on
    ∙ sym (hop_leads (mesh_in (net g k)) (lower g k) (main g k) (door g k) (last g k) k.args.least (passed g k) k.args.i (arc g k) (opens g k c.if-least-key.false)
    (λ e. c.if-head-terminal.false (c.head-head.ensures.0 ∙ e ∙ sym c.terminal.ensures.0)))
