-- `look::look` meets its contract: each return is one kind of arc, by the tests that led there; what was read are the arc's own fields,
-- and the lower bound is that of its head. Assumes nothing.
use mathlib.Core.Path.{◌≡◌, sym, ap, ap₂, ◌∙◌}
use Prim.Native.Nat.{ℕ, ◌+◌}
use native.Mathlib.Omega.{arith}
use Rattle.laws.specs.Sets.{bit}
use Rattle.problem.specs.declared.Arc.{Arc}
use Rattle.problem.specs.Routes.{arc_at}
use Rattle.net.specs.declared.Net.{Net}
use Rattle.net.specs.declared.Behind.{Behind}
use Rattle.net.specs.Net.{arcs_in, mesh_in, lower_at}
use Rattle.net.specs.Search.{behind}
use Rattle.net.proofs.SearchLaws.{has_met, has_not_met, onto_read}
use Rattle.look.specs.declared.Leg.TheVariants.{Past, Ends, Leads}
use Rattle.look.proofs.LookLaws.{leg_met, leg_past, leg_ends, leg_leads}
use Rattle.look.proofs.look.Goals.{After-lower}
use Rattle.look.proofs.look.Goals as goal

-- ---- what was read, once the lower bound of the head is

abbrev net : After-lower → Net
net c = c.args.net.now

abbrev arc : After-lower → Arc
arc c = arc_at (arcs_in (net c)) c.args.i

abbrev lower : After-lower → ℕ
lower c = lower_at (net c) (arc c).head

abbrev passed : After-lower → Behind
passed c = behind c.args.met c.args.metres c.args.exposure

head_is : (c : After-lower) → c.head-head.result ≡ (arc c).head
head_is c = c.head-head.ensures.0

new : (c : After-lower) → bit c.args.met (arc c).head ≡ 0
new c = has_not_met c.args.met (head_is c) c.has.ensures c.if-has.false

length_is : (c : After-lower) → c.args.metres + c.metres.result + c.lower.result ≡ c.args.metres + (arc c).metres + lower c
length_is c =
    ap₂ (λ (x y : ℕ). c.args.metres + x + y) c.metres.ensures.0
    (c.lower.ensures.0 ∙ ap (λ (v : ℕ). lower_at (net c) v) (head_is c))

-- ---- what it says

pub returns-then-has : goal.returns-then-has
returns-then-has c =
    sym (leg_met _ c.args.hi _ (behind c.args.met c.args.metres c.args.exposure) _
    (has_met c.args.met c.head-head.ensures.0 c.has.ensures c.if-has.true))

pub returns-then-hi-to : goal.returns-then-hi-to
returns-then-hi-to c =
    let l = (goal.at.returns-then-hi-to c).After-lower in
    ap Past (length_is l) ∙ sym (leg_past (mesh_in (net l)).terminal l.args.hi (lower l) (passed l) (arc l) (new l) (omega (arith, length_is l, c.if-hi-to.true)))

pub returns-then-head-terminal : goal.returns-then-head-terminal
returns-then-head-terminal c =
    let l = (goal.at.returns-then-head-terminal c).After-lower in
    ap Ends (onto_read (passed l) (arc l) c.with.ensures (head_is l) l.metres.ensures.0 c.joined-joined.ensures c.exposure.ensures)
    ∙ sym (leg_ends (mesh_in (net l)).terminal l.args.hi (lower l) (passed l) (arc l) (new l) (omega (arith, length_is l, c.if-hi-to.false))
    (sym (head_is l) ∙ c.if-head-terminal.true ∙ c.terminal.ensures.0))

pub returns : goal.returns
returns c =
    let l = (goal.at.returns c).After-lower in
    ap₂ Leads (head_is l) (onto_read (passed l) (arc l) c.with.ensures (head_is l) l.metres.ensures.0 c.joined-joined.ensures c.exposure.ensures)
    ∙ sym (leg_leads (mesh_in (net l)).terminal l.args.hi (lower l) (passed l) (arc l) (new l) (omega (arith, length_is l, c.if-hi-to.false))
    (λ e. c.if-head-terminal.false (head_is l ∙ e ∙ sym c.terminal.ensures.0)))
