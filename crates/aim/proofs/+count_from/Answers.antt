-- `aim::count_from` meets its contract: whatever kind of arc was looked at, the count goes on to the next arc of the chain. Assumes nothing.
use Rattle.std.proofs.Common.{arith, ℕ, ◌-◌, ◌<◌, ◌≡◌, length, sym, ap, ◌∙◌}
use Rattle.laws.specs.Sets.{unmet}
use Rattle.problem.specs.declared.Exposure.{Exposure}
use Rattle.problem.specs.Exposures.{to_nothing}
use Rattle.net.specs.declared.Behind.{Behind}
use Rattle.net.specs.Net.{arcs_in}
use Rattle.net.specs.Search.{behind}
use Rattle.look.specs.declared.Leg.TheVariants.{Leads}
use Rattle.look.specs.Look.{leg_at}
use Rattle.sweep.specs.Sweep.{Sweeping}
use Rattle.aim.proofs.AimLaws.{Stands, stands_first, stands_next, next_further, leads_ready}
use Rattle.aim.proofs.+count_from.Goals.{After-next-i, After-look}
use Rattle.aim.proofs.+count_from.Goals as goal

-- the arc is one of the table's
inside : (t : ℕ) (c : After-next-i t) → c.loop-i.i < length (arcs_in c.args.net.now)
inside t c = omega (arith, c.loop-i.invariant.0, c.loop-i-test.true)

-- the arcs ahead get fewer
fewer_ahead : (t : ℕ) (c : After-next-i t) → c.arc_count-n.result - c.next-i.result < c.arc_count-n.result - c.loop-i.i
fewer_ahead t c =
    omega (arith, c.loop-i-test.true, c.next-i.ensures, next_further c.args.net.now c.requires.words (behind c.args.met c.args.metres to_nothing) c.args.at c.loop-i.invariant.1 (inside t c))

-- on to the next arc
on : (t : ℕ) (c : After-next-i t)
    → (c.arc_count-n.result ≡ length (arcs_in c.args.net.now)) × Stands c.args.net.now (behind c.args.met c.args.metres to_nothing) c.args.at c.next-i.result
on t c =
    (c.loop-i.invariant.0, rw c.next-i.ensures (stands_next c.args.net.now c.requires.words (behind c.args.met c.args.metres to_nothing) c.args.at c.loop-i.invariant.1 (inside t c)))

-- from an arc's head
ahead : (t : ℕ) (c : After-look t) {h : ℕ} {e : Behind} → c.look.result ≡ Leads h e
    → Sweeping c.args.net.now c.args.hi h e.metres × (unmet 32 e.met < unmet 32 c.args.met)
ahead t c q =
    leads_ready c.args.net.now c.requires.words (behind c.args.met c.args.metres to_nothing) c.args.at c.loop-i.invariant.1
    (omega (arith, c.loop-i.invariant.0, c.loop-i-test.true)) c.requires
    (ap (λ (x : Exposure). leg_at c.args.net.now c.args.hi (behind c.args.met c.args.metres x) c.loop-i.i) (sym c.nothing.ensures) ∙ sym c.look.ensures ∙ q)

pub loop-i-init : goal.loop-i-init
loop-i-init t c =
    (c.arc_count-n.ensures, rw c.first-i.ensures (stands_first c.args.net.now c.requires.words (behind c.args.met c.args.metres to_nothing) c.args.at c.requires.node))

pub loop-i-smaller-in-Met : goal.loop-i-smaller-in-Met
loop-i-smaller-in-Met t c = fewer_ahead t (goal.at.loop-i-smaller-in-Met t c).After-next-i

pub loop-i-preserved-in-Met : goal.loop-i-preserved-in-Met
loop-i-preserved-in-Met t c = on t (goal.at.loop-i-preserved-in-Met t c).After-next-i

pub loop-i-smaller-in-Ends : goal.loop-i-smaller-in-Ends
loop-i-smaller-in-Ends t c = fewer_ahead t (goal.at.loop-i-smaller-in-Ends t c).After-next-i

pub loop-i-preserved-in-Ends : goal.loop-i-preserved-in-Ends
loop-i-preserved-in-Ends t c = on t (goal.at.loop-i-preserved-in-Ends t c).After-next-i

pub count_from-requires : goal.count_from-requires
count_from-requires t c =
    let o = ahead t (goal.at.count_from-requires t c).After-look c.in-Leads.is in
    (omega (arith, c.decreases, o.1), o.0)

pub loop-i-smaller : goal.loop-i-smaller
loop-i-smaller t c = fewer_ahead t (goal.at.loop-i-smaller t c).After-next-i

pub loop-i-preserved : goal.loop-i-preserved
loop-i-preserved t c = on t (goal.at.loop-i-preserved t c).After-next-i
