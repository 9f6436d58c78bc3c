-- `choose::pair_by` meets its contract: the numbers read off the key say which two routes to look for, the second off what the first bars; some step has the key, so
-- both are found, and are the best pair of each step that has it (`best_found`). Assumes nothing.
use Prim.Native.Nat.{ℕ}
use Rattle.net.specs.declared.Net.{Net}
use Rattle.net.specs.Net.{IsNet, mesh_in, routes_in, judged_in}
use Rattle.bars.proofs.BarsLaws.{net_regular}
use Rattle.choose.specs.Choose.{Readable, OfStep}
use Rattle.choose.proofs.PairingLaws.{step_readable, main_in_range, standby_in_range, sure_main, main_some, standby_some, best_found}
use Rattle.choose.proofs.pair_by.Goals as goal

readable : (net : Net) → IsNet net → {key step : ℕ} → OfStep (judged_in net) (routes_in net) key step → Readable key
readable net words = step_readable net.apart (mesh_in net) (net_regular net words) words.reach_range

pub read_off-n-requires : goal.read_off-n-requires
read_off-n-requires c = readable c.args.net.now c.requires.words.0 c.requires.of_step.1

pub first_route-requires : goal.first_route-requires
first_route-requires c =
    let z = c.requires.words in
    (z.0, z.1, rw c.nothing.ensures (main_in_range c.read_off-n.result c.read_off-n.ensures (readable c.args.net.now z.0 c.requires.of_step.1)))

pub unwrap-main-requires : goal.unwrap-main-requires
unwrap-main-requires c =
    let z = c.requires.words.0 in
    main_some c.read_off-n.result c.read_off-n.ensures _ _ (net_regular c.args.net.now z) z.reach_range c.requires.of_step.1 ((rw c.nothing.ensures at c.first_route.ensures.first) (sure_main _ _ _))

pub first_route-requires-2 : goal.first_route-requires-2
first_route-requires-2 c =
    let z = c.requires.words.0 in
    let r = readable c.args.net.now z c.requires.of_step.1 in
    (z, c.first_route.ensures.stored, standby_in_range c.read_off-n.result c.read_off-n.ensures r c.unwrap-main.result.track.exposure c.barred_by.result)

pub unwrap-standby-requires : goal.unwrap-standby-requires
unwrap-standby-requires c =
    let z = c.requires.words.0 in
    standby_some c.read_off-n.result c.read_off-n.ensures _ _ (net_regular c.args.net.now z) z.reach_range c.requires.of_step.1 ((rw c.nothing.ensures at c.first_route.ensures.first) (sure_main _ _ _))
    c.unwrap-main.result c.unwrap-main.ensures c.barred_by.ensures c.first_route-2.ensures.first

pub returns-clause-pair : goal.returns-clause-pair
returns-clause-pair c =
    let z = c.requires.words.0 in record {
      main_fit = rw c.unwrap-main.ensures at c.first_route.ensures.fit;
      standby_fit = rw c.unwrap-standby.ensures at c.first_route-2.ensures.fit;
      best_of = λ step.
          best_found c.read_off-n.result c.read_off-n.ensures _ _ (net_regular c.args.net.now z) z.reach_range step ((rw c.nothing.ensures at c.first_route.ensures.first) (sure_main _ _ _))
          c.unwrap-main.result c.unwrap-main.ensures c.barred_by.ensures c.first_route-2.ensures.first
          c.unwrap-standby.result c.unwrap-standby.ensures;
    }
