use Rattle.std.proofs.Common.{refl}
use Rattle.cluster_world.specs.Worlds.{world}
use Rattle.cluster_sim.specs.Standing.{sim_of}
use Rattle.cluster_sim.proofs.ChooseLemmas.{unscripted_evicts, unscripted_balances, unscripted_turns}
use Rattle.cluster_sim.proofs.choose.unscripted.Goals as goal

pub returns-then-is_evicting-clause-next : goal.returns-then-is_evicting-clause-next
returns-then-is_evicting-clause-next g c p words b e t = unscripted_evicts words (sim_of p (world c.args.world.now) c.args.standing.now b) c.is_evicting.result (c.is_evicting.ensures.now p b) c.if-is_evicting.true

pub returns-then-is_evicting-clause-kind : goal.returns-then-is_evicting-clause-kind
returns-then-is_evicting-clause-kind g c d items = (refl, c.is_evicting.ensures.some c.if-is_evicting.true)

pub returns-then-is_balancing-clause-next : goal.returns-then-is_balancing-clause-next
returns-then-is_balancing-clause-next g c p words b e t = unscripted_balances words (sim_of p (world c.args.world.now) c.args.standing.now b) c.is_evicting.result c.is_balancing.result (c.is_evicting.ensures.now p b) c.if-is_evicting.false (c.is_balancing.ensures.now p b) c.if-is_balancing.true

pub returns-then-is_balancing-clause-kind : goal.returns-then-is_balancing-clause-kind
returns-then-is_balancing-clause-kind g c d items = (refl, c.is_balancing.ensures.some c.if-is_balancing.true)

pub returns-else-is_balancing-clause-next : goal.returns-else-is_balancing-clause-next
returns-else-is_balancing-clause-next g c p words b e t = unscripted_turns words (sim_of p (world c.args.world.now) c.args.standing.now b) c.is_evicting.result c.is_balancing.result _ (c.is_evicting.ensures.now p b) c.if-is_evicting.false (c.is_balancing.ensures.now p b) c.if-is_balancing.false (c.turn.ensures.next p words b e t)

pub returns-else-is_balancing-clause-kind : goal.returns-else-is_balancing-clause-kind
returns-else-is_balancing-clause-kind g c d items = c.turn.ensures.kind d _ items
