use Rattle.std.proofs.Common.{None}
use Rattle.cluster_world.specs.Worlds.{cluster}
use Rattle.cluster_world.proofs.Acting as acting
use Rattle.cluster_world.proofs.Rows as row
use Rattle.cluster_world.proofs.Taking as taking
use Rattle.cluster_world.proofs.state.State.lose_spilled.Goals as goal

pub worker_turn-requires : goal.worker_turn-requires
worker_turn-requires g c =
    record { joint = c.requires.joint; alive = acting.can_lose_spilled c.args.self.now c.requires.joint c.args.worker c.args.key c.requires.possible; takes = taking.takes_lost c.args.self.now c.requires.joint c.args.worker c.args.key c.requires.possible; room = c.requires.room }

pub returns-clause-moved : goal.returns-clause-moved
returns-clause-moved g c =
    acting.on_turned c.args.self.now _ c.worker_turn.result _ _ (row.lose_spilled_is None (cluster c.args.self.now) c.requires.joint.tidy c.args.worker c.args.key) c.worker_turn.ensures.turned

pub returns-clause-kept : goal.returns-clause-kept
returns-clause-kept g c = c.worker_turn.ensures.kept
