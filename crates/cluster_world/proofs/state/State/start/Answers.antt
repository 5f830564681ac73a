use Rattle.std.proofs.Common.{Some, None}
use Rattle.cluster_world.specs.Worlds.{world}
use Rattle.cluster_world.proofs.Acting as acting
use Rattle.cluster_world.proofs.state.State.start.Goals as goal

pub would_start-requires : goal.would_start-requires
would_start-requires g c = c.requires.joint.nodes

pub start_key-requires : goal.start_key-requires
start_key-requires g c =
    let a = (acting.can_start c.args.self.now c.requires.joint c.args.worker c.requires.possible).0 in record { joint = c.requires.joint; room = c.requires.room; alive = a; key = acting.under ((world c.args.self.now).alive c.args.worker) _ (Some c.in-Some.key) c.in-Some.ensures a }

pub returns-in-Some : goal.returns-in-Some
returns-in-Some g c = c.start_key.ensures

pub returns-in-None : goal.returns-in-None
returns-in-None g c =
    let a = acting.can_start c.args.self.now c.requires.joint c.args.worker c.requires.possible in acting.is_none_there _ (acting.under ((world c.args.self.now).alive c.args.worker) _ None c.in-None.ensures a.0) a.1
