use Rattle.cluster_rules.specs.World.{open_ask}
use Rattle.std.proofs.Common.{Some, None}
use Rattle.cluster_rules.specs.World.{is_asker}
use Rattle.cluster_world.specs.Worlds.{world}
use Rattle.cluster_world.proofs.Acting as acting
use Rattle.cluster_world.proofs.state.State.fail_gather.Goals as goal

pub ask_number-requires : goal.ask_number-requires
ask_number-requires g c = c.requires.joint

pub fail_ask-requires : goal.fail_ask-requires
fail_ask-requires g c =
    let a = (acting.can_fail c.args.self.now c.requires.joint c.args.asker c.args.peer c.requires.possible).0 in record { joint = c.requires.joint; room = c.requires.room; there = a; ask = acting.under (is_asker (world c.args.self.now) c.args.asker) _ (Some c.in-Some.ask) c.in-Some.ensures a }

pub returns-in-Some : goal.returns-in-Some
returns-in-Some g c = c.fail_ask.ensures

pub returns-in-None : goal.returns-in-None
returns-in-None g c =
    let a = acting.can_fail c.args.self.now c.requires.joint c.args.asker c.args.peer c.requires.possible in acting.is_none_there (open_ask (world c.args.self.now) c.args.asker c.args.peer) (acting.none_under (open_ask (world c.args.self.now) c.args.asker c.args.peer) (acting.under (is_asker (world c.args.self.now) c.args.asker) _ None c.in-None.ensures a.0)) a.1
