use Rattle.std.proofs.Common.{◌<◌, length, arith}
use Rattle.task_graph.specs.Orders.{position}
use Rattle.block_lowering.proofs.Finishing.{map-push}
use Rattle.block_lowering.proofs.finish.numbers_now.Goals as goal

pub loop-key-preserved : goal.loop-key-preserved
loop-key-preserved c =
    let lt : c.loop-key.key-index < length c.args.keys.now = omega arith in
    map-push (position c.args.numbers.now.order) c.args.keys.now c.loop-key.key-index 0 c.loop-key.new.items c.push.new.self.items c.number_now.result lt c.loop-key.invariant c.in_ok-push.ensures.items c.number_now.ensures
