use Rattle.block_lowering.proofs.Within.{refuses-limit}
use Rattle.block_lowering.proofs.growing.push_task.Goals as goal

pub returns-in-Err-Limit-clause-err : goal.returns-in-Err-Limit-clause-err
returns-in-Err-Limit-clause-err c =
    let h = rw c.in-Err-Limit.field-0-is at c.in-Err-Limit.ensures in
    refuses-limit c.args.graph.now c.args.task c.in-Err-Limit.quantity c.sound.ensures h.0
