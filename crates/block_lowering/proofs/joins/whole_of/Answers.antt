use Rattle.block_lowering.proofs.JoinedSteps.{whole-is}
use Rattle.block_lowering.proofs.joins.whole_of.Goals as goal

pub returns : goal.returns
returns c = whole-is c.args.shape.now c.dims-dims.result.now c.whole.result c.whole-2.result c.dims-dims.ensures.dims c.whole.ensures c.whole-2.ensures
