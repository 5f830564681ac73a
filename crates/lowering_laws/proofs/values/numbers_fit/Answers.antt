use Rattle.lowering_laws.proofs.Numbers.{built-more}
use Rattle.lowering_laws.proofs.values.numbers_fit.Goals as goal

pub loop-node-preserved : goal.loop-node-preserved
loop-node-preserved c = built-more c.args.nodes.now c.loop-node.node-index c.node-item.result c.node-item.is c.loop-node-test.true c.number_fits.ensures c.loop-node.invariant
