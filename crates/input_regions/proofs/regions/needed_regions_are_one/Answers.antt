use Rattle.input_regions.proofs.Asked.{needed-one}
use Rattle.input_regions.proofs.regions.needed_regions_are_one.Goals as goal

pub returns : goal.returns
returns c = λ some other a b. needed-one c.args.expr.now c.args.node c.args.region.now some other c.nodes.ensures.sound a b
