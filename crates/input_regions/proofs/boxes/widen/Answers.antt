use Rattle.input_regions.proofs.Widened.{widens-at}
use Rattle.input_regions.proofs.boxes.widen.Goals as goal

pub returns : goal.returns
returns c = widens-at c.args.needs.now c.args.of c.number-at.result c.args.index.now c.widened-region.result c.index-needs-at.result c.number-at.ensures c.requires.there c.requires.full c.widened-region.ensures
