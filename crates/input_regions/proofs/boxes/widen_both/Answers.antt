use Rattle.input_regions.specs.Needed.{region_at}
use Rattle.input_regions.proofs.Widened.{one-full, both-widened}
use Rattle.input_regions.proofs.boxes.widen_both.Goals as goal

pub widen-requires-2-clause-full : goal.widen-requires-2-clause-full
widen-requires-2-clause-full c = one-full c.args.of c.args.first.now (region_at c.args.needs.now c.args.of) c.args.needs.now c.widen.new.needs c.requires.full c.requires.first c.widen.ensures

pub returns : goal.returns
returns c = both-widened c.args.of c.args.first.now c.args.last.now c.args.needs.now c.widen.new.needs c.widen-2.new.needs c.widen.ensures c.widen-2.ensures
