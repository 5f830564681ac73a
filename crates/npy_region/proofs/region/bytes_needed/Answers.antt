use Rattle.std.proofs.Common.{◌<◌, arith}
use Rattle.npy_region.proofs.RegionLemmas.{needs_none, needs_some, some_last}
use Rattle.npy_region.proofs.region.bytes_needed.Goals as goal

pub returns-then-count-eq0-clause-needed : goal.returns-then-count-eq0-clause-needed
returns-then-count-eq0-clause-needed c = needs_none c.args.head.now c.args.region.now c.args.walk.now c.len-count.result c.requires.walk c.len-count.ensures.count c.if-count-eq0.true

pub returns-clause-needed : goal.returns-clause-needed
returns-clause-needed c =
    let some : 0 < c.len-count.result = omega arith in
    needs_some c.args.head.now c.args.region.now c.args.walk.now c.len-count.result c.place.result c.requires.part c.requires.walk c.len-count.ensures.count some c.place.ensures.place

pub returns-clause-last : goal.returns-clause-last
returns-clause-last c = λ q h. some_last c.args.head.now c.args.region.now c.args.walk.now c.len-count.result c.place.result q c.requires.part c.requires.walk c.len-count.ensures.count c.place.ensures.place h
