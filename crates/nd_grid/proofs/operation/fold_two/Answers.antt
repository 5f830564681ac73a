use Rattle.std.proofs.Common.{w64}
use Rattle.std.proofs.lemmas.Int.{wrapping_add_is}
use Rattle.nd_grid.proofs.operation.fold_two.Goals as goal

pub returns-in-Sum : goal.returns-in-Sum
returns-in-Sum c = rw c.in-Sum.is (wrapping_add_is w64 c.args.a c.args.b c.ranges.a c.ranges.b)
