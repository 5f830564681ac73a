use Rattle.std.proofs.Common.{length}
use Rattle.block_kernels.proofs.Divisors.{quotient-refused}
use Rattle.block_kernels.proofs.binary.fill_quotients.Goals as goal

pub returns-in-Some-clause-some : goal.returns-in-Some-clause-some
returns-in-Some-clause-some c =
    quotient-refused c.args.left.cells.now c.args.left.single c.args.right.cells.now c.args.right.single (length c.args.out.now) c.in-Some.zero c.in-Some.ensures.inside c.in-Some.ensures.zero c.in-Some.ensures.first
