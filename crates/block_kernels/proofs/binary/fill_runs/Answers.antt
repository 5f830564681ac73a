use Rattle.std.proofs.Common.{Bool, subst}
use Rattle.block_kernels.specs.Rows.{item}
use Rattle.block_kernels.proofs.binary.fill_runs.Goals as goal

pub fill_pairs-requires-else-right-clause-takes : goal.fill_pairs-requires-else-right-clause-takes
fill_pairs-requires-else-right-clause-takes g c = λ i h. subst (λ (b : Bool). g.O.Operation.takes c.args.op (item c.args.right.cells.now b i)) c.if-right.false (c.requires.takes i h)

pub fill_pairs-requires-else-right-2-clause-takes : goal.fill_pairs-requires-else-right-2-clause-takes
fill_pairs-requires-else-right-2-clause-takes g c = λ i h. subst (λ (b : Bool). g.O.Operation.takes c.args.op (item c.args.right.cells.now b i)) c.if-right-2.false (c.requires.takes i h)
