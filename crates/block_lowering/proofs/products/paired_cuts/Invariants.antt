use Rattle.std.proofs.Common.{◌≡◌, ◌++◌, drop}
use Rattle.lowering_laws.specs.Stages.{paired_sizes}
use Rattle.block_lowering.proofs.products.paired_cuts.Given as goal

abbrev pub invariant-loop-k : goal.invariant-loop-k
invariant-loop-k l = l.pairs.items ++ paired_sizes l.left l.right (drop l.k l.left_axes) (drop l.k l.right_axes) ≡ paired_sizes l.left l.right l.left_axes l.right_axes
