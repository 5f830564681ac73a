use Rattle.std.proofs.Common.{◌≡◌, replicate}
use Rattle.block_lowering.proofs.folds.copies_of.Given as goal

abbrev pub invariant-loop : goal.invariant-loop
invariant-loop l = l.shapes.items ≡ replicate l.counter l.shape
