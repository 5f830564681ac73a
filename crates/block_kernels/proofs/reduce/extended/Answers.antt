use Rattle.std.proofs.Common.{arith, refl}
use Rattle.block_kernels.specs.Viewing.{folds, lengthens, surrounds}
use Rattle.block_kernels.proofs.Viewing.{factors-small}
use Rattle.block_kernels.proofs.reduce.extended.Goals as goal

pub overflow_mul-result : goal.overflow_mul-result
overflow_mul-result c = let b = factors-small c.args.len c.args.view.outer c.args.view.rows c.args.view.inner c.requires.small c.requires.some in omega (arith, b.1)

pub returns-then-gone : goal.returns-then-gone
returns-then-gone c = folds c.if-gone.true (omega arith) refl refl refl

pub overflow_mul-result-then-view-eq1-2 : goal.overflow_mul-result-then-view-eq1-2
overflow_mul-result-then-view-eq1-2 c = let b = factors-small c.args.len c.args.view.outer c.args.view.rows c.args.view.inner c.requires.small c.requires.some in omega (arith, b.2)

pub returns-then-view-eq1-2 : goal.returns-then-view-eq1-2
returns-then-view-eq1-2 c = lengthens c.if-gone.false (omega arith) (omega arith) refl refl refl

pub overflow_mul-result-2 : goal.overflow_mul-result-2
overflow_mul-result-2 c = let b = factors-small c.args.len c.args.view.outer c.args.view.rows c.args.view.inner c.requires.small c.requires.some in omega (arith, b.0)

pub returns : goal.returns
returns c = surrounds c.if-gone.false refl refl refl
