use Rattle.std.proofs.Common.{arith}
use Rattle.block_kernels.proofs.assemble.stays_whole.Goals as goal

pub returns : goal.returns
returns c = λ e. record { before = cc; start_is = omega arith; origin_is = omega arith; here_is = omega arith; there_is = omega arith }
