use Rattle.std.proofs.Common.{arith}
use Rattle.block_kernels.proofs.Assembling.{copied-put}
use Rattle.block_kernels.proofs.assemble.copy_run.Goals as goal

pub returns : goal.returns
returns c = copied-put c.args.target.now c.args.cells.now c.copy_from_slice.new.self c.args.place c.args.from c.args.count _ _ c.requires.room c.requires.cells c.copy_from_slice.ensures.after (omega arith) (omega arith)
