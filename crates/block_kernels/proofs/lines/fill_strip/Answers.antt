use Rattle.std.proofs.Common.{arith}
use Rattle.block_kernels.proofs.Tiles.{strip-step}
use Rattle.block_kernels.proofs.lines.fill_strip.Goals as goal

pub loop-from-preserved : goal.loop-from-preserved
loop-from-preserved c = record {
  within = omega arith;
  rows = strip-step c.args.cells.now c.args.firsts.now c.args.seconds.now c.args.run c.loop-from.from _ c.args.out.now c.loop-from.out c.fill_tile.new.out c.loop-from.invariant.rows c.fill_tile.ensures.len c.fill_tile.ensures.made c.fill_tile.ensures.kept;
}
