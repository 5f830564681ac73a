use Rattle.std.proofs.Common.{arith}
use Rattle.block_kernels.proofs.RowLemmas.{fills-more}
use Rattle.block_kernels.proofs.lines.append_strips.Goals as goal

pub loop-row-preserved : goal.loop-row-preserved
loop-row-preserved g c = record {
  within = omega (arith, c.min-many.ensures, c.loop-row-test.true);
  size = c.in_ok-append_strip.ensures.len;
  filled = fills-more (g.F.Lines.grid c.args.formula.now) c.loop-row.row c.min-many.result c.args.run c.loop-row.cells.items c.append_strip.new.cells.items c.loop-row.invariant.filled c.in_ok-append_strip.ensures.kept c.in_ok-append_strip.ensures.filled;
}
