use Rattle.block_kernels.proofs.Tiles.{tile-step}
use Rattle.block_kernels.proofs.lines.fill_tile.Goals as goal

pub loop-k-preserved : goal.loop-k-preserved
loop-k-preserved c =
    tile-step c.args.cells.now c.args.firsts.now c.args.seconds.now c.args.run c.args.from c.args.to c.loop-k.k c.args.out.now c.loop-k.out c.fill_piece.new.out c.loop-k.invariant c.requires.some c.requires.inside c.fill_piece.ensures.len
    c.fill_piece.ensures.made c.fill_piece.ensures.before c.fill_piece.ensures.after
