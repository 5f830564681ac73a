use Rattle.std.proofs.Common.{arith, ◌∙◌, sym, ap, subst, Some}
use Rattle.nd_shape.specs.Block.{Array}
use Rattle.nd_grid.specs.Grid.{kept_shape}
use Rattle.block_kernels.specs.Reducing.{TakesBlock}
use Rattle.block_kernels.proofs.Reducing.{totals-more}
use Rattle.block_kernels.proofs.Shared.{input-shape}
use Rattle.block_kernels.proofs.reduce.fold_blocks.Goals as goal

pub loop-block-init : goal.loop-block-init
loop-block-init c = record { room = c.requires.room; at = λ p h. ap Some (sym (c.requires.start p h)) }

pub fold_block-requires-clause-kept : goal.fold_block-requires-clause-kept
fold_block-requires-clause-kept c =
    ap (λ ns. kept_shape 0 ns c.args.axes.now) (ap (λ (b : Array). b.shape) c.deref.ensures ∙ sym (input-shape c.args.blocks.now c.loop-block.block-index c.block-item.result c.loop-block-test.true c.block-item.is))
    ∙ c.requires.kept c.loop-block.block-index c.loop-block-test.true

pub loop-block-preserved : goal.loop-block-preserved
loop-block-preserved c = record {
  room = omega (arith, c.fold_block.auto.totals, c.loop-block.invariant.room);
  at = totals-more c.args.fold c.args.axes.now c.args.shape.now c.args.blocks.now c.loop-block.block-index c.block-item.result c.loop-block.totals c.fold_block.new.totals c.loop-block-test.true c.block-item.is c.loop-block.invariant.at
      (subst (λ b. TakesBlock c.args.fold c.args.axes.now c.args.shape.now b c.loop-block.totals c.fold_block.new.totals) c.deref.ensures c.in_ok-fold_block.ensures);
}
