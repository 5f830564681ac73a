use Rattle.std.proofs.Common.{List, ℕ, sym, subst}
use Rattle.nd_shape.specs.Index.{IsIn}
use Rattle.nd_grid.proofs.Slicing.{sliced-in}
use Rattle.block_kernels.proofs.taking.sliced_place.Goals as goal

pub ravel-requires : goal.ravel-requires
ravel-requires c =
    rw (c.index_sliced.ensures, c.shape-2.ensures.value)
    (sliced-in 0 c.args.steps.now c.args.of.now.shape c.args.dropped.now c.unravel.new.index c.requires.fits (subst (λ (ns : List ℕ). IsIn ns c.unravel.new.index) (sym c.requires.shape) c.unravel.ensures.inside))
