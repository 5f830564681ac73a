use Rattle.nd_shape.proofs.Axes.{part-shape}
use Rattle.nd_shape.proofs.region.Region.shape.Goals as goal

pub of-requires : goal.of-requires
of-requires c = rw (c.in_ok-dims.ensures.items, c.lengths.ensures.value) (part-shape c.args.self.now c.args.whole.now c.requires c.dims.ensures.limits)
