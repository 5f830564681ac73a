use Rattle.std.proofs.Common.{subst}
use Rattle.nd_shape.specs.Index.{IsIn}
use Rattle.nd_rows.proofs.Spots.{moved_small, moved-in}
use Rattle.nd_rows.proofs.walk.spot_of.Goals as goal

pub move_by-requires-clause-small : goal.move_by-requires-clause-small
move_by-requires-clause-small c =
    let inside : IsIn c.args.region.now.lengths c.unravel.new.index = subst (λ ns. IsIn ns c.unravel.new.index) c.requires.lengths c.unravel.ensures.inside in
    rw c.starts.ensures.value (moved_small c.args.region.now c.args.dims.now c.unravel.new.index c.requires.part c.dims.ensures.limits inside)

pub ravel-requires : goal.ravel-requires
ravel-requires c =
    let inside : IsIn c.args.region.now.lengths c.unravel.new.index = subst (λ ns. IsIn ns c.unravel.new.index) c.requires.lengths c.unravel.ensures.inside in
    rw (c.move_by.ensures, c.starts.ensures.value) (moved-in c.args.region.now.start c.args.region.now.lengths c.args.dims.now c.unravel.new.index c.requires.part inside)
