use Rattle.std.proofs.Common.{◌∙◌, subst, ◌<◌}
use Rattle.nd_shape.specs.Index.{index_at}
use Rattle.nd_shape.proofs.Places.{IsIn-length}
use Rattle.nd_rows.proofs.Turned.{IsIn-reverse, place-reverse, elements-reverse}
use Rattle.nd_rows.proofs.turn.column_start.Goals as goal

pub ravel-requires : goal.ravel-requires
ravel-requires c = rw (c.requires.turned, c.reverse.ensures.after) (IsIn-reverse c.args.shape.now c.unravel.new.index c.unravel.ensures.inside)

pub returns-clause-place : goal.returns-clause-place
returns-clause-place c =
    rw (c.requires.turned, c.reverse.ensures.after, c.unravel.ensures.index) at c.ravel.ensures.place
    ∙ place-reverse c.args.shape.now (index_at c.args.shape.now c.args.position) (rw c.unravel.ensures.index at (IsIn-length c.args.shape.now c.unravel.new.index c.unravel.ensures.inside))

pub returns-clause-limit : goal.returns-clause-limit
returns-clause-limit c = subst (λ n. c.ravel.result < n) (elements-reverse c.args.shape.now) (rw c.requires.turned at c.ravel.ensures.inside)
