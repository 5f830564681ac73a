use Rattle.nd_shape.specs.Slice.{first_index, end_index}
use Rattle.nd_shape.proofs.Ranges.{exit_forwards}
use Rattle.nd_shape.proofs.slice.forwards.Goals as goal

pub returns : goal.returns
returns c =
    exit_forwards (λ k. first_index c.args.len k c.args.start) (λ k. end_index c.args.len k c.args.stop) c.args.step c.first_forwards-first.result c.end_forwards-end.result c.unsigned_abs.result c.saturating_sub.result c.steps_within-count.result c.start_of.result c.ranges.step c.requires c.first_forwards-first.ensures c.end_forwards-end.ensures
    c.saturating_sub.ensures c.unsigned_abs.ensures.value c.steps_within-count.ensures.taken c.steps_within-count.ensures.ended c.start_of.ensures
