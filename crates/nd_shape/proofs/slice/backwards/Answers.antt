use Rattle.std.proofs.Common.{ap, ◌∙◌, cond}
use Rattle.std.specs.Prelude.{nat_eq}
use Rattle.nd_shape.specs.Slice.{first_index, end_index}
use Rattle.nd_shape.proofs.Ranges.{exit_backwards}
use Rattle.nd_shape.proofs.slice.backwards.Goals as goal

pub returns : goal.returns
returns c =
    exit_backwards (λ k. first_index c.args.len k c.args.start) (λ k. end_index c.args.len k c.args.stop) c.args.step c.first_backwards-first.result c.end_backwards-end.result c.unsigned_abs.result c.saturating_sub.result c.steps_within-count.result c.start_of.result c.ranges.step c.requires c.first_backwards-first.ensures c.end_backwards-end.ensures
    c.saturating_sub.ensures c.unsigned_abs.ensures.value c.steps_within-count.ensures.taken c.steps_within-count.ensures.ended (c.start_of.ensures ∙ ap (λ x. cond (nat_eq c.steps_within-count.result 0) 0 x) c.saturating_sub-2.ensures)
