use Rattle.std.proofs.Common.{◌+◌, [], ◌∷◌, ◌++◌, ap, sym, ◌∙◌}
use Rattle.small_facts.proofs.Ranges.{range_upto}
use Rattle.array_expr.proofs.axes.all_axes.Goals as goal

pub loop-axis-preserved : goal.loop-axis-preserved
loop-axis-preserved c = c.in_ok-push.ensures.items ∙ ap (λ xs. xs ++ c.loop-axis.axis ∷ []) c.loop-axis.invariant ∙ sym (range_upto c.loop-axis.axis)
