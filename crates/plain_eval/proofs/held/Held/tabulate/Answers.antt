use Rattle.std.proofs.Common.{length, ap, ◌∙◌}
use Rattle.std.proofs.lemmas.List.FromFn.{length-map-range_with_len}
use Rattle.nd_shape.specs.Shape.{elements}
use Rattle.nd_shape.specs.Index.{index_at}
use Rattle.plain_eval.proofs.held.Held.tabulate.Goals as goal

pub invariant_of-result : goal.invariant_of-result
invariant_of-result g c = ap length c.in_ok-cells.ensures ∙ length-map-range_with_len (λ p. (g.F.Formula.grid c.args.formula.now).at (index_at c.args.shape p)) 0 (elements c.args.shape)
