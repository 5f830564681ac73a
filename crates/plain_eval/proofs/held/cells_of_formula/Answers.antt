use Rattle.std.proofs.Common.{[], ◌∷◌, ◌++◌, map, ap, sym, ◌∙◌, arith}
use Rattle.std.specs.List.{range_with_len}
use Rattle.std.proofs.lemmas.List.FromFn.{map-range_with_len_more}
use Rattle.nd_shape.specs.Index.{index_at}
use Rattle.plain_eval.proofs.held.cells_of_formula.Goals as goal

pub loop-position-preserved : goal.loop-position-preserved
loop-position-preserved g c = record {
  axes = omega (arith, c.cell_at.auto.index, c.loop-position.invariant.axes);
  cells = c.in_ok-push.ensures.items ∙ ap (λ xs. xs ++ c.cell_at.result ∷ []) c.loop-position.invariant.cells ∙ ap (λ x. map (λ p. (g.F.Formula.grid c.args.formula.now).at (index_at c.args.shape.now p)) (range_with_len 0 c.loop-position.position) ++ x ∷ []) c.cell_at.ensures
      ∙ sym (map-range_with_len_more (λ p. (g.F.Formula.grid c.args.formula.now).at (index_at c.args.shape.now p)) 0 c.loop-position.position c.loop-position.position (omega arith));
}
