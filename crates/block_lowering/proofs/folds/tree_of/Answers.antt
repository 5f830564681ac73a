use Rattle.std.proofs.Common.{◌≤◌, ap, ◌∙◌, arith}
use Rattle.std.proofs.lemmas.Result.{IfOk-weaker}
use Rattle.chunk_layout.specs.Trees.{tree}
use Rattle.block_lowering.proofs.FoldedTrees.{tree-within}
use Rattle.block_lowering.proofs.folds.tree_of.Goals as goal

pub returns-clause-levels : goal.returns-clause-levels
returns-clause-levels c =
    let n = c.args.partials in
    let few : n ≤ 32768 = omega arith in
    IfOk-weaker c.tree.result _ _ (λ levels e. e ∙ ap (tree n) c.min.ensures ∙ tree-within n c.args.split few) c.tree.ensures
