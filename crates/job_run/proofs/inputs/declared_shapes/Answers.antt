use Rattle.std.proofs.Common.{◌++◌, ◌∷◌, [], ◌∙◌, ap, sym, cond}
use Rattle.array_expr.specs.Elem.{is_input}
use Rattle.job_run.proofs.Loads.{shapes_more}
use Rattle.job_run.proofs.inputs.declared_shapes.Goals as goal

pub loop-node-preserved : goal.loop-node-preserved
loop-node-preserved c =
    c.in_ok-push_shape.ensures ∙ (ap (λ x. x ++ cond (is_input c.node-item.result.op) (c.node-item.result.shape ∷ []) []) c.loop-node.invariant ∙ sym (shapes_more c.args.nodes.now c.loop-node.node-index c.node-item.result c.loop-node-test.true c.node-item.is))
