use Rattle.std.proofs.Common.{◌≡◌, [], ◌∷◌}
use Rattle.lowering_laws.specs.Stages.{Choice}
use Rattle.lowering_laws.specs.Lowered.{arg_of}
use Rattle.block_lowering.specs.Args.{args_of}
use Rattle.block_lowering.proofs.Operands.{three-args, refuses-point}
use Rattle.block_lowering.proofs.nodes.lower_where.Goals as goal

pub returns-clause-err : goal.returns-clause-err
returns-clause-err c =
    let x = arg_of c.args.nodes.now c.args.sources.now c.args.operands.0 in
    let y = arg_of c.args.nodes.now c.args.sources.now c.args.operands.1 in
    let z = arg_of c.args.nodes.now c.args.sources.now c.args.operands.2 in
    let args : args_of c.as_slice.result.now ≡ x ∷ y ∷ z ∷ [] = three-args c.in_ok-args.args.items c.push.new.self.items c.push-2.new.self.items c.push-3.new.self.items c.as_slice.result.now
    c.in_ok-given.field-0 c.in_ok-given-2.field-0 c.in_ok-given-3.field-0 x y z
    c.in_ok-args.ensures.items c.in_ok-push.ensures.items c.in_ok-push-2.ensures.items c.in_ok-push-3.ensures.items c.as_slice.ensures.value c.in_ok-given.ensures c.in_ok-given-2.ensures c.in_ok-given-3.ensures in
    refuses-point c.push_pointwise.result c.args.graph.now Choice c.dims.result.now c.args.node.now.shape (args_of c.as_slice.result.now) (x ∷ y ∷ z ∷ []) c.dims.ensures.dims args c.push_pointwise.ensures.err
