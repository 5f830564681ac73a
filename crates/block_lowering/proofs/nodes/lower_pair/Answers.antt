use Rattle.std.proofs.Common.{◌≡◌, [], ◌∷◌}
use Rattle.lowering_laws.specs.Stages.{Pair}
use Rattle.lowering_laws.specs.Lowered.{arg_of}
use Rattle.block_lowering.specs.Args.{args_of}
use Rattle.block_lowering.proofs.Operands.{two-args, refuses-point}
use Rattle.block_lowering.proofs.nodes.lower_pair.Goals as goal

pub returns-clause-err : goal.returns-clause-err
returns-clause-err c =
    let x = arg_of c.args.nodes.now c.args.sources.now c.args.pair.0 in
    let y = arg_of c.args.nodes.now c.args.sources.now c.args.pair.1 in
    let args : args_of c.as_slice.result.now ≡ x ∷ y ∷ [] = two-args c.in_ok-args.args.items c.push.new.self.items c.push-2.new.self.items c.as_slice.result.now c.in_ok-given.field-0 c.in_ok-given-2.field-0 x y
    c.in_ok-args.ensures.items c.in_ok-push.ensures.items c.in_ok-push-2.ensures.items c.as_slice.ensures.value c.in_ok-given.ensures c.in_ok-given-2.ensures in
    refuses-point c.push_pointwise.result c.args.graph.now (Pair c.args.op) c.dims.result.now c.args.node.now.shape (args_of c.as_slice.result.now) (x ∷ y ∷ []) c.dims.ensures.dims args c.push_pointwise.ensures.err
