use Rattle.std.proofs.Common.{◌≡◌, [], ◌∷◌, pos, refl}
use Rattle.nd_grid.specs.declared.operation.Binary.TheVariants.{Sub}
use Rattle.lowering_laws.specs.Stages.{Literal, Pair}
use Rattle.lowering_laws.specs.Lowered.{arg_of}
use Rattle.block_lowering.specs.Args.{args_of}
use Rattle.block_lowering.specs.declared.points.Given.TheVariants.{Value}
use Rattle.block_lowering.proofs.Operands.{two-args, refuses-point}
use Rattle.block_lowering.proofs.nodes.lower_negate.Goals as goal

pub returns-clause-err : goal.returns-clause-err
returns-clause-err c =
    let x = arg_of c.args.nodes.now c.args.sources.now c.args.of in
    let args : args_of c.as_slice.result.now ≡ Literal (pos 0) ∷ x ∷ [] = two-args c.in_ok-args.args.items c.push.new.self.items c.push-2.new.self.items c.as_slice.result.now (Value (pos 0)) c.in_ok-given.field-0 (Literal (pos 0)) x
    c.in_ok-args.ensures.items c.in_ok-push.ensures.items c.in_ok-push-2.ensures.items c.as_slice.ensures.value refl c.in_ok-given.ensures in
    refuses-point c.push_pointwise.result c.args.graph.now (Pair Sub) c.dims.result.now c.args.node.now.shape (args_of c.as_slice.result.now) (Literal (pos 0) ∷ x ∷ []) c.dims.ensures.dims args c.push_pointwise.ensures.err
