use Rattle.std.proofs.Common.{length, sym, subst, IfErr}
use Rattle.array_expr.specs.declared.op.Op.{Op}
use Rattle.lowering_laws.specs.Lowered.{lower_op}
use Rattle.block_lowering.specs.Growing.{Refuses}
use Rattle.block_lowering.proofs.nodes.lower_node.Goals as goal

pub returns-in-Negate-clause-err : goal.returns-in-Negate-clause-err
returns-in-Negate-clause-err c =
    let x = c.args.node.now in
    subst (λ (op : Op). IfErr c.lower_negate.result (Refuses c.args.graph.now (lower_op c.args.nodes.now c.args.sources.now (length c.args.sources.now) x.taken x.shape op (length c.args.graph.now)).tasks)) (sym c.in-Negate.is) c.lower_negate.ensures.err

pub returns-in-Elementwise-clause-err : goal.returns-in-Elementwise-clause-err
returns-in-Elementwise-clause-err c =
    let x = c.args.node.now in
    subst (λ (op : Op). IfErr c.lower_pair.result (Refuses c.args.graph.now (lower_op c.args.nodes.now c.args.sources.now (length c.args.sources.now) x.taken x.shape op (length c.args.graph.now)).tasks)) (sym c.in-Elementwise.is) c.lower_pair.ensures.err

pub returns-in-Where-clause-err : goal.returns-in-Where-clause-err
returns-in-Where-clause-err c =
    let x = c.args.node.now in
    subst (λ (op : Op). IfErr c.lower_where.result (Refuses c.args.graph.now (lower_op c.args.nodes.now c.args.sources.now (length c.args.sources.now) x.taken x.shape op (length c.args.graph.now)).tasks)) (sym c.in-Where.is) c.lower_where.ensures.err
