use Rattle.std.proofs.Common.{arith}
use Rattle.std.proofs.lemmas.Result.{err_from_is_err_and}
use Rattle.block_lowering.proofs.Arranged.{refuses-arg}
use Rattle.block_lowering.proofs.points.fit_all.Goals as goal

pub returns-in_err-fit-clause-err : goal.returns-in_err-fit-clause-err
returns-in_err-fit-clause-err c =
    let p = err_from_is_err_and c.from_residual-in_err-fit.result c.from_residual-in_err-fit.ensures.1 in
    rw (p.1, p.2)
    (refuses-arg c.args.layout.now c.args.args.now c.loop-arg.arg-index c.arg-item.result c.loop-arg.graph c.args.graph.now _ c.in_err-fit.field-0.0 (omega arith) c.arg-item.is c.loop-arg.invariant.tasks
    c.in_err-fit.ensures.err)
