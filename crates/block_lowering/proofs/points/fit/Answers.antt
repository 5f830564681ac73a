use Rattle.std.proofs.lemmas.Result.{err_from_is_err_and}
use Rattle.block_lowering.proofs.Arranged.{refuses-array}
use Rattle.block_lowering.proofs.points.fit.Goals as goal

pub returns-in_err-push_fitted-in-Array-clause-err : goal.returns-in_err-push_fitted-in-Array-clause-err
returns-in_err-push_fitted-in-Array-clause-err c =
    let p = err_from_is_err_and c.from_residual-in_err-push_fitted-in-Array.result c.from_residual-in_err-push_fitted-in-Array.ensures.1 in
    rw (p.1, p.2)
    (refuses-array c.args.layout.now c.in_ok-target-in-Array.target c.args.arg.now c.in-Array.source c.args.graph.now c.in_err-push_fitted-in-Array.field-0.0 c.in-Array.is c.in_ok-target-in-Array.ensures
    c.in_err-push_fitted-in-Array.ensures.err)
