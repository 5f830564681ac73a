use Rattle.std.proofs.Common.{length, get_or, subst}
use Rattle.std.proofs.lemmas.Result.{err_from_is_err_and}
use Rattle.lowering_laws.specs.Sources.{Made}
use Rattle.block_lowering.specs.Growing.{Refuses, IsGrown}
use Rattle.block_lowering.proofs.JoinedFits.{fitted-target, fitted-more, fitted-refused}
use Rattle.block_lowering.proofs.joins.fit_all.Goals as goal

pub returns-in_err-push_fitted-clause-err : goal.returns-in_err-push_fitted-clause-err
returns-in_err-push_fitted-clause-err c = λ common h.
    let p = err_from_is_err_and c.from_residual-in_err-push_fitted.result c.from_residual-in_err-push_fitted.ensures.1 in
    let graph = c.loop-source.graph in
    let item = c.source-item.result in
    let same =
    fitted-target common c.args.axes.now c.args.axis (length graph) (get_or c.args.sources.now c.loop-source.source-index item) item c.in_ok-target.target c.in_ok-own.own h c.in_ok-target.ensures c.in_ok-own.ensures c.source-item.is in
    rw (p.1, p.2)
    (fitted-refused common c.args.axis c.args.sources.now c.args.graph.now graph c.loop-source.fitted.items c.loop-source.source-index item c.in_err-push_fitted.field-0.0 c.loop-source-test.true
    (subst (λ (m : Made). Refuses graph m.tasks c.in_err-push_fitted.field-0.0) same c.in_err-push_fitted.ensures.err) (c.loop-source.invariant common h))

pub loop-source-preserved : goal.loop-source-preserved
loop-source-preserved c = λ common h.
    let graph = c.loop-source.graph in
    let item = c.source-item.result in
    let same =
    fitted-target common c.args.axes.now c.args.axis (length graph) (get_or c.args.sources.now c.loop-source.source-index item) item c.in_ok-target.target c.in_ok-own.own h c.in_ok-target.ensures c.in_ok-own.ensures c.source-item.is in
    rw c.in_ok-push.ensures.items
    (fitted-more common c.args.axis c.args.sources.now c.args.graph.now graph c.push_fitted.new.graph c.loop-source.fitted.items c.loop-source.source-index item c.in_ok-push_fitted.field-0 c.loop-source-test.true
    (subst (λ (m : Made). IsGrown graph m c.push_fitted.new.graph c.in_ok-push_fitted.field-0) same c.in_ok-push_fitted.ensures.ok) (c.loop-source.invariant common h))
