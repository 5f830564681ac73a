use Rattle.std.proofs.Common.{ap, ◌∙◌}
use Rattle.std.proofs.lemmas.Result.{err_from_is_err_and}
use Rattle.chunk_layout.specs.Layouts.{counts}
use Rattle.block_lowering.specs.Args.{point_of, args_of}
use Rattle.block_lowering.proofs.Arranged.{pointwise-grown, refuses-fit, refuses-blocks}
use Rattle.block_lowering.proofs.points.push_pointwise.Goals as goal

pub returns-in_err-fitted-clause-err : goal.returns-in_err-fitted-clause-err
returns-in_err-fitted-clause-err c =
    let p = err_from_is_err_and c.from_residual-in_err-fitted.result c.from_residual-in_err-fitted.ensures.1 in
    rw (p.1, p.2)
    (refuses-fit (point_of c.args.operation) c.args.dims.now (args_of c.args.args.now) c.in_ok-layout.layout c.args.graph.now c.in_err-fitted.field-0.0 c.in_ok-layout.ensures c.in_err-fitted.ensures.err)

pub returns-in_err-push_blocks-clause-err : goal.returns-in_err-push_blocks-clause-err
returns-in_err-push_blocks-clause-err c =
    let p = err_from_is_err_and c.from_residual-in_err-push_blocks.result c.from_residual-in_err-push_blocks.ensures.1 in
    rw (p.1, p.2)
    (refuses-blocks (point_of c.args.operation) c.args.dims.now (args_of c.args.args.now) c.in_ok-layout.layout c.in_ok-fitted.fitted.items c.as_slice.result.now c.as_slice-2.result.now c.args.graph.now c.fit_all.new.graph
    c.in_err-push_blocks.field-0.0 c.in_ok-layout.ensures c.in_ok-fitted.ensures.ok c.as_slice.ensures.value (c.as_slice-2.ensures.value ∙ c.in_ok-counts.ensures ∙ ap counts c.axes.ensures.value)
    c.in_err-push_blocks.ensures.err)

pub returns-clause-ok : goal.returns-clause-ok
returns-clause-ok c =
    pointwise-grown (point_of c.args.operation) c.args.dims.now (args_of c.args.args.now) c.in_ok-layout.layout c.in_ok-fitted.fitted.items c.as_slice.result.now c.as_slice-2.result.now c.args.graph.now c.fit_all.new.graph
    c.push_blocks.new.graph c.keys-first.result c.in_ok-new.field-0 c.in_ok-layout.ensures c.in_ok-fitted.ensures.ok c.as_slice.ensures.value (c.as_slice-2.ensures.value ∙ c.in_ok-counts.ensures ∙ ap counts c.axes.ensures.value)
    c.in_ok-push_blocks.ensures.ok c.in_ok-new.ensures c.keys-first.ensures
