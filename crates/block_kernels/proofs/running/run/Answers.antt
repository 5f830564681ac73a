use Rattle.std.proofs.Common.{◌∙◌, ap, subst, w64, rules}
use mir.Val.{SFits}
use Rattle.nd_shape.specs.Shape.{IsShape}
use Rattle.block_kernels.specs.declared.spec.Spec.{Spec}
use Rattle.block_kernels.specs.Kernels.{input_shapes, result_shape}
use Rattle.block_kernels.specs.WellFormed.{Fits}
use Rattle.block_kernels.proofs.Ready.{pair-ready, where-ready, slope-ok, slope-err}
use Rattle.block_kernels.proofs.running.run.Goals as goal

pub run_elementwise-requires : goal.run_elementwise-requires
run_elementwise-requires c = pair-ready _ _ _ _ _ _ _ c.in-Elementwise.is c.requires.rules c.requires.shapes

pub run_where-requires : goal.run_where-requires
run_where-requires c = where-ready _ _ _ _ _ _ _ c.in-Where.is c.requires.rules c.requires.shapes

pub fill-requires : goal.fill-requires
fill-requires c = subst Fits c.in-Fill.is c.requires.rules.rules

pub run_slice-requires-clause-rules : goal.run_slice-requires-clause-rules
run_slice-requires-clause-rules c = subst Fits c.in-Slice.is c.requires.rules.rules

pub run_slice-requires-clause-limits : goal.run_slice-requires-clause-limits
run_slice-requires-clause-limits c = subst (λ (s : Spec). IsShape (result_shape s)) c.in-Slice.is c.requires.rules.shape

pub run_slice-requires-clause-shapes : goal.run_slice-requires-clause-shapes
run_slice-requires-clause-shapes c = c.requires.shapes ∙ ap input_shapes c.in-Slice.is

pub run_transpose-requires-clause-rules : goal.run_transpose-requires-clause-rules
run_transpose-requires-clause-rules c = subst Fits c.in-Transpose.is c.requires.rules.rules

pub run_transpose-requires-clause-limits : goal.run_transpose-requires-clause-limits
run_transpose-requires-clause-limits c = subst (λ (s : Spec). IsShape (result_shape s)) c.in-Transpose.is c.requires.rules.shape

pub run_transpose-requires-clause-shapes : goal.run_transpose-requires-clause-shapes
run_transpose-requires-clause-shapes c = c.requires.shapes ∙ ap input_shapes c.in-Transpose.is

pub returns-in-Elementwise-clause-ok : goal.returns-in-Elementwise-clause-ok
returns-in-Elementwise-clause-ok c = λ files. rw c.in-Elementwise.is c.run_elementwise.ensures.ok

pub returns-in-Elementwise-clause-dims : goal.returns-in-Elementwise-clause-dims
returns-in-Elementwise-clause-dims c = rw c.in-Elementwise.is c.run_elementwise.ensures.dims

pub returns-in-Elementwise-clause-err : goal.returns-in-Elementwise-clause-err
returns-in-Elementwise-clause-err c = λ files. rw c.in-Elementwise.is c.run_elementwise.ensures.err

pub returns-in-Where-clause-ok : goal.returns-in-Where-clause-ok
returns-in-Where-clause-ok c = λ files. rw c.in-Where.is c.run_where.ensures.ok

pub returns-in-Where-clause-dims : goal.returns-in-Where-clause-dims
returns-in-Where-clause-dims c = rw c.in-Where.is c.run_where.ensures.dims

pub returns-in-Where-clause-err : goal.returns-in-Where-clause-err
returns-in-Where-clause-err c = λ files. rw c.in-Where.is c.run_where.ensures.err

pub returns-in-Slice-clause-ok : goal.returns-in-Slice-clause-ok
returns-in-Slice-clause-ok c = λ files. rw c.in-Slice.is c.run_slice.ensures.ok

pub returns-in-Slice-clause-dims : goal.returns-in-Slice-clause-dims
returns-in-Slice-clause-dims c = rw c.in-Slice.is c.run_slice.ensures.dims

pub returns-in-Slice-clause-err : goal.returns-in-Slice-clause-err
returns-in-Slice-clause-err c = λ files. rw c.in-Slice.is c.run_slice.ensures.err

pub returns-in-Transpose-clause-ok : goal.returns-in-Transpose-clause-ok
returns-in-Transpose-clause-ok c = λ files. rw c.in-Transpose.is c.run_transpose.ensures.ok

pub returns-in-Transpose-clause-dims : goal.returns-in-Transpose-clause-dims
returns-in-Transpose-clause-dims c = rw c.in-Transpose.is c.run_transpose.ensures.dims

pub returns-in-Transpose-clause-err : goal.returns-in-Transpose-clause-err
returns-in-Transpose-clause-err c = λ files. rw c.in-Transpose.is c.run_transpose.ensures.err

pub returns-in-Fill-clause-ok : goal.returns-in-Fill-clause-ok
returns-in-Fill-clause-ok c = λ files.
    let fa : SFits w64 c.in-Fill.start = search rules in
    let fs : SFits w64 c.in-Fill.step = search rules in
    rw c.in-Fill.is (slope-ok c.in-Fill.region c.in-Fill.dims c.in-Fill.start c.in-Fill.step c.fill.result fa fs c.fill.ensures.ok)

pub returns-in-Fill-clause-dims : goal.returns-in-Fill-clause-dims
returns-in-Fill-clause-dims c = rw c.in-Fill.is c.fill.ensures.dims

pub returns-in-Fill-clause-err : goal.returns-in-Fill-clause-err
returns-in-Fill-clause-err c = λ files.
    let fa : SFits w64 c.in-Fill.start = search rules in
    let fs : SFits w64 c.in-Fill.step = search rules in
    rw c.in-Fill.is (slope-err c.in-Fill.region c.in-Fill.dims c.in-Fill.start c.in-Fill.step c.fill.result fa fs c.fill.ensures.err)

pub returns-in-Contract-clause-ok : goal.returns-in-Contract-clause-ok
returns-in-Contract-clause-ok c = λ files. rw c.in-Contract.is c.run_contract.ensures.ok

pub returns-in-Contract-clause-err : goal.returns-in-Contract-clause-err
returns-in-Contract-clause-err c = λ files. rw c.in-Contract.is c.run_contract.ensures.err
