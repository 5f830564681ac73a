use Rattle.std.proofs.Common.{◌≡◌, ap, ◌∙◌}
use Rattle.std.proofs.lemmas.Result.{err_from_is_err_and}
use Rattle.chunk_layout.specs.Layouts.{counts}
use Rattle.lowering_laws.specs.Stages.{common_layout}
use Rattle.block_lowering.specs.Args.{AreCommon}
use Rattle.block_lowering.specs.Joining.{layouts_in}
use Rattle.block_lowering.proofs.Refusing.{refuses-more}
use Rattle.block_lowering.proofs.JoinedTasks.{IsJoining, along_of, operands_of, block_tasks, layout-joined, joined-refused, joined-grown}
use Rattle.block_lowering.proofs.joins.push_joined.Goals as goal

pub returns-in_err-fitted-clause-err : goal.returns-in_err-fitted-clause-err
returns-in_err-fitted-clause-err c =
    let p = err_from_is_err_and c.from_residual-in_err-fitted.result c.from_residual-in_err-fitted.ensures.1 in
    let cut : AreCommon (common_layout (layouts_in c.args.sources.now)) c.args.axis c.as_slice-3.result.now = rw c.as_slice-3.ensures.value c.in_ok-axes.ensures in
    rw (p.1, p.2)
    (refuses-more c.args.graph.now (operands_of c.args.sources.now c.args.axis c.args.graph.now).tasks (block_tasks c.args.sources.now c.args.axis c.args.graph.now) c.in_err-fitted.field-0.0
    (c.in_err-fitted.ensures.err (common_layout (layouts_in c.args.sources.now)) cut))

pub returns-in_err-push_blocks-clause-err : goal.returns-in_err-push_blocks-clause-err
returns-in_err-push_blocks-clause-err c =
    let p = err_from_is_err_and c.from_residual-in_err-push_blocks.result c.from_residual-in_err-push_blocks.ensures.1 in
    let sources = c.args.sources.now in
    let axis = c.args.axis in
    let old = c.args.graph.now in
    let given : AreCommon (common_layout (layouts_in c.args.sources.now)) c.args.axis c.as_slice-3.result.now = rw c.as_slice-3.ensures.value c.in_ok-axes.ensures in
    let again : AreCommon (common_layout (layouts_in c.args.sources.now)) c.args.axis c.as_slice-2.result.now = rw c.as_slice-2.ensures.value c.in_ok-axes.ensures in
    let first : c.as_slice.result.now ≡ along_of c.args.sources.now c.args.axis = c.as_slice.ensures.value ∙ c.in_ok-along.ensures in
    let j : IsJoining c.args.sources.now c.args.axis c.args.graph.now c.fit_all.new.graph c.in_ok-layout.layout c.as_slice-4.result.now c.as_slice-5.result.now c.as_slice-6.result.now = record {
      along_is = c.as_slice-4.ensures.value ∙ c.in_ok-along.ensures;
      layout_is = layout-joined sources axis c.as_slice-2.result.now c.in_ok-layout.layout c.in_ok-cut.cut c.as_slice.result.now again c.in_ok-layout.ensures c.in_ok-cut.ensures first;
      grown = rw c.as_slice-5.ensures.value (c.in_ok-fitted.ensures.ok (common_layout (layouts_in sources)) given);
      counts_are = c.as_slice-6.ensures.value ∙ c.in_ok-counts.ensures ∙ ap counts c.axes.ensures.value;
    } in
    rw (p.1, p.2)
    (joined-refused sources axis old c.fit_all.new.graph c.in_ok-layout.layout c.as_slice-4.result.now c.as_slice-5.result.now c.as_slice-6.result.now c.in_err-push_blocks.field-0.0 j c.in_err-push_blocks.ensures.err)

pub returns-clause-ok : goal.returns-clause-ok
returns-clause-ok c =
    let sources = c.args.sources.now in
    let axis = c.args.axis in
    let old = c.args.graph.now in
    let given : AreCommon (common_layout (layouts_in c.args.sources.now)) c.args.axis c.as_slice-3.result.now = rw c.as_slice-3.ensures.value c.in_ok-axes.ensures in
    let again : AreCommon (common_layout (layouts_in c.args.sources.now)) c.args.axis c.as_slice-2.result.now = rw c.as_slice-2.ensures.value c.in_ok-axes.ensures in
    let first : c.as_slice.result.now ≡ along_of c.args.sources.now c.args.axis = c.as_slice.ensures.value ∙ c.in_ok-along.ensures in
    let j : IsJoining c.args.sources.now c.args.axis c.args.graph.now c.fit_all.new.graph c.in_ok-layout.layout c.as_slice-4.result.now c.as_slice-5.result.now c.as_slice-6.result.now = record {
      along_is = c.as_slice-4.ensures.value ∙ c.in_ok-along.ensures;
      layout_is = layout-joined sources axis c.as_slice-2.result.now c.in_ok-layout.layout c.in_ok-cut.cut c.as_slice.result.now again c.in_ok-layout.ensures c.in_ok-cut.ensures first;
      grown = rw c.as_slice-5.ensures.value (c.in_ok-fitted.ensures.ok (common_layout (layouts_in sources)) given);
      counts_are = c.as_slice-6.ensures.value ∙ c.in_ok-counts.ensures ∙ ap counts c.axes.ensures.value;
    } in
    joined-grown sources axis old c.fit_all.new.graph c.push_blocks.new.graph c.in_ok-layout.layout c.as_slice-4.result.now c.as_slice-5.result.now c.as_slice-6.result.now c.keys-first.result c.in_ok-new.field-0 j
    c.in_ok-push_blocks.ensures.ok c.keys-first.ensures c.in_ok-new.ensures
