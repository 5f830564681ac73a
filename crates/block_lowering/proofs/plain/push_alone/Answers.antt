use Rattle.std.proofs.Common.{ap, ◌∙◌}
use Rattle.std.proofs.lemmas.Result.{err_from_is_err_and}
use Rattle.chunk_layout.specs.Layouts.{normalized, counts}
use Rattle.block_lowering.proofs.Filling.{alone-grown, alone-refused, keyed-at}
use Rattle.block_lowering.proofs.plain.push_alone.Goals as goal

pub returns-clause-ok : goal.returns-clause-ok
returns-clause-ok g c =
    alone-grown c.args.graph.now c.push_blocks.new.graph (normalized c.args.dims.now c.args.chunks.now) c.in_ok-layout.layout c.as_slice.result.now (g.L.Leaf.spec_of c.args.of.now) c.in_ok-new.field-0 c.in_ok-layout.ensures
    (c.as_slice.ensures.value ∙ c.in_ok-counts.ensures ∙ ap counts c.axes.ensures.value) c.sound.ensures c.in_ok-push_blocks.ensures.ok (c.in_ok-new.ensures ∙ keyed-at c.in_ok-layout.layout c.keys-first.ensures)

pub returns-in_err-push_blocks-clause-err : goal.returns-in_err-push_blocks-clause-err
returns-in_err-push_blocks-clause-err g c =
    let p = err_from_is_err_and c.from_residual-in_err-push_blocks.result c.from_residual-in_err-push_blocks.ensures.1 in
    rw (p.1, p.2)
    (alone-refused c.args.graph.now (normalized c.args.dims.now c.args.chunks.now) c.in_ok-layout.layout c.as_slice.result.now (g.L.Leaf.spec_of c.args.of.now) c.in_err-push_blocks.field-0.0 c.in_ok-layout.ensures
    (c.as_slice.ensures.value ∙ c.in_ok-counts.ensures ∙ ap counts c.axes.ensures.value) c.in_err-push_blocks.ensures.err)
