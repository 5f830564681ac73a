use Rattle.std.proofs.Common.{arith, ◌≡◌, ◌∙◌, sym, ap, subst, get_or}
use Rattle.nd_shape.specs.Chunk.{total, chunks_of}
use Rattle.chunk_layout.specs.Cuts.{IsCut}
use Rattle.chunk_layout.proofs.Cutting.{is_cut-chunks}
use Rattle.chunk_layout.proofs.Normals.{axes-more}
use Rattle.chunk_layout.proofs.normal.axes_of.Goals as goal

pub of-requires : goal.of-requires
of-requires c =
    subst IsCut (sym (c.into_vec.ensures ∙ c.in_ok-sizes.ensures.ok))
    (is_cut-chunks (get_or c.args.dims.now c.loop-axis.axis 0) c.index-specs-axis.result (c.requires.shape.lengths c.loop-axis.axis 0 c.loop-axis-test.true) c.in_ok-sizes.ensures.cut)

pub loop-axis-preserved : goal.loop-axis-preserved
loop-axis-preserved c =
    let e : c.in_ok-of.field-0 ≡ chunks_of (get_or c.args.dims.now c.loop-axis.axis 0) c.index-specs-axis.result = c.in_ok-of.ensures ∙ c.into_vec.ensures ∙ c.in_ok-sizes.ensures.ok in
    let cut : IsCut c.in_ok-of.field-0 =
    subst IsCut (sym e) (is_cut-chunks (get_or c.args.dims.now c.loop-axis.axis 0) c.index-specs-axis.result (c.requires.shape.lengths c.loop-axis.axis 0 c.loop-axis-test.true) c.in_ok-sizes.ensures.cut) in
    let m = axes-more c.loop-axis.axes.items c.args.dims.now c.args.specs.now c.loop-axis.axis c.index-specs-axis.result c.in_ok-of.field-0
    c.loop-axis-test.true (omega (arith, c.requires.cut.axes)) c.index-specs-axis.is e cut (ap total e ∙ c.in_ok-sizes.ensures.sum)
    c.loop-axis.invariant.cuts c.loop-axis.invariant.lengths_is c.loop-axis.invariant.value in
    record {
      cuts = rw c.in_ok-push.ensures.items m.cuts;
      lengths_is = rw c.in_ok-push.ensures.items m.lengths_is;
      value = rw c.in_ok-push.ensures.items m.value;
    }
