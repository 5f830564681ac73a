use Rattle.std.proofs.Common.{◌<◌, ◌∙◌, sym, ap, subst, [], ◌∷◌, below_more}
use Rattle.nd_shape.specs.Broadcast.{lengths_on, first_misfit}
use Rattle.nd_shape.proofs.Broadcasts.{lengths_on-three, dims-more}
use Rattle.nd_shape.proofs.broadcasting.broadcast_dims.Goals as goal

pub returns-in-Some-clause-err : goal.returns-in-Some-clause-err
returns-in-Some-clause-err c =
    let ls = lengths_on-three c.args.x.now c.args.y.now c.args.z.now _ c.loop-axis.axis _ _ _ c.most_axes-axes.ensures c.length_on-a.ensures c.length_on-b.ensures c.length_on-c.ensures in
    record {
      inside = subst (λ n. c.loop-axis.axis < n) c.most_axes-axes.ensures c.loop-axis-test.true;
      before = c.loop-axis.invariant.agree;
      here = ap first_misfit ls ∙ sym c.misfit.ensures ∙ c.in-Some.is;
    }

pub loop-axis-preserved : goal.loop-axis-preserved
loop-axis-preserved c =
    let ls = lengths_on-three c.args.x.now c.args.y.now c.args.z.now _ c.loop-axis.axis _ _ _ c.most_axes-axes.ensures c.length_on-a.ensures c.length_on-b.ensures c.length_on-c.ensures in
    record {
      dims = c.in_ok-push-in-None.ensures.items ∙ dims-more (c.args.x.now ∷ c.args.y.now ∷ c.args.z.now ∷ []) c.loop-axis.axis c.common_length.result c.loop-axis.dims.items _ c.loop-axis.invariant.dims ls c.common_length.ensures;
      agree = below_more _ _ c.loop-axis.invariant.agree (ap first_misfit ls ∙ sym c.misfit.ensures ∙ c.in-None.is);
    }
