use Rattle.std.proofs.Common.{arith, length, ap, ◌∙◌}
use Rattle.lowering_laws.specs.Sources.{Source}
use Rattle.block_lowering.proofs.JoinedSteps.{common-more, common-end}
use Rattle.block_lowering.proofs.joins.common.Goals as goal

pub loop-k-preserved : goal.loop-k-preserved
loop-k-preserved c =
    rw c.in_ok-push.ensures.items (common-more c.args.sources.now c.args.axis c.loop-k.k c.loop-k.axes.items c.in_ok-cuts_of_axis.field-0 c.in_ok-cuts_of_axis.ensures c.loop-k.invariant)

pub returns : goal.returns
returns c =
    common-end c.args.sources.now c.args.axis c.loop-k.k c.loop-k.axes.items c.index-sources-0.result c.requires
    (omega (arith, ap length (c.axes-count.ensures.value ∙ c.layout.ensures.value ∙ ap (λ (s : Source). s.layout) c.index-sources-0.is))) c.loop-k.invariant
