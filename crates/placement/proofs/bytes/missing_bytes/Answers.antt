use Rattle.std.proofs.Common.{arith, ap, ◌∙◌}
use Rattle.cluster_msgs.specs.Shape.{deps_of}
use Rattle.placement.proofs.Totals.{sum_more, sum_bound, sum_all}
use Rattle.placement.proofs.bytes.missing_bytes.Goals as goal

pub overflow_add-total : goal.overflow_add-total
overflow_add-total g c =
    let e = c.deps-dependency-items.ensures ∙ ap (λ s. deps_of s c.args.key) c.requires.shape in
    let m = sum_more (g.F.Facts.facts c.args.facts.now) c.args.worker c.deps-dependency-items.result.now c.loop-dependency.dependency-index c.loop-dependency.total c.fetched-total.result c.loop-dependency-test.true c.loop-dependency.invariant c.fetched-total.ensures in
    omega (arith, sum_bound _ c.sound.ensures c.args.worker c.args.key _ _ _ e m)

pub loop-dependency-preserved : goal.loop-dependency-preserved
loop-dependency-preserved g c = sum_more (g.F.Facts.facts c.args.facts.now) c.args.worker c.deps-dependency-items.result.now c.loop-dependency.dependency-index c.loop-dependency.total c.fetched-total.result c.loop-dependency-test.true c.loop-dependency.invariant c.fetched-total.ensures

pub returns-clause-is : goal.returns-clause-is
returns-clause-is g c = sum_all _ _ _ _ _ _ (c.deps-dependency-items.ensures ∙ ap (λ s. deps_of s c.args.key) c.requires.shape) c.loop-dependency-test.false c.loop-dependency.invariant

pub returns-clause-fits : goal.returns-clause-fits
returns-clause-fits g c = sum_bound _ c.sound.ensures c.args.worker c.args.key _ _ _ (c.deps-dependency-items.ensures ∙ ap (λ s. deps_of s c.args.key) c.requires.shape) c.loop-dependency.invariant
