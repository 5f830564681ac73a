use Rattle.std.proofs.Common.{ap, ◌∙◌, arith}
use Rattle.cluster_msgs.specs.Shape.{work_of}
use Rattle.cluster_rules.proofs.TotalLemmas.{occupancy_fits}
use Rattle.balance_policy.proofs.Stealing.{offered, not_offered}
use Rattle.balance_policy.proofs.steal.offer.Goals as goal

pub overflow_add-ahead : goal.overflow_add-ahead
overflow_add-ahead g c = omega (arith, occupancy_fits (g.F.Facts.facts c.args.facts.now) c.args.steal.thief c.sound.ensures, c.occupancy.ensures, c.missing_bytes-bytes.ensures.fits)

pub overflow_add-ahead-2 : goal.overflow_add-ahead-2
overflow_add-ahead-2 g c = omega (arith, occupancy_fits (g.F.Facts.facts c.args.facts.now) c.args.steal.thief c.sound.ensures, c.occupancy.ensures, c.missing_bytes-bytes.ensures.fits, c.work-work.ensures ∙ ap (λ s. work_of s c.args.steal.key) c.requires.shape, c.sound.ensures.shape.light c.args.steal.key)

pub overflow_mul-ahead : goal.overflow_mul-ahead
overflow_mul-ahead g c = omega (arith, occupancy_fits (g.F.Facts.facts c.args.facts.now) c.args.steal.thief c.sound.ensures, c.occupancy.ensures, c.missing_bytes-bytes.ensures.fits, c.work-work.ensures ∙ ap (λ s. work_of s c.args.steal.key) c.requires.shape, c.sound.ensures.shape.light c.args.steal.key)

pub overflow_add-ahead-3 : goal.overflow_add-ahead-3
overflow_add-ahead-3 g c = omega (arith, occupancy_fits (g.F.Facts.facts c.args.facts.now) c.args.steal.thief c.sound.ensures, c.occupancy.ensures, c.missing_bytes-bytes.ensures.fits, c.work-work.ensures ∙ ap (λ s. work_of s c.args.steal.key) c.requires.shape, c.sound.ensures.shape.light c.args.steal.key)

pub overflow_mul-occupancy : goal.overflow_mul-occupancy
overflow_mul-occupancy g c = omega (arith, occupancy_fits (g.F.Facts.facts c.args.facts.now) c.args.steal.victim c.sound.ensures, c.occupancy-2.ensures)

pub returns-then-ahead-work : goal.returns-then-ahead-work
returns-then-ahead-work g c = offered (g.F.Facts.facts c.args.facts.now) c.args.steal c.occupancy.result c.missing_bytes-bytes.result c.work-work.result c.occupancy-2.result c.level.result c.occupancy.ensures c.missing_bytes-bytes.ensures.is (c.work-work.ensures ∙ ap (λ s. work_of s c.args.steal.key) c.requires.shape) c.occupancy-2.ensures c.if-ahead-work.true c.level.ensures

pub returns-else-ahead-work : goal.returns-else-ahead-work
returns-else-ahead-work g c = not_offered (g.F.Facts.facts c.args.facts.now) c.args.steal c.occupancy.result c.missing_bytes-bytes.result c.work-work.result c.occupancy-2.result c.occupancy.ensures c.missing_bytes-bytes.ensures.is (c.work-work.ensures ∙ ap (λ s. work_of s c.args.steal.key) c.requires.shape) c.occupancy-2.ensures c.if-ahead-work.false
