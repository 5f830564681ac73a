use Rattle.std.proofs.Common.{arith, ◌∙◌}
use Rattle.placement.proofs.Placing.{cost_fits}
use Rattle.placement.proofs.choice.candidate_of.Goals as goal

pub overflow_add-result : goal.overflow_add-result
overflow_add-result g c = omega (arith, cost_fits (g.F.Facts.facts c.args.facts.now) c.sound.ensures c.args.worker c.missing_bytes.result c.occupancy.result c.from.result c.requires.connected c.missing_bytes.ensures.fits c.occupancy.ensures (c.from.ensures ∙ c.threads.ensures))
