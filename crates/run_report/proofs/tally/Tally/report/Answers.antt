use Rattle.std.proofs.Common.{◌∙◌}
use Rattle.run_report.proofs.TallyLemmas.{report_is}
use Rattle.run_report.proofs.tally.Tally.report.Goals as goal

pub returns : goal.returns
returns c es h = report_is c.args.self.now c.args.shape.now es c.in_ok-workers.field-0 c.from.result c.from-2.result c.in_ok-workers.ensures (c.from.ensures ∙ c.keys.ensures) (c.from-2.ensures ∙ c.edges.ensures) h
