use Rattle.std.proofs.Common.{ap, ◌∙◌}
use Rattle.fact_rows.specs.Rows.{cell}
use Rattle.sched_facts.proofs.GridLemmas.{cell-push}
use Rattle.sched_facts.proofs.sheets.Sheets.add.Goals as goal

pub returns-in-Ok-push-clause-same : goal.returns-in-Ok-push-clause-same
returns-in-Ok-push-clause-same g c = ap (λ v. cell v c.args.rest) c.in-Ok-push.ensures.ok ∙ cell-push c.args.self.now.0 c.args.self.now.1 c.in-Ok.row c.args.rest c.in-Ok.ensures.same
