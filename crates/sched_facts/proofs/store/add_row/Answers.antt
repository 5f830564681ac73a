use Rattle.std.proofs.Common.{ap, ◌∙◌}
use Rattle.fact_rows.specs.Rows.{cell}
use Rattle.sched_facts.proofs.GridLemmas.{cell-push}
use Rattle.sched_facts.proofs.store.add_row.Goals as goal

pub returns-in-Ok-push-clause-same : goal.returns-in-Ok-push-clause-same
returns-in-Ok-push-clause-same g c = ap (λ v. cell v c.args.value) c.in-Ok-push.ensures.ok ∙ cell-push c.args.grid.now.0 c.args.grid.now.1 c.in-Ok.row c.args.value c.in-Ok.ensures.same
