use Rattle.std.proofs.Common.{subst}
use Rattle.journal_audit.specs.Replays.{FailsBy}
use Rattle.journal_audit.proofs.AuditLemmas.{fails_here}
use Rattle.journal_audit.proofs.audits.audit.Goals as goal

pub returns-clause-fails : goal.returns-clause-fails
returns-clause-fails g c =
    fails_here g.J.JobSpec.fault_count c.args.feed c.first_wrong-wrong.result c.said-said.result
    (subst (λ f. FailsBy g.J.JobSpec.fault_count f c.first_wrong-wrong.result) c.in-Ok.ensures.feed c.first_wrong-wrong.ensures.fails) c.said-said.ensures.fails
