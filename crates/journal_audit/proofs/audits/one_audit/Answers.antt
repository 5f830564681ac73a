use Rattle.journal_audit.proofs.AuditLemmas.{legal_or_differs, first_alone}
use Rattle.journal_audit.proofs.audits.one_audit.Goals as goal

pub returns : goal.returns
returns c = record { legal = legal_or_differs; first = first_alone }
