use Rattle.journal_audit.proofs.MergeLemmas.{one-merge}
use Rattle.journal_audit.proofs.merges.one_merge.Goals as goal

pub returns : goal.returns
returns c = one-merge
