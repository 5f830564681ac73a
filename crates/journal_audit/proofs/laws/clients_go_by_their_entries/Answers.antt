use Rattle.journal_audit.proofs.ClientLemmas.{client_last, client_got}
use Rattle.journal_audit.proofs.MergeLemmas.{own_of_merge}
use Rattle.journal_audit.proofs.laws.clients_go_by_their_entries.Goals as goal

pub returns : goal.returns
returns c = record { last = client_last; got = client_got; merged = own_of_merge }
