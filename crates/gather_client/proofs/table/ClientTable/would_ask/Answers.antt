use Rattle.std.proofs.Common.{◌∙◌, ap, not}
use Rattle.small_facts.proofs.Options.{and_where_none, and_where_some}
use Rattle.cluster_rules.specs.Worker.{ask_to, has_any}
use Rattle.cluster_rules.specs.Client.{client_would_ask, client_fetchable}
use Rattle.gather_client.specs.Stored.{facts_of}
use Rattle.gather_client.proofs.table.ClientTable.would_ask.Goals as goal

pub returns-then-not-has_ask : goal.returns-then-not-has_ask
unfolding client_would_ask
returns-then-not-has_ask c =
    let f = facts_of c.args.self.now in
    c.has_fetchable.ensures ∙ and_where_none (ask_to f.asks c.args.peer) (has_any (client_fetchable f c.args.peer)) c.has_ask.result c.has_ask.ensures c.if-not-has_ask.true

pub returns-else-not-has_ask : goal.returns-else-not-has_ask
unfolding client_would_ask
returns-else-not-has_ask c =
    let f = facts_of c.args.self.now in
    ap not c.if-not-has_ask.false ∙ and_where_some (ask_to f.asks c.args.peer) (has_any (client_fetchable f c.args.peer)) c.has_ask.result c.has_ask.ensures c.if-not-has_ask.false
