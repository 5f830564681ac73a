use Rattle.std.proofs.Common.{◌∙◌, ap, not}
use Rattle.small_facts.proofs.Options.{and_where_none, and_where_some}
use Rattle.cluster_rules.specs.Worker.{would_ask, ask_to, fetchable, has_any}
use Rattle.worker_facts.specs.Stored.{facts_of}
use Rattle.worker_table.proofs.table.WorkerTable.would_ask.Goals as goal

pub returns-then-not-has_ask : goal.returns-then-not-has_ask
unfolding would_ask
returns-then-not-has_ask c =
    let f = facts_of c.args.self.now in
    c.has_fetchable.ensures ∙ and_where_none (ask_to f.asks c.args.peer) (has_any (fetchable f c.args.peer)) c.has_ask.result c.has_ask.ensures c.if-not-has_ask.true

pub returns-else-not-has_ask : goal.returns-else-not-has_ask
unfolding would_ask
returns-else-not-has_ask c =
    let f = facts_of c.args.self.now in
    ap not c.if-not-has_ask.false ∙ and_where_some (ask_to f.asks c.args.peer) (has_any (fetchable f c.args.peer)) c.has_ask.result c.has_ask.ensures c.if-not-has_ask.false
