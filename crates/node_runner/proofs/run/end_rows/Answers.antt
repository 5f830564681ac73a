use Rattle.std.proofs.Common.{◌+◌, ◌<◌, ℕ, map, sym, subst}
use Rattle.std.specs.Prelude.{vec_len, slice_index_or}
use Rattle.std.proofs.lemmas.Option.{IfSome_then}
use Rattle.std.proofs.lemmas.List.Elements.{All-contains}
use Rattle.gather_client.specs.CoreState.{client_facts}
use Rattle.scheduler_core.specs.Cores.{facts}
use Rattle.worker_core.specs.Core.{facts as worker_facts}
use Rattle.node_states.specs.declared.worker.WorkerNode.{WorkerNode}
use Rattle.node_runner.specs.Runs.{IsSchedulersBook, IsWorkersBook, IsClientsBook, last_facts}
use Rattle.node_runner.proofs.run.end_rows.Goals as goal

pub end_nodes-requires-clause-scheduler : goal.end_nodes-requires-clause-scheduler
end_nodes-requires-clause-scheduler g c = All-contains (λ s. IsSchedulersBook g.L.Label.facts c.args.graph.now c.args.plan.now s.history.book)
    c.args.closed.scheduler.items _ c.requires.scheduler c.in-Ok.ensures.scheduler

pub end_nodes-requires-clause-workers : goal.end_nodes-requires-clause-workers
end_nodes-requires-clause-workers g c =
    subst (λ v. (k : ℕ) (w : WorkerNode g.row.B.Denot g.row.L.Denot g.row.F.Denot g.row.S.Denot _ g.L.Label g.S.BlockStore) → k < vec_len v → IsWorkersBook g.L.Label.facts c.args.graph.now c.args.plan.now.threads (k + 1)
    (λ c. c.id) (λ c. worker_facts c.core) (slice_index_or v.items k w).history.book) (sym c.in-Ok.ensures.workers) c.requires.workers

pub end_nodes-requires-clause-client : goal.end_nodes-requires-clause-client
end_nodes-requires-clause-client g c = All-contains (λ x. IsClientsBook g.L.Label.facts c.args.graph.now (λ x. x.id) (λ x. client_facts x.core) x.book)
    c.args.closed.clients.items _ c.requires.clients c.in-Ok.ensures.client

pub returns-in-Ok-clause-ended : goal.returns-in-Ok-clause-ended
returns-in-Ok-clause-ended g c = IfSome_then c.end_nodes.result.0.histories c.end_nodes.ensures.ended (λ h run. (
  last_facts (facts c.in-Ok.scheduler.history.book.core.core) (map (λ w. worker_facts w.history.book.core.core) c.in-Ok.workers.items)
      (client_facts c.in-Ok.client.book.core.core),
  run,
  c.end_nodes.ensures.doubt,
))

pub returns-in-Err-clause-leads : goal.returns-in-Err-clause-leads
returns-in-Err-clause-leads g c = g.met.Z.Sink.here c.args.sink.now
