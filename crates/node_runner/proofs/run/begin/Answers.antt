use Rattle.std.proofs.Common.{◌≡◌, ◌∙◌, ◌+◌, ◌<◌, ℕ, map, subst, true}
use Rattle.std.specs.Prelude.{Contains, vec_len}
use Rattle.std.proofs.lemmas.Option.{IfSome_then}
use Rattle.gather_client.specs.CoreState.{client_facts}
use Rattle.worker_core.specs.Core.{facts as worker_facts}
use Rattle.turn_cell.specs.Rows.{berth_of}
use Rattle.node_runner.specs.Making.{AreMade}
use Rattle.node_runner.specs.Runs.{IsFirstScheduler, IsFirstWorker, IsFirstClient, numbers}
use Rattle.node_runner.proofs.Beginning.{allowed_named, deps_named}
use Rattle.node_runner.proofs.run.begin.Goals as goal

pub make_rows-rows-requires-clause-graph : goal.make_rows-rows-requires-clause-graph
make_rows-rows-requires-clause-graph g c = λ κs within.
    let j = g.J.JobSpec in
    let k = g.K.RunName in
    deps_named j.graph j.operation j.key_dims j.block_dims k.told k.allowed k.job c.args.job.now c.shape.result.now c.requires.named c.shape.ensures

pub make_rows-rows-requires-clause-allowed : goal.make_rows-rows-requires-clause-allowed
make_rows-rows-requires-clause-allowed g c = λ κs within.
    let j = g.J.JobSpec in
    let k = g.K.RunName in
    allowed_named j.graph j.operation j.key_dims j.block_dims k.told k.allowed k.job c.args.job.now c.requires.named ∙ c.requires.allowed

pub returns-clause-scheduler : goal.returns-clause-scheduler
returns-clause-scheduler g c = IfSome_then c.rights-stamps.result c.rights-stamps.ensures (λ _ yes.
    subst (λ s. AreMade (λ k x. IsFirstScheduler s c.args.plan.now x.history.book.kept) 1 (map (λ p. berth_of p.seat) c.make_rows-rows.result.0.scheduler.passes.items))
    c.shape.ensures (c.make_rows-rows.ensures.scheduler yes))

pub returns-clause-workers : goal.returns-clause-workers
returns-clause-workers g c = IfSome_then c.rights-stamps.result c.rights-stamps.ensures (λ _ yes.
    subst (λ s. AreMade (λ k x. IsFirstWorker s c.args.plan.now.threads (k + 1) x.history.book.kept.id (worker_facts x.history.book.kept.core))
    (numbers c.args.plan.now) (map (λ p. berth_of p.seat) c.make_rows-rows.result.0.workers.passes.items))
    c.shape.ensures (c.make_rows-rows.ensures.workers yes))

pub returns-clause-client : goal.returns-clause-client
returns-clause-client g c = IfSome_then c.rights-stamps.result c.rights-stamps.ensures (λ _ yes.
    subst (λ s. AreMade (λ k x. IsFirstClient s x.book.kept.id (client_facts x.book.kept.core)) 1
    (map (λ p. berth_of p.seat) c.make_rows-rows.result.0.clients.passes.items))
    c.shape.ensures (c.make_rows-rows.ensures.client yes))

pub returns-clause-short : goal.returns-clause-short
returns-clause-short g c =
    subst (λ vs. c.is_short-short.result ≡ true → (n : ℕ) × Contains (map (λ v. vec_len v) vs) n × (n < c.args.plan.now.threads))
    c.as_slice.ensures.value c.is_short-short.ensures
