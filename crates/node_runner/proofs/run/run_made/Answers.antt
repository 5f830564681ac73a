use Rattle.std.proofs.Common.{◌≡◌, ◌∙◌, ◌+◌, ◌<◌, ◌⊎◌, true, subst, sym}
use Rattle.std.specs.Prelude.{All, Contains, slice_index_or}
use Rattle.gather_client.specs.CoreState.{client_facts}
use Rattle.worker_core.specs.Core.{facts as worker_facts}
use Rattle.node_runner.specs.Naming.{run_facts}
use Rattle.node_runner.specs.Runs.{IsDecided, IsSchedulersBook, IsWorkersBook, IsClientsBook, HowItEnded}
use Rattle.node_runner.proofs.FeedFaults.{still_ok, told_end}
use Rattle.node_runner.proofs.Beginning.{allowed_named}
use Rattle.node_runner.proofs.run.run_made.Goals as goal

pub end_rows-ends-requires-clause-allowed : goal.end_rows-ends-requires-clause-allowed
end_rows-ends-requires-clause-allowed g c =
    let j = g.J.JobSpec in
    let k = g.K.RunName in
    allowed_named j.graph j.operation j.key_dims j.block_dims k.told k.allowed k.job c.args.job.now c.requires.named ∙ c.requires.allowed

pub end_rows-ends-requires-clause-scheduler : goal.end_rows-ends-requires-clause-scheduler
end_rows-ends-requires-clause-scheduler g c =
    let j = g.J.JobSpec in
    let k = g.K.RunName in
    subst (λ s. All (λ x. IsSchedulersBook (run_facts j.graph j.operation j.key_dims j.block_dims k.told k.allowed k.job) s c.args.plan.now x.history.book)
    c.run_rows-closed.result.0.scheduler.items) (sym c.shape.ensures) c.run_rows-closed.ensures.scheduler

pub end_rows-ends-requires-clause-workers : goal.end_rows-ends-requires-clause-workers
end_rows-ends-requires-clause-workers g c =
    let j = g.J.JobSpec in
    let k = g.K.RunName in
    λ at w less. subst (λ s. IsWorkersBook (run_facts j.graph j.operation j.key_dims j.block_dims k.told k.allowed k.job) s c.args.plan.now.threads (at + 1)
    (λ x. x.id) (λ x. worker_facts x.core) (slice_index_or c.run_rows-closed.result.0.workers.items at w).history.book) (sym c.shape.ensures)
    (c.run_rows-closed.ensures.workers at w less)

pub end_rows-ends-requires-clause-clients : goal.end_rows-ends-requires-clause-clients
end_rows-ends-requires-clause-clients g c =
    let j = g.J.JobSpec in
    let k = g.K.RunName in
    subst (λ s. All (λ x. IsClientsBook (run_facts j.graph j.operation j.key_dims j.block_dims k.told k.allowed k.job) s (λ x. x.id) (λ x. client_facts x.core) x.book)
    c.run_rows-closed.result.0.clients.items) (sym c.shape.ensures) c.run_rows-closed.ensures.clients

pub returns-clause-had : goal.returns-clause-had
returns-clause-had g c = still_ok (λ _. All (λ k. g.Z.Sink.had c.end_rows-ends.new.sink k ≡ true) c.args.wanted.now) c.end_rows-ends.result.0.result c.without_doubt.result.result
    (IsDecided c.args.plan.now ((c.args.short ≡ true) ⊎ ((f : _) × Contains c.end_rows-ends.result.0.feeds.items f × (0 < g.J.JobSpec.fault_count f))) c.end_rows-ends.result.1)
    c.without_doubt.ensures.changed c.end_rows-ends.ensures.had

pub returns-clause-leads : goal.returns-clause-leads
returns-clause-leads g c = g.met.Z.Sink.on c.args.sink c.run_rows-closed.result.1 c.end_rows-ends.new.sink c.run_rows-closed.ensures.leads c.end_rows-ends.ensures.leads

pub returns-clause-ended : goal.returns-clause-ended
returns-clause-ended g c =
    let j = g.J.JobSpec in
    let k = g.K.RunName in
    let l = run_facts j.graph j.operation j.key_dims j.block_dims k.told k.allowed k.job in
    let old = c.end_rows-ends.result.0 in
    let new = c.without_doubt.result in
    subst (λ s. HowItEnded l s c.args.plan.now c.args.wanted.now ((c.args.short ≡ true) ⊎ ((f : _) × Contains new.feeds.items f × (0 < j.fault_count f))) new.result new.left.items new.histories) c.shape.ensures
    (told_end l c.shape.result.now c.args.plan.now c.args.wanted.now
    (λ fs. (c.args.short ≡ true) ⊎ ((f : _) × Contains fs.items f × (0 < j.fault_count f))) old.result new.result (λ v. v.items) old.left new.left old.feeds new.feeds
    old.histories new.histories c.end_rows-ends.result.1 c.end_rows-ends.ensures.ended c.end_rows-ends.ensures.none c.without_doubt.ensures.same
    c.without_doubt.ensures.none c.without_doubt.ensures.changed)
