use Rattle.std.proofs.Common.{◌≡◌, ◌≤◌, ◌∙◌, ◌++◌, ap, sym, arith}
use Rattle.std.proofs.lemmas.Result.{on_ok_weaker}
use Rattle.cluster_rules.specs.Functions.{put}
use Rattle.cluster_rules.specs.Worker.{WorkerFacts}
use Rattle.cluster_rules.specs.WorkerStep.{worker_step, worker_takes}
use Rattle.worker_core.specs.Core.{Core, facts}
use Rattle.cluster_nodes.specs.Nodes.{workers_of}
use Rattle.cluster_nodes.proofs.NodeLemmas.{workers_set, worker_was, step_shape}
use Rattle.cluster_nodes.proofs.Places.{all_set, all_at}
use Rattle.cluster_nodes.proofs.Counting.{worker_counted}
use Rattle.cluster_nodes.proofs.cores.worker_on.Goals as goal

pub returns-clause-facts : goal.returns-clause-facts
returns-clause-facts c = on_ok_weaker c.on.result
    (λ e g alive a. workers_set g alive c.args.workers.now.items c.args.worker c.on.new.self c.requires a
    ∙ ap (λ (w : WorkerFacts). put (workers_of g alive c.args.workers.now.items) c.args.worker w)
    (e ∙ ap (λ (w : WorkerFacts). (worker_step w c.args.event).facts) (sym (worker_was g alive c.args.workers.now.items c.args.worker c.index_mut.result.now c.requires a c.index_mut.ensures.value))))
    c.on.ensures.facts

pub returns-clause-out : goal.returns-clause-out
returns-clause-out c = on_ok_weaker c.on.result
    (λ e g alive a. e ∙ ap (λ (w : WorkerFacts). c.args.out.now ++ (worker_step w c.args.event).out) (sym (worker_was g alive c.args.workers.now.items c.args.worker c.index_mut.result.now c.requires a c.index_mut.ensures.value)))
    c.on.ensures.out

pub returns-clause-possible : goal.returns-clause-possible
returns-clause-possible c = on_ok_weaker c.on.result
    (λ p g alive a. ap (λ (w : WorkerFacts). worker_takes w c.args.event) (worker_was g alive c.args.workers.now.items c.args.worker c.index_mut.result.now c.requires a c.index_mut.ensures.value) ∙ p.2)
    c.on.ensures.possible

pub returns-clause-over : goal.returns-clause-over
returns-clause-over c = on_ok_weaker c.on.result
    (λ e s h. all_set (λ (w : Core). (facts w).shape ≡ s) c.args.workers.now.items c.args.worker c.on.new.self
    (ap (λ (w : WorkerFacts). w.shape) e ∙ (step_shape (facts c.index_mut.result.now) c.args.event)
    ∙ all_at (λ (w : Core). (facts w).shape ≡ s) c.args.workers.now.items c.args.worker c.index_mut.result.now c.requires c.index_mut.ensures.value h)
    h)
    c.on.ensures.facts

pub returns-clause-few : goal.returns-clause-few
returns-clause-few c = on_ok_weaker c.on.result
    (λ e n h. worker_counted n c.args.workers.now.items c.args.worker c.index_mut.result.now c.on.new.self c.requires c.index_mut.ensures.value e h)
    c.on.ensures.events

pub returns-clause-refused : goal.returns-clause-refused
returns-clause-refused c r g alive a = ap (λ (w : WorkerFacts). worker_takes w c.args.event) (worker_was g alive c.args.workers.now.items c.args.worker c.index_mut.result.now c.requires a c.index_mut.ensures.value) ∙ (c.on.ensures.refused.0 r).2

pub returns-clause-spent : goal.returns-clause-spent
returns-clause-spent c r n h =
    let e = (c.on.ensures.spent.0 r).1 in
    let b = all_at (λ (w : Core). w.events ≤ n) c.args.workers.now.items c.args.worker c.index_mut.result.now c.requires c.index_mut.ensures.value h in
    omega (arith, e, b)
