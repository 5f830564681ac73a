use Rattle.std.proofs.Common.{◌≡◌, ◌∙◌, ◌<◌, ◌++◌, ℕ, List, sym, ap, arith, length}
use Rattle.cluster_msgs.specs.Shape.{key_count}
use Rattle.cluster_msgs.specs.declared.cores.Instruction.{Instruction}
use Rattle.cluster_msgs.specs.declared.messages.Message.TheVariants as message
use Rattle.cluster_rules.specs.WorkerStep.{worker_step}
use Rattle.cluster_rules.specs.WorldStep.{sends}
use Rattle.message_queues.specs.Queues.{waiting}
use Rattle.worker_core.specs.Core.{Core, facts}
use Rattle.cluster_nodes.specs.Nodes.{as_up, workers_of, world_of}
use Rattle.cluster_nodes.proofs.NodeLemmas.{ups_are, only_more}
use Rattle.cluster_nodes.proofs.Places.{all_at}
use Rattle.cluster_nodes.proofs.Counting.{clients_more, same_err}
use Rattle.cluster_nodes.proofs.Keeping.{sized_worker}
use Rattle.cluster_nodes.proofs.Turning.{worker_turn_is, core_now}
use Rattle.cluster_nodes.specs.Gone.{lost_by}
use Rattle.cluster_nodes.specs.Turns.{first_at}
use Rattle.cluster_nodes.proofs.Leaving.{step_leaves}
use Rattle.cluster_nodes.proofs.Tidying.{was_out, tidy_worker}
use Rattle.cluster_rules.specs.Derived.{is_in}
use Rattle.cluster_rules.specs.Worker.{WorkerFacts}
use Rattle.cluster_nodes.proofs.nodes.Nodes.worker_turn.Goals as goal

pub shelve-requires-clause-inside : goal.shelve-requires-clause-inside
shelve-requires-clause-inside g c k h =
    let l : c.args.worker < length c.worker_on.new.workers.items = omega (arith, c.worker_on.ensures.length, c.requires.worker) in
    let e : (facts c.index-core.result.now).shape ≡ c.args.self.now.shape
    = all_at (λ (w : Core). (facts w).shape ≡ c.args.self.now.shape) c.worker_on.new.workers.items c.args.worker c.index-core.result.now l c.index-core.ensures (c.in_ok-worker_on.ensures.over c.args.self.now.shape c.requires.nodes.sized.workers) in
    c.inside.ensures.mem k (let m = ap key_count e in omega (arith, m, h, c.requires.nodes.sized.held_keys))

-- what the worker no longer has and the event doesn't name it didn't have before
pub unspill-requires-clause-tidy : goal.unspill-requires-clause-tidy
unspill-requires-clause-tidy g c q k m o =
    let old = c.args.self.now in
    let before = workers_of old.shape old.alive old.workers.items c.args.worker in
    let l : c.args.worker < length c.worker_on.new.workers.items = omega (arith, c.worker_on.ensures.length, c.requires.worker) in
    let now = core_now old.shape old.alive old.workers.items c.worker_on.new.workers.items c.args.worker c.index-core.result.now (worker_step before c.args.event).facts l c.requires.alive c.index-core.ensures (c.in_ok-worker_on.ensures.facts old.shape old.alive c.requires.alive) in
    c.requires.nodes.tidy.spilled q old.shape c.args.worker k
    (was_out (lost_by c.args.event) before.mem (worker_step before c.args.event).facts.mem (step_leaves before c.args.event) k
    (sym (ap (λ (w : WorkerFacts). w.mem k) now) ∙ m) (ap (λ (l : List ℕ). is_in k l) (sym (c.as_slice-lost.ensures ∙ c.in_ok-gone.ensures)) ∙ o))

pub shelve-requires-clause-tidy : goal.shelve-requires-clause-tidy
shelve-requires-clause-tidy g c k m o =
    let old = c.args.self.now in
    let before = workers_of old.shape old.alive old.workers.items c.args.worker in
    let l : c.args.worker < length c.worker_on.new.workers.items = omega (arith, c.worker_on.ensures.length, c.requires.worker) in
    let now = core_now old.shape old.alive old.workers.items c.worker_on.new.workers.items c.args.worker c.index-core.result.now (worker_step before c.args.event).facts l c.requires.alive c.index-core.ensures (c.in_ok-worker_on.ensures.facts old.shape old.alive c.requires.alive) in
    c.requires.nodes.tidy.held old.shape c.args.worker k
    (was_out (lost_by c.args.event) before.mem (worker_step before c.args.event).facts.mem (step_leaves before c.args.event) k
    (sym (ap (λ (w : WorkerFacts). w.mem k) now) ∙ m) (ap (λ (l : List ℕ). is_in k l) (sym (c.as_slice-lost.ensures ∙ c.in_ok-gone.ensures)) ∙ o))

pub returns-clause-cluster : goal.returns-clause-cluster
returns-clause-cluster g c f =
    let l : c.args.worker < length c.worker_on.new.workers.items = omega (arith, c.worker_on.ensures.length, c.requires.worker) in
    let old = c.args.self.now in
    let step = worker_step (workers_of f.setting.shape old.alive old.workers.items c.args.worker) c.args.event in
    let e = c.in_ok-worker_on.ensures.facts f.setting.shape old.alive c.requires.alive in
    worker_turn_is f old c.worker_on.new.workers c.unspill.new.spilled c.shelve.new.shelf c.post_worker.new.up c.post_worker.new.requests c.args.worker c.args.event c.index-core.result.now c.worker_on.new.out c.args.brought.items
    e
    (c.in_ok-worker_on.ensures.out f.setting.shape old.alive c.requires.alive ∙ ap (λ (l : List Instruction). l ++ step.out) c.new-out.ensures)
    (core_now f.setting.shape old.alive old.workers.items c.worker_on.new.workers.items c.args.worker c.index-core.result.now step.facts l c.requires.alive c.index-core.ensures e)
    c.unspill.ensures.meaning c.shelve.ensures.meaning c.in_ok-post_worker.ensures.up c.in_ok-post_worker.ensures.requests

pub returns-clause-possible : goal.returns-clause-possible
unfolding world_of
returns-clause-possible g c f = c.in_ok-worker_on.ensures.possible f.setting.shape c.args.self.now.alive c.requires.alive

pub returns-clause-nodes : goal.returns-clause-nodes
returns-clause-nodes g c =
    let old = c.args.self.now in
    record {
      sized = sized_worker old c.worker_on.new.workers c.unspill.new.spilled c.shelve.new.shelf c.post_worker.new.up c.post_worker.new.requests
          c.worker_on.ensures.length c.unspill.ensures.height c.unspill.ensures.width c.shelve.ensures.height c.shelve.ensures.width c.post_worker.ensures.length
          (c.in_ok-worker_on.ensures.over old.shape c.requires.nodes.sized.workers) c.requires.nodes.sized;
      sorted = record {
        down = c.requires.nodes.sorted.down;
        up = only_more as_up (λ m. message.Up m) ups_are (waiting old.up) (waiting c.post_worker.new.up) c.args.worker (sends c.worker_on.new.out) c.in_ok-post_worker.ensures.up c.requires.nodes.sorted.up;
        to_client = c.requires.nodes.sorted.to_client;
        from_client = c.requires.nodes.sorted.from_client;
        requests = c.in_ok-post_worker.ensures.kind c.requires.nodes.sorted.requests;
        answers = c.requires.nodes.sorted.answers;
      };
      tidy = tidy_worker old.strays old.alive old.workers.items old.clients.items old.spilled old.held old.got c.worker_on.new.workers.items c.unspill.new.spilled c.shelve.new.shelf c.args.worker c.index-core.result.now
          (λ s. (worker_step (workers_of s old.alive old.workers.items c.args.worker) c.args.event).facts) (first_at c.args.brought.items)
          (omega (arith, c.worker_on.ensures.length, c.requires.worker)) c.requires.alive c.index-core.ensures (λ s. c.in_ok-worker_on.ensures.facts s old.alive c.requires.alive)
          c.unspill.ensures.meaning c.shelve.ensures.meaning c.requires.nodes.tidy;
    }

pub returns-clause-few : goal.returns-clause-few
returns-clause-few g c n h = (c.in_ok-worker_on.ensures.few n h.0, clients_more n c.args.self.now.clients.items h.1)

pub returns-in_err-worker_on-clause-refused : goal.returns-in_err-worker_on-clause-refused
unfolding world_of
returns-in_err-worker_on-clause-refused g c r f = c.in_err-worker_on.ensures.refused (sym (same_err c.from_residual-in_err-worker_on.result _ c.from_residual-in_err-worker_on.ensures.1) ∙ r) f.setting.shape c.args.self.now.alive c.requires.alive

pub returns-in_err-worker_on-clause-spent : goal.returns-in_err-worker_on-clause-spent
returns-in_err-worker_on-clause-spent g c r n h = c.in_err-worker_on.ensures.spent (sym (same_err c.from_residual-in_err-worker_on.result _ c.from_residual-in_err-worker_on.ensures.1) ∙ r) n h.0
