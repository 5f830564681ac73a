use Rattle.std.proofs.Common.{◌≡◌, ◌≤◌, ◌∙◌, ℕ, List, true, ap, sym, subst, [], arith, length}
use Rattle.std.specs.List.{filter_map, AllByRecursion}
use Rattle.cluster_msgs.specs.declared.messages.Message.{Message}
use Rattle.message_queues.specs.Posts.{downs, ups}
use Rattle.cluster_nodes.specs.Nodes.{as_down, as_up}
use Rattle.cluster_msgs.specs.Shape.{Shape}
use Rattle.cluster_rules.specs.Worker.{WorkerFacts, new_worker}
use Rattle.worker_core.specs.Core.{Core, facts}
use Rattle.cluster_nodes.specs.Growing.{HasCore}
use Rattle.cluster_nodes.specs.Kept.{WorkersTookFew}
use Rattle.cluster_nodes.proofs.Places.{all_more, one_longer}
use Rattle.cluster_nodes.proofs.Changing.{joined_is}
use Rattle.cluster_nodes.proofs.Keeping.{sized_joined}
use Rattle.cluster_nodes.proofs.Tidying.{tidy_joined}
use Rattle.cluster_nodes.proofs.nodes.Nodes.join.Goals as goal

pub add_places-requires : goal.add_places-requires
add_places-requires g c = c.requires.nodes.sized.spilled_keys ∙ sym c.keys.ensures

pub returns-clause-cluster : goal.returns-clause-cluster
returns-clause-cluster g c f e =
    let old = c.args.self.now in
    let more : HasCore old.shape (length old.workers.items) c.args.threads old.workers.items c.add_core.new.workers.items = c.in_ok-add_core.ensures in
    joined_is f old c.add_core.new.workers c.push.new.self c.add_places.new.spilled c.add_places.new.down c.add_places.new.up c.add_places.new.held c.add_places.new.inputs more.added c.args.threads
    c.requires.nodes.sized.alive more.cores (more.starts ∙ ap (λ (s : Shape). new_worker s (length old.workers.items) c.args.threads) (sym e)) c.in_ok-push.ensures.ok
    c.in_ok-add_places.ensures.spilled c.in_ok-add_places.ensures.down.1 c.in_ok-add_places.ensures.up.1 c.in_ok-add_places.ensures.held c.in_ok-add_places.ensures.inputs

pub returns-clause-nodes : goal.returns-clause-nodes
returns-clause-nodes g c =
    let old = c.args.self.now in
    let s = c.requires.nodes.sorted in
    let more : HasCore old.shape (length old.workers.items) c.args.threads old.workers.items c.add_core.new.workers.items = c.in_ok-add_core.ensures in
    record {
      sized = sized_joined old c.add_core.new.workers c.push.new.self c.add_places.new.spilled c.add_places.new.down c.add_places.new.up c.add_places.new.held c.add_places.new.inputs
          (one_longer c.add_core.new.workers.items old.workers.items more.added more.cores)
          (one_longer c.push.new.self old.alive true c.in_ok-push.ensures.ok)
          c.in_ok-add_places.ensures.spilled_size.0 c.in_ok-add_places.ensures.spilled_size.1
          (one_longer c.add_places.new.down old.down [] c.in_ok-add_places.ensures.down.0) (one_longer c.add_places.new.up old.up [] c.in_ok-add_places.ensures.up.0)
          c.in_ok-add_places.ensures.held_size.0 c.in_ok-add_places.ensures.held_size.1 c.in_ok-add_places.ensures.inputs_size.0 c.in_ok-add_places.ensures.inputs_size.1
          (subst (λ (l : List Core). AllByRecursion (λ (w : Core). (facts w).shape ≡ old.shape) l) (sym more.cores)
          (all_more (λ (w : Core). (facts w).shape ≡ old.shape) old.workers.items more.added (ap (λ (w : WorkerFacts). w.shape) more.starts) c.requires.nodes.sized.workers))
          c.requires.nodes.sized;
      sorted = record {
        down = subst (λ (f : ℕ → List Message). (i : ℕ) → downs (filter_map as_down (f i)) ≡ f i) (sym c.in_ok-add_places.ensures.down.1) s.down;
        up = subst (λ (f : ℕ → List Message). (i : ℕ) → ups (filter_map as_up (f i)) ≡ f i) (sym c.in_ok-add_places.ensures.up.1) s.up;
        to_client = s.to_client;
        from_client = s.from_client;
        requests = s.requests;
        answers = s.answers;
      };
      tidy = tidy_joined old.strays old.alive old.workers.items old.clients.items old.spilled old.held old.got c.push.new.self c.add_core.new.workers.items c.add_places.new.spilled c.add_places.new.held more.added
          c.requires.nodes.sized.alive c.in_ok-push.ensures.ok more.cores c.in_ok-add_places.ensures.spilled c.in_ok-add_places.ensures.held c.requires.nodes.tidy;
    }

pub returns-clause-few : goal.returns-clause-few
returns-clause-few g c n h =
    let old = c.args.self.now in
    let more : HasCore old.shape (length old.workers.items) c.args.threads old.workers.items c.add_core.new.workers.items = c.in_ok-add_core.ensures in
    (subst (λ (l : List Core). WorkersTookFew n l) (sym more.cores) (all_more (λ (x : Core). x.events ≤ n) old.workers.items more.added (omega (arith, more.fresh)) h.0), h.1)
