use Rattle.std.proofs.Common.{◌≡◌, ◌∙◌, ◌<◌, ◌++◌, ℕ, List, sym, ap, arith, length}
use Rattle.cluster_msgs.specs.Shape.{key_count}
use Rattle.cluster_msgs.specs.declared.cores.ClientInstruction.{ClientInstruction}
use Rattle.cluster_msgs.specs.declared.messages.Message.TheVariants as message
use Rattle.cluster_rules.specs.Client.{client_step}
use Rattle.cluster_rules.specs.WorldStep.{client_sends}
use Rattle.message_queues.specs.Queues.{waiting}
use Rattle.gather_client.specs.CoreState.{CoreState, client_facts}
use Rattle.cluster_nodes.specs.Nodes.{as_from_client, clients_of, world_of}
use Rattle.cluster_nodes.proofs.NodeLemmas.{from_clients_are, only_more}
use Rattle.cluster_nodes.proofs.Places.{all_at}
use Rattle.cluster_nodes.proofs.Counting.{workers_more, same_err}
use Rattle.cluster_nodes.proofs.Keeping.{sized_client}
use Rattle.cluster_nodes.proofs.Turning.{client_turn_is, client_now}
use Rattle.cluster_nodes.specs.Gone.{released_by}
use Rattle.cluster_nodes.specs.Turns.{first_at}
use Rattle.cluster_nodes.proofs.Leaving.{client_leaves}
use Rattle.cluster_nodes.proofs.Tidying.{was_out, tidy_client}
use Rattle.cluster_rules.specs.Derived.{is_in}
use Rattle.cluster_rules.specs.Client.{ClientFacts}
use Rattle.cluster_nodes.proofs.nodes.Nodes.client_turn.Goals as goal

pub shelve-requires-clause-inside : goal.shelve-requires-clause-inside
shelve-requires-clause-inside g c k h =
    let l : c.args.client < length c.client_on.new.clients.items = omega (arith, c.client_on.ensures.length, c.requires.client) in
    let e : (client_facts c.index-core.result.now).shape ≡ c.args.self.now.shape
    = all_at (λ (w : CoreState). (client_facts w).shape ≡ c.args.self.now.shape) c.client_on.new.clients.items c.args.client c.index-core.result.now l c.index-core.ensures (c.in_ok-client_on.ensures.over c.args.self.now.shape c.requires.nodes.sized.clients) in
    c.inside.ensures k (let m = ap key_count e in omega (arith, m, h, c.requires.nodes.sized.got_keys))

-- what the client no longer has got and the event doesn't name it hadn't got before
pub shelve-requires-clause-tidy : goal.shelve-requires-clause-tidy
shelve-requires-clause-tidy g c k m o =
    let old = c.args.self.now in
    let before = clients_of old.shape old.clients.items c.args.client in
    let l : c.args.client < length c.client_on.new.clients.items = omega (arith, c.client_on.ensures.length, c.requires.client) in
    let now = client_now old.shape old.clients.items c.client_on.new.clients.items c.args.client c.index-core.result.now (client_step before c.args.event).facts l c.index-core.ensures (c.in_ok-client_on.ensures.facts old.shape) in
    c.requires.nodes.tidy.got old.shape c.args.client k
    (was_out (released_by c.args.event) before.got (client_step before c.args.event).facts.got (client_leaves before c.args.event) k
    (sym (ap (λ (w : ClientFacts). w.got k) now) ∙ m) (ap (λ (l : List ℕ). is_in k l) (sym (c.as_slice.ensures ∙ c.in_ok-gone.ensures)) ∙ o))

pub returns-clause-cluster : goal.returns-clause-cluster
returns-clause-cluster g c f =
    let l : c.args.client < length c.client_on.new.clients.items = omega (arith, c.client_on.ensures.length, c.requires.client) in
    let old = c.args.self.now in
    let step = client_step (clients_of f.setting.shape old.clients.items c.args.client) c.args.event in
    let e = c.in_ok-client_on.ensures.facts f.setting.shape in
    client_turn_is f old c.client_on.new.clients c.shelve.new.shelf c.post_client.new.from_client c.post_client.new.requests c.args.client c.args.event c.index-core.result.now c.client_on.new.out c.args.brought.items
    e
    (c.in_ok-client_on.ensures.out f.setting.shape ∙ ap (λ (l : List ClientInstruction). l ++ step.out) c.new-out.ensures)
    (client_now f.setting.shape old.clients.items c.client_on.new.clients.items c.args.client c.index-core.result.now step.facts l c.index-core.ensures e)
    c.shelve.ensures.meaning c.in_ok-post_client.ensures.from_client c.in_ok-post_client.ensures.requests

pub returns-clause-possible : goal.returns-clause-possible
unfolding world_of
returns-clause-possible g c f = c.in_ok-client_on.ensures.possible f.setting.shape

pub returns-clause-nodes : goal.returns-clause-nodes
returns-clause-nodes g c =
    let old = c.args.self.now in
    record {
      sized = sized_client old c.client_on.new.clients c.shelve.new.shelf c.post_client.new.from_client c.post_client.new.requests
          c.client_on.ensures.length c.shelve.ensures.height c.shelve.ensures.width c.post_client.ensures.length
          (c.in_ok-client_on.ensures.over old.shape c.requires.nodes.sized.clients) c.requires.nodes.sized;
      sorted = record {
        down = c.requires.nodes.sorted.down;
        up = c.requires.nodes.sorted.up;
        to_client = c.requires.nodes.sorted.to_client;
        from_client = only_more as_from_client (λ m. message.FromClient m) from_clients_are (waiting old.from_client) (waiting c.post_client.new.from_client) c.args.client (client_sends c.client_on.new.out) c.in_ok-post_client.ensures.from_client c.requires.nodes.sorted.from_client;
        requests = c.in_ok-post_client.ensures.kind c.requires.nodes.sorted.requests;
        answers = c.requires.nodes.sorted.answers;
      };
      tidy = tidy_client old.strays old.alive old.workers.items old.clients.items old.spilled old.held old.got c.client_on.new.clients.items c.shelve.new.shelf c.args.client c.index-core.result.now
          (λ s. (client_step (clients_of s old.clients.items c.args.client) c.args.event).facts) (first_at c.args.brought.items)
          (omega (arith, c.client_on.ensures.length, c.requires.client)) c.index-core.ensures c.in_ok-client_on.ensures.facts c.shelve.ensures.meaning c.requires.nodes.tidy;
    }

pub returns-clause-few : goal.returns-clause-few
returns-clause-few g c n h = (workers_more n c.args.self.now.workers.items h.0, c.in_ok-client_on.ensures.few n h.1)

pub returns-in_err-client_on-clause-refused : goal.returns-in_err-client_on-clause-refused
unfolding world_of
returns-in_err-client_on-clause-refused g c r f = c.in_err-client_on.ensures.refused (sym (same_err c.from_residual-in_err-client_on.result _ c.from_residual-in_err-client_on.ensures.1) ∙ r) f.setting.shape

pub returns-in_err-client_on-clause-spent : goal.returns-in_err-client_on-clause-spent
returns-in_err-client_on-clause-spent g c r n h = c.in_err-client_on.ensures.spent (sym (same_err c.from_residual-in_err-client_on.result _ c.from_residual-in_err-client_on.ensures.1) ∙ r) n h.1
