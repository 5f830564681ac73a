use Rattle.std.proofs.Common.{◌≡◌}
use Rattle.cluster_msgs.specs.declared.events.Asker.TheVariants.{Client}
use Rattle.cluster_rules.specs.WorldStep.{client_sends, client_requested}
use Rattle.message_queues.specs.Posts.{from_clients}
use Rattle.message_queues.specs.Transit.{parcels, AreRequests}
use Rattle.message_queues.proofs.post.post_client.Given as goal

abbrev pub invariant-loop-instruction : goal.invariant-loop-instruction
invariant-loop-instruction g l = record {
  messages : l.messages.items ≡ from_clients (client_sends l.yielded);
  requests : parcels l.requests ≡ client_requested (Client l.client) (parcels l.fn.requests) l.yielded;
  kind : AreRequests l.fn.requests → AreRequests l.requests;
}
