use Rattle.std.proofs.Common.{◌≡◌}
use Rattle.cluster_msgs.specs.declared.events.Asker.TheVariants.{Worker}
use Rattle.cluster_rules.specs.WorldStep.{sends, requested}
use Rattle.message_queues.specs.Posts.{ups}
use Rattle.message_queues.specs.Transit.{parcels, AreRequests}
use Rattle.message_queues.proofs.post.post_worker.Given as goal

abbrev pub invariant-loop-instruction : goal.invariant-loop-instruction
invariant-loop-instruction g l = record {
  messages : l.messages.items ≡ ups (sends l.yielded);
  requests : parcels l.requests ≡ requested (Worker l.worker) (parcels l.fn.requests) l.yielded;
  kind : AreRequests l.fn.requests → AreRequests l.requests;
}
