use Rattle.std.proofs.Common.{◌≡◌, length}
use Rattle.cluster_rules.specs.WorldStep.{letters}
use Rattle.message_queues.specs.Queues.{waiting}
use Rattle.message_queues.specs.Posts.{to_clients, posted}
use Rattle.message_queues.proofs.post.post_to_clients.Given as goal

abbrev pub invariant-loop-letter : goal.invariant-loop-letter
invariant-loop-letter l = record {
  to_client : waiting l.to_client ≡ posted (waiting l.fn.to_client) (λ c. to_clients (letters c l.yielded));
  length : length l.to_client ≡ length l.fn.to_client;
}
