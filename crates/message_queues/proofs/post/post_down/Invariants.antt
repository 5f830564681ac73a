use Rattle.std.proofs.Common.{◌≡◌, length}
use Rattle.cluster_rules.specs.SchedStep.{mail}
use Rattle.message_queues.specs.Queues.{waiting}
use Rattle.message_queues.specs.Posts.{downs, posted}
use Rattle.message_queues.proofs.post.post_down.Given as goal

abbrev pub invariant-loop-letter : goal.invariant-loop-letter
invariant-loop-letter l = record {
  down : waiting l.down ≡ posted (waiting l.fn.down) (λ i. downs (mail i l.yielded));
  length : length l.down ≡ length l.fn.down;
}
