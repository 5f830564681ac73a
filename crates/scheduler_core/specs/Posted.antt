-- What sending messages to the workers changes in the facts.
use Rattle.std.specs.Prelude.{ℕ, ◌+◌, ◌==◌, ◌&&◌, List, [], cond}
use Rattle.cluster_msgs.specs.declared.messages.Down.{Down}
use Rattle.cluster_msgs.specs.declared.messages.Down.TheVariants.{ComputeTask, FreeKeys, StealRequest, RemoveReplicas, AcquireReplicas, RefreshWhoHas}
use Rattle.cluster_rules.specs.Functions.{put}
use Rattle.cluster_rules.specs.Derived.{is_in}
use Rattle.cluster_rules.specs.Sched.{Facts}
use Rattle.cluster_rules.specs.SchedStep.{count_to, mail, fence_after}

-- the keys that the message takes away from the worker
abbrev pub taken_keys : Down → List ℕ
taken_keys (FreeKeys ks) = ks
taken_keys (RemoveReplicas ks) = ks
taken_keys (ComputeTask k a who) = []
taken_keys (StealRequest k a) = []
taken_keys (AcquireReplicas who) = []
taken_keys (RefreshWhoHas who) = []

-- each message takes the next place on its link, and a key that is taken away remembers the place of the last message that says so
unfoldable pub posted_mail : Facts → List (ℕ × Down) → Facts
posted_mail f ms = record f {
  sent = λ w. f.sent w + count_to w ms;
  fence = λ w k. fence_after k (f.sent w) (mail w ms) (f.fence w k);
}

-- the last message to the worker took these keys away
unfoldable pub fenced : Facts → ℕ → List ℕ → Facts
fenced f w ks = record f { fence = λ v k. cond (v == w && is_in k ks) (f.sent w) (f.fence v k) }

-- one message
unfoldable pub posted_one : Facts → ℕ × Down → Facts
posted_one f m = fenced (record f { sent = put f.sent m.0 (f.sent m.0 + 1) }) m.0 (taken_keys m.1)
