-- The messages of one event to the workers, by the facts once they have settled.
use Rattle.std.specs.Prelude.{ℕ, nat_le, Bool, false, List, [], ◌++◌, Option, Some, None, filter, slice_index_or}
use Rattle.cluster_msgs.specs.declared.messages.Down.{Down}
use Rattle.cluster_rules.specs.Derived.{below, is_in}
use Rattle.cluster_rules.specs.Sched.{Facts, keys}
use Rattle.cluster_rules.specs.SchedStep.{free_message, task_messages, all_to}
pub use Rattle.sched_facts.specs.Pairs.{has_pair}
use Rattle.sched_changes.specs.Answers.{answer_of}
use Rattle.sched_changes.specs.declared.answer.Answer.{Answer}

-- to one worker: what it lost, the keys that it was given since the counter stood there, what it is answered
unfoldable pub worker_mail : Facts → List (ℕ × ℕ) → ℕ → Answer → ℕ → List (ℕ × Down)
worker_mail f lost since a w = free_message w (filter (has_pair lost w) (below (keys f))) ++ (task_messages f since w ++ all_to w (answer_of a f w))

-- the worker lost the key, by a list of keys for each worker
abbrev pub lost_by : List (List ℕ) → ℕ → ℕ → Bool
lost_by lists w k = is_in k (slice_index_or lists w [])

-- the same as worker_mail, whatever says which keys a worker lost
unfoldable pub mail_by : Facts → (ℕ → ℕ → Bool) → ℕ → Answer → ℕ → List (ℕ × Down)
mail_by f lost since a w = free_message w (filter (lost w) (below (keys f))) ++ (task_messages f since w ++ all_to w (answer_of a f w))

-- the place is one that was given since the counter stood there
abbrev pub is_since : ℕ → Option (ℕ × ℕ) → Bool
is_since since None = false
is_since since (Some p) = nat_le since p.1

-- the keys that were given since the counter stood there, ascending
unfoldable pub given_keys : Facts → ℕ → List ℕ
given_keys f since = filter (λ k. is_since since (f.on k)) (below (keys f))
