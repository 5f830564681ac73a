-- What settling leaves of one key.
use Rattle.std.specs.Prelude.{◌≡◌, ℕ, ◌≤◌, ◌&&◌, true, false, Some, None, cond}
use Rattle.cluster_rules.specs.Sched.{held, erred, need, ready, open_key, holder_count}
use Rattle.cluster_rules.specs.SchedStep.{Stages}

pub record SettlesAt (t : Stages) (k : ℕ) : Type 0 where
  pub has_is : (i : ℕ) → t.placed.has i k ≡ cond (need t.known_only k) (t.changed.facts.has i k) None
  pub need_is : need t.placed k ≡ need t.known_only k
  pub held_is : held t.placed k ≡ (need t.known_only k && held t.changed.facts k)
  pub erred_is : need t.known_only k ≡ true → erred t.placed k ≡ erred t.known_only k
  -- a place stays where the key stays ready, and else goes; a new one has a new attempt
  pub kept : ready t.needed_only k ≡ true → (q : ℕ × ℕ) → t.changed.facts.on k ≡ Some q → t.placed.on k ≡ Some q
  pub gone : ready t.needed_only k ≡ false → t.placed.on k ≡ None
  pub new : t.changed.facts.on k ≡ None → (q : ℕ × ℕ) → t.placed.on k ≡ Some q → t.changed.facts.counter ≤ q.1
  pub steal_is : t.placed.steal k ≡ cond (ready t.needed_only k) (t.changed.facts.steal k) None
  pub count_is : holder_count t.placed k ≡ cond (need t.known_only k) (holder_count t.changed.facts k) 0
  pub setting_is : t.placed.setting ≡ t.changed.facts.setting
  pub last_is : t.placed.last_worker ≡ t.changed.facts.last_worker
  pub want_is : t.placed.want ≡ t.changed.facts.want
  pub sent_is : t.placed.sent ≡ t.changed.facts.sent
  pub fence_is : t.placed.fence ≡ t.changed.facts.fence
  pub threads_is : t.placed.threads ≡ t.changed.facts.threads
  pub had : t.known_only.has ≡ t.changed.facts.has
  pub was_on : t.needed_only.on ≡ t.changed.facts.on
  pub ready_is : ready t.needed_only k ≡ true → (need t.known_only k ≡ true) × (open_key t.placed k ≡ true)
