-- What holds of the keys that no change touched since the facts had settled: settling takes nothing of them away.
use Rattle.std.specs.Prelude.{◌≡◌, ℕ, ◌<◌, true, false, is_some}
use Rattle.cluster_rules.specs.Sched.{keys, holds, known, need, ready}
use Rattle.key_sets.specs.Sets.{has}
use Rattle.task_table.specs.Tasks.{Tasks, facts}

pub record IsTidy (t : Tasks) : Type 0 where
  pub errors : (k : ℕ) → k < keys (facts t) → has t.touched k ≡ false → (facts t).bad k ≡ true → known (facts t) k ≡ true
  pub losses : (k : ℕ) → k < keys (facts t) → has t.touched k ≡ false → known (facts t) k ≡ false → (facts t).losses k ≡ 0
  pub copies : (w k : ℕ) → k < keys (facts t) → has t.touched k ≡ false → holds (facts t) w k ≡ true → need (facts t) k ≡ true
  pub places : (k : ℕ) → k < keys (facts t) → has t.touched k ≡ false → is_some ((facts t).on k) ≡ true → ready (facts t) k ≡ true
