-- What settling leaves as it is.
use Rattle.std.specs.Prelude.{◌≡◌, ◌⊎◌, ℕ, ◌<◌, ◌≤◌, true, Some, None, cond}
use Rattle.cluster_rules.specs.Sched.{Facts, known}

-- from f the facts settle to g: facts only go, but for new places under new attempts and for what the messages of the event count
pub record IsSettling (f g : Facts) : Type 0 where
  pub setting : g.setting ≡ f.setting
  pub want : g.want ≡ f.want
  pub threads : g.threads ≡ f.threads
  pub last_worker : g.last_worker ≡ f.last_worker
  pub finishes : g.finishes ≡ f.finishes
  pub bad : (k : ℕ) → g.bad k ≡ true → (known f k ≡ true) × (f.bad k ≡ true)
  pub losses : (k : ℕ) → g.losses k ≡ cond (known f k) (f.losses k) 0
  pub has : (w k c : ℕ) → g.has w k ≡ Some c → f.has w k ≡ Some c
  pub counter : f.counter ≤ g.counter
  pub on : (k w a : ℕ) → g.on k ≡ Some (w, a) → (f.on k ≡ Some (w, a)) ⊎ ((f.counter ≤ a) × (a < g.counter))
  pub steal : (k : ℕ) → (g.steal k ≡ f.steal k) ⊎ (g.steal k ≡ None)
  pub sent : (w : ℕ) → f.sent w ≤ g.sent w
  pub fence : (w k : ℕ) → (g.fence w k ≡ f.fence w k) ⊎ ((f.sent w < g.fence w k) × (g.fence w k ≤ g.sent w))
