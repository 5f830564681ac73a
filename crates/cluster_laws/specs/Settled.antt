-- What holds of the scheduler's facts after every event, whoever sent it.
use Rattle.std.specs.Prelude.{◌≡◌, ℕ, ◌+◌, ◌≤◌, true, false, Some, None, is_some}
use Rattle.cluster_rules.specs.Sched.{Facts, holds, held, is_above, known, need, ready}
use Rattle.cluster_rules.specs.Policies.{place}

pub record IsSettled (f : Facts) : Type 0 where
  -- a worker holds only what is needed
  pub held_are_needed : (w k : ℕ) → holds f w k ≡ true → need f k ≡ true
  -- and what is needed is known
  pub needed_are_known : (k : ℕ) → need f k ≡ true → known f k ≡ true
  -- only a ready key is given to a worker
  pub placed_are_ready : (k : ℕ) → is_some (f.on k) ≡ true → ready f k ≡ true
  -- only a key that was given to a worker is to be stolen
  pub stolen_are_placed : (k : ℕ) → is_some (f.steal k) ≡ true → is_some (f.on k) ≡ true
  -- an error is remembered only of a known key that nobody holds
  pub errors_are_known : (k : ℕ) → f.bad k ≡ true → known f k ≡ true
  pub errors_are_not_held : (k : ℕ) → f.bad k ≡ true → held f k ≡ false
  -- losses are counted only of a known key
  pub losses_are_known : (k : ℕ) → known f k ≡ false → f.losses k ≡ 0
  -- a key with more losses than are allowed is an error, and was assigned to nobody since
  pub killed_are_errors : (k : ℕ) → is_above f.setting.allowed (f.losses k) ≡ true → f.bad k ≡ true
  pub losses_stop : (k a : ℕ) → f.setting.allowed ≡ Some a → f.losses k ≤ a + 1
  -- a ready key that was given to nobody has no worker that could take it
  pub waiting_have_no_place : (k : ℕ) → ready f k ≡ true → f.on k ≡ None → place f k ≡ None
