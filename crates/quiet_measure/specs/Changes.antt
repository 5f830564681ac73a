-- The two kinds of changes that an event makes before the facts settle: one that takes nothing away but an attempt, and one that takes things away.
use Rattle.std.specs.Prelude.{◌≡◌, ℕ, ◌<◌, ◌≤◌, Bool, true, false, Some, is_some}
use Rattle.cluster_rules.specs.Sched.{Facts, held}

-- each attempt that a key has was drawn
abbrev pub AreDrawn : Facts → Type 0
AreDrawn f = (k : ℕ) (q : ℕ × ℕ) → f.on k ≡ Some q → q.1 < f.counter

-- nothing is taken away but from the event's own keys, which had a place: each of these loses its place, gets another one, or is asked back no longer
pub record IsCalmChange (f h : Facts) (own : ℕ → Bool) : Type 0 where
  pub setting : h.setting ≡ f.setting
  pub last : h.last_worker ≡ f.last_worker
  pub want : h.want ≡ f.want
  pub counter : f.counter ≤ h.counter
  pub had_place : (k : ℕ) → own k ≡ true → is_some (f.on k) ≡ true
  pub on : (k : ℕ) → own k ≡ false → h.on k ≡ f.on k
  pub steal : (k : ℕ) → own k ≡ false → h.steal k ≡ f.steal k
  pub copies : (x k c : ℕ) → f.has x k ≡ Some c → h.has x k ≡ Some c
  pub held_still : (k : ℕ) → held f k ≡ true → held h k ≡ true
  pub held_new : (k : ℕ) → held h k ≡ true → own k ≡ false → held f k ≡ true
  pub bad : (k : ℕ) → f.bad k ≡ true → h.bad k ≡ true
  pub bad_new : (k : ℕ) → h.bad k ≡ true → own k ≡ false → f.bad k ≡ true

-- copies and places only go
pub record IsLessening (f h : Facts) : Type 0 where
  pub setting : h.setting ≡ f.setting
  pub last : h.last_worker ≡ f.last_worker
  pub counter : h.counter ≡ f.counter
  pub on : (k : ℕ) (q : ℕ × ℕ) → h.on k ≡ Some q → f.on k ≡ Some q
  pub copies : (x k c : ℕ) → h.has x k ≡ Some c → f.has x k ≡ Some c
  pub held_before : (k : ℕ) → held h k ≡ true → held f k ≡ true
