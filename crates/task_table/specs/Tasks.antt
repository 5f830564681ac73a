-- What callers see of a table of tasks.
use Rattle.std.specs.Prelude.{◌≡◌, ℕ, ◌<◌, ◌==◌, Bool, true, false, not, ◌&&◌, List, length, is_none, Option, Some, None, cond}
use Rattle.cluster_rules.specs.Sched.{Facts, keys, deps, known, erred, need, held, ready, fed, waiters}
use Rattle.sched_facts.specs.Stored.{Stored, facts_of}
use Rattle.sched_facts.specs.Derived.{first_some}
use Rattle.key_sets.specs.Sets.{has}

-- the stored facts; the keys that were touched, and the keys that were held and erred, when touched keys were last forgotten
pub record Tasks : Type 0 where
  pub stored : Stored
  pub touched : List ℕ
  pub held_before : List ℕ
  pub erred_before : List ℕ

-- the facts of a table
abbrev pub facts : Tasks → Facts
facts t = facts_of t.stored

-- the key has no dependencies
abbrev pub is_root : Facts → ℕ → Bool
is_root f k = length (deps f k) == 0

-- the key waits for a worker: it is ready and on none
abbrev pub is_queued : Facts → ℕ → Bool
is_queued f k = ready f k && is_none (f.on k)

-- the same, of keys without dependencies and of keys with some
abbrev pub queued_root : Facts → ℕ → Bool
queued_root f k = is_queued f k && is_root f k

abbrev pub queued_other : Facts → ℕ → Bool
queued_other f k = is_queued f k && not (is_root f k)

-- what is known of one key is in g as in f
pub record SameAt (f g : Facts) (k : ℕ) : Type 0 where
  pub known : known g k ≡ known f k
  pub erred : erred g k ≡ erred f k
  pub need : need g k ≡ need f k
  pub held : held g k ≡ held f k
  pub ready : ready g k ≡ ready f k
  pub fed : fed g k ≡ fed f k
  pub waiters : waiters g k ≡ waiters f k
  pub bad : g.bad k ≡ f.bad k
  pub losses : g.losses k ≡ f.losses k
  pub on : g.on k ≡ f.on k
  pub has : (w : ℕ) → g.has w k ≡ f.has w k
  pub want : (c : ℕ) → g.want c k ≡ f.want c k

-- what one change leaves: each key whose derived facts may differ is touched, touched keys stay so, and what was so before is remembered
pub record IsTouched (f g : Facts) (s t : Tasks) : Type 0 where
  pub kept : (k : ℕ) → k < keys f → has t.touched k ≡ false → SameAt f g k
  pub grows : (k : ℕ) → has s.touched k ≡ true → has t.touched k ≡ true
  pub held : t.held_before ≡ s.held_before
  pub erred : t.erred_before ≡ s.erred_before

-- touched keys are keys, and the others are held and erred as they were before
pub record IsRemembered (f : Facts) (t : Tasks) : Type 0 where
  pub within : (k : ℕ) → has t.touched k ≡ true → k < keys f
  pub held : (k : ℕ) → k < keys f → has t.touched k ≡ false → has t.held_before k ≡ held f k
  pub erred : (k : ℕ) → k < keys f → has t.touched k ≡ false → has t.erred_before k ≡ erred f k

-- a key that is erred and bad is blamed on itself
abbrev pub own_blame : Facts → ℕ → Option ℕ
own_blame f k = cond (erred f k) (cond (f.bad k) (Some k) None) None

-- the first key that passes
abbrev pub first_where : (ℕ → Bool) → List ℕ → Option ℕ
first_where p ks = first_some (λ k. cond (p k) (Some k) None) ks

-- by these erred keys, the dependency that an erred key is blamed through
abbrev pub next_blamed : Facts → (ℕ → Bool) → ℕ → Option ℕ
next_blamed f p k = cond (p k && not (f.bad k)) (first_where p (deps f k)) None
