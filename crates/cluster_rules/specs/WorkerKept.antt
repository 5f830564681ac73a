-- What a worker keeps, whatever it is told and in whatever order its events come.
use Rattle.std.specs.Prelude.{◌≡◌, ℕ, ◌+◌, ◌<◌, ◌≤◌, Bool, true, false, List, [], ◌∷◌, Option, None, cond}
use Rattle.cluster_msgs.specs.Shape.{key_count}
use Rattle.cluster_rules.specs.Worker.{Ask, WorkerFacts, names_key, wstate, is_missing_state}

-- how many open asks name the key
abbrev pub flights : List Ask → ℕ → ℕ
flights [] k = 0
flights (a ∷ bs) k = cond (names_key k a) 1 0 + flights bs k

-- of one key: a block that is here is no task, isn't run, isn't asked for and isn't sought; a key that runs isn't asked for; and a key is asked
-- of one peer at most
pub record KeyKept (mine : Option ℕ) (mem running asked sought : Bool) (flying : ℕ) : Type 0 where
  pub no_task : mem ≡ true → mine ≡ None
  pub not_run : mem ≡ true → running ≡ false
  pub not_flying : mem ≡ true → flying ≡ 0
  pub not_asked : mem ≡ true → asked ≡ false
  pub not_sought : mem ≡ true → sought ≡ false
  pub run_alone : running ≡ true → flying ≡ 0
  pub once : flying ≤ 1

abbrev pub KeptAt : WorkerFacts → ℕ → Type 0
KeptAt w k = KeyKept (w.mine k) (w.mem k) (w.running k) (w.asked k) (w.sought k) (flights w.asks k)

-- the same of every key
pub record KeysKept (w : WorkerFacts) : Type 0 where
  pub at : (k : ℕ) → KeptAt w k

-- besides, the scheduler was asked for each missing key
pub record IsKept (w : WorkerFacts) : Type 0 where
  pub keys : KeysKept w
  pub missing : (k : ℕ) → k < key_count w.shape → is_missing_state (wstate w k) ≡ true → w.asked k ≡ true
