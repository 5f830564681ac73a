-- What a client keeps, whatever it is told and in whatever order its events come.
use Rattle.std.specs.Prelude.{◌≡◌, ℕ, ◌+◌, ◌≤◌, Bool, true, false, is_some}
use Rattle.cluster_rules.specs.Worker.{has_any}
use Rattle.cluster_rules.specs.WorkerKept.{flights}
use Rattle.cluster_rules.specs.Client.{ClientFacts}
use Rattle.cluster_rules.specs.Runs.{event_limit}
use Rattle.gather_client.specs.Stored.{Stored, facts_of}

-- of one key: what is got, failed or located is wanted, what is got is no longer located, and a key is asked of one peer at most
pub record KeyKept (wants got failed located : Bool) (flying : ℕ) : Type 0 where
  pub got_wanted : got ≡ true → wants ≡ true
  pub failed_wanted : failed ≡ true → wants ≡ true
  pub located_wanted : located ≡ true → wants ≡ true
  pub located_not_got : located ≡ true → got ≡ false
  pub asked_once : flying ≤ 1

abbrev pub KeptAt : ClientFacts → ℕ → Type 0
KeptAt c k = KeyKept (c.wants k) (c.got k) (is_some (c.failed k)) (has_any (c.located k)) (flights c.asks k)

-- the same of every key
pub record KeysKept (c : ClientFacts) : Type 0 where
  pub at : (k : ℕ) → KeptAt c k

-- of a core: it took no more events than a core does, and as long as it goes on, asks are numbered below its count and the keys are kept
pub record IsCore (s : Stored) (events : ℕ) (stopped : Bool) : Type 0 where
  pub few : events ≤ event_limit
  pub numbered : stopped ≡ false → (facts_of s).next_ask ≤ events + 1
  pub kept : stopped ≡ false → KeysKept (facts_of s)
