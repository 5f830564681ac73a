-- What was seen of a client's wait.
use Rattle.std.specs.Prelude.{◌≡◌, ◌≤◌, ℕ, Bool, true, false, List, length, take, slice_get, Option, Some, None, is_some, find, option_and_then}
use Rattle.std.specs.List.{list_all}
use Rattle.cluster_msgs.specs.declared.messages.ToClient.{ToClient}
use Rattle.cluster_msgs.specs.declared.messages.ToClient.TheVariants.{ClientTaskErred}
use Rattle.cluster_msgs.specs.declared.messages.Message.{Message}
use Rattle.cluster_msgs.specs.declared.messages.Message.TheVariants as message
use Rattle.cluster_rules.specs.Client.{ClientFacts, client_keys}
use Rattle.cluster_sim.specs.declared.seen.Seen.{Seen}

-- the wanted keys before a place have come, and the one at it hasn't; the blame is that of the least key that failed
pub record IsSeen (wanted : List ℕ) (c : ClientFacts) (s : Seen) : Type 0 where
  pub few : s.got ≤ length wanted
  pub before : list_all c.got (take s.got wanted) ≡ true
  pub there : (k : ℕ) → slice_get wanted s.got ≡ Some k → c.got k ≡ false
  pub failure : s.failure ≡ option_and_then c.failed (find (λ k. is_some (c.failed k)) (client_keys c))

-- the client is told that a key failed
abbrev pub is_erred : ToClient → Bool
is_erred (ClientTaskErred k blame) = true
is_erred _ = false

abbrev pub is_failure : Message → Bool
is_failure (message.ToClient m) = is_erred m
is_failure _ = false

abbrev pub tells_failure : Option Message → Bool
tells_failure (Some m) = is_failure m
tells_failure None = false
