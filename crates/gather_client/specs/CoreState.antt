-- A client's core, and what one event makes of it.
use Rattle.std.specs.Prelude.{◌≡◌, ℕ, ◌+◌, ◌<◌, ◌≤◌, Bool, true, false, List, ◌++◌}
use Rattle.cluster_msgs.specs.declared.cores.ClientEvent.{ClientEvent}
use Rattle.cluster_msgs.specs.declared.cores.ClientInstruction.{ClientInstruction}
use Rattle.cluster_rules.specs.Client.{ClientFacts, client_step, client_takes}
use Rattle.cluster_rules.specs.Runs.{event_limit}
use Rattle.gather_client.specs.Stored.{Stored, facts_of}

-- the stored facts, how many events were taken, and whether memory ran out
pub record CoreState : Type 0 where
  pub stored : Stored
  pub events : ℕ
  pub stopped : Bool

abbrev pub client_facts : CoreState → ClientFacts
client_facts c = facts_of c.stored

-- the event was possible, the facts are those after it, and its instructions were appended
pub record IsTaken (old : CoreState) (e : ClientEvent) (new : CoreState) (before after : List ClientInstruction) : Type 0 where
  pub possible : client_takes (client_facts old) e ≡ true
  pub facts : client_facts new ≡ (client_step (client_facts old) e).facts
  pub instructions : after ≡ before ++ (client_step (client_facts old) e).out
  pub counted : new.events ≡ old.events + 1
  pub going : new.stopped ≡ false

-- the core goes on, but the event isn't possible or names a key that isn't there
pub record IsRefused (c : CoreState) (e : ClientEvent) : Type 0 where
  pub going : c.stopped ≡ false
  pub room : c.events < event_limit
  pub impossible : client_takes (client_facts c) e ≡ false

-- the core goes on, but has taken all events that it takes
pub record IsSpent (c : CoreState) : Type 0 where
  pub going : c.stopped ≡ false
  pub all : event_limit ≤ c.events
