-- The steps of an event, key by key.
use Rattle.std.specs.Prelude.{ℕ, Bool, true, false, not, List, [], Option, None, cond, filter, fold}
use Rattle.cluster_msgs.specs.declared.cores.ClientInstruction.{ClientInstruction}
use Rattle.cluster_rules.specs.Functions.{put}
use Rattle.cluster_rules.specs.Derived.{is_in}
use Rattle.cluster_rules.specs.Worker.{item_at}
use Rattle.cluster_rules.specs.WorkerStep.{keys_of}
use Rattle.cluster_rules.specs.Client.{ClientFacts, is_open, client_gets, client_misses, missing_message}

-- the key is wanted
abbrev pub wanted : ClientFacts → ℕ → ClientFacts
wanted c k = record c { wants = put c.wants k true }

-- the key is let go
abbrev pub released : ClientFacts → ℕ → ClientFacts
released c k = record c { wants = put c.wants k false; located = put c.located k []; got = put c.got k false; failed = put c.failed k None }

-- the key with the copy that a peer holds, where it is to be fetched
abbrev pub open_item : ClientFacts → ℕ → ℕ → Option (ℕ × ℕ)
open_item c p k = cond (is_open c k) (item_at p k (c.located k)) None

-- the item was found
abbrev pub is_found : List ℕ → ℕ × ℕ → Bool
is_found found i = is_in i.0 found

-- a key of the ask that was found is got
abbrev pub take_step : List ℕ → ClientFacts → ℕ × ℕ → ClientFacts
take_step found c i = cond (is_found found i) (client_gets c i.0) c

-- the others are missed
abbrev pub miss_step : List ℕ → ClientFacts → ℕ × ℕ → ClientFacts
miss_step found c i = cond (is_found found i) c (client_misses c i)

abbrev pub miss_message : List ℕ → ClientFacts → ℕ → ℕ × ℕ → Option ClientInstruction
miss_message found c p i = cond (is_found found i) None (missing_message c p i)

-- how the facts go over the items of an ask
abbrev pub after_found : ClientFacts → List ℕ → List (ℕ × ℕ) → ClientFacts
after_found c found is = fold client_gets c (keys_of (filter (is_found found) is))

abbrev pub after_missed : ClientFacts → List ℕ → List (ℕ × ℕ) → ClientFacts
after_missed c found is = fold client_misses c (filter (λ i. not (is_found found i)) is)
