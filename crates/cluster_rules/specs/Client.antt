-- The facts of a client and its steps. It wants keys, gathers their blocks from the workers that hold them, and lets keys go.
use Rattle.std.specs.Prelude.{ℕ, ◌+◌, ◌==◌, nat_lt, Bool, true, false, not, ◌&&◌, ◌||◌, List, [], ◌∷◌, Option, Some, None, is_none, filter, cond, fold}
use Rattle.std.specs.List.{list_all, filter_map}
use Rattle.std.specs.Option.{option_map}
use Rattle.cluster_msgs.specs.Shape.{Shape, key_count}
use Rattle.cluster_msgs.specs.declared.messages.ToClient.{ToClient}
use Rattle.cluster_msgs.specs.declared.messages.ToClient.TheVariants.{KeyInMemory, LostData, ClientTaskErred}
use Rattle.cluster_msgs.specs.declared.messages.FromClient.TheVariants.{Want as WantKeys, Release as ReleaseKeys, Missing as MissingCopy}
use Rattle.cluster_msgs.specs.declared.cores.ClientInstruction.{ClientInstruction}
use Rattle.cluster_msgs.specs.declared.cores.ClientInstruction.TheVariants.{Send, Gather}
use Rattle.cluster_msgs.specs.declared.cores.ClientEvent.{ClientEvent}
use Rattle.cluster_msgs.specs.declared.cores.ClientEvent.TheVariants.{Want, Release, FromScheduler, Ask as AskPeer, Gathered, GatherFailed}
use Rattle.cluster_msgs.specs.declared.cores.End.{End}
use Rattle.cluster_msgs.specs.declared.cores.End.TheVariants.{Got, Erred}
use Rattle.cluster_rules.specs.Functions.{put}
use Rattle.cluster_rules.specs.Derived.{below, is_in}
use Rattle.cluster_rules.specs.Worker.{Ask, is_asked_for, has_any, item_at, ask_items, ask_to, without_ask, with_ask, pair_count}
use Rattle.cluster_rules.specs.WorkerStep.{keys_of}

-- the facts of a client. The graph never changes
pub record ClientFacts : Type 0 where
  pub shape : Shape
  pub wants : ℕ → Bool
  pub located : ℕ → List (ℕ × ℕ)  -- key: who holds it, with the copy
  pub asks : List Ask  -- the asks that are open, ascending by peer, at most one to each
  pub got : ℕ → Bool  -- the keys whose blocks it has
  pub failed : ℕ → Option ℕ  -- key: the key to blame
  pub next_ask : ℕ

-- a client as it starts
abbrev pub new_client : Shape → ClientFacts
new_client g = record { shape = g; wants = λ k. false; located = λ k. []; asks = []; got = λ k. false; failed = λ k. None; next_ask = 1 }

abbrev pub client_keys : ClientFacts → List ℕ
client_keys c = below (key_count c.shape)

-- how a key that the client waits for ended. A block counts before a failure
abbrev pub done : ClientFacts → ℕ → Option End
done c k = cond (c.got k) (Some Got) (option_map (λ b. Erred b) (c.failed k))

-- the client waits for the key: it has neither got it nor failed on it
abbrev pub is_unfinished : ClientFacts → ℕ → Bool
is_unfinished c k = c.wants k && (not (c.got k) && is_none (c.failed k))

-- the key is to be fetched: wanted, not got, and in no open ask
abbrev pub is_open : ClientFacts → ℕ → Bool
is_open c k = (c.wants k && not (c.got k)) && not (is_asked_for c.asks k)

-- the keys to fetch that this peer holds, ascending
unfoldable pub client_fetchable : ClientFacts → ℕ → List (ℕ × ℕ)
client_fetchable c p = filter_map (λ k. item_at p k (c.located k)) (filter (is_open c) (client_keys c))

-- an ask to this peer is possible: none is open, and it holds a key to fetch
unfoldable pub client_would_ask : ClientFacts → ℕ → Bool
client_would_ask c p = is_none (ask_to c.asks p) && has_any (client_fetchable c p)

-- how many pairs the client has in `located`
unfoldable pub client_pairs : ClientFacts → ℕ
client_pairs c = pair_count c.located (client_keys c)

-- the facts after an event, and the instructions
pub record ClientStep : Type 0 where
  pub facts : ClientFacts
  pub out : List ClientInstruction

abbrev pub keeps_still : ClientFacts → ClientStep
keeps_still c = record { facts = c; out = [] }

-- Want
unfoldable pub client_wants : ClientFacts → List ℕ → ClientStep
client_wants c ks = record { facts = record c { wants = λ k. c.wants k || is_in k ks }; out = Send (WantKeys ks) ∷ [] }

-- Release: nothing of the keys stays but that they fly
unfoldable pub client_releases : ClientFacts → List ℕ → ClientStep
client_releases c ks = record {
  facts = record c {
    wants = λ k. c.wants k && not (is_in k ks);
    located = λ k. cond (is_in k ks) [] (c.located k);
    got = λ k. c.got k && not (is_in k ks);
    failed = λ k. cond (is_in k ks) None (c.failed k);
  };
  out = Send (ReleaseKeys ks) ∷ [];
}

-- news of a key that the client doesn't want, or has got, changes nothing
abbrev pub hears : ClientFacts → ℕ → ClientFacts → ClientFacts
hears c k changed = cond (c.wants k && not (c.got k)) changed c

unfoldable pub hear : ClientFacts → ToClient → ClientFacts
hear c (KeyInMemory k holders) = hears c k (record c { located = put c.located k holders })
hear c (LostData k) = record c { located = put c.located k [] }
hear c (ClientTaskErred k blame) = hears c k (record c { failed = put c.failed k (Some blame); located = put c.located k [] })

-- Ask: the keys are chosen as a worker does
abbrev pub client_ask_with : ClientFacts → ℕ → List (ℕ × ℕ) → ClientStep
client_ask_with c p is = record {
  facts = record c { asks = with_ask (record { peer = p; number = c.next_ask; items = is }) c.asks; next_ask = c.next_ask + 1 };
  out = Gather p c.next_ask (keys_of is) ∷ [];
}

unfoldable pub client_ask : ClientFacts → ℕ → ClientStep
client_ask c p = client_ask_with c p (ask_items c.shape (client_fetchable c p))

-- a block came: kept where the key is wanted
abbrev pub client_gets : ClientFacts → ℕ → ClientFacts
client_gets c k = cond (c.wants k) (record c { got = put c.got k true; located = put c.located k [] }) c

-- a key wasn't found: no holder of it is left, and where it is wanted, the scheduler is told which copy wasn't there
abbrev pub client_misses : ClientFacts → ℕ × ℕ → ClientFacts
client_misses c i = record c { located = put c.located i.0 [] }

abbrev pub missing_message : ClientFacts → ℕ → ℕ × ℕ → Option ClientInstruction
missing_message c p i = cond (c.wants i.0) (Some (Send (MissingCopy i.0 p i.1))) None

-- the ask of a peer is over: these keys were found, and these weren't
abbrev pub client_answered : ClientFacts → ℕ → List ℕ → List (ℕ × ℕ) → ClientStep
client_answered c p found missed = record { facts = fold client_misses (fold client_gets c found) missed; out = filter_map (missing_message c p) missed }

abbrev pub client_gathered_by : ClientFacts → ℕ → ℕ → List ℕ → Option Ask → ClientStep
client_gathered_by c p n found None = keeps_still c
client_gathered_by c p n found (Some a) = cond (a.number == n)
    (client_answered (record c { asks = without_ask c.asks p }) p (keys_of (filter (λ i. is_in i.0 found) a.items)) (filter (λ i. not (is_in i.0 found)) a.items))
    (keeps_still c)

-- Gathered. An answer that belongs to no open ask changes nothing
unfoldable pub client_gathered : ClientFacts → ℕ → ℕ → List ℕ → ClientStep
client_gathered c p n found = client_gathered_by c p n found (ask_to c.asks p)

unfoldable pub client_step : ClientFacts → ClientEvent → ClientStep
client_step c (Want ks) = client_wants c ks
client_step c (Release ks) = client_releases c ks
client_step c (FromScheduler m) = keeps_still (hear c m)
client_step c (AskPeer p) = client_ask c p
client_step c (Gathered p n found) = client_gathered c p n found
client_step c (GatherFailed p n) = client_gathered c p n []

-- the keys are of the graph
abbrev pub are_client_keys : ClientFacts → List ℕ → Bool
are_client_keys c ks = list_all (λ k. nat_lt k (key_count c.shape)) ks

abbrev pub can_hear : ClientFacts → ToClient → Bool
can_hear c (KeyInMemory k holders) = are_client_keys c (k ∷ [])
can_hear c (LostData k) = are_client_keys c (k ∷ [])
can_hear c (ClientTaskErred k blame) = are_client_keys c (k ∷ blame ∷ [])

-- the event is possible, and names no key that isn't there
unfoldable pub client_takes : ClientFacts → ClientEvent → Bool
client_takes c (Want ks) = are_client_keys c ks
client_takes c (Release ks) = are_client_keys c ks
client_takes c (FromScheduler m) = can_hear c m
client_takes c (AskPeer p) = client_would_ask c p
client_takes c (Gathered p n found) = are_client_keys c found
client_takes c (GatherFailed p n) = true
