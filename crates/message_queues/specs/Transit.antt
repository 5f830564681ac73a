-- What is under way between an asker and a peer, as it is kept: with its message and its blocks.
use Rattle.std.specs.Prelude.{◌≡◌, ℕ, Bool, not, List, [], ◌∷◌, Option, filter, find, map, cond}
use Rattle.std.specs.List.{AllByRecursion}
use Rattle.cluster_msgs.specs.declared.messages.Message.{Message}
use Rattle.cluster_msgs.specs.declared.messages.Message.TheVariants as message
use Rattle.cluster_msgs.specs.declared.messages.Peer.{Peer}
use Rattle.cluster_msgs.specs.declared.messages.Peer.TheVariants.{GetData, Data}
use Rattle.cluster_msgs.specs.declared.events.Asker.{Asker}
use Rattle.cluster_rules.specs.World.{Parcel, parcel_before, is_parcel}
use Rattle.message_queues.specs.declared.transit.InTransit.{InTransit}

-- the keys that a request or an answer names
abbrev pub peer_keys : Peer → List ℕ
peer_keys (GetData n ks) = ks
peer_keys (Data n ks) = ks

abbrev pub named_by : Message → List ℕ
named_by (message.Peer p) = peer_keys p
named_by _ = []

abbrev pub parcel_of_transit : {B : Type 0} → InTransit B → Parcel
parcel_of_transit t = record { asker = t.asker; peer = t.peer; ask = t.ask; keys = named_by t.message }

-- a request carries get-data of its ask, and an answer carries data
abbrev pub IsRequest : {B : Type 0} → InTransit B → Type 0
IsRequest t = t.message ≡ message.Peer (GetData t.ask (named_by t.message))

abbrev pub IsAnswer : {B : Type 0} → InTransit B → Type 0
IsAnswer t = t.message ≡ message.Peer (Data t.ask (named_by t.message))

abbrev pub AreRequests : {B : Type 0} → List (InTransit B) → Type 0
AreRequests ts = AllByRecursion IsRequest ts

abbrev pub AreAnswers : {B : Type 0} → List (InTransit B) → Type 0
AreAnswers ts = AllByRecursion IsAnswer ts

abbrev pub parcels : {B : Type 0} → List (InTransit B) → List Parcel
parcels ts = map (λ t. parcel_of_transit t) ts

abbrev pub is_transit : {B : Type 0} → Asker → ℕ → ℕ → InTransit B → Bool
is_transit a p n t = is_parcel a p n (parcel_of_transit t)

-- in its place, by asker, then peer, then ask
abbrev pub with_transit : {B : Type 0} → InTransit B → List (InTransit B) → List (InTransit B)
with_transit t [] = t ∷ []
with_transit t (x ∷ xs) = cond (parcel_before (parcel_of_transit t) (parcel_of_transit x)) (t ∷ x ∷ xs) (x ∷ with_transit t xs)

abbrev pub transit_of : {B : Type 0} → Asker → ℕ → ℕ → List (InTransit B) → Option (InTransit B)
transit_of a p n ts = find (is_transit a p n) ts

abbrev pub without_transit : {B : Type 0} → Asker → ℕ → ℕ → List (InTransit B) → List (InTransit B)
without_transit a p n ts = filter (λ t. not (is_transit a p n t)) ts
