-- What a label says of a run, and what fits it.
use Rattle.std.specs.Prelude.{◌≡◌, ℕ, Bool, List, [], Option, Some, None, IsTrue}
use Rattle.std.specs.List.{AllZip}
use Rattle.cluster_msgs.specs.Shape.{Shape, deps_of}
use Rattle.cluster_msgs.specs.Values.{val, cone, faulty}
use Rattle.cluster_msgs.specs.Jobs.{blocks_of}
use Rattle.cluster_msgs.specs.declared.messages.Up.{Up}
use Rattle.cluster_msgs.specs.declared.messages.Up.TheVariants.{TaskErred}
use Rattle.cluster_msgs.specs.declared.messages.ToClient.{ToClient}
use Rattle.cluster_msgs.specs.declared.messages.ToClient.TheVariants.{ClientTaskErred}
use Rattle.cluster_msgs.specs.declared.messages.Peer.{Peer}
use Rattle.cluster_msgs.specs.declared.messages.Peer.TheVariants.{Data}
use Rattle.cluster_msgs.specs.declared.messages.Message.{Message}
use Rattle.cluster_msgs.specs.declared.messages.Message.TheVariants as message
use Rattle.cluster_msgs.specs.declared.packets.Packet.{Packet}

-- whether the run is told; how often a key's worker may leave while the key is assigned to it, where that is bounded; each key's
-- dependencies, dims and value, which is missing where it is Bad; and the dims of a block
pub record LabelFacts (B : Type 0) : Type 0 where
  pub told : Bool
  pub allowed : Option ℕ
  pub deps : ℕ → List ℕ
  pub dims : ℕ → List ℕ
  pub value : ℕ → Option B
  pub block_dims : B → List ℕ

-- the label of a job: its graph, operation and dims, and the dims of a block
abbrev pub label_of : {B : Type 0} → Bool → Option ℕ → Shape → (ℕ → List B → Option B) → (ℕ → List ℕ) → (B → List ℕ) → LabelFacts B
label_of told allowed graph op dims block_dims =
    record { told = told; allowed = allowed; deps = deps_of graph; dims = dims; value = val (deps_of graph) op; block_dims = block_dims }

-- a block that is held for a key has the key's dims and, where the run is told, is its value
pub record BlockFits {B : Type 0} (facts : LabelFacts B) (key : ℕ) (block : B) : Type 0 where
  pub dims : facts.block_dims block ≡ facts.dims key
  pub value : IsTrue facts.told → facts.value key ≡ Some block

-- where the run is told, the key's own operation meets a zero divisor
abbrev pub ErrorFits : {B : Type 0} → LabelFacts B → ℕ → Type 0
ErrorFits facts key = IsTrue facts.told → IsTrue (faulty facts.deps facts.value key)

-- where the run is told, the blame of a key is in its cone, and a faulty key unless losses are bounded
pub record BlameFits {B : Type 0} (facts : LabelFacts B) (key blame : ℕ) : Type 0 where
  pub fault : facts.allowed ≡ None → ErrorFits facts blame
  pub below : IsTrue facts.told → IsTrue (cone facts.deps key blame)

abbrev pub UpFits : {B : Type 0} → LabelFacts B → Up → Type 0
UpFits facts (TaskErred seen key attempt) = ErrorFits facts key
UpFits facts _ = Unit {0}

abbrev pub ToClientFits : {B : Type 0} → LabelFacts B → ToClient → Type 0
ToClientFits facts (ClientTaskErred key blame) = BlameFits facts key blame
ToClientFits facts _ = Unit {0}

abbrev pub MessageFits : {B : Type 0} → LabelFacts B → Message → Type 0
MessageFits facts (message.Up up) = UpFits facts up
MessageFits facts (message.ToClient m) = ToClientFits facts m
MessageFits facts _ = Unit {0}

abbrev pub peer_found : Peer → List ℕ
peer_found (Data ask found) = found
peer_found _ = []

-- the keys whose blocks go with a message
abbrev pub found : Message → List ℕ
found (message.Peer m) = peer_found m
found _ = []

-- a packet has one block per key that it found, in order; each fits its key, and the message fits
pub record PacketFits {B : Type 0} (facts : LabelFacts B) (packet : Packet B) : Type 0 where
  pub message : MessageFits facts packet.message
  pub blocks : AllZip (BlockFits facts) (found packet.message) (blocks_of packet.blocks)
