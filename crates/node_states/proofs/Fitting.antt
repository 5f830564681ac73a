-- What a packet brings, and what a failure tells.
use Rattle.std.proofs.Common.{◌≡◌, ℕ, Bool, true, false, Option, Some, None, subst, cond}
use Rattle.std.specs.Prelude.{option_map}
use Rattle.cluster_msgs.specs.Labels.{LabelFacts, MessageFits, ToClientFits, UpFits, BlameFits, PacketFits}
use Rattle.cluster_msgs.specs.declared.messages.Message.TheVariants as message
use Rattle.cluster_msgs.specs.declared.messages.ToClient.{ToClient}
use Rattle.cluster_msgs.specs.declared.messages.Up.{Up}
use Rattle.cluster_msgs.specs.declared.packets.Packet.{Packet}
use Rattle.cluster_msgs.specs.declared.cores.End.TheVariants.{Got, Erred}
use Rattle.cluster_rules.specs.Client.{ClientFacts, done}
use Rattle.node_states.specs.Fitting.{ClientFits}

-- news of the scheduler
pub news_fits : {B : Type 0} (facts : LabelFacts B) (p : Packet B) (m : ToClient) → PacketFits facts p → p.message ≡ message.ToClient m → ToClientFits facts m
news_fits facts p m fits is = subst (MessageFits facts) is fits.message

-- a worker's message
pub up_fits : {B : Type 0} (facts : LabelFacts B) (p : Packet B) (m : Up) → PacketFits facts p → p.message ≡ message.Up m → UpFits facts m
up_fits facts p m fits is = subst (MessageFits facts) is fits.message

got_erred : (b : ℕ) → Some Got ≡ Some (Erred b) → ⊥
got_erred b e = cc

none_erred : (b : ℕ) → None ≡ Some (Erred b) → ⊥
none_erred b e = cc

some_erred : (a b : ℕ) → Some (Erred a) ≡ Some (Erred b) → Some a ≡ Some b
some_erred a b e = cc

erred_is : (got : Bool) (failed : Option ℕ) (b : ℕ) → cond got (Some Got) (option_map (λ b. Erred b) failed) ≡ Some (Erred b) → failed ≡ Some b
erred_is true failed b e = absurd (got_erred b e)
erred_is false None b e = absurd (none_erred b e)
erred_is false (Some a) b e = some_erred a b e

-- a key that ended by a failure has a blame that fits
pub erred_fits : {B : Type 0} (facts : LabelFacts B) (c : ClientFacts) (k b : ℕ) → ClientFits facts c → done c k ≡ Some (Erred b) → BlameFits facts k b
erred_fits facts c k b h e = h.failed k b (erred_is (c.got k) (c.failed k) b e)
