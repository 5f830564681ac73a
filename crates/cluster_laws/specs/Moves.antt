-- How each event of the world moves blocks. No event knows a key's value: a worker runs the key's operation on the blocks that it holds itself,
-- and each other block that comes is one that was sent.
use Rattle.std.specs.Prelude.{◌≡◌, ℕ, ◌==◌, Bool, true, false, not, ◌&&◌, List, [], ◌∷◌, Option, Some, None, is_none, filter, find, cond}
use Rattle.std.specs.List.{filter_map}
use Rattle.cluster_msgs.specs.Shape.{deps_of}
use Rattle.cluster_msgs.specs.declared.events.Asker.{Asker}
use Rattle.cluster_msgs.specs.declared.events.Asker.TheVariants.{Worker, Client}
use Rattle.cluster_msgs.specs.declared.events.Event.{Event}
use Rattle.cluster_msgs.specs.declared.events.Event.TheVariants.{Start, Finish, ServeGather, ArriveGather}
use Rattle.cluster_rules.specs.Worker.{would_start}
use Rattle.cluster_rules.specs.World.{World, Parcel, shape_of, parcel_of, is_parcel, parcel_before, same_asker}
use Rattle.cluster_rules.specs.WorldStep.{world_step}
use Rattle.cluster_rules.specs.Enabled.{enabled}
use Rattle.cluster_laws.specs.Blocks.{Delivery, Blocks, Cluster}

-- the block of a key among those of these keys
abbrev pub block_among : {B : Type 0} → List ℕ → List B → ℕ → Option B
block_among [] bs q = None
block_among (k ∷ ks) [] q = None
block_among (k ∷ ks) (b ∷ bs) q = cond (k == q) (Some b) (block_among ks bs q)

abbrev pub delivery_of : {B : Type 0} → Asker → ℕ → ℕ → List (Delivery B) → Option (Delivery B)
delivery_of a p n ds = find (λ d. is_parcel a p n d.parcel) ds

abbrev pub without_delivery : {B : Type 0} → Asker → ℕ → ℕ → List (Delivery B) → List (Delivery B)
without_delivery a p n ds = filter (λ d. not (is_parcel a p n d.parcel)) ds

abbrev pub with_delivery : {B : Type 0} → Delivery B → List (Delivery B) → List (Delivery B)
with_delivery d [] = d ∷ []
with_delivery d (x ∷ xs) = cond (parcel_before d.parcel x.parcel) (d ∷ x ∷ xs) (x ∷ with_delivery d xs)

-- what a delivery brings of a key to a worker or a client
abbrev pub delivered : {B : Type 0} → Option (Delivery B) → Asker → ℕ → Option B
delivered None a q = None
delivered (Some d) a q = cond (same_asker d.parcel.asker a) (block_among d.parcel.keys d.blocks q) None

-- what an event brings of a key to a worker or a client: what the operation made of its inputs, or what was delivered
unfoldable pub brought : {B : Type 0} → (ℕ → List B → Option B) → Blocks B → Event → Asker → ℕ → Option B
brought op b (Finish i k) a q = cond (same_asker (Worker i) a && k == q) (op k (b.inputs i k)) None
brought op b (ArriveGather x p n) a q = delivered (delivery_of x p n b.carried) a q
brought op b _ a q = None

-- whether the operation that an event ends met a zero divisor
unfoldable pub meets_zero : {B : Type 0} → (ℕ → List B → Option B) → Blocks B → Event → Bool
meets_zero op b (Finish i k) = is_none (op k (b.inputs i k))
meets_zero op b _ = false

-- the world after an event whose operation, if it ends one, ended so
abbrev pub world_after : Bool → World → Event → World
world_after met w e = world_step (record { setting = w.sched.setting; zero = λ k. met }) w e

-- a block stands where its key is counted: the one that was there, else the one that was brought
abbrev pub either : {B : Type 0} → Option B → Option B → Option B
either None new = new
either (Some b) new = Some b

abbrev pub keeps : {B : Type 0} → Bool → Option B → Option B → Option B
keeps counted old new = cond counted (either old new) None

-- whether the event starts the key at the worker
abbrev pub is_it : Option ℕ → ℕ → Bool
is_it None q = false
is_it (Some k) q = k == q

unfoldable pub starts : World → Event → ℕ → ℕ → Bool
starts w (Start v) i q = v == i && is_it (would_start (w.workers v)) q
starts w _ i q = false

-- a peer serves a request: the blocks of those of its keys that the peer has
abbrev pub served : {B : Type 0} → World → Blocks B → ℕ → Option Parcel → List (Delivery B)
served w b p None = b.carried
served w b p (Some q) = with_delivery (record { parcel = record q { keys = filter (w.workers p).mem q.keys }; blocks = filter_map (b.held p) (filter (w.workers p).mem q.keys) }) b.carried

abbrev pub taken : {B : Type 0} → Option (Delivery B) → List (Delivery B) → List (Delivery B)
taken None ds = ds
taken (Some d) ds = without_delivery d.parcel.asker d.parcel.peer d.parcel.ask ds

unfoldable pub carried_after : {B : Type 0} → World → Blocks B → Event → List (Delivery B)
carried_after w b (ServeGather p a n) = served w b p (parcel_of a p n w.requests)
carried_after w b (ArriveGather a p n) = taken (delivery_of a p n b.carried) b.carried
carried_after w b _ = b.carried

-- the blocks after an event that took the world from w to v
abbrev pub blocks_after : {B : Type 0} → (ℕ → List B → Option B) → World → World → Blocks B → Event → Blocks B
blocks_after op w v b e = record {
  held = λ i q. keeps ((v.workers i).mem q) (b.held i q) (brought op b e (Worker i) q);
  inputs = λ i q. cond (starts w e i q) (filter_map (b.held i) (deps_of (shape_of w) q)) (b.inputs i q);
  carried = carried_after w b e;
  got = λ c q. keeps ((v.clients c).got q) (b.got c q) (brought op b e (Client c) q);
}

abbrev pub cluster_step : {B : Type 0} → (ℕ → List B → Option B) → Cluster B → Event → Cluster B
cluster_step op c e = record {
  world = world_after (meets_zero op c.blocks e) c.world e;
  blocks = blocks_after op c.world (world_after (meets_zero op c.blocks e) c.world e) c.blocks e;
}

-- each event is enabled in the world that the earlier ones leave, with the blocks as they were moved
abbrev pub LegalWithBlocks : {B : Type 0} → (ℕ → List B → Option B) → Cluster B → List Event → Type 0
LegalWithBlocks op c [] = Unit {0}
LegalWithBlocks op c (e ∷ es) = (enabled c.world e ≡ true) × LegalWithBlocks op (cluster_step op c e) es

-- the cluster after the events
abbrev pub cluster_run : {B : Type 0} → (ℕ → List B → Option B) → Cluster B → List Event → Cluster B
cluster_run op c [] = c
cluster_run op c (e ∷ es) = cluster_run op (cluster_step op c e) es
