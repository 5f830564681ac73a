-- What the stored nodes tell of the world.
use Rattle.std.proofs.Common.{◌≡◌, ℕ, ◌+◌, ◌<◌, ◌≤◌, Bool, true, false, List, [], ◌∷◌, Option, Some, None, refl, sym, ap, ◌∙◌, arith, cond, map, length, get_or, is_some, zero, suc, Bor}
use Rattle.std.specs.Prelude.{nat_lt, nat_le, slice_get}
use Rattle.std.specs.Option.{option_copied, option_map}
use Rattle.std.proofs.lemmas.Bool.{false≢true, lt-ltb, ltb-true, ltb-false, leb-true, and_parts}
use Rattle.std.proofs.lemmas.List.{get_or_past, length-map}
use Rattle.cluster_msgs.specs.declared.messages.Message.{Message}
use Rattle.cluster_msgs.specs.declared.messages.Message.TheVariants.{Peer as PeerMessage}
use Rattle.cluster_msgs.specs.declared.messages.Peer.TheVariants.{GetData, Data}
use Rattle.cluster_msgs.specs.declared.events.Asker.{Asker}
use Rattle.cluster_msgs.specs.declared.events.Event.{Event}
use Rattle.cluster_msgs.specs.declared.events.Event.TheVariants as event
use Rattle.cluster_rules.specs.Client.{new_client}
use Rattle.cluster_rules.specs.Enabled.{message_at}
use Rattle.std.proofs.lemmas.Option.{slice_get_past}
use Rattle.cluster_rules.specs.Worker.{has_any}
use Rattle.cluster_rules.specs.World.{World, Parcel, is_client, parcel_of}
use Rattle.fact_rows.specs.Rows.{read}
use Rattle.gather_client.specs.CoreState.{CoreState, client_facts}
use Rattle.message_queues.specs.Transit.{parcel_of_transit, parcels, is_transit, transit_of, AreRequests, AreAnswers}
use Rattle.message_queues.specs.declared.transit.InTransit.{InTransit}
use Rattle.worker_core.specs.Core.{Core, facts}
use Rattle.cluster_nodes.specs.Kept.{IsNodes}
use Rattle.cluster_nodes.specs.Nodes.{world_of, clients_of, client_of}
use Rattle.cluster_nodes.proofs.NodeLemmas.{worker_was, client_was}
use Rattle.cluster_world.specs.declared.state.State.{State}
use Rattle.cluster_world.specs.Searching.{name_of}
use Rattle.cluster_world.specs.Worlds.{world, setting}

-- what is set stands in the row
set_there : (xs : List Bool) (i : ℕ) → get_or xs i false ≡ true → i < length xs
set_there xs i e = pick (nat_lt i (length xs)) refl
  where
    pick : (b : Bool) → nat_lt i (length xs) ≡ b → i < length xs
    pick true h = ltb-true i (length xs) h
    pick false h = absurd (false≢true (sym (get_or_past xs i false (omega (arith, ltb-false i (length xs) h))) ∙ e))

-- or copied
pub copied_some : {A : Type 0} (o : Option (Bor A)) → is_some o ≡ is_some (option_copied o)
copied_some None = refl
copied_some (Some x) = refl

pub parcel_there : {C : Type 0} (a : Asker) (p n : ℕ) (ts : List (InTransit C)) → is_some (transit_of a p n ts) ≡ is_some (parcel_of a p n (parcels ts))
parcel_there a p n [] = refl
parcel_there {C} a p n (t ∷ ts) = pick (is_transit a p n t) (parcel_there a p n ts)
  where
    pick : (b : Bool) → is_some (transit_of a p n ts) ≡ is_some (parcel_of a p n (parcels ts)) → is_some (cond b (Some t) (transit_of a p n ts)) ≡ is_some (cond b (Some (parcel_of_transit t)) (parcel_of a p n (parcels ts)))
    pick true e = refl
    pick false e = e

-- the message of what is under way
pub asked : {C : Type 0} (a : Asker) (p n : ℕ) (ts : List (InTransit C)) → AreRequests ts
    → option_map (λ (t : InTransit C). t.message) (transit_of a p n ts) ≡ option_map (λ (q : Parcel). PeerMessage (GetData q.ask q.keys)) (parcel_of a p n (parcels ts))
asked a p n [] h = refl
asked {C} a p n (t ∷ ts) h = pick (is_transit a p n t) (asked a p n ts h.1)
  where
    pick : (b : Bool) → option_map (λ (t : InTransit C). t.message) (transit_of a p n ts) ≡ option_map (λ (q : Parcel). PeerMessage (GetData q.ask q.keys)) (parcel_of a p n (parcels ts))
        → option_map (λ (t : InTransit C). t.message) (cond b (Some t) (transit_of a p n ts)) ≡ option_map (λ (q : Parcel). PeerMessage (GetData q.ask q.keys)) (cond b (Some (parcel_of_transit t)) (parcel_of a p n (parcels ts)))
    pick true e = ap (λ m. Some m) h.0
    pick false e = e

pub answered : {C : Type 0} (a : Asker) (p n : ℕ) (ts : List (InTransit C)) → AreAnswers ts
    → option_map (λ (t : InTransit C). t.message) (transit_of a p n ts) ≡ option_map (λ (q : Parcel). PeerMessage (Data q.ask q.keys)) (parcel_of a p n (parcels ts))
answered a p n [] h = refl
answered {C} a p n (t ∷ ts) h = pick (is_transit a p n t) (answered a p n ts h.1)
  where
    pick : (b : Bool) → option_map (λ (t : InTransit C). t.message) (transit_of a p n ts) ≡ option_map (λ (q : Parcel). PeerMessage (Data q.ask q.keys)) (parcel_of a p n (parcels ts))
        → option_map (λ (t : InTransit C). t.message) (cond b (Some t) (transit_of a p n ts)) ≡ option_map (λ (q : Parcel). PeerMessage (Data q.ask q.keys)) (cond b (Some (parcel_of_transit t)) (parcel_of a p n (parcels ts)))
    pick true e = ap (λ m. Some m) h.0
    pick false e = e

-- messages wait where the list of their kind has any
pub waits : {M : Type 0} (wrap : M → Message) (ms : List M) (xs : List Message) (n : ℕ) → map wrap ms ≡ xs → n ≡ length xs → nat_lt 0 n ≡ has_any ms
waits wrap [] xs n e l = ap (nat_lt 0) (l ∙ sym (ap length e))
waits wrap (m ∷ ms) xs n e l = ap (nat_lt 0) (l ∙ sym (ap length e)) ∙ lt-ltb 0 (length (map wrap (m ∷ ms))) (omega arith)

module _ {J B F : Type 0} (s : State J B F) where
  pub alive_there : IsNodes s.nodes → (i : ℕ) → (world s).alive i ≡ true → i < length s.nodes.workers.items
  unfolding world_of
  alive_there n i e = let h = set_there s.nodes.alive i e in omega (arith, h, n.sized.alive)

  pub alive_is : (i : ℕ) → (world s).alive i ≡ true → read s.nodes.alive false i ≡ true
  unfolding world_of
  alive_is i e = e

  pub worker_at : IsNodes s.nodes → (i : ℕ) (v : Core) → (world s).alive i ≡ true → v ≡ get_or s.nodes.workers.items i v → (world s).workers i ≡ facts v
  unfolding world_of
  worker_at n i v e h = worker_was (setting s).shape s.nodes.alive s.nodes.workers.items i v (alive_there n i e) (alive_is i e) h

  pub client_number : (x : ℕ) → length s.nodes.clients.items ≡ (setting s).clients + 1 → is_client (world s) x ≡ true → x < length s.nodes.clients.items
  unfolding world_of
  client_number x l e = let h = leb-true x (setting s).clients (and_parts (nat_le 1 x) _ e).1 in omega (arith, h, l)

  pub client_at : (x : ℕ) (v : CoreState) → x < length s.nodes.clients.items → v ≡ get_or s.nodes.clients.items x v → (world s).clients x ≡ client_facts v
  unfolding world_of
  client_at x v l h = client_was (setting s).shape s.nodes.clients.items x v l h

-- what takes no message
pub takes_none : (w : World) (e : Event) → ((i : ℕ) → e ≡ event.DeliverDown i → ⊥) → ((i : ℕ) → e ≡ event.DeliverUp i → ⊥) → ((c : ℕ) → e ≡ event.DeliverToClient c → ⊥) → ((c : ℕ) → e ≡ event.DeliverFromClient c → ⊥)
    → ((p : ℕ) (a : Asker) (n : ℕ) → e ≡ event.ServeGather p a n → ⊥) → ((a : Asker) (p n : ℕ) → e ≡ event.ArriveGather a p n → ⊥) → None ≡ message_at w e
takes_none w (event.DeliverDown i) a b c d s r = absurd (a i refl)
takes_none w (event.DeliverUp i) a b c d s r = absurd (b i refl)
takes_none w (event.DeliverToClient i) a b c d s r = absurd (c i refl)
takes_none w (event.DeliverFromClient i) a b c d s r = absurd (d i refl)
takes_none w (event.ServeGather p x n) a b c d s r = absurd (s p x n refl)
takes_none w (event.ArriveGather x p n) a b c d s r = absurd (r x p n refl)
takes_none w _ a b c d s r = refl

-- what is under way, place by place
pub named_at : {C : Type 0} (ts : List (InTransit C)) (n : ℕ) (t : InTransit C) → n < length ts → t ≡ get_or ts n t → Some (name_of (parcel_of_transit t)) ≡ slice_get (map name_of (parcels ts)) n
named_at [] n t h e = absurd (omega (arith, h))
named_at {C} (x ∷ ts) zero t h e = ap (λ (y : InTransit C). Some (name_of (parcel_of_transit y))) e
named_at (x ∷ ts) (suc n) t h e = named_at ts n t (omega (arith, h)) e

module _ {J B F : Type 0} (s : State J B F) where
  pub request_there : (n : ℕ) → n < length (world s).requests → n < length s.nodes.requests
  unfolding world_of
  request_there n h = let k : n < length (parcels s.nodes.requests) = h in let l = length-map s.nodes.requests (λ (t : InTransit B). parcel_of_transit t) in omega (arith, k, l)

  pub answer_there : (n : ℕ) → n < length (world s).answers → n < length s.nodes.answers
  unfolding world_of
  answer_there n h = let k : n < length (parcels s.nodes.answers) = h in let l = length-map s.nodes.answers (λ (t : InTransit B). parcel_of_transit t) in omega (arith, k, l)

  -- past the last client nobody is
  pub no_client : (x : ℕ) → length s.nodes.clients.items ≤ x → (world s).clients x ≡ new_client (setting s).shape
  unfolding world_of clients_of
  no_client x h = ap (client_of (setting s).shape) (slice_get_past s.nodes.clients.items x h)
