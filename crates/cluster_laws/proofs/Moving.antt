-- What an event moves: the deliveries under way go as the world's answers, and a key is started only where its dependencies are held.
use Rattle.std.proofs.Common.{◌≡◌, ℕ, Bool, true, false, not, ◌&&◌, List, [], ◌∷◌, Option, Some, None, refl, sym, ap, ◌∙◌, subst, cond, is_some, filter}
use Rattle.std.specs.Prelude.{◌==◌}
use Rattle.std.specs.Option.{option_map}
use Rattle.std.specs.List.{list_all, AllByRecursion}
use Rattle.std.proofs.lemmas.Bool.{false≢true, eqb-true, and_parts}
use Rattle.cluster_msgs.specs.Shape.{deps_of}
use Rattle.cluster_msgs.specs.declared.messages.Down.{Down}
use Rattle.cluster_msgs.specs.declared.messages.Up.{Up}
use Rattle.cluster_msgs.specs.declared.messages.ToClient.{ToClient}
use Rattle.cluster_msgs.specs.declared.messages.FromClient.{FromClient as ClientMessage}
use Rattle.cluster_msgs.specs.declared.events.Asker.{Asker}
use Rattle.cluster_msgs.specs.declared.events.Asker.TheVariants.{Worker, Client}
use Rattle.cluster_msgs.specs.declared.events.Event.{Event}
use Rattle.cluster_msgs.specs.declared.events.Event.TheVariants.{Want, Release, Join, Lose, SeeLoss, Suspect, DeliverDown, DeliverUp, DeliverToClient, DeliverFromClient, Start, Finish, SendGather, ServeGather, ArriveGather, FailGather, Balance, Evict, Replicate, Spill, LoseSpilled}
use Rattle.cluster_rules.specs.Worker.{Ask, WorkerFacts, would_start, wstate, is_ready_state, is_fed}
use Rattle.cluster_rules.specs.World.{Job, World, Parcel, is_connected, open_ask, with_parcel, parcel_of, without_parcel}
use Rattle.cluster_rules.specs.WorldStep.{scheduled, worked, client_worked, take_down_first, take_up, take_up_first, take_to_client, take_from_client, ask_by, gathered_at, serve, take_answer, fail_ask, world_step}
use Rattle.cluster_rules.proofs.WorkerLemmas.{start_is_ready, ready_state-is}
use Rattle.cluster_laws.specs.Blocks.{Delivery, Blocks}
use Rattle.cluster_laws.specs.Moves.{delivery_of, taken, served, starts, is_it, carried_after}
use Rattle.cluster_laws.specs.AreValues.{IsPlace, AreOf}
use Rattle.cluster_laws.proofs.Deliveries.{served_right, parcels, parcels_with, parcels_without, parcel_found, all_with, all_filter}

-- most events leave the answers
down_leaves : (w : World) (i : ℕ) (ms : List Down) → (take_down_first w i ms).answers ≡ w.answers
unfolding worked
down_leaves w i [] = refl
down_leaves w i (m ∷ ms) = refl

up_leaves : (w : World) (i : ℕ) (ms : List Up) → (take_up_first w i ms).answers ≡ w.answers
unfolding scheduled
up_leaves w i [] = refl
up_leaves w i (m ∷ ms) = by (is_connected w i)
  where
    by : (b : Bool) → (take_up (record w { up = λ x. cond (x == i) ms (w.up x) }) i m b).answers ≡ w.answers
    by true = refl
    by false = refl

to_client_leaves : (w : World) (c : ℕ) (ms : List ToClient) → (take_to_client w c ms).answers ≡ w.answers
unfolding client_worked
to_client_leaves w c [] = refl
to_client_leaves w c (m ∷ ms) = refl

from_client_leaves : (w : World) (c : ℕ) (ms : List ClientMessage) → (take_from_client w c ms).answers ≡ w.answers
unfolding scheduled
from_client_leaves w c [] = refl
from_client_leaves w c (m ∷ ms) = refl

ask_leaves : (w : World) (a : Asker) (p : ℕ) → (ask_by w a p).answers ≡ w.answers
unfolding worked client_worked
ask_leaves w (Worker i) p = refl
ask_leaves w (Client c) p = refl

gathered_leaves : (w : World) (a : Asker) (p n : ℕ) (found : List ℕ) → (gathered_at w a p n found).answers ≡ w.answers
unfolding worked client_worked
gathered_leaves w (Worker i) p n found = refl
gathered_leaves w (Client c) p n found = refl

fail_leaves : (w : World) (a : Asker) (p : ℕ) (o : Option Ask) → (fail_ask w a p o).answers ≡ w.answers
unfolding worked client_worked
fail_leaves w a p None = refl
fail_leaves w (Worker i) p (Some q) = refl
fail_leaves w (Client c) p (Some q) = refl

serve_answers : {B : Type 0} (w : World) (b : Blocks B) (p : ℕ) (o : Option Parcel) → parcels b.carried ≡ w.answers → parcels (served w b p o) ≡ (serve w p o).answers
serve_answers w b p None h = h
serve_answers w b p (Some q) h = parcels_with _ b.carried ∙ ap (λ l. with_parcel (record q { keys = filter (w.workers p).mem q.keys }) l) h

answer_taken : {B : Type 0} (w : World) (ds : List (Delivery B)) (o : Option (Delivery B)) → parcels ds ≡ w.answers → parcels (taken o ds) ≡ (take_answer w (option_map (λ (d : Delivery B). d.parcel) o)).answers
answer_taken w ds None h = h
answer_taken w ds (Some d) h = parcels_without d.parcel.asker d.parcel.peer d.parcel.ask ds ∙ ap (λ l. without_parcel d.parcel.asker d.parcel.peer d.parcel.ask l) h ∙ sym (gathered_leaves _ d.parcel.asker d.parcel.peer d.parcel.ask d.parcel.keys)

pub answers_after : {B : Type 0} (j : Job) (w : World) (b : Blocks B) (e : Event) → parcels b.carried ≡ w.answers → parcels (carried_after w b e) ≡ (world_step j w e).answers
unfolding world_step carried_after scheduled worked client_worked
answers_after j w b (Want c ks) h = h
answers_after j w b (Release c ks) h = h
answers_after j w b (Join threads) h = h
answers_after j w b (Lose i) h = h
answers_after j w b (SeeLoss i) h = h
answers_after j w b (Suspect i) h = h
answers_after j w b (DeliverDown i) h = h ∙ sym (down_leaves w i (w.down i))
answers_after j w b (DeliverUp i) h = h ∙ sym (up_leaves w i (w.up i))
answers_after j w b (DeliverToClient c) h = h ∙ sym (to_client_leaves w c (w.to_client c))
answers_after j w b (DeliverFromClient c) h = h ∙ sym (from_client_leaves w c (w.from_client c))
answers_after j w b (Start i) h = h
answers_after j w b (Finish i k) h = h
answers_after j w b (SendGather a p) h = h ∙ sym (ask_leaves w a p)
answers_after j w b (ServeGather p a n) h = serve_answers w b p (parcel_of a p n w.requests) h
answers_after {B = B} j w b (ArriveGather a p n) h = answer_taken w b.carried (delivery_of a p n b.carried) h
    ∙ ap (λ o. (take_answer w o).answers) (sym (parcel_found a p n b.carried) ∙ ap (λ l. parcel_of a p n l) h)
answers_after j w b (FailGather a p) h = h ∙ sym (fail_leaves w a p (open_ask w a p))
answers_after j w b Balance h = h
answers_after j w b Evict h = h
answers_after j w b (Replicate k i) h = h
answers_after j w b (Spill i k) h = h
answers_after j w b (LoseSpilled i k) h = h

-- deliveries stay the values of their keys
pub carried_right : {B : Type 0} (value : ℕ → Option B) (w : World) (b : Blocks B) (e : Event) → ((i k : ℕ) → IsPlace (value k) ((w.workers i).mem k) (b.held i k))
    → AllByRecursion (λ (d : Delivery B). AreOf value d.parcel.keys d.blocks) b.carried → AllByRecursion (λ (d : Delivery B). AreOf value d.parcel.keys d.blocks) (carried_after w b e)
unfolding carried_after
carried_right {B = B} value w b (ServeGather p a n) h all = by (parcel_of a p n w.requests)
  where
    by : (o : Option Parcel) → AllByRecursion (λ (d : Delivery B). AreOf value d.parcel.keys d.blocks) (served w b p o)
    by None = all
    by (Some q) = all_with (λ (d : Delivery B). AreOf value d.parcel.keys d.blocks) _ b.carried (served_right value (w.workers p).mem (b.held p) (h p) q.keys) all
carried_right {B = B} value w b (ArriveGather a p n) h all = by (delivery_of a p n b.carried)
  where
    by : (o : Option (Delivery B)) → AllByRecursion (λ (d : Delivery B). AreOf value d.parcel.keys d.blocks) (taken o b.carried)
    by None = all
    by (Some d) = all_filter (λ (d : Delivery B). AreOf value d.parcel.keys d.blocks) _ b.carried all
carried_right value w b _ h all = all

-- the key that starts has its dependencies at hand
ready_is_fed : (w : WorkerFacts) (k : ℕ) → is_ready_state (wstate w k) ≡ true → list_all w.mem (deps_of w.shape k) ≡ true
ready_is_fed w k e =
    let all = sym (ready_state-is w k) ∙ e in
    let mem = and_parts (not (w.mem k)) _ all in
    let still = and_parts (not (w.running k)) _ mem.1 in
    let landed = and_parts _ (is_some (w.mine k) && is_fed w k) still.1 in
    (and_parts (is_some (w.mine k)) (is_fed w k) landed.1).1

it_is : (o : Option ℕ) (k : ℕ) → is_it o k ≡ true → o ≡ Some k
it_is None k e = absurd (false≢true e)
it_is (Some q) k e = ap (λ z. Some z) (eqb-true q k e)

pub starts_fed : (w : World) (e : Event) (i k : ℕ) → starts w e i k ≡ true → list_all (w.workers i).mem (deps_of (w.workers i).shape k) ≡ true
unfolding starts
starts_fed w (Start v) i k h =
    let p = and_parts (v == i) (is_it (would_start (w.workers v)) k) h in
    subst (λ x. list_all (w.workers x).mem (deps_of (w.workers x).shape k) ≡ true) (eqb-true v i p.0) (ready_is_fed (w.workers v) k (start_is_ready (w.workers v) k (it_is (would_start (w.workers v)) k p.1)))
starts_fed w _ i k h = absurd (false≢true h)
