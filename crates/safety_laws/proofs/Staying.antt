-- A worker that is alive and connected stays so over each event but its own loss and its own suspicion.
use Rattle.std.proofs.Common.{◌≡◌, ℕ, ◌+◌, Bool, true, false, not, ◌&&◌, cond, List, [], ◌∷◌, Option, Some, None, is_some, refl, sym, ap, ◌∙◌, subst}
use Rattle.std.specs.Prelude.{◌==◌, nat_le}
use Rattle.std.specs.Option.{option_map}
use Rattle.std.proofs.lemmas.Bool.{true≢false, false≢true, and_parts, eqb-true, eq-eqb}
use Rattle.std.proofs.lemmas.Option.{none-some, same_Some}
use Rattle.small_facts.proofs.Numbers.{unequal_turned}
use Rattle.cluster_msgs.specs.declared.messages.Down.{Down}
use Rattle.cluster_msgs.specs.declared.messages.Up.{Up}
use Rattle.cluster_msgs.specs.declared.messages.Up.TheVariants.{TaskFinished, TaskErred, AddKeys, ReleaseWorkerData, MissingData, RequestRefreshWhoHas, StealResponse}
use Rattle.cluster_msgs.specs.declared.messages.ToClient.{ToClient}
use Rattle.cluster_msgs.specs.declared.messages.FromClient.{FromClient as ClientMessage}
use Rattle.cluster_msgs.specs.declared.messages.FromClient.TheVariants.{Want as WantMessage, Release as ReleaseMessage, Missing}
use Rattle.cluster_msgs.specs.declared.cores.Steal.{Steal}
use Rattle.cluster_msgs.specs.declared.cores.SchedEvent.{SchedEvent}
use Rattle.cluster_msgs.specs.declared.cores.SchedEvent.TheVariants.{Join as JoinSched, Leave, FromWorker, FromClient, Balance as BalanceSched, Evict as EvictSched, Replicate as ReplicateSched}
use Rattle.cluster_msgs.specs.declared.events.Asker.{Asker}
use Rattle.cluster_msgs.specs.declared.events.Asker.TheVariants.{Worker, Client}
use Rattle.cluster_msgs.specs.declared.events.Event.{Event}
use Rattle.cluster_msgs.specs.declared.events.Event.TheVariants.{Want, Release, Join, Lose, SeeLoss, Suspect, DeliverDown, DeliverUp, DeliverToClient, DeliverFromClient, Start, Finish, SendGather, ServeGather, ArriveGather, FailGather, Balance, Evict, Replicate, Spill, LoseSpilled}
use Rattle.cluster_rules.specs.Functions.{put}
use Rattle.cluster_rules.specs.Sched.{Facts, connected, holds, held, is_on}
use Rattle.cluster_rules.specs.Policies.{next_steal, next_drop}
use Rattle.cluster_rules.specs.SchedTable.{Changed, plain, is_this, is_copy, is_asked_back, joined, left, finished, failed, add_key, add_keys, released, lost_copy, stolen_to, answered, wants_more, wants_less, balanced, evicted, change_up, change_client, change}
use Rattle.cluster_rules.specs.SchedStep.{sched_step}
use Rattle.cluster_rules.specs.Worker.{Ask}
use Rattle.cluster_rules.specs.World.{Job, World, Parcel, is_connected, open_ask, parcel_of}
use Rattle.cluster_rules.specs.WorldStep.{scheduled, worked, client_worked, take_down_first, take_up, take_up_first, take_to_client, take_from_client, ask_by, gathered_at, failed_at, serve, take_answer, fail_ask, world_step}
use Rattle.cluster_rules.specs.Enabled.{enabled, front}
use Rattle.cluster_rules.specs.Runs.{sched_event}
use Rattle.cluster_rules.proofs.SchedFrame.{step_settles}
use Rattle.cluster_laws.proofs.SchedPart.{sched_after, sched_is}

-- ## Who is connected

abbrev Alike : Facts → Facts → Type 0
Alike f g = g.threads ≡ f.threads

both : (f : Facts) (b : Bool) (g h : Facts) → Alike f g → Alike f h → Alike f (cond b g h)
both f true g h p q = p
both f false g h p q = q

both_changed : (f : Facts) (b : Bool) (g h : Changed) → Alike f g.facts → Alike f h.facts → Alike f (cond b g h).facts
both_changed f true g h p q = p
both_changed f false g h p q = q

finished_alike : (f : Facts) (w k a : ℕ) → Alike f (finished f w k a)
unfolding finished
finished_alike f w k a = both f (is_this w a (f.on k)) _ f refl refl

failed_alike : (f : Facts) (w k a : ℕ) → Alike f (failed f w k a)
unfolding failed
failed_alike f w k a = both f (is_this w a (f.on k)) _ f refl refl

released_alike : (f : Facts) (w seen k : ℕ) → Alike f (released f w seen k)
unfolding released
released_alike f w seen k = both f (nat_le (f.fence w k) seen) _ f refl refl

lost_alike : (f : Facts) (x k c : ℕ) → Alike f (lost_copy f x k c).facts
unfolding lost_copy
lost_alike f x k c = both_changed f (is_copy c (f.has x k)) _ (plain f) refl refl

add_alike : (w seen : ℕ) (g : Changed) (k : ℕ) → Alike g.facts (add_key w seen g k).facts
add_alike w seen g k =
    both_changed g.facts (nat_le (g.facts.fence w k) seen) _ g
    (both_changed g.facts (holds g.facts w k) g _ refl (both_changed g.facts (held g.facts k) _ _ refl (both_changed g.facts (is_on g.facts w k) g _ refl refl)))
    refl

adds_alike : (w seen : ℕ) (g : Changed) (ks : List ℕ) → Alike g.facts (add_keys w seen g ks).facts
adds_alike w seen g [] = refl
adds_alike w seen g (k ∷ ks) = adds_alike w seen (add_key w seen g k) ks ∙ add_alike w seen g k

stolen_alike : (f : Facts) (k : ℕ) (o : Option (ℕ × Bool)) → Alike f (stolen_to f k o)
stolen_alike f k None = refl
stolen_alike f k (Some p) = both f (connected f p.0) _ _ refl refl

answered_alike : (f : Facts) (w k a : ℕ) (agreed : Bool) → Alike f (answered f w k a agreed)
unfolding answered
answered_alike f w k a agreed = both f (is_this w a (f.on k) && is_asked_back (f.steal k)) _ f (both f agreed (stolen_to f k (f.steal k)) _ (stolen_alike f k (f.steal k)) refl) refl

up_alike : (f : Facts) (w : ℕ) (m : Up) → Alike f (change_up f w m).facts
up_alike f w (TaskFinished seen k a) = finished_alike f w k a
up_alike f w (TaskErred seen k a) = failed_alike f w k a
up_alike f w (AddKeys seen ks) = adds_alike w seen (plain f) ks
up_alike f w (ReleaseWorkerData seen k) = released_alike f w seen k
up_alike f w (MissingData seen k x c) = lost_alike f x k c
up_alike f w (RequestRefreshWhoHas seen k) = refl
up_alike f w (StealResponse seen k a agreed) = answered_alike f w k a agreed

client_alike : (f : Facts) (c : ℕ) (m : ClientMessage) → Alike f (change_client f c m).facts
unfolding wants_more wants_less
client_alike f c (WantMessage ks) = refl
client_alike f c (ReleaseMessage ks) = refl
client_alike f c (Missing k x copy) = lost_alike f x k copy

balanced_alike : (f : Facts) (o : Option Steal) → Alike f (balanced f o).facts
balanced_alike f None = refl
balanced_alike f (Some c) = refl

evicted_alike : (f : Facts) (o : Option (ℕ × ℕ)) → Alike f (evicted f o).facts
evicted_alike f None = refl
evicted_alike f (Some p) = refl

-- the event takes that the worker leaves
abbrev pub leaves : SchedEvent → ℕ → Bool
leaves (JoinSched threads) i = false
leaves (Leave w) i = w == i
leaves (FromWorker w m) i = false
leaves (FromClient c m) i = false
leaves BalanceSched i = false
leaves EvictSched i = false
leaves (ReplicateSched k w) i = false

connected_change : (f : Facts) (s : SchedEvent) (i : ℕ) → leaves s i ≡ false → connected f i ≡ true → connected (change f s).facts i ≡ true
unfolding joined left
connected_change f (JoinSched threads) i l c = by (i == f.last_worker + 1)
  where
    by : (b : Bool) → is_some (cond b (Some threads) (f.threads i)) ≡ true
    by true = refl
    by false = c
connected_change f (Leave w) i l c = ap (λ b. is_some (cond b None (f.threads i))) (unequal_turned i w l) ∙ c
connected_change f (FromWorker w m) i l c = ap (λ (t : ℕ → Option ℕ). is_some (t i)) (up_alike f w m) ∙ c
connected_change f (FromClient x m) i l c = ap (λ (t : ℕ → Option ℕ). is_some (t i)) (client_alike f x m) ∙ c
connected_change f BalanceSched i l c = ap (λ (t : ℕ → Option ℕ). is_some (t i)) (balanced_alike f (next_steal f)) ∙ c
connected_change f EvictSched i l c = ap (λ (t : ℕ → Option ℕ). is_some (t i)) (evicted_alike f (next_drop f)) ∙ c
connected_change f (ReplicateSched k w) i l c = c

connected_step : (f : Facts) (s : SchedEvent) (i : ℕ) → leaves s i ≡ false → connected f i ≡ true → connected (sched_step f s).facts i ≡ true
connected_step f s i l c = ap (λ (t : ℕ → Option ℕ). is_some (t i)) (step_settles f s).threads ∙ connected_change f s i l c

connected_joined : (f : Facts) (threads : ℕ) → connected (sched_step f (JoinSched threads)).facts (f.last_worker + 1) ≡ true
unfolding joined
connected_joined f threads = ap (λ (t : ℕ → Option ℕ). is_some (t (f.last_worker + 1))) (step_settles f (JoinSched threads)).threads ∙ ap (λ b. is_some (cond b (Some threads) (f.threads (f.last_worker + 1)))) (eq-eqb (f.last_worker + 1) (f.last_worker + 1) refl)

-- a worker that left isn't connected
pub left_gone : (f : Facts) (i : ℕ) → connected (sched_step f (Leave i)).facts i ≡ false
unfolding left
left_gone f i = ap (λ (t : ℕ → Option ℕ). is_some (t i)) (step_settles f (Leave i)).threads ∙ ap (λ b. is_some (cond b None (f.threads i))) (eq-eqb i i refl)

-- the event takes that a worker joins
abbrev pub lets_join : Option SchedEvent → Bool
lets_join (Some (JoinSched threads)) = true
lets_join o = false

-- nobody but who joins is connected anew
before_change : (f : Facts) (s : SchedEvent) (i : ℕ) → lets_join (Some s) ≡ false → connected (change f s).facts i ≡ true → connected f i ≡ true
unfolding left
before_change f (JoinSched threads) i l c = absurd (true≢false l)
before_change f (Leave w) i l c = by (i == w) c
  where
    by : (b : Bool) → is_some (cond b None (f.threads i)) ≡ true → is_some (f.threads i) ≡ true
    by true c = absurd (false≢true c)
    by false c = c
before_change f (FromWorker w m) i l c = sym (ap (λ (t : ℕ → Option ℕ). is_some (t i)) (up_alike f w m)) ∙ c
before_change f (FromClient x m) i l c = sym (ap (λ (t : ℕ → Option ℕ). is_some (t i)) (client_alike f x m)) ∙ c
before_change f BalanceSched i l c = sym (ap (λ (t : ℕ → Option ℕ). is_some (t i)) (balanced_alike f (next_steal f))) ∙ c
before_change f EvictSched i l c = sym (ap (λ (t : ℕ → Option ℕ). is_some (t i)) (evicted_alike f (next_drop f))) ∙ c
before_change f (ReplicateSched k w) i l c = c

pub connected_before : (f : Facts) (o : Option SchedEvent) (i : ℕ) → lets_join o ≡ false → connected (sched_after f o) i ≡ true → connected f i ≡ true
connected_before f None i l c = c
connected_before f (Some s) i l c = before_change f s i l (sym (ap (λ (t : ℕ → Option ℕ). is_some (t i)) (step_settles f s).threads) ∙ c)

pub joined_before : (f : Facts) (threads i : ℕ) → (i == f.last_worker + 1) ≡ false → connected (sched_step f (JoinSched threads)).facts i ≡ true → connected f i ≡ true
unfolding joined
joined_before f threads i other c =
    sym (ap (λ (t : ℕ → Option ℕ). is_some (t i)) (step_settles f (JoinSched threads)).threads ∙ ap (λ b. is_some (cond b (Some threads) (f.threads i))) other) ∙ c

-- ## Who is alive

-- the event takes this very worker away
abbrev pub takes_away : Event → ℕ → Bool
takes_away (Lose v) i = v == i
takes_away (Suspect v) i = v == i
takes_away _ i = false

pub alive_gathered : (w : World) (a : Asker) (p n : ℕ) (found : List ℕ) → (gathered_at w a p n found).alive ≡ w.alive
unfolding worked client_worked
alive_gathered w (Worker i) p n found = refl
alive_gathered w (Client c) p n found = refl

alive_failed : (w : World) (a : Asker) (p n : ℕ) → (failed_at w a p n).alive ≡ w.alive
unfolding worked client_worked
alive_failed w (Worker i) p n = refl
alive_failed w (Client c) p n = refl

pub alive_asks : (w : World) (a : Asker) (p : ℕ) → (ask_by w a p).alive ≡ w.alive
unfolding worked client_worked
alive_asks w (Worker i) p = refl
alive_asks w (Client c) p = refl

pub alive_serves : (w : World) (p : ℕ) (o : Option Parcel) → (serve w p o).alive ≡ w.alive
alive_serves w p None = refl
alive_serves w p (Some q) = refl

pub alive_answer : (w : World) (o : Option Parcel) → (take_answer w o).alive ≡ w.alive
alive_answer w None = refl
alive_answer w (Some q) = alive_gathered _ q.asker q.peer q.ask q.keys

pub alive_fails : (w : World) (a : Asker) (p : ℕ) (o : Option Ask) → (fail_ask w a p o).alive ≡ w.alive
alive_fails w a p None = refl
alive_fails w a p (Some q) = alive_failed w a p q.number

pub alive_down : (w : World) (i : ℕ) (ms : List Down) → (take_down_first w i ms).alive ≡ w.alive
unfolding worked
alive_down w i [] = refl
alive_down w i (m ∷ ms) = refl

alive_up : (w : World) (i : ℕ) (m : Up) (b : Bool) → (take_up w i m b).alive ≡ w.alive
unfolding scheduled
alive_up w i m true = refl
alive_up w i m false = refl

pub alive_ups : (w : World) (i : ℕ) (ms : List Up) → (take_up_first w i ms).alive ≡ w.alive
alive_ups w i [] = refl
alive_ups w i (m ∷ ms) = alive_up (record w { up = put w.up i ms }) i m (is_connected w i)

pub alive_to_client : (w : World) (c : ℕ) (ms : List ToClient) → (take_to_client w c ms).alive ≡ w.alive
unfolding client_worked
alive_to_client w c [] = refl
alive_to_client w c (m ∷ ms) = refl

pub alive_from_client : (w : World) (c : ℕ) (ms : List ClientMessage) → (take_from_client w c ms).alive ≡ w.alive
unfolding scheduled
alive_from_client w c [] = refl
alive_from_client w c (m ∷ ms) = refl

-- the events that change nobody's life
pub alive_stays : (j : Job) (w : World) (e : Event) (i : ℕ) → takes_away e i ≡ false → w.alive i ≡ true → (world_step j w e).alive i ≡ true
unfolding world_step scheduled worked client_worked
alive_stays j w (Want c ks) i t a = a
alive_stays j w (Release c ks) i t a = a
alive_stays j w (Join threads) i t a = by (i == w.sched.last_worker + 1)
  where
    by : (b : Bool) → cond b true (w.alive i) ≡ true
    by true = refl
    by false = a
alive_stays j w (Lose v) i t a = ap (λ b. cond b false (w.alive i)) (unequal_turned i v t) ∙ a
alive_stays j w (SeeLoss v) i t a = a
alive_stays j w (Suspect v) i t a = a
alive_stays j w (DeliverDown v) i t a = ap (λ (x : ℕ → Bool). x i) (alive_down w v (w.down v)) ∙ a
alive_stays j w (DeliverUp v) i t a = ap (λ (x : ℕ → Bool). x i) (alive_ups w v (w.up v)) ∙ a
alive_stays j w (DeliverToClient c) i t a = ap (λ (x : ℕ → Bool). x i) (alive_to_client w c (w.to_client c)) ∙ a
alive_stays j w (DeliverFromClient c) i t a = ap (λ (x : ℕ → Bool). x i) (alive_from_client w c (w.from_client c)) ∙ a
alive_stays j w (Start v) i t a = a
alive_stays j w (Finish v k) i t a = a
alive_stays j w (SendGather x p) i t a = ap (λ (y : ℕ → Bool). y i) (alive_asks w x p) ∙ a
alive_stays j w (ServeGather p x n) i t a = ap (λ (y : ℕ → Bool). y i) (alive_serves w p (parcel_of x p n w.requests)) ∙ a
alive_stays j w (ArriveGather x p n) i t a = ap (λ (y : ℕ → Bool). y i) (alive_answer w (parcel_of x p n w.answers)) ∙ a
alive_stays j w (FailGather x p) i t a = ap (λ (y : ℕ → Bool). y i) (alive_fails w x p (open_ask w x p)) ∙ a
alive_stays j w Balance i t a = a
alive_stays j w Evict i t a = a
alive_stays j w (Replicate k v) i t a = a
alive_stays j w (Spill v k) i t a = a
alive_stays j w (LoseSpilled v k) i t a = a

-- ## Both

up_leaves : (i v : ℕ) (ms : List Up) (b : Bool) (s : SchedEvent) → cond b (option_map (λ m. FromWorker v m) (front ms)) None ≡ Some s → leaves s i ≡ false
up_leaves i v [] true s e = absurd (none-some s e)
up_leaves i v (m ∷ ms) true s e = sym (ap (λ x. leaves x i) (same_Some (FromWorker v m) s e))
up_leaves i v ms false s e = absurd (none-some s e)

letter_leaves : (i c : ℕ) (ms : List ClientMessage) (s : SchedEvent) → option_map (λ m. FromClient c m) (front ms) ≡ Some s → leaves s i ≡ false
letter_leaves i c [] s e = absurd (none-some s e)
letter_leaves i c (m ∷ ms) s e = sym (ap (λ x. leaves x i) (same_Some (FromClient c m) s e))

-- the worker isn't one whose loss is seen
abbrev pub IsUnseen : World → Event → Type 0
IsUnseen w e = (v : ℕ) → e ≡ SeeLoss v → w.alive v ≡ false

nobody_leaves : (w : World) (e : Event) (i : ℕ) → IsUnseen w e → takes_away e i ≡ false → w.alive i ≡ true → (s : SchedEvent) → sched_event w e ≡ Some s → leaves s i ≡ false
nobody_leaves w (Join threads) i t h a s e = sym (ap (λ x. leaves x i) (same_Some (JoinSched threads) s e))
nobody_leaves w (SeeLoss v) i t h a s e = sym (ap (λ x. leaves x i) (same_Some (Leave v) s e)) ∙ by (v == i) refl
  where
    by : (b : Bool) → (v == i) ≡ b → b ≡ false
    by true q = absurd (true≢false (sym a ∙ ap w.alive (sym (eqb-true v i q)) ∙ t v refl))
    by false q = refl
nobody_leaves w (Suspect v) i t h a s e = sym (ap (λ x. leaves x i) (same_Some (Leave v) s e)) ∙ h
nobody_leaves w (DeliverUp v) i t h a s e = up_leaves i v (w.up v) (is_connected w v) s e
nobody_leaves w (DeliverFromClient c) i t h a s e = letter_leaves i c (w.from_client c) s e
nobody_leaves w Balance i t h a s e = sym (ap (λ x. leaves x i) (same_Some BalanceSched s e))
nobody_leaves w Evict i t h a s e = sym (ap (λ x. leaves x i) (same_Some EvictSched s e))
nobody_leaves w (Replicate k v) i t h a s e = sym (ap (λ x. leaves x i) (same_Some (ReplicateSched k v) s e))
nobody_leaves w (Want c ks) i t h a s e = absurd (none-some s e)
nobody_leaves w (Release c ks) i t h a s e = absurd (none-some s e)
nobody_leaves w (Lose v) i t h a s e = absurd (none-some s e)
nobody_leaves w (DeliverDown v) i t h a s e = absurd (none-some s e)
nobody_leaves w (DeliverToClient c) i t h a s e = absurd (none-some s e)
nobody_leaves w (Start v) i t h a s e = absurd (none-some s e)
nobody_leaves w (Finish v k) i t h a s e = absurd (none-some s e)
nobody_leaves w (SendGather x p) i t h a s e = absurd (none-some s e)
nobody_leaves w (ServeGather p x n) i t h a s e = absurd (none-some s e)
nobody_leaves w (ArriveGather x p n) i t h a s e = absurd (none-some s e)
nobody_leaves w (FailGather x p) i t h a s e = absurd (none-some s e)
nobody_leaves w (Spill v k) i t h a s e = absurd (none-some s e)
nobody_leaves w (LoseSpilled v k) i t h a s e = absurd (none-some s e)

pub connected_stays : (j : Job) (w : World) (e : Event) (i : ℕ) → IsUnseen w e → takes_away e i ≡ false → w.alive i ≡ true → is_connected w i ≡ true → is_connected (world_step j w e) i ≡ true
connected_stays j w e i t h a c = ap (λ (f : Facts). connected f i) (sched_is j w e) ∙ after (sched_event w e) (nobody_leaves w e i t h a)
  where
    after : (o : Option SchedEvent) → ((s : SchedEvent) → o ≡ Some s → leaves s i ≡ false) → connected (sched_after w.sched o) i ≡ true
    after None l = c
    after (Some s) l = connected_step w.sched s i (l s refl) c

-- a loss is seen of the dead alone
pub unseen : (w : World) (e : Event) → enabled w e ≡ true → IsUnseen w e
unfolding enabled
unseen w e t v q = dead (w.alive v) refl (and_parts (not (w.alive v)) (is_connected w v) (subst (λ x. enabled w x ≡ true) q t)).0
  where
    dead : (b : Bool) → w.alive v ≡ b → not (w.alive v) ≡ true → b ≡ false
    dead true a n = absurd (false≢true (ap not (sym a) ∙ n))
    dead false a n = refl

-- who joins is there
pub joined_alive : (j : Job) (w : World) (threads : ℕ) → (world_step j w (Join threads)).alive (w.sched.last_worker + 1) ≡ true
unfolding world_step scheduled
joined_alive j w threads = ap (λ b. cond b true (w.alive (w.sched.last_worker + 1))) (eq-eqb (w.sched.last_worker + 1) (w.sched.last_worker + 1) refl)

pub joined_connected : (j : Job) (w : World) (threads : ℕ) → is_connected (world_step j w (Join threads)) (w.sched.last_worker + 1) ≡ true
joined_connected j w threads = ap (λ (f : Facts). connected f (w.sched.last_worker + 1)) (sched_is j w (Join threads)) ∙ connected_joined w.sched threads
