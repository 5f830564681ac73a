-- Each event of the scheduler keeps what holds of each pair, and takes the message that it is about.
use Rattle.std.proofs.Common.{◌≡◌, ℕ, ◌<◌, Bool, true, false, cond, List, Option, Some, None, refl, sym, ap, ◌∙◌, arith, is_some, inl, ⊎_elim}
use Rattle.std.specs.Prelude.{nat_le}
use Rattle.std.proofs.lemmas.Bool.{and_parts}
use Rattle.std.proofs.Math.Dec.{eqb}
use Rattle.std.proofs.lemmas.Option.{none-some}
use Rattle.cluster_msgs.specs.declared.cores.SchedEvent.{SchedEvent}
use Rattle.cluster_msgs.specs.declared.cores.SchedEvent.TheVariants.{Join, Leave, FromWorker, FromClient, Balance, Evict, Replicate}
use Rattle.cluster_msgs.specs.declared.messages.Up.{Up}
use Rattle.cluster_msgs.specs.declared.messages.Up.TheVariants.{TaskFinished, TaskErred, AddKeys, ReleaseWorkerData, MissingData, RequestRefreshWhoHas, StealResponse}
use Rattle.cluster_msgs.specs.declared.messages.FromClient.{FromClient as FromClientMessage}
use Rattle.cluster_msgs.specs.declared.messages.FromClient.TheVariants.{Want, Release, Missing}
use Rattle.cluster_rules.specs.Functions.{put_pair}
use Rattle.cluster_rules.specs.Sched.{Facts, Setting, IsSound, connected, sched_opening}
use Rattle.cluster_rules.specs.Policies.{steal_rank, steal_choices, next_steal, next_drop}
use Rattle.cluster_rules.specs.SchedTable.{change, change_up, change_client, plain, are_keys, up_keys, is_copy, lost_copy, add_keys, released, joined, evicted, wants_more, wants_less, sched_takes}
use Rattle.cluster_rules.specs.SchedStep.{sched_step}
use Rattle.cluster_rules.proofs.ChoiceLemmas.{least_by_least}
use Rattle.cluster_rules.proofs.PolicyLemmas.{next_drop_is}
use Rattle.cluster_rules.proofs.SchedFrame.{step_settles}
use Rattle.cluster_rules.proofs.SoundStep.{sound_changed}
use Rattle.cluster_laws.specs.Settled.{IsSettled}
use Rattle.pair_machine.specs.Pair.{Quiet}
use Rattle.pair_moves.specs.Projection.{report_of, report_in, Side, IsNumbered, EventKeeps}
use Rattle.pair_moves.proofs.Rows.{Moved, moved_below, IsPlain, plain_keeps, calm_row, quiet_calm, same_moved, refreshed_plain, copied_plain}
use Rattle.cluster_laws.proofs.Framed.{change_framed}
use Rattle.pair_moves.proofs.TaskRows.{moved_where, moved_finished, moved_failed, moved_answered, finished_row, failed_row, answered_row}
use Rattle.pair_moves.proofs.HoldRows.{left_plain, released_row, lost_row, add_row}
use Rattle.pair_moves.proofs.OtherRows.{joined_row, moved_left, left_row}
use Rattle.pair_moves.proofs.ChoiceRows.{moved_balanced, balanced_keeps, evicted_keeps}

-- ## Rows of messages

up_row : (f : Facts) (v : ℕ) (m : Up) (w k : ℕ) (s : Side) → connected f v ≡ true → IsSound f → IsSettled f → IsNumbered f → IsPlain f (change_up f v m) w k (cond (eqb v w) (report_of k m) Quiet) s
up_row f v (TaskFinished seen q a) w k s c sound t n = finished_row f v q a w k s sound t n
up_row f v (TaskErred seen q a) w k s c sound t n = failed_row f v q a w k s sound t n
up_row f v (AddKeys seen ks) w k s c sound t n = add_row f v seen ks w k s c sound t n
up_row f v (ReleaseWorkerData seen q) w k s c sound t n = released_row f v seen q w k s sound t n
up_row f v (MissingData seen q x n) w k s c sound t h = refreshed_plain f (lost_copy f x q n) w k v q _ s (quiet (eqb v w))
  where
    quiet : (b : Bool) → IsPlain f (lost_copy f x q n) w k (cond b Quiet Quiet) s
    quiet true = lost_row f x q n w k s sound t h
    quiet false = lost_row f x q n w k s sound t h
up_row f v (RequestRefreshWhoHas seen q) w k s c sound t n = refreshed_plain f (plain f) w k v q _ s (quiet (eqb v w))
  where
    quiet : (b : Bool) → IsPlain f (plain f) w k (cond b Quiet Quiet) s
    quiet true = calm_row f (plain f) w k Quiet s sound t n (quiet_calm f (plain f) w k s (same_moved f f t k refl refl) (inl (refl, refl)) refl refl (λ x. tt))
    quiet false = calm_row f (plain f) w k Quiet s sound t n (quiet_calm f (plain f) w k s (same_moved f f t k refl refl) (inl (refl, refl)) refl refl (λ x. tt))
up_row f v (StealResponse seen q a agreed) w k s c sound t n = answered_row f v q a w k agreed s sound t n

-- an event of which nothing but want changes
client_row : (f : Facts) (c : ℕ) (m : FromClientMessage) (w k : ℕ) (s : Side) → IsSound f → IsSettled f → IsNumbered f → IsPlain f (change_client f c m) w k Quiet s
unfolding wants_more wants_less
client_row f c (Want ks) w k s sound t n = calm_row f _ w k Quiet s sound t n (quiet_calm f _ w k s (same_moved f _ t k refl refl) (inl (refl, refl)) refl refl (λ x. tt))
client_row f c (Release ks) w k s sound t n = calm_row f _ w k Quiet s sound t n (quiet_calm f _ w k s (same_moved f _ t k refl refl) (inl (refl, refl)) refl refl (λ x. tt))
client_row f c (Missing q x copy) w k s sound t n = asks (lost_row f x q copy w k s sound t n)
  where
    asks : IsPlain f (lost_copy f x q copy) w k Quiet s → IsPlain f (record (lost_copy f x q copy) { reply = Some (c, q) }) w k Quiet s
    asks p = record { moved = p.moved; on = p.on; asked = p.asked; freed = p.freed; gone = p.gone; alone = p.alone; has = p.has; silent = p.silent }

-- ## Every event

connected_then : (f : Facts) (e : SchedEvent) (w : ℕ) → connected (sched_step f e).facts w ≡ true → connected (change f e).facts w ≡ true
connected_then f e w h = ap (λ (x : ℕ → Option ℕ). is_some (x w)) (sym (step_settles f e).threads) ∙ h

pub event_keeps : (f : Facts) (e : SchedEvent) → IsSound f → IsSettled f → IsNumbered f → sched_takes f e ≡ true → EventKeeps f e
unfolding sched_step sched_takes next_steal
event_keeps f (Join threads) sound t n h w k s low there p =
    plain_keeps f (change f (Join threads)) w k Quiet s n (change_framed f (Join threads)) (sound_changed f sound (Join threads) h) low (connected_then f (Join threads) w there)
    (wider (joined_row f threads w k s sound t n)) p
  where
    wider : IsPlain f (plain (change f (Join threads)).facts) w k Quiet s → IsPlain f (change f (Join threads)) w k Quiet s
    wider q = record { moved = q.moved; on = q.on; asked = q.asked; freed = q.freed; gone = q.gone; alone = q.alone; has = q.has; silent = q.silent }
event_keeps f (Leave v) sound t n h w k s low there p =
    plain_keeps f (change f (Leave v)) w k Quiet s n (change_framed f (Leave v)) (sound_changed f sound (Leave v) h) low (connected_then f (Leave v) w there)
    (left_row f v w k s (connected_then f (Leave v) w there) sound t n) p
event_keeps f (FromWorker v m) sound t n h w k s low there p =
    plain_keeps f (change_up f v m) w k (report_in (FromWorker v m) w k) s n (change_framed f (FromWorker v m)) (sound_changed f sound (FromWorker v m) h) low (connected_then f (FromWorker v m) w there)
    (up_row f v m w k s (and_parts (connected f v) (are_keys f (up_keys m)) h).0 sound t n) p
event_keeps f (FromClient c m) sound t n h w k s low there p =
    plain_keeps f (change_client f c m) w k Quiet s n (change_framed f (FromClient c m)) (sound_changed f sound (FromClient c m) h) low (connected_then f (FromClient c m) w there)
    (client_row f c m w k s sound t n) p
event_keeps f Balance sound t n h w k s low there p =
    balanced_keeps f (next_steal f) w k s sound t n (least_by_least (steal_rank f) (steal_choices f)) (change_framed f Balance) (sound_changed f sound Balance h) low (connected_then f Balance w there) p
event_keeps f Evict sound t n h w k s low there p =
    evicted_keeps f (next_drop f) w k s sound t n (next_drop_is f) (change_framed f Evict) (sound_changed f sound Evict h) low (connected_then f Evict w there) p
event_keeps f (Replicate q v) sound t n h w k s low there p =
    plain_keeps f (change f (Replicate q v)) w k Quiet s n (change_framed f (Replicate q v)) (sound_changed f sound (Replicate q v) h) low (connected_then f (Replicate q v) w there)
    (copied_plain f w k v q s (calm_row f (plain f) w k Quiet s sound t n (quiet_calm f (plain f) w k s (same_moved f f t k refl refl) (inl (refl, refl)) refl refl (λ x. tt)))) p

-- ## Attempts that were given

moved_added : (f : Facts) → IsSettled f → (v seen : ℕ) (ks : List ℕ) (k : ℕ) → Moved f (add_keys v seen (plain f) ks).facts k
moved_added f t v seen ks k = let l = left_plain f v seen ks in same_moved f _ t k (ap (λ (o : ℕ → Option (ℕ × ℕ)). o k) l.on) (ap (λ (o : ℕ → Option (ℕ × Bool)). o k) l.steal)

moved_released : (f : Facts) → IsSettled f → (v seen q k : ℕ) → Moved f (released f v seen q) k
unfolding released
moved_released f t v seen q k = moved_where f _ k (nat_le (f.fence v q) seen) t (λ _. same_moved f _ t k refl refl)

moved_lost : (f : Facts) → IsSettled f → (v q c k : ℕ) → Moved f (lost_copy f v q c).facts k
unfolding lost_copy
moved_lost f t v q c k = pick (is_copy c (f.has v q))
  where
    pick : (b : Bool) → Moved f (cond b (record (plain (record f { has = put_pair f.has v q None })) { freed = put_pair (λ x y. false) v q true }) (plain f)).facts k
    pick true = same_moved f _ t k refl refl
    pick false = same_moved f f t k refl refl

moved_up : (f : Facts) → IsSettled f → (v : ℕ) (m : Up) (k : ℕ) → Moved f (change_up f v m).facts k
moved_up f t v (TaskFinished seen q a) k = moved_finished f t v q a k
moved_up f t v (TaskErred seen q a) k = moved_failed f t v q a k
moved_up f t v (AddKeys seen ks) k = moved_added f t v seen ks k
moved_up f t v (ReleaseWorkerData seen q) k = moved_released f t v seen q k
moved_up f t v (MissingData seen q x n) k = moved_lost f t x q n k
moved_up f t v (RequestRefreshWhoHas seen q) k = same_moved f f t k refl refl
moved_up f t v (StealResponse seen q a agreed) k = moved_answered f t v q a agreed k

moved_client : (f : Facts) → IsSettled f → (c : ℕ) (m : FromClientMessage) (k : ℕ) → Moved f (change_client f c m).facts k
unfolding wants_more wants_less
moved_client f t c (Want ks) k = same_moved f _ t k refl refl
moved_client f t c (Release ks) k = same_moved f _ t k refl refl
moved_client f t c (Missing q x n) k = moved_lost f t x q n k

moved_evicted : (f : Facts) → IsSettled f → (o : Option (ℕ × ℕ)) (k : ℕ) → Moved f (evicted f o).facts k
moved_evicted f t None k = same_moved f f t k refl refl
moved_evicted f t (Some p) k = same_moved f _ t k refl refl

pub moved_change : (f : Facts) → IsSettled f → (e : SchedEvent) (k : ℕ) → Moved f (change f e).facts k
unfolding next_steal joined
moved_change f t (Join threads) k = same_moved f _ t k refl refl
moved_change f t (Leave v) k = moved_left f t v k
moved_change f t (FromWorker v m) k = moved_up f t v m k
moved_change f t (FromClient c m) k = moved_client f t c m k
moved_change f t Balance k = moved_balanced f t (next_steal f) (least_by_least (steal_rank f) (steal_choices f)) k
moved_change f t Evict k = moved_evicted f t (next_drop f) k
moved_change f t (Replicate q v) k = same_moved f f t k refl refl

pub numbered_step : (f : Facts) (e : SchedEvent) → IsSettled f → IsNumbered f → IsNumbered (sched_step f e).facts
numbered_step f e t n = record {
  below = λ k w a i. let z = step_settles f e in ⊎_elim
      (λ o. let l : a < (change f e).facts.counter = moved_below f (change f e).facts n (change_framed f e).counter w k a (moved_change f t e k) o in omega (arith, z.counter))
      (λ m. m.1) (z.on k w a i);
}

pub numbered_opening : (c : Setting) → IsNumbered (sched_opening c)
numbered_opening c = record { below = λ k w a e. absurd (none-some (w, a) e) }
