-- A key keeps its attempt, unless the event ends it.
use Rattle.std.proofs.Common.{◌≡◌, ◌⊎◌, inl, inr, ⊎_elim, ℕ, ◌+◌, ◌<◌, ◌≤◌, Bool, true, false, not, ◌&&◌, ◌||◌, cond, List, [], ◌∷◌, ◌++◌, Option, Some, None, is_some, refl, sym, ap, ◌∙◌, arith}
use Rattle.std.specs.Prelude.{nat_le}
use Rattle.std.proofs.lemmas.Bool.{false≢true, eqb-true, cases_lt, eq-eqb, and_from, not_from_false, or_left, or_right}
use Rattle.std.proofs.lemmas.List.Folds.{list_any-append}
use Rattle.std.proofs.Math.Dec.{eqb}
use Rattle.std.specs.List.{list_any}
use Rattle.std.proofs.lemmas.Option.{none-some}
use Rattle.small_facts.proofs.Numbers.{eqb_turned}
use Rattle.small_facts.proofs.Truth.{and_first, and_second}
use Rattle.cluster_msgs.specs.declared.cores.Steal.{Steal}
use Rattle.cluster_msgs.specs.declared.cores.SchedEvent.{SchedEvent}
use Rattle.cluster_msgs.specs.declared.cores.SchedEvent.TheVariants.{Join, Leave, FromWorker, FromClient, Balance, Evict, Replicate}
use Rattle.cluster_msgs.specs.declared.messages.Down.TheVariants.{FreeKeys}
use Rattle.cluster_msgs.specs.declared.messages.Up.{Up}
use Rattle.cluster_msgs.specs.declared.messages.Up.TheVariants.{TaskFinished, TaskErred, AddKeys, ReleaseWorkerData, MissingData, RequestRefreshWhoHas, StealResponse}
use Rattle.cluster_msgs.specs.declared.messages.FromClient.{FromClient as FromClientMessage}
use Rattle.cluster_msgs.specs.declared.messages.FromClient.TheVariants.{Want, Release, Missing}
use Rattle.cluster_rules.specs.Functions.{put, put_pair, from_one}
use Rattle.cluster_rules.specs.Derived.{below, is_in}
use Rattle.cluster_rules.specs.Sched.{Facts, IsSound, keys, holds, held, need, ready, connected, workers, is_for, is_on}
use Rattle.cluster_rules.specs.Policies.{next_steal, next_drop}
use Rattle.cluster_rules.specs.SchedTable.{Changed, change, change_up, change_client, plain, joined, left, is_this, finished, failed, add_key, add_keys, released, is_copy, lost_copy, is_asked_back, stolen_to, refused, answered, wants_more, wants_less, balanced, evicted, sched_takes}
use Rattle.cluster_rules.specs.SchedStep.{Stages, drop_bad, drop_has, drop_on, place_all, settle, lost, lost_keys, free_message, to_worker, task_messages, down_messages, mail, posted, finish_step, sched_step}
use Rattle.cluster_rules.specs.Runs.{ends_by_itself, ends_attempt, frees}
use Rattle.cluster_rules.proofs.SchedFrame.{placing_keys, in_filter, in_range}
use Rattle.cluster_laws.proofs.OrderLemmas.{mail-down, mail-own_part}
use Rattle.cluster_rules.proofs.SoundStep.{sound_changed}
use Rattle.cluster_laws.specs.Attempts.{AttemptsEndForACause}

-- these places leave the key its attempt, or the event ends it by itself
abbrev Keeps : Facts → SchedEvent → ℕ → ℕ → ℕ → (ℕ → Option (ℕ × ℕ)) → Type 0
Keeps f e k i a on = (on k ≡ Some (i, a)) ⊎ (ends_by_itself f i k a e ≡ true)

-- ## Each row of the table

same_places : (f : Facts) (e : SchedEvent) (k i a : ℕ) (on : ℕ → Option (ℕ × ℕ)) → on ≡ f.on → f.on k ≡ Some (i, a) → Keeps f e k i a on
same_places f e k i a on q h = inl (ap (λ (o : ℕ → Option (ℕ × ℕ)). o k) q ∙ h)

-- what happens only where a test holds
only_where : (f g : Facts) (e : SchedEvent) (k i a : ℕ) (c : Bool) → f.on k ≡ Some (i, a) → (c ≡ true → Keeps f e k i a g.on) → Keeps f e k i a (cond c g f).on
only_where f g e k i a true h t = t refl
only_where f g e k i a false h t = inl h

-- one key gets another place, or none
one_place : (f : Facts) (e : SchedEvent) (k i a q : ℕ) (new : Option (ℕ × ℕ)) → f.on k ≡ Some (i, a) → (eqb k q ≡ true → ends_by_itself f i k a e ≡ true) → Keeps f e k i a (put f.on q new)
one_place f e k i a q new h t = pick (eqb k q) refl
  where
    pick : (c : Bool) → eqb k q ≡ c → (cond c new (f.on k) ≡ Some (i, a)) ⊎ (ends_by_itself f i k a e ≡ true)
    pick true s = inr (t s)
    pick false s = inl h

keeps_left : (f : Facts) (w k i a : ℕ) → f.on k ≡ Some (i, a) → Keeps f (Leave w) k i a (left f w).on
unfolding left
keeps_left f w k i a h = pick (is_on f w k) refl
  where
    pick : (b : Bool) → is_on f w k ≡ b → (cond b None (f.on k) ≡ Some (i, a)) ⊎ (eqb w i ≡ true)
    pick true q = inr (eqb_turned w i ∙ sym (ap (is_for w) h) ∙ q)
    pick false q = inl h

-- a message that counts for the attempt of key q comes from the worker that has it, and names that attempt
sender : (f : Facts) (w q b k i a : ℕ) → f.on k ≡ Some (i, a) → is_this w b (f.on q) ≡ true → eqb k q ≡ true → (eqb w i && is_this i a (f.on k)) ≡ true
sender f w q b k i a h t e =
    let at : f.on q ≡ Some (i, a) = sym (ap f.on (eqb-true k q e)) ∙ h in
    let v : (eqb i w && eqb a b) ≡ true = sym (ap (is_this w b) at) ∙ t in
    and_from (eqb w i) (is_this i a (f.on k)) (eqb_turned w i ∙ and_first (eqb i w) (eqb a b) v) (ap (is_this i a) h ∙ and_from (eqb i i) (eqb a a) (eq-eqb i i refl) (eq-eqb a a refl))

names : (f : Facts) (w q b k i a : ℕ) → f.on k ≡ Some (i, a) → is_this w b (f.on q) ≡ true → eqb k q ≡ true → (eqb q k && eqb b a) ≡ true
names f w q b k i a h t e =
    let at : f.on q ≡ Some (i, a) = sym (ap f.on (eqb-true k q e)) ∙ h in
    let v : (eqb i w && eqb a b) ≡ true = sym (ap (is_this w b) at) ∙ t in
    and_from (eqb q k) (eqb b a) (eqb_turned q k ∙ e) (eqb_turned b a ∙ and_second (eqb i w) (eqb a b) v)

counts : (f : Facts) (w q b k i a : ℕ) → f.on k ≡ Some (i, a) → is_this w b (f.on q) ≡ true → eqb k q ≡ true → ((eqb w i && is_this i a (f.on k)) && (eqb q k && eqb b a)) ≡ true
counts f w q b k i a h t e = and_from (eqb w i && is_this i a (f.on k)) (eqb q k && eqb b a) (sender f w q b k i a h t e) (names f w q b k i a h t e)

keeps_finished : (f : Facts) (w seen q b k i a : ℕ) → f.on k ≡ Some (i, a) → Keeps f (FromWorker w (TaskFinished seen q b)) k i a (finished f w q b).on
unfolding finished
keeps_finished f w seen q b k i a h =
    only_where f (record f { on = put f.on q None; steal = put f.steal q None; has = put_pair f.has w q (Some f.counter); counter = f.counter + 1; finishes = f.finishes + 1 }) (FromWorker w (TaskFinished seen q b)) k i a (is_this w b (f.on q)) h
    (λ t. one_place f (FromWorker w (TaskFinished seen q b)) k i a q None h (counts f w q b k i a h t))

keeps_failed : (f : Facts) (w seen q b k i a : ℕ) → f.on k ≡ Some (i, a) → Keeps f (FromWorker w (TaskErred seen q b)) k i a (failed f w q b).on
unfolding failed
keeps_failed f w seen q b k i a h =
    only_where f (record f { on = put f.on q None; steal = put f.steal q None; bad = put f.bad q true }) (FromWorker w (TaskErred seen q b)) k i a (is_this w b (f.on q)) h
    (λ t. one_place f (FromWorker w (TaskErred seen q b)) k i a q None h (counts f w q b k i a h t))

keeps_answered : (f : Facts) (w seen q b : ℕ) (agreed : Bool) (k i a : ℕ) → f.on k ≡ Some (i, a) → Keeps f (FromWorker w (StealResponse seen q b agreed)) k i a (answered f w q b agreed).on
unfolding answered
keeps_answered f w seen q b true k i a h =
    only_where f (stolen_to f q (f.steal q)) (FromWorker w (StealResponse seen q b true)) k i a (is_this w b (f.on q) && is_asked_back (f.steal q)) h (λ t. to t (f.steal q))
  where
    gives_up : (is_this w b (f.on q) && is_asked_back (f.steal q)) ≡ true → eqb k q ≡ true → ((eqb w i && is_this i a (f.on k)) && ((eqb q k && eqb b a) && is_asked_back (f.steal k))) ≡ true
    gives_up t s =
        let this = and_first (is_this w b (f.on q)) (is_asked_back (f.steal q)) t in
        let asked = and_second (is_this w b (f.on q)) (is_asked_back (f.steal q)) t in
        and_from (eqb w i && is_this i a (f.on k)) ((eqb q k && eqb b a) && is_asked_back (f.steal k)) (sender f w q b k i a h this s)
        (and_from (eqb q k && eqb b a) (is_asked_back (f.steal k)) (names f w q b k i a h this s) (ap (λ j. is_asked_back (f.steal j)) (eqb-true k q s) ∙ asked))

    by : (is_this w b (f.on q) && is_asked_back (f.steal q)) ≡ true → (thief : ℕ) (c : Bool) → Keeps f (FromWorker w (StealResponse seen q b true)) k i a (cond c
        (record f { on = put f.on q (Some (thief, f.counter)); steal = put f.steal q None; counter = f.counter + 1 })
        (record f { on = put f.on q None; steal = put f.steal q None })).on
    by t thief true = one_place f (FromWorker w (StealResponse seen q b true)) k i a q (Some (thief, f.counter)) h (gives_up t)
    by t thief false = one_place f (FromWorker w (StealResponse seen q b true)) k i a q None h (gives_up t)

    to : (is_this w b (f.on q) && is_asked_back (f.steal q)) ≡ true → (m : Option (ℕ × Bool)) → Keeps f (FromWorker w (StealResponse seen q b true)) k i a (stolen_to f q m).on
    to t None = inl h
    to t (Some p) = by t p.0 (connected f p.0)
keeps_answered f w seen q b false k i a h =
    only_where f (record f { steal = put f.steal q (refused (f.steal q)) }) (FromWorker w (StealResponse seen q b false)) k i a (is_this w b (f.on q) && is_asked_back (f.steal q)) h (λ t. inl h)

on_add_key : (w seen : ℕ) (g : Changed) (k : ℕ) → (add_key w seen g k).facts.on ≡ g.facts.on
on_add_key w seen g k = pick (nat_le (g.facts.fence w k) seen) (holds g.facts w k) (held g.facts k) (is_on g.facts w k)
  where
    pick : (a b c d : Bool) → (cond a (cond b g (cond c (record g { facts = record g.facts { has = put_pair g.facts.has w k (Some g.facts.counter); counter = g.facts.counter + 1 } }) (cond d g (record g { freed = put_pair g.freed w k true })))) g).facts.on ≡ g.facts.on
    pick true true c d = refl
    pick true false true d = refl
    pick true false false true = refl
    pick true false false false = refl
    pick false b c d = refl

on_add_keys : (w seen : ℕ) (g : Changed) (ks : List ℕ) → (add_keys w seen g ks).facts.on ≡ g.facts.on
on_add_keys w seen g [] = refl
on_add_keys w seen g (k ∷ ks) = on_add_keys w seen (add_key w seen g k) ks ∙ on_add_key w seen g k

on_released : (f : Facts) (w seen k : ℕ) → (released f w seen k).on ≡ f.on
unfolding released
on_released f w seen k = pick (nat_le (f.fence w k) seen)
  where
    pick : (b : Bool) → (cond b (record f { has = put_pair f.has w k None }) f).on ≡ f.on
    pick true = refl
    pick false = refl

on_lost_copy : (f : Facts) (x k c : ℕ) → (lost_copy f x k c).facts.on ≡ f.on
unfolding lost_copy
on_lost_copy f x k c = pick (is_copy c (f.has x k))
  where
    pick : (b : Bool) → (cond b (record (plain (record f { has = put_pair f.has x k None })) { freed = put_pair (λ w j. false) x k true }) (plain f)).facts.on ≡ f.on
    pick true = refl
    pick false = refl

on_balanced : (f : Facts) (c : Option Steal) → (balanced f c).facts.on ≡ f.on
on_balanced f None = refl
on_balanced f (Some c) = refl

on_evicted : (f : Facts) (c : Option (ℕ × ℕ)) → (evicted f c).facts.on ≡ f.on
on_evicted f None = refl
on_evicted f (Some c) = refl

on_joined : (f : Facts) (threads : ℕ) → (joined f threads).on ≡ f.on
unfolding joined
on_joined f threads = refl

on_client : (f : Facts) (c : ℕ) (m : FromClientMessage) → (change_client f c m).facts.on ≡ f.on
unfolding wants_more wants_less
on_client f c (Want ks) = refl
on_client f c (Release ks) = refl
on_client f c (Missing k x copy) = on_lost_copy f x k copy

keeps_up : (f : Facts) (w : ℕ) (up : Up) (k i a : ℕ) → f.on k ≡ Some (i, a) → Keeps f (FromWorker w up) k i a (change_up f w up).facts.on
keeps_up f w (TaskFinished seen q b) k i a h = keeps_finished f w seen q b k i a h
keeps_up f w (TaskErred seen q b) k i a h = keeps_failed f w seen q b k i a h
keeps_up f w (AddKeys seen ks) k i a h = same_places f (FromWorker w (AddKeys seen ks)) k i a (add_keys w seen (plain f) ks).facts.on (on_add_keys w seen (plain f) ks) h
keeps_up f w (ReleaseWorkerData seen q) k i a h = same_places f (FromWorker w (ReleaseWorkerData seen q)) k i a (released f w seen q).on (on_released f w seen q) h
keeps_up f w (MissingData seen q x c) k i a h = same_places f (FromWorker w (MissingData seen q x c)) k i a (lost_copy f x q c).facts.on (on_lost_copy f x q c) h
keeps_up f w (RequestRefreshWhoHas seen q) k i a h = inl h
keeps_up f w (StealResponse seen q b agreed) k i a h = keeps_answered f w seen q b agreed k i a h

keeps_changed : (f : Facts) (e : SchedEvent) (k i a : ℕ) → f.on k ≡ Some (i, a) → Keeps f e k i a (change f e).facts.on
keeps_changed f (Join threads) k i a h = same_places f (Join threads) k i a (joined f threads).on (on_joined f threads) h
keeps_changed f (Leave w) k i a h = keeps_left f w k i a h
keeps_changed f (FromWorker w up) k i a h = keeps_up f w up k i a h
keeps_changed f (FromClient c m) k i a h = same_places f (FromClient c m) k i a (change_client f c m).facts.on (on_client f c m) h
keeps_changed f Balance k i a h = same_places f Balance k i a (balanced f (next_steal f)).facts.on (on_balanced f (next_steal f)) h
keeps_changed f Evict k i a h = same_places f Evict k i a (evicted f (next_drop f)).facts.on (on_evicted f (next_drop f)) h
keeps_changed f (Replicate q w) k i a h = inl h

-- ## Settling

-- a key that has a place is there
placed_is_there : (f : Facts) → IsSound f → (k : ℕ) (p : ℕ × ℕ) → f.on k ≡ Some p → k < keys f
placed_is_there f s k p h = ⊎_elim (λ l. l) (λ l. absurd (none-some p (sym (s.on k l) ∙ h))) (cases_lt k (keys f))

-- the message with what a worker lost frees each key of it
free_message_frees : (w k : ℕ) (ks : List ℕ) → is_in k ks ≡ true → list_any (frees k) (mail w (free_message w ks)) ≡ true
free_message_frees w k [] e = absurd (false≢true e)
free_message_frees w k (x ∷ xs) e = ap (λ b. list_any (frees k) (cond b (FreeKeys (x ∷ xs) ∷ []) [])) (eq-eqb w w refl) ∙ or_left (is_in k (x ∷ xs)) false e

-- what a worker lost is in its mail
lost_is_freed : (t : Stages) (i k : ℕ) → is_in i (workers t.placed) ≡ true → is_in k (lost_keys t i) ≡ true → list_any (frees k) (mail i (down_messages t)) ≡ true
lost_is_freed t i k c l =
    let rest = mail i (task_messages t.placed t.before.counter i) ++ t.changed.answer t.placed i in
    ap (list_any (frees k)) (mail-down t i ∙ ap (λ b. cond b (mail i (to_worker t i)) []) c ∙ mail-own_part t i)
    ∙ list_any-append (frees k) (mail i (free_message i (lost_keys t i))) rest
    ∙ or_left (list_any (frees k) (mail i (free_message i (lost_keys t i)))) (list_any (frees k) rest) (free_message_frees i k (lost_keys t i) l)

-- a connected worker is still among the workers when ready keys have been placed
still_a_worker : (f : Facts) (g : Changed) (i : ℕ) → IsSound g.facts → connected g.facts i ≡ true → is_in i (workers (settle f g).placed) ≡ true
unfolding settle place_all drop_on drop_has drop_bad
still_a_worker f g i s c =
    let o = drop_on (drop_has (drop_bad g.facts)) in
    let p = placing_keys o (below (keys o)) in
    let t = settle f g in
    let n = s.numbers i c in
    in_filter (connected t.placed) i (from_one t.placed.last_worker)
    (in_range 1 t.placed.last_worker i n.0 (below_next i t.placed.last_worker g.facts.last_worker n.1 p.last_worker))
    (ap (λ (h : ℕ → Option ℕ). is_some (h i)) p.threads ∙ c)
  where
    below_next : (i m n : ℕ) → i ≤ n → m ≡ n → i < 1 + m
    below_next i m n l e = omega arith

-- a key that is not ready once copies went has lost its place
starved_is_lost : (f : Facts) (g : Changed) (k i a : ℕ) → k < keys f → g.facts.on k ≡ Some (i, a) → ready (drop_has (drop_bad g.facts)) k ≡ false → is_in k (lost_keys (settle f g) i) ≡ true
unfolding settle drop_has drop_bad
starved_is_lost f g k i a l h r =
    let t = settle f g in
    in_filter (lost t i) k (below (keys f)) (in_range 0 (keys f) k (omega arith) (omega (arith, l)))
    (or_right (t.changed.freed i k) ((holds t.known_only i k && not (need t.known_only k)) || (is_on t.needed_only i k && not (ready t.needed_only k)))
    (or_right (holds t.known_only i k && not (need t.known_only k)) (is_on t.needed_only i k && not (ready t.needed_only k))
    (and_from (is_on t.needed_only i k) (not (ready t.needed_only k)) (ap (is_for i) h ∙ eq-eqb i i refl) (not_from_false (ready t.needed_only k) r))))

-- a ready key keeps its place
ready_stays : (f : Facts) (g : Changed) (k : ℕ) (p : ℕ × ℕ) → g.facts.on k ≡ Some p → ready (drop_has (drop_bad g.facts)) k ≡ true → (settle f g).placed.on k ≡ Some p
unfolding settle place_all drop_on drop_has drop_bad
ready_stays f g k p h r =
    let o = drop_on (drop_has (drop_bad g.facts)) in
    (placing_keys o (below (keys o))).stays k p (ap (λ b. cond b (g.facts.on k) None) r ∙ h)

-- a place that the event's own change left stays, or goes with a message that frees the key
settling_keeps : (f : Facts) (g : Changed) (k i a : ℕ) → k < keys f → IsSound g.facts → g.facts.on k ≡ Some (i, a) → ((settle f g).placed.on k ≡ Some (i, a)) ⊎ (list_any (frees k) (mail i (down_messages (settle f g))) ≡ true)
settling_keeps f g k i a l s h = pick (ready (drop_has (drop_bad g.facts)) k) refl
  where
    here : connected g.facts i ≡ true
    here = s.places i k (ap (is_for i) h ∙ eq-eqb i i refl)

    pick : (b : Bool) → ready (drop_has (drop_bad g.facts)) k ≡ b → ((settle f g).placed.on k ≡ Some (i, a)) ⊎ (list_any (frees k) (mail i (down_messages (settle f g))) ≡ true)
    pick true r = inl (ready_stays f g k (i, a) h r)
    pick false r = inr (lost_is_freed (settle f g) i k (still_a_worker f g i s here) (starved_is_lost f g k i a l h r))

pub attempts_end : (f : Facts) (e : SchedEvent) → IsSound f → sched_takes f e ≡ true → AttemptsEndForACause f e (sched_step f e).facts
unfolding sched_step finish_step posted ends_attempt
attempts_end f e s h k i a p = ⊎_elim
    (λ q. ⊎_elim
    (λ r. inl r)
    (λ r. inr (or_right (ends_by_itself f i k a e) (list_any (frees k) (mail i (down_messages (settle f (change f e))))) r))
    (settling_keeps f (change f e) k i a (placed_is_there f s k (i, a) p) (sound_changed f s e h) q))
    (λ q. inr (or_left (ends_by_itself f i k a e) (list_any (frees k) (mail i (down_messages (settle f (change f e))))) q))
    (keeps_changed f e k i a p)
