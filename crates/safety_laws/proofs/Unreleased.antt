-- Where no client lets a key go, what is known stays so, and a key that was killed stays killed.
use Rattle.std.proofs.Common.{◌≡◌, ℕ, zero, suc, ◌+◌, ◌≤◌, Bool, true, false, ◌&&◌, cond, List, [], ◌∷◌, ◌++◌, Option, Some, None, refl, sym, ap, ◌∙◌, subst, arith, ⊎_elim, filter, not}
use Rattle.std.specs.Prelude.{◌==◌}
use Rattle.std.specs.List.{list_any, filter_map, cons_option}
use Rattle.std.specs.Option.{option_map}
use Rattle.std.proofs.lemmas.Bool.{true≢false, eqb-true, and_parts, and_from, or_cases, or_left, or_right, ltb-true, lt-ltb}
use Rattle.cluster_msgs.specs.Shape.{deps_of, key_count}
use Rattle.cluster_msgs.specs.declared.messages.Down.{Down}
use Rattle.cluster_msgs.specs.declared.messages.Up.{Up}
use Rattle.cluster_msgs.specs.declared.messages.ToClient.{ToClient}
use Rattle.cluster_msgs.specs.declared.messages.FromClient.{FromClient as ClientMessage}
use Rattle.cluster_msgs.specs.declared.messages.FromClient.TheVariants.{Want as WantMessage, Release as ReleaseMessage, Missing as MissingMessage}
use Rattle.cluster_msgs.specs.declared.cores.SchedEvent.{SchedEvent}
use Rattle.cluster_msgs.specs.declared.cores.SchedEvent.TheVariants.{Join as JoinSched, Leave, FromWorker, FromClient, Balance as BalanceSched, Evict as EvictSched, Replicate as ReplicateSched}
use Rattle.cluster_msgs.specs.declared.cores.WorkerEvent.{WorkerEvent}
use Rattle.cluster_msgs.specs.declared.cores.WorkerEvent.TheVariants.{Down as Told, Start as StartTask, Done, Ask as AskPeer, Gathered, GatherFailed, DataLost}
use Rattle.cluster_msgs.specs.declared.cores.ClientEvent.{ClientEvent}
use Rattle.cluster_msgs.specs.declared.cores.ClientEvent.TheVariants.{Want as WantKeys, Release as ReleaseKeys, FromScheduler, Ask as ClientAsk, Gathered as ClientGathered, GatherFailed as ClientGatherFailed}
use Rattle.cluster_msgs.specs.declared.cores.ClientInstruction.TheVariants.{Send as ClientSend}
use Rattle.cluster_msgs.specs.declared.events.Asker.{Asker}
use Rattle.cluster_msgs.specs.declared.events.Asker.TheVariants.{Worker, Client}
use Rattle.cluster_msgs.specs.declared.events.Event.{Event}
use Rattle.cluster_msgs.specs.declared.events.Event.TheVariants.{Want, Release, Join, Lose, SeeLoss, Suspect, DeliverDown, DeliverUp, DeliverToClient, DeliverFromClient, Start, Finish, SendGather, ServeGather, ArriveGather, FailGather, Balance, Evict, Replicate, Spill, LoseSpilled}
use Rattle.cluster_rules.specs.Functions.{put, from_one}
use Rattle.cluster_rules.specs.Derived.{below, is_in, reach_in, reach}
use Rattle.cluster_rules.specs.Sched.{Setting, Facts, is_above, wanted, known}
use Rattle.cluster_rules.specs.SchedTable.{change, change_client}
use Rattle.cluster_rules.specs.SchedStep.{sched_step}
use Rattle.cluster_rules.specs.Worker.{Ask, ask_to, without_ask}
use Rattle.cluster_rules.specs.WorkerStep.{keys_of}
use Rattle.cluster_rules.specs.Client.{ClientFacts, client_step, client_wants, client_ask, client_gathered, client_gathered_by, client_answered, keeps_still, missing_message}
use Rattle.cluster_rules.specs.World.{Job, World, Parcel, opening, is_connected, open_ask, parcel_of, without_parcel}
use Rattle.cluster_rules.specs.WorldStep.{scheduled, worked, client_worked, client_sends, at_scheduler, at_worker, at_client, new_at, take_down_first, take_up, take_up_first, take_to_client, take_from_client, ask_by, gathered_at, failed_at, serve, take_answer, fail_ask, world_step}
use Rattle.cluster_rules.specs.Enabled.{front}
use Rattle.cluster_rules.specs.Runs.{run_from, reached, loses, sched_event, killed, WasKilled}
use Rattle.cluster_rules.proofs.WorkerLemmas.{at_one}
use Rattle.cluster_laws.proofs.Framed.{change_framed}
use Rattle.cluster_laws.proofs.Losses.{none_above, step_known, step_losses}
use Rattle.cluster_laws.proofs.Counted.{killed_is}
use Rattle.cluster_laws.proofs.SchedPart.{sched_after, sched_is}
use Rattle.safety_laws.specs.Lively.{wants_then}
use Rattle.safety_laws.specs.Released.{is_release, NoneReleases}
use Rattle.safety_laws.proofs.Attempts.{run-append}
use Rattle.safety_laws.proofs.ClientWorld.{want_change, letter_want, other_want}

-- ## No message waits that lets keys go

abbrev AreKept : List ClientMessage → Type 0
AreKept [] = Unit {0}
AreKept (WantMessage ks ∷ ms) = AreKept ms
AreKept (MissingMessage q p c ∷ ms) = AreKept ms
AreKept (ReleaseMessage ks ∷ ms) = ⊥

kept-append : (xs ys : List ClientMessage) → AreKept xs → AreKept ys → AreKept (xs ++ ys)
kept-append [] ys h r = r
kept-append (WantMessage ks ∷ xs) ys h r = kept-append xs ys h r
kept-append (MissingMessage q p c ∷ xs) ys h r = kept-append xs ys h r
kept-append (ReleaseMessage ks ∷ xs) ys h r = absurd h

kept_rest : (m : ClientMessage) (ms : List ClientMessage) → AreKept (m ∷ ms) → AreKept ms
kept_rest (WantMessage ks) ms h = h
kept_rest (MissingMessage q p c) ms h = h
kept_rest (ReleaseMessage ks) ms h = absurd h

all_kept : (p : ℕ) (c : ClientFacts) (is : List (ℕ × ℕ)) → AreKept (client_sends (filter_map (missing_message c p) is))
all_kept p c [] = tt
all_kept p c (x ∷ xs) = pick (c.wants x.0) (all_kept p c xs)
  where
    pick : (b : Bool) → AreKept (client_sends (filter_map (missing_message c p) xs)) → AreKept (client_sends (cons_option (cond b (Some (ClientSend (MissingMessage x.0 p x.1))) None) (filter_map (missing_message c p) xs)))
    pick true r = r
    pick false r = r

abbrev IsKeeping : ClientEvent → Type 0
IsKeeping (ReleaseKeys ks) = ⊥
IsKeeping _ = Unit {0}

kept_answer : (c : ClientFacts) (p n : ℕ) (found : List ℕ) (o : Option Ask) → AreKept (client_sends (client_gathered_by c p n found o).out)
kept_answer c p n found None = tt
kept_answer c p n found (Some a) = pick (a.number == n)
  where
    pick : (b : Bool) → AreKept (client_sends (cond b (client_answered (record c { asks = without_ask c.asks p }) p (keys_of (filter (λ i. is_in i.0 found) a.items)) (filter (λ i. not (is_in i.0 found)) a.items)) (keeps_still c)).out)
    pick true = all_kept p (record c { asks = without_ask c.asks p }) (filter (λ i. not (is_in i.0 found)) a.items)
    pick false = tt

kept_client : (c : ClientFacts) (e : ClientEvent) → IsKeeping e → AreKept (client_sends (client_step c e).out)
unfolding client_step client_wants client_ask client_gathered
kept_client c (WantKeys ks) h = tt
kept_client c (ReleaseKeys ks) h = absurd h
kept_client c (FromScheduler m) h = tt
kept_client c (ClientAsk p) h = tt
kept_client c (ClientGathered p n found) h = kept_answer c p n found (ask_to c.asks p)
kept_client c (ClientGatherFailed p n) h = kept_answer c p n [] (ask_to c.asks p)

record IsUnreleased (w : World) : Type 0 where
  waiting : (c : ℕ) → AreKept (w.from_client c)

un_scheduler : (w : World) (e : SchedEvent) → IsUnreleased w → IsUnreleased (at_scheduler w e)
unfolding scheduled
un_scheduler w e h = record { waiting = h.waiting }

un_worker : (w : World) (i : ℕ) (e : WorkerEvent) → IsUnreleased w → IsUnreleased (at_worker w i e)
unfolding worked
un_worker w i e h = record { waiting = h.waiting }

un_client : (w : World) (c : ℕ) (e : ClientEvent) → IsKeeping e → IsUnreleased w → IsUnreleased (at_client w c e)
unfolding client_worked
un_client w c e k h = record {
  waiting = at_one c (λ b x. AreKept (cond b (w.from_client c ++ client_sends (client_step (w.clients c) e).out) (w.from_client x)))
      (kept-append (w.from_client c) (client_sends (client_step (w.clients c) e).out) (h.waiting c) (kept_client (w.clients c) e k)) h.waiting;
}

un_gathered_at : (w : World) (a : Asker) (p n : ℕ) (found : List ℕ) → IsUnreleased w → IsUnreleased (gathered_at w a p n found)
un_gathered_at w (Worker i) p n found h = un_worker w i (Gathered p n found) h
un_gathered_at w (Client c) p n found h = un_client w c (ClientGathered p n found) tt h

un_failed_at : (w : World) (a : Asker) (p n : ℕ) → IsUnreleased w → IsUnreleased (failed_at w a p n)
un_failed_at w (Worker i) p n h = un_worker w i (GatherFailed p n) h
un_failed_at w (Client c) p n h = un_client w c (ClientGatherFailed p n) tt h

un_ask_by : (w : World) (a : Asker) (p : ℕ) → IsUnreleased w → IsUnreleased (ask_by w a p)
un_ask_by w (Worker i) p h = un_worker w i (AskPeer p) h
un_ask_by w (Client c) p h = un_client w c (ClientAsk p) tt h

un_serve : (w : World) (p : ℕ) (o : Option Parcel) → IsUnreleased w → IsUnreleased (serve w p o)
un_serve w p None h = h
un_serve w p (Some q) h = record { waiting = h.waiting }

un_take_answer : (w : World) (o : Option Parcel) → IsUnreleased w → IsUnreleased (take_answer w o)
un_take_answer w None h = h
un_take_answer w (Some q) h = un_gathered_at (record w { answers = without_parcel q.asker q.peer q.ask w.answers }) q.asker q.peer q.ask q.keys (record { waiting = h.waiting })

un_fail_ask : (w : World) (a : Asker) (p : ℕ) (o : Option Ask) → IsUnreleased w → IsUnreleased (fail_ask w a p o)
un_fail_ask w a p None h = h
un_fail_ask w a p (Some q) h = un_failed_at w a p q.number h

un_take_down : (w : World) (i : ℕ) (ms : List Down) → IsUnreleased w → IsUnreleased (take_down_first w i ms)
un_take_down w i [] h = h
un_take_down w i (m ∷ ms) h = un_worker (record w { down = put w.down i ms }) i (Told m) (record { waiting = h.waiting })

un_take_up : (w : World) (i : ℕ) (ms : List Up) → IsUnreleased w → IsUnreleased (take_up_first w i ms)
un_take_up w i [] h = h
un_take_up w i (m ∷ ms) h = heard (is_connected w i)
  where
    rest : IsUnreleased (record w { up = put w.up i ms })
    rest = record { waiting = h.waiting }

    heard : (b : Bool) → IsUnreleased (take_up (record w { up = put w.up i ms }) i m b)
    heard true = un_scheduler (record w { up = put w.up i ms }) (FromWorker i m) rest
    heard false = rest

un_take_to_client : (w : World) (c : ℕ) (ms : List ToClient) → IsUnreleased w → IsUnreleased (take_to_client w c ms)
un_take_to_client w c [] h = h
un_take_to_client w c (m ∷ ms) h = un_client (record w { to_client = put w.to_client c ms }) c (FromScheduler m) tt (record { waiting = h.waiting })

un_take_from_client : (w : World) (c : ℕ) (ms : List ClientMessage) → w.from_client c ≡ ms → IsUnreleased w → IsUnreleased (take_from_client w c ms)
un_take_from_client w c [] e h = h
un_take_from_client w c (m ∷ ms) e h = un_scheduler (record w { from_client = put w.from_client c ms }) (FromClient c m)
    (record { waiting = at_one c (λ b x. AreKept (cond b ms (w.from_client x))) (kept_rest m ms (subst AreKept e (h.waiting c))) h.waiting })

un_step : (j : Job) (w : World) (e : Event) → is_release e ≡ false → IsUnreleased w → IsUnreleased (world_step j w e)
unfolding world_step
un_step j w (Want c ks) t h = un_client w c (WantKeys ks) tt h
un_step j w (Release c ks) t h = absurd (true≢false t)
un_step j w (Join threads) t h = un_scheduler (new_at w (w.sched.last_worker + 1) threads) (JoinSched threads) (record { waiting = h.waiting })
un_step j w (Lose i) t h = record { waiting = h.waiting }
un_step j w (SeeLoss i) t h = let s = un_scheduler w (Leave i) h in record { waiting = s.waiting }
un_step j w (Suspect i) t h = un_scheduler w (Leave i) h
un_step j w (DeliverDown i) t h = un_take_down w i (w.down i) h
un_step j w (DeliverUp i) t h = un_take_up w i (w.up i) h
un_step j w (DeliverToClient c) t h = un_take_to_client w c (w.to_client c) h
un_step j w (DeliverFromClient c) t h = un_take_from_client w c (w.from_client c) refl h
un_step j w (Start i) t h = un_worker w i StartTask h
un_step j w (Finish i k) t h = un_worker w i (Done k (j.zero k)) h
un_step j w (SendGather a p) t h = un_ask_by w a p h
un_step j w (ServeGather p a n) t h = un_serve w p (parcel_of a p n w.requests) h
un_step j w (ArriveGather a p n) t h = un_take_answer w (parcel_of a p n w.answers) h
un_step j w (FailGather a p) t h = un_fail_ask w a p (open_ask w a p) h
un_step j w Balance t h = un_scheduler w BalanceSched h
un_step j w Evict t h = un_scheduler w EvictSched h
un_step j w (Replicate k i) t h = un_scheduler w (ReplicateSched k i) h
un_step j w (Spill i k) t h = record { waiting = h.waiting }
un_step j w (LoseSpilled i k) t h = un_worker w i (DataLost k) h

-- ## Then no want goes

abbrev IsWanting : ClientMessage → Type 0
IsWanting (ReleaseMessage ks) = ⊥
IsWanting _ = Unit {0}

abbrev TakesNone : SchedEvent → Type 0
TakesNone (FromClient c m) = IsWanting m
TakesNone _ = Unit {0}

abbrev MayTakeNone : Option SchedEvent → Type 0
MayTakeNone None = Unit {0}
MayTakeNone (Some s) = TakesNone s

grown : (m : ClientMessage) (k : ℕ) (b : Bool) → IsWanting m → b ≡ true → wants_then k m b ≡ true
grown (WantMessage ks) k b o e = or_left b (is_in k ks) e
grown (MissingMessage q p c) k b o e = e
grown (ReleaseMessage ks) k b o e = absurd o

want_grows : (f : Facts) (s : SchedEvent) → TakesNone s → (c k : ℕ) → f.want c k ≡ true → (change f s).facts.want c k ≡ true
want_grows f (JoinSched threads) o c k e = ap (λ (x : ℕ → ℕ → Bool). x c k) (want_change f (JoinSched threads) tt) ∙ e
want_grows f (Leave v) o c k e = ap (λ (x : ℕ → ℕ → Bool). x c k) (want_change f (Leave v) tt) ∙ e
want_grows f (FromWorker v m) o c k e = ap (λ (x : ℕ → ℕ → Bool). x c k) (want_change f (FromWorker v m) tt) ∙ e
want_grows f (FromClient x m) o c k e = pick (c == x) refl
  where
    pick : (b : Bool) → (c == x) ≡ b → (change_client f x m).facts.want c k ≡ true
    pick true q = subst (λ z. (change_client f x m).facts.want z k ≡ true) (sym (eqb-true c x q))
        (letter_want f x m k ∙ grown m k (f.want x k) o (subst (λ z. f.want z k ≡ true) (eqb-true c x q) e))
    pick false q = other_want f x m c k q ∙ e
want_grows f BalanceSched o c k e = ap (λ (x : ℕ → ℕ → Bool). x c k) (want_change f BalanceSched tt) ∙ e
want_grows f EvictSched o c k e = ap (λ (x : ℕ → ℕ → Bool). x c k) (want_change f EvictSched tt) ∙ e
want_grows f (ReplicateSched q i) o c k e = ap (λ (x : ℕ → ℕ → Bool). x c k) (want_change f (ReplicateSched q i) tt) ∙ e

any_more : (p q : ℕ → Bool) (xs : List ℕ) → ((x : ℕ) → p x ≡ true → q x ≡ true) → list_any p xs ≡ true → list_any q xs ≡ true
any_more p q [] m e = e
any_more p q (x ∷ xs) m e = ⊎_elim (λ a. or_left (q x) (list_any q xs) (m x a)) (λ a. or_right (q x) (list_any q xs) (any_more p q xs m a)) (or_cases (p x) (list_any p xs) e)

reach_more : (deps : ℕ → List ℕ) (n : ℕ) (s t : ℕ → Bool) → ((k : ℕ) → s k ≡ true → t k ≡ true) → (f k : ℕ) → reach_in deps n s (λ _. true) f k ≡ true → reach_in deps n t (λ _. true) f k ≡ true
reach_more deps n s t m zero k e = e
reach_more deps n s t m (suc f) k e =
    ⊎_elim (λ a. or_left (t k) (list_any (λ j. is_in k (deps j) && (true && reach_in deps n t (λ _. true) f j)) (below n)) (m k a))
    (λ a. or_right (t k) (list_any (λ j. is_in k (deps j) && (true && reach_in deps n t (λ _. true) f j)) (below n)) (any_more (λ j. is_in k (deps j) && (true && reach_in deps n s (λ _. true) f j)) (λ j. is_in k (deps j) && (true && reach_in deps n t (λ _. true) f j)) (below n)
    (λ j b. let p = and_parts (is_in k (deps j)) (reach_in deps n s (λ _. true) f j) b in and_from (is_in k (deps j)) (reach_in deps n t (λ _. true) f j) p.0 (reach_more deps n s t m f j p.1)) a))
    (or_cases (s k) (list_any (λ j. is_in k (deps j) && (true && reach_in deps n s (λ _. true) f j)) (below n)) e)

-- what is known by a setting and the wants
abbrev known_by : Setting → (ℕ → ℕ → Bool) → ℕ → Bool
known_by s want k = reach_in (deps_of s.shape) (key_count s.shape) (λ q. list_any (λ c. want c q) (from_one s.clients)) (λ _. true) (suc (key_count s.shape)) k

known_is : (f : Facts) (k : ℕ) → known f k ≡ known_by f.setting f.want k
unfolding known wanted reach
known_is f k = refl

known_grows : (f g : Facts) → g.setting ≡ f.setting → ((c k : ℕ) → f.want c k ≡ true → g.want c k ≡ true) → (k : ℕ) → known f k ≡ true → known g k ≡ true
known_grows f g e m k h = known_is g k ∙ subst (λ (s : Setting). known_by s g.want k ≡ true) (sym e)
    (reach_more (deps_of f.setting.shape) (key_count f.setting.shape) (λ q. list_any (λ c. f.want c q) (from_one f.setting.clients)) (λ q. list_any (λ c. g.want c q) (from_one f.setting.clients))
    (λ q a. any_more (λ c. f.want c q) (λ c. g.want c q) (from_one f.setting.clients) (λ c b. m c q b) a) (suc (key_count f.setting.shape)) k (sym (known_is f k) ∙ h))

step_knows : (f : Facts) (s : SchedEvent) → TakesNone s → (k : ℕ) → known f k ≡ true → known (sched_step f s).facts k ≡ true
step_knows f s o k h = ap (λ (x : ℕ → Bool). x k) (step_known f s) ∙ known_grows f (change f s).facts (change_framed f s).setting (want_grows f s o) k h

-- ## And no loss

-- nothing is counted of a key that is not known
abbrev CountsKnown : Facts → Type 0
CountsKnown f = (k : ℕ) → known f k ≡ false → f.losses k ≡ 0

after_counts : (f : Facts) (o : Option SchedEvent) → CountsKnown f → CountsKnown (sched_after f o)
after_counts f None u k n = u k n
after_counts f (Some s) u k n = step_losses f s k ∙ ap (λ b. cond b (cond (loses f k (Some s)) (f.losses k + 1) (f.losses k)) 0) n

after_more : (f : Facts) (o : Option SchedEvent) → MayTakeNone o → (k : ℕ) → known f k ≡ true → f.losses k ≤ (sched_after f o).losses k
after_more f None t k h = omega arith
after_more f (Some s) t k h = subst (λ n. f.losses k ≤ n) (sym (step_losses f s k)) (subst (λ b. f.losses k ≤ cond b (cond (loses f k (Some s)) (f.losses k + 1) (f.losses k)) 0) (sym (step_knows f s t k h)) (pick (loses f k (Some s))))
  where
    pick : (b : Bool) → f.losses k ≤ cond b (f.losses k + 1) (f.losses k)
    pick true = omega arith
    pick false = omega arith

above_more : (o : Option ℕ) (m n : ℕ) → m ≤ n → is_above o m ≡ true → is_above o n ≡ true
above_more None m n l e = e
above_more (Some a) m n l e = lt-ltb a n (let p = ltb-true a m e in omega (arith, l, p))

above_known : (f : Facts) (o : Option ℕ) (k : ℕ) → CountsKnown f → is_above o (f.losses k) ≡ true → known f k ≡ true
above_known f o k u e = pick (known f k) refl
  where
    pick : (b : Bool) → known f k ≡ b → b ≡ true
    pick true q = refl
    pick false q = absurd (none_above o (sym (ap (is_above o) (u k q)) ∙ e))

-- the event that the scheduler takes is none that takes a want away
takes_none : (w : World) (e : Event) → IsUnreleased w → MayTakeNone (sched_event w e)
takes_none w (Want c ks) h = tt
takes_none w (Release c ks) h = tt
takes_none w (Join threads) h = tt
takes_none w (Lose i) h = tt
takes_none w (SeeLoss i) h = tt
takes_none w (Suspect i) h = tt
takes_none w (DeliverDown i) h = tt
takes_none w (DeliverUp i) h = pick (is_connected w i) (w.up i)
  where
    pick : (b : Bool) (ms : List Up) → MayTakeNone (cond b (option_map (λ m. FromWorker i m) (front ms)) None)
    pick true [] = tt
    pick true (m ∷ ms) = tt
    pick false ms = tt
takes_none w (DeliverToClient c) h = tt
takes_none w (DeliverFromClient c) h = pick (w.from_client c) (h.waiting c)
  where
    pick : (ms : List ClientMessage) → AreKept ms → MayTakeNone (option_map (λ m. FromClient c m) (front ms))
    pick [] a = tt
    pick (WantMessage ks ∷ ms) a = tt
    pick (MissingMessage q p n ∷ ms) a = tt
    pick (ReleaseMessage ks ∷ ms) a = absurd a
takes_none w (Start i) h = tt
takes_none w (Finish i k) h = tt
takes_none w (SendGather a p) h = tt
takes_none w (ServeGather p a n) h = tt
takes_none w (ArriveGather a p n) h = tt
takes_none w (FailGather a p) h = tt
takes_none w Balance h = tt
takes_none w Evict h = tt
takes_none w (Replicate k i) h = tt
takes_none w (Spill i k) h = tt
takes_none w (LoseSpilled i k) h = tt

record IsCounting (w : World) : Type 0 where
  kept : IsUnreleased w
  counts : CountsKnown w.sched

counting_step : (j : Job) (w : World) (e : Event) → is_release e ≡ false → IsCounting w → IsCounting (world_step j w e)
counting_step j w e t h = record {
  kept = un_step j w e t h.kept;
  counts = subst CountsKnown (sym (sched_is j w e)) (after_counts w.sched (sched_event w e) h.counts);
}

counting_after : (j : Job) (w : World) (es : List Event) → NoneReleases es → IsCounting w → IsCounting (run_from j w es)
counting_after j w [] n h = h
counting_after j w (e ∷ es) n h = counting_after j (world_step j w e) es n.1 (counting_step j w e n.0 h)

stays_above : (j : Job) (w : World) (es : List Event) (o : Option ℕ) (k : ℕ) → NoneReleases es → IsCounting w → is_above o (w.sched.losses k) ≡ true → is_above o ((run_from j w es).sched.losses k) ≡ true
stays_above j w [] o k n h e = e
stays_above j w (x ∷ es) o k n h e = stays_above j (world_step j w x) es o k n.1 (counting_step j w x n.0 h)
    (subst (λ (f : Facts). is_above o (f.losses k) ≡ true) (sym (sched_is j w x))
    (above_more o (w.sched.losses k) _ (after_more w.sched (sched_event w x) (takes_none w x h.kept) k (above_known w.sched o k h.counts e)) e))

none_parts : (xs ys : List Event) → NoneReleases (xs ++ ys) → NoneReleases xs × NoneReleases ys
none_parts [] ys n = (tt, n)
none_parts (x ∷ xs) ys n = let r = none_parts xs ys n.1 in ((n.0, r.0), r.1)

opening_counts : (j : Job) → IsCounting (opening j)
opening_counts j = record { kept = record { waiting = λ c. tt }; counts = λ k e. refl }

pub killed_stays : (j : Job) (es : List Event) → NoneReleases es → (k : ℕ) → WasKilled j es k → killed j es k ≡ true
killed_stays j es n k h =
    let p = none_parts h.before h.later (subst NoneReleases h.whole n) in
    killed_is j es k
    ∙ subst (λ (w : World). is_above j.setting.allowed (w.sched.losses k) ≡ true) (sym (run-append j (opening j) h.before h.later) ∙ ap (reached j) (sym h.whole))
    (stays_above j (reached j h.before) h.later j.setting.allowed k p.1 (counting_after j (opening j) h.before p.0 (opening_counts j)) (sym (killed_is j h.before k) ∙ h.killed))
