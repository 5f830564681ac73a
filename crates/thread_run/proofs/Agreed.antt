-- The client of a run whose audit agrees got in the world what its own history says.
use Rattle.std.proofs.Common.{◌≡◌, ℕ, zero, suc, ◌+◌, ◌<◌, ◌≤◌, eqb, Bool, true, false, ◌||◌, List, [], ◌∷◌, ◌++◌, filter, length, map, get_or, Option, Some, None, All, refl, sym, ap, subst, ◌∙◌, cond, arith, append-nil, inl, inr, ◌⊎◌, ⊎_elim}
use Rattle.std.specs.Prelude.{◌==◌, is_some}
use Rattle.std.specs.List.{flat_map}
use Rattle.std.specs.List.Sorted.{IsNonDecreasingBy}
use Rattle.std.specs.Option.{option_map}
use Rattle.std.proofs.lemmas.Bool.{false≢true, eqb-true, or_cases}
use Rattle.std.proofs.lemmas.Option.{none-some, same_Some}
use Rattle.std.proofs.lemmas.List.Sorted.{IsNonDecreasingBy-from_all_adjacent}
use Rattle.std.proofs.lemmas.List.Elements.{All-get_or, All-head, All-tail, All-weaker}
use Rattle.nd_shape.specs.Block.{Array}
use Rattle.cluster_msgs.specs.Labels.{LabelFacts}
use Rattle.cluster_msgs.specs.Shape.{Shape}
use Rattle.cluster_msgs.specs.declared.cores.ClientEvent.{ClientEvent}
use Rattle.cluster_msgs.specs.declared.cores.ClientEvent.TheVariants as client
use Rattle.cluster_msgs.specs.declared.cores.End.{End}
use Rattle.cluster_msgs.specs.declared.cores.End.TheVariants.{Got, Erred}
use Rattle.cluster_msgs.specs.declared.cores.SchedEvent.{SchedEvent}
use Rattle.cluster_msgs.specs.declared.cores.WorkerEvent.{WorkerEvent}
use Rattle.cluster_msgs.specs.declared.events.Asker.{Asker}
use Rattle.cluster_msgs.specs.declared.events.Asker.TheVariants.{Worker, Client}
use Rattle.cluster_msgs.specs.declared.events.Entry.{Entry}
use Rattle.cluster_msgs.specs.declared.events.Event.{Event}
use Rattle.cluster_msgs.specs.declared.events.Event.TheVariants.{Want, Release, Join, Lose, SeeLoss, Suspect, DeliverDown, DeliverUp, DeliverToClient, DeliverFromClient, Start, Finish, SendGather, ServeGather, ArriveGather, FailGather, Balance, Evict, Replicate, Spill, LoseSpilled}
use Rattle.cluster_msgs.specs.declared.events.History.{History}
use Rattle.cluster_msgs.specs.declared.messages.Message.{Message}
use Rattle.cluster_msgs.specs.declared.messages.Message.TheVariants as message
use Rattle.cluster_msgs.specs.declared.messages.Peer.TheVariants.{Data, GetData}
use Rattle.cluster_rules.specs.Client.{ClientFacts, client_step, done, new_client}
use Rattle.cluster_rules.specs.Derived.{is_in}
use Rattle.cluster_rules.specs.Sched.{Facts}
use Rattle.cluster_rules.specs.Worker.{Ask, WorkerFacts, ask_to, new_worker}
use Rattle.journal_audit.specs.Audits.{IsLegalJournal, events_of}
use Rattle.journal_audit.specs.Clients.{Gets, client_after, client_run, is_client, is_own, own_entries, told_client}
use Rattle.journal_audit.specs.Merges.{IsMerge}
use Rattle.journal_audit.proofs.ClientLemmas.{client_got}
use Rattle.journal_audit.proofs.MergeLemmas.{own_of_merge}
use Rattle.turn_cell.specs.Histories.{AllAbove, Ascending, Replays}
use Rattle.turn_cell.specs.Rows.{AllBy}
use Rattle.node_links.specs.Books.{Steps, StepsBy}
use Rattle.node_states.specs.Fitting.{ClientEventFits}
use Rattle.node_states.specs.Machines.{ClientBy, ClientSays, SchedSays, WorkerSays, node_bytes}
use Rattle.node_states.specs.Released.{WasReleased, is_released, lets_go}
use Rattle.node_runner.specs.Runs.{AreWhole, ClientSteps, IsGot, IsHistory, SchedSteps, WorkerSteps}
use Rattle.node_runner.specs.declared.ends.Histories.{Histories}
use Rattle.node_runner.specs.declared.plan.RunPlan.{RunPlan}
use Rattle.thread_run.specs.Reports.{IsLegalRun, IsServedRun, IsToldOf, IsToldOfRun, IsVerdictOf, IsVerdictOn, audited, entries_of}
use Rattle.thread_run.specs.declared.verdict.Told.{Told}
use Rattle.thread_run.specs.declared.verdict.Verdict.{Verdict}
use Rattle.thread_run.specs.declared.verdict.Verdict.TheVariants.{Agrees, Differs, NotComplete}

-- ## Whose entry it is

-- what the scheduler says is no event of a client's
sched_apart : (f : Facts) (e : Event) (m : Option Message) (o : Option SchedEvent) → SchedSays f e m o → is_own 1 e ≡ false
sched_apart f (Want c ks) m o says = absurd says
sched_apart f (Release c ks) m o says = absurd says
sched_apart f (DeliverToClient c) m o says = absurd says
sched_apart f (SendGather a p) m o says = absurd says
sched_apart f (ArriveGather a p n) m o says = absurd says
sched_apart f (FailGather a p) m o says = absurd says
sched_apart f (Join threads) m o says = refl
sched_apart f (Lose i) m o says = refl
sched_apart f (SeeLoss i) m o says = refl
sched_apart f (Suspect i) m o says = refl
sched_apart f (DeliverDown i) m o says = refl
sched_apart f (DeliverUp i) m o says = refl
sched_apart f (DeliverFromClient c) m o says = refl
sched_apart f (Start i) m o says = refl
sched_apart f (Finish i k) m o says = refl
sched_apart f (ServeGather p a n) m o says = refl
sched_apart f Balance m o says = refl
sched_apart f Evict m o says = refl
sched_apart f (Replicate k i) m o says = refl
sched_apart f (Spill i k) m o says = refl
sched_apart f (LoseSpilled i k) m o says = refl

-- nor what a worker says
not_client : (a : Asker) (id : ℕ) → a ≡ Worker id → is_client 1 a ≡ false
not_client a id e = ap (is_client 1) e

worker_apart : (id : ℕ) (w : WorkerFacts) (e : Event) (m : Option Message) (o : Option WorkerEvent) → WorkerSays id w e m o → is_own 1 e ≡ false
worker_apart id w (Want c ks) m o says = absurd says
worker_apart id w (Release c ks) m o says = absurd says
worker_apart id w (DeliverToClient c) m o says = absurd says
worker_apart id w (SendGather a p) None o says = not_client a id says.0
worker_apart id w (SendGather a p) (Some m) o says = absurd says
worker_apart id w (ArriveGather a p n) None o says = absurd says
worker_apart id w (ArriveGather a p n) (Some (message.Down m)) o says = absurd says
worker_apart id w (ArriveGather a p n) (Some (message.Up m)) o says = absurd says
worker_apart id w (ArriveGather a p n) (Some (message.ToClient m)) o says = absurd says
worker_apart id w (ArriveGather a p n) (Some (message.FromClient m)) o says = absurd says
worker_apart id w (ArriveGather a p n) (Some (message.Peer (GetData k ks))) o says = absurd says
worker_apart id w (ArriveGather a p n) (Some (message.Peer (Data k ks))) o says = not_client a id says.0
worker_apart id w (ArriveGather a p n) (Some (message.Hello r i)) o says = absurd says
worker_apart id w (FailGather a p) None o says = not_client a id says.0
worker_apart id w (FailGather a p) (Some m) o says = absurd says
worker_apart id w (Join threads) m o says = refl
worker_apart id w (Lose i) m o says = refl
worker_apart id w (SeeLoss i) m o says = refl
worker_apart id w (Suspect i) m o says = refl
worker_apart id w (DeliverDown i) m o says = refl
worker_apart id w (DeliverUp i) m o says = refl
worker_apart id w (DeliverFromClient c) m o says = refl
worker_apart id w (Start i) m o says = refl
worker_apart id w (Finish i k) m o says = refl
worker_apart id w (ServeGather p a n) m o says = refl
worker_apart id w Balance m o says = refl
worker_apart id w Evict m o says = refl
worker_apart id w (Replicate k i) m o says = refl
worker_apart id w (Spill i k) m o says = refl
worker_apart id w (LoseSpilled i k) m o says = refl

-- what the client says is its own, and what its core is told
record Says (f : ClientFacts) (e : Event) (m : Option Message) (o : Option ClientEvent) : Type 0 where
  own : is_own 1 e ≡ true
  told : o ≡ told_client f e m

its : (a : Asker) → a ≡ Client 1 → is_client 1 a ≡ true
its a e = ap (is_client 1) e

failing : (p n : ℕ) (o : Option Ask) → option_map (λ (q : Ask). q.number) o ≡ Some n → Some (client.GatherFailed p n) ≡ option_map (λ (q : Ask). client.GatherFailed p q.number) o
failing p n None e = absurd (none-some n e)
failing p n (Some q) e = ap (λ x. Some (client.GatherFailed p x)) (sym (same_Some q.number n e))

client_says : (f : ClientFacts) (e : Event) (m : Option Message) (o : Option ClientEvent) → ClientSays 1 f e m o → Says f e m o
client_says f (Want x ks) None o says = record { own = ap (λ d. 1 == d) says.0; told = says.1 }
client_says f (Want x ks) (Some m) o says = absurd says
client_says f (Release x ks) None o says = record { own = ap (λ d. 1 == d) says.0; told = says.1 }
client_says f (Release x ks) (Some m) o says = absurd says
client_says f (DeliverToClient x) None o says = absurd says
client_says f (DeliverToClient x) (Some (message.Down m)) o says = absurd says
client_says f (DeliverToClient x) (Some (message.Up m)) o says = absurd says
client_says f (DeliverToClient x) (Some (message.ToClient m)) o says = record { own = ap (λ d. 1 == d) says.0; told = says.1 }
client_says f (DeliverToClient x) (Some (message.FromClient m)) o says = absurd says
client_says f (DeliverToClient x) (Some (message.Peer m)) o says = absurd says
client_says f (DeliverToClient x) (Some (message.Hello r i)) o says = absurd says
client_says f (SendGather a p) None o says = record { own = its a says.0; told = says.1 }
client_says f (SendGather a p) (Some m) o says = absurd says
client_says f (ArriveGather a p n) None o says = absurd says
client_says f (ArriveGather a p n) (Some (message.Down m)) o says = absurd says
client_says f (ArriveGather a p n) (Some (message.Up m)) o says = absurd says
client_says f (ArriveGather a p n) (Some (message.ToClient m)) o says = absurd says
client_says f (ArriveGather a p n) (Some (message.FromClient m)) o says = absurd says
client_says f (ArriveGather a p n) (Some (message.Peer (GetData k ks))) o says = absurd says
client_says f (ArriveGather a p n) (Some (message.Peer (Data k ks))) o says = record { own = its a says.0; told = says.2 }
client_says f (ArriveGather a p n) (Some (message.Hello r i)) o says = absurd says
client_says f (FailGather a p) None o says = record { own = its a says.0; told = says.3 ∙ failing p says.1 (ask_to f.asks p) says.2 }
client_says f (FailGather a p) (Some m) o says = absurd says
client_says f (Join threads) m o says = absurd says
client_says f (Lose i) m o says = absurd says
client_says f (SeeLoss i) m o says = absurd says
client_says f (Suspect i) m o says = absurd says
client_says f (DeliverDown i) m o says = absurd says
client_says f (DeliverUp i) m o says = absurd says
client_says f (DeliverFromClient c) m o says = absurd says
client_says f (Start i) m o says = absurd says
client_says f (Finish i k) m o says = absurd says
client_says f (ServeGather p a n) m o says = absurd says
client_says f Balance m o says = absurd says
client_says f Evict m o says = absurd says
client_says f (Replicate k i) m o says = absurd says
client_says f (Spill i k) m o says = absurd says
client_says f (LoseSpilled i k) m o says = absurd says

-- what it lets go it had
at_member : (P : ℕ → Type 0) (k : ℕ) (ks : List ℕ) → All P ks → is_in k ks ≡ true → P k
at_member P k [] all there = absurd (false≢true there)
at_member P k (q ∷ ks) all there = ⊎_elim (λ e. subst P (eqb-true q k e) (All-head P q ks all)) (λ e. at_member P k ks (All-tail P q ks all) e) (or_cases (eqb q k) (is_in k ks) there)

releases : (f : ClientFacts) (k : ℕ) (e : Event) (m : Option Message) (o : Option ClientEvent) → ClientSays 1 f e m o → lets_go k e ≡ true → done f k ≡ Some Got
releases f k (Release x ks) None o says l = at_member (λ q. done f q ≡ Some Got) k ks says.2 l
releases f k (Release x ks) (Some m) o says l = absurd says
releases f k (Want x ks) m o says l = absurd (false≢true l)
releases f k (DeliverToClient x) m o says l = absurd (false≢true l)
releases f k (SendGather a p) m o says l = absurd (false≢true l)
releases f k (ArriveGather a p n) m o says l = absurd (false≢true l)
releases f k (FailGather a p) m o says l = absurd (false≢true l)
releases f k (Join threads) m o says l = absurd (false≢true l)
releases f k (Lose i) m o says l = absurd (false≢true l)
releases f k (SeeLoss i) m o says l = absurd (false≢true l)
releases f k (Suspect i) m o says l = absurd (false≢true l)
releases f k (DeliverDown i) m o says l = absurd (false≢true l)
releases f k (DeliverUp i) m o says l = absurd (false≢true l)
releases f k (DeliverFromClient c) m o says l = absurd (false≢true l)
releases f k (Start i) m o says l = absurd (false≢true l)
releases f k (Finish i q) m o says l = absurd (false≢true l)
releases f k (ServeGather p a n) m o says l = absurd (false≢true l)
releases f k Balance m o says l = absurd (false≢true l)
releases f k Evict m o says l = absurd (false≢true l)
releases f k (Replicate q i) m o says l = absurd (false≢true l)
releases f k (Spill i q) m o says l = absurd (false≢true l)
releases f k (LoseSpilled i q) m o says l = absurd (false≢true l)

-- ## Whole histories

none-own : (e : Entry) (es : List Entry) → is_own 1 e.event ≡ false → own_entries 1 es ≡ [] → own_entries 1 (e ∷ es) ≡ []
none-own e es apart rest = ap (λ b. cond b (e ∷ own_entries 1 es) (own_entries 1 es)) apart ∙ rest

module _ {B : Type 0} (l : LabelFacts B) where
  of-scheduler : (f g : Facts) (es : List Entry) → Replays (SchedSteps l) f es g → own_entries 1 es ≡ []
  of-scheduler f g [] r = refl
  of-scheduler f g (e ∷ es) r = none-own e es (sched_apart f e.event e.message r.1.0 r.1.1) (of-scheduler r.0 g es r.2)

  of-worker : (id : ℕ) (w v : WorkerFacts) (es : List Entry) → Replays (WorkerSteps l id) w es v → own_entries 1 es ≡ []
  of-worker id w v [] r = refl
  of-worker id w v (e ∷ es) r = none-own e es (worker_apart id w e.event e.message r.1.0 r.1.1) (of-worker id r.0 v es r.2)

  -- a step of the client is what its entry tells it
  client_steps : (c d : ClientFacts) (o : Option ClientEvent) → StepsBy (λ c e d. ClientBy c e d × ClientEventFits l e) o c d → d ≡ client_after c o
  client_steps c d None by = by
  client_steps c d (Some e) by = by.0.facts

  client_goes : (c d : ClientFacts) (e : Entry) → ClientSteps l c e d → d ≡ client_after c (told_client c e.event e.message)
  client_goes c d e step = client_steps c d step.0 step.2 ∙ ap (client_after c) (client_says c e.event e.message step.0 step.1).told

  of-client : (c d : ClientFacts) (es : List Entry) → Replays (ClientSteps l) c es d → own_entries 1 es ≡ es
  of-client c d [] r = refl
  of-client c d (e ∷ es) r = ap (λ b. cond b (e ∷ own_entries 1 es) (own_entries 1 es)) (client_says c e.event e.message r.1.0 r.1.1).own ∙ ap (λ xs. e ∷ xs) (of-client r.0 d es r.2)

  client_ends : (c d : ClientFacts) (es : List Entry) → Replays (ClientSteps l) c es d → d ≡ client_run c es
  client_ends c d [] r = sym r
  client_ends c d (e ∷ es) r = client_ends r.0 d es r.2 ∙ ap (λ f. client_run f es) (client_goes c r.0 e r.1)

  -- ## What the client got

  -- after some first entries it had got the key
  record GotAfter (c : ClientFacts) (es : List Entry) (k : ℕ) : Type 0 where
    first : List Entry
    rest : List Entry
    whole : es ≡ first ++ rest
    got : (client_run c first).got k ≡ true

  done_got : (c : ClientFacts) (k : ℕ) → done c k ≡ Some Got → c.got k ≡ true
  done_got c k e = pick (c.got k) (c.failed k) e
    where
      pick : (b : Bool) (o : Option ℕ) → cond b (Some Got) (option_map (λ x. Erred x) o) ≡ Some Got → b ≡ true
      pick true o e = refl
      pick false None e = absurd (none-some Got e)
      pick false (Some x) e = absurd (apart (same_Some (Erred x) Got e))
        where
          apart : Erred x ≡ Got → ⊥
          apart e = cc

  got_before : (c d : ClientFacts) (es : List Entry) (k : ℕ) → Replays (ClientSteps l) c es d → is_released k es ≡ true → GotAfter c es k
  got_before c d [] k r there = absurd (false≢true there)
  got_before c d (e ∷ es) k r there = ⊎_elim
      (λ t. record { first = []; rest = e ∷ es; whole = refl; got = done_got c k (releases c k e.event e.message r.1.0 r.1.1 t) })
      (λ t. later (got_before r.0 d es k r.2 t))
      (or_cases (lets_go k e.event) (is_released k es) there)
    where
      later : GotAfter r.0 es k → GotAfter c (e ∷ es) k
      later g = record { first = e ∷ g.first; rest = g.rest; whole = ap (λ xs. e ∷ xs) g.whole; got = ap (λ f. (client_run f g.first).got k) (sym (client_goes c r.0 e r.1)) ∙ g.got }

  got_after : (c d : ClientFacts) (es : List Entry) (k : ℕ) → Replays (ClientSteps l) c es d → IsGot d es false k → GotAfter c es k
  got_after c d es k r (inl e) = record { first = es; rest = []; whole = sym (append-nil es); got = ap (λ f. f.got k) (sym (client_ends c d es r)) ∙ done_got d k e }
  got_after c d es k r (inr w) = got_before c d es k r (w.by refl)

  -- ## In a merge

  next_above : (es : List Entry) → Ascending es → (k : ℕ) (d : Entry) → suc k < length es → (get_or es k d).stamp ≤ (get_or es (suc k) d).stamp
  next_above [] up k d lt = absurd (omega (arith, lt))
  next_above (e ∷ []) up zero d lt = absurd (omega (arith, lt))
  next_above (e ∷ x ∷ es) up zero d lt = let above : e.stamp < x.stamp = up.0.0 in omega (arith, above)
  next_above (e ∷ es) up (suc k) d lt = next_above es up.1 k d (omega (arith, lt))

  rising : (es : List Entry) → Ascending es → IsNonDecreasingBy (λ (e : Entry). e.stamp) es
  rising es up = IsNonDecreasingBy-from_all_adjacent (λ (e : Entry). e.stamp) es (λ k d lt.
      let z : k + 1 ≡ suc k = omega arith in
      subst (λ m. (get_or es k d).stamp ≤ (get_or es m d).stamp) (sym z) (next_above es up k d (omega (arith, lt))))

  -- of the workers' entries none is the client's
  of-workers : (graph : Shape) (threads : ℕ) (ws : List WorkerFacts) (hs : List History) → AllBy (λ k w x. IsHistory node_bytes (WorkerSteps l (k + 1)) (new_worker graph (k + 1) threads) w x) ws hs
      → All (λ (x : History). x.cut ≡ None) hs → (k : ℕ) (h : History) → k < length hs → own_entries 1 (get_or hs k h).entries ≡ []
  of-workers graph threads ws hs by whole k h lt =
      let w : WorkerFacts = new_worker graph (k + 1) threads in
      of-worker (k + 1) w (get_or ws k w) (get_or hs k h).entries ((by.each k w h lt).replays (All-get_or (λ (x : History). x.cut ≡ None) hs k h lt whole))

none-of : (hs : List History) → ((k : ℕ) (h : History) → k < length hs → own_entries 1 (get_or hs k h).entries ≡ []) → (es : List Entry)
    → flat_map (own_entries 1) (map (λ (x : History). x.entries) hs ++ es ∷ []) ≡ own_entries 1 es
none-of [] none es = append-nil (own_entries 1 es)
none-of (h ∷ hs) none es =
    ap (λ xs. xs ++ flat_map (own_entries 1) (map (λ (x : History). x.entries) hs ++ es ∷ [])) (none 0 h (omega arith))
    ∙ none-of hs (λ k d lt. none (suc k) d (omega (arith, lt))) es

module _ (l : LabelFacts Array) (graph : Shape) (plan : RunPlan) (wanted : List ℕ) (h : Histories) (run : IsServedRun l graph plan wanted h) (whole : AreWhole h) (journal : List Entry) (merged : IsMerge (entries_of h) journal) where
  client_replays : Replays (ClientSteps l) (new_client graph) h.client.entries run.last.client
  client_replays = run.are.client.replays whole.client

  -- the client's entries are those of its own history
  its_entries : own_entries 1 journal ≡ h.client.entries
  its_entries = own_of_merge (entries_of h) journal h.client.entries 1 merged
      (ap (λ xs. xs ++ flat_map (own_entries 1) (map (λ (x : History). x.entries) h.workers.items ++ h.client.entries ∷ [])) (of-scheduler l _ _ h.scheduler.entries (run.are.scheduler.replays whole.scheduler))
      ∙ none-of h.workers.items (of-workers l graph plan.threads run.last.workers h.workers.items run.are.workers whole.workers) h.client.entries
      ∙ of-client l _ _ h.client.entries client_replays)
      (rising l h.client.entries run.are.client.ascending)

  gets_each : IsLegalJournal (audited graph plan.saturation plan.allowed) journal → (k : ℕ) → IsGot run.last.client h.client.entries (is_some h.client.cut) k → Gets (audited graph plan.saturation plan.allowed) (events_of journal) 1 k
  gets_each legal k got =
      let g = got_after l (new_client graph) run.last.client h.client.entries k client_replays (subst (λ c. IsGot run.last.client h.client.entries (is_some c) k) whole.client got) in
      client_got (audited graph plan.saturation plan.allowed) journal g.first g.rest 1 k legal (its_entries ∙ g.whole) g.got

  legal_run : IsLegalJournal (audited graph plan.saturation plan.allowed) journal → IsLegalRun graph plan.saturation plan.allowed wanted journal
  legal_run legal = record { legal = legal; got = All-weaker _ _ (λ k g. gets_each legal k g) wanted run.got }

-- ## What is told of a run

module _ (l : LabelFacts Array) (graph : Shape) (plan : RunPlan) (wanted : List ℕ) (h : Histories) (run : IsServedRun l graph plan wanted h) where
  verdict_on : (journal : List Entry) (v : Verdict) → IsMerge (entries_of h) journal → IsVerdictOf (audited graph plan.saturation plan.allowed) h journal v → IsVerdictOn l graph plan wanted h journal v
  verdict_on journal Agrees merged v = (v.0, legal_run l graph plan wanted h run v.0 journal merged v.1)
  verdict_on journal (Differs stamp) merged v = (v.0, run, v.1)
  verdict_on journal NotComplete merged v = (run, v)

pub told_run : (l : LabelFacts Array) (graph : Shape) (plan : RunPlan) (wanted : List ℕ) (h : Histories) (t : Told) → IsServedRun l graph plan wanted h → IsToldOf graph plan.saturation plan.allowed h t → IsToldOfRun l graph plan wanted t
told_run l graph plan wanted h t run told = record {
  histories = h;
  journal = told.journal;
  merged = told.merged;
  report = told.report;
  verdict = verdict_on l graph plan wanted h run told.journal t.verdict told.merged told.verdict;
}
