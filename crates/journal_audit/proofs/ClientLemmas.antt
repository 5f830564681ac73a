-- What each event of the world does to a client, and what its own entries make of it.
use Rattle.std.proofs.Common.{◌≡◌, ℕ, Bool, true, false, ◌&&◌, eqb, List, [], ◌∷◌, ◌++◌, cond, filter, get_or, map, Option, Some, None, refl, sym, ap, ap₂, subst, ◌∙◌}
use Rattle.std.specs.Prelude.{◌==◌, is_some}
use Rattle.std.specs.Option.{option_map}
use Rattle.std.proofs.lemmas.Bool.{false≢true, eqb-true, eq-eqb, and_parts}
use Rattle.small_facts.proofs.Lists.{cons_not_nil, same_tail}
use Rattle.small_facts.proofs.Options.{find_passes}
use Rattle.cluster_msgs.specs.declared.messages.Message.TheVariants.{ToClient as ToClientMessage, Peer as PeerMessage}
use Rattle.cluster_msgs.specs.declared.messages.Peer.TheVariants.{Data}
use Rattle.cluster_msgs.specs.declared.messages.Down.{Down}
use Rattle.cluster_msgs.specs.declared.messages.Up.{Up}
use Rattle.cluster_msgs.specs.declared.messages.ToClient.{ToClient}
use Rattle.cluster_msgs.specs.declared.messages.FromClient.{FromClient}
use Rattle.cluster_msgs.specs.declared.cores.ClientEvent.{ClientEvent}
use Rattle.cluster_msgs.specs.declared.cores.ClientEvent.TheVariants as client
use Rattle.cluster_msgs.specs.declared.events.Asker.{Asker}
use Rattle.cluster_msgs.specs.declared.events.Asker.TheVariants.{Worker, Client}
use Rattle.cluster_msgs.specs.declared.events.Entry.{Entry}
use Rattle.cluster_msgs.specs.declared.events.Event.{Event}
use Rattle.cluster_msgs.specs.declared.events.Event.TheVariants.{Want, Release, Join, Lose, SeeLoss, Suspect, DeliverDown, DeliverUp, DeliverToClient, DeliverFromClient, Start, Finish, SendGather, ServeGather, ArriveGather, FailGather, Balance, Evict, Replicate, Spill, LoseSpilled}
use Rattle.cluster_rules.specs.Functions.{put}
use Rattle.cluster_rules.specs.Client.{ClientFacts, client_step, new_client}
use Rattle.cluster_rules.specs.Enabled.{enabled, message, message_at, front}
use Rattle.cluster_rules.specs.Report.{Taken, taken}
use Rattle.cluster_rules.specs.Runs.{LegalFrom, run_from, reached}
use Rattle.cluster_rules.specs.Worker.{Ask, ask_to, has_any}
use Rattle.cluster_rules.specs.World.{Job, World, Parcel, opening, open_ask, parcel_of, is_parcel, same_asker, is_connected}
use Rattle.cluster_rules.specs.WorldStep.{scheduled, worked, client_worked, at_client, take_down_first, take_up, take_up_first, take_to_client, take_from_client, gathered_at, serve, take_answer, fail_ask, world_step}
use Rattle.safety_laws.proofs.Lively.{same_asker_is}
use Rattle.journal_audit.specs.Audits.{events_of, IsLegalJournal}
use Rattle.journal_audit.specs.Clients.{Gets, GetsFrom, is_client, is_own, own_entries, told_client, client_after, client_run}
use Rattle.journal_audit.specs.Reports.{taken_of}

-- ## One event

module _ (c : ℕ) where
  -- what a client's facts become where an event of this client, or of another one, tells something
  abbrev becomes : Bool → ClientFacts → Option ClientEvent → ClientFacts
  becomes own f o = cond own (client_after f o) f

  -- a client took an event
  moved : (v w : World) (d : ℕ) (e : ClientEvent) → v.clients ≡ w.clients → (at_client v d e).clients c ≡ becomes (c == d) (w.clients c) (Some e)
  unfolding client_worked
  moved v w d e same = pick (c == d) refl
    where
      pick : (b : Bool) → (c == d) ≡ b → cond b (client_step (v.clients d) e).facts (v.clients c) ≡ cond b (client_step (w.clients c) e).facts (w.clients c)
      pick true is = ap (λ f. (client_step f e).facts) (ap (λ x. v.clients x) (sym (eqb-true c d is)) ∙ ap (λ f. f c) same)
      pick false is = ap (λ f. f c) same

  -- the first message of its link
  told : (w : World) (d : ℕ) (ms : List ToClient) → has_any ms ≡ true →
      (take_to_client w d ms).clients c ≡ becomes (c == d) (w.clients c) (told_client (w.clients c) (DeliverToClient d) (option_map (λ m. ToClientMessage m) (front ms)))
  told w d [] some = absurd (false≢true some)
  told w d (m ∷ ms) some = moved _ w d (client.FromScheduler m) refl

  -- an answer
  gathers : (v w : World) (a : Asker) (p n : ℕ) (found : List ℕ) → v.clients ≡ w.clients → (gathered_at v a p n found).clients c ≡ becomes (is_client c a) (w.clients c) (Some (client.Gathered p n found))
  unfolding worked
  gathers v w (Worker i) p n found same = ap (λ f. f c) same
  gathers v w (Client d) p n found same = moved v w d (client.Gathered p n found) same

  answered : (w : World) (a : Asker) (p n : ℕ) (o : Option Parcel) → parcel_of a p n w.answers ≡ o → is_some o ≡ true →
      (take_answer w o).clients c ≡ becomes (is_client c a) (w.clients c) (told_client (w.clients c) (ArriveGather a p n) (option_map (λ (q : Parcel). PeerMessage (Data q.ask q.keys)) o))
  answered w a p n None is some = absurd (false≢true some)
  answered w a p n (Some q) is some =
      let t = and_parts (same_asker q.asker a) (eqb q.peer p && eqb q.ask n) (find_passes (is_parcel a p n) w.answers q is) in
      let u = and_parts (eqb q.peer p) (eqb q.ask n) t.1 in
      gathers _ w q.asker q.peer q.ask q.keys refl
      ∙ ap (λ x. becomes (is_client c x) (w.clients c) (Some (client.Gathered q.peer q.ask q.keys))) (same_asker_is q.asker a t.0)
      ∙ ap₂ (λ x y. becomes (is_client c a) (w.clients c) (Some (client.Gathered x y q.keys))) (eqb-true q.peer p u.0) (eqb-true q.ask n u.1)

  -- an ask that failed
  failed : (w : World) (d p : ℕ) (b : Bool) → (c == d) ≡ b → (fail_ask w (Client d) p (ask_to (w.clients d).asks p)).clients c ≡ becomes b (w.clients c) (told_client (w.clients c) (FailGather (Client d) p) None)
  failed w d p true is = subst (λ x. (fail_ask w (Client x) p (ask_to (w.clients x).asks p)).clients c ≡ client_after (w.clients c) (told_client (w.clients c) (FailGather (Client c) p) None)) (eqb-true c d is) (here (ask_to (w.clients c).asks p))
    where
      here : (o : Option Ask) → (fail_ask w (Client c) p o).clients c ≡ client_after (w.clients c) (option_map (λ q. client.GatherFailed p q.number) o)
      here None = refl
      here (Some q) = moved w w c (client.GatherFailed p q.number) refl ∙ ap (λ b. becomes b (w.clients c) (Some (client.GatherFailed p q.number))) (eq-eqb c c refl)
  failed w d p false is = there (ask_to (w.clients d).asks p)
    where
      there : (o : Option Ask) → (fail_ask w (Client d) p o).clients c ≡ w.clients c
      there None = refl
      there (Some q) = moved w w d (client.GatherFailed p q.number) refl ∙ ap (λ b. becomes b (w.clients c) (Some (client.GatherFailed p q.number))) is

  -- what isn't its own leaves a client as it was
  kept_down : (w : World) (i : ℕ) (ms : List Down) → (take_down_first w i ms).clients c ≡ w.clients c
  unfolding worked
  kept_down w i [] = refl
  kept_down w i (m ∷ ms) = refl

  kept_up : (w : World) (i : ℕ) (ms : List Up) → (take_up_first w i ms).clients c ≡ w.clients c
  unfolding scheduled
  kept_up w i [] = refl
  kept_up w i (m ∷ ms) = heard (is_connected w i)
    where
      heard : (b : Bool) → (take_up (record w { up = put w.up i ms }) i m b).clients c ≡ w.clients c
      heard true = refl
      heard false = refl

  kept_from : (w : World) (d : ℕ) (ms : List FromClient) → (take_from_client w d ms).clients c ≡ w.clients c
  unfolding scheduled
  kept_from w d [] = refl
  kept_from w d (m ∷ ms) = refl

  kept_serve : (w : World) (p : ℕ) (o : Option Parcel) → (serve w p o).clients c ≡ w.clients c
  kept_serve w p None = refl
  kept_serve w p (Some q) = refl

  kept_fail : (w : World) (i p : ℕ) (o : Option Ask) → (fail_ask w (Worker i) p o).clients c ≡ w.clients c
  unfolding worked
  kept_fail w i p None = refl
  kept_fail w i p (Some q) = refl

  moves : (j : Job) (w : World) (e : Event) → enabled w e ≡ true → (world_step j w e).clients c ≡ becomes (is_own c e) (w.clients c) (told_client (w.clients c) e (message_at w e))
  unfolding world_step enabled scheduled worked
  moves j w (Want d ks) on = moved w w d (client.Want ks) refl
  moves j w (Release d ks) on = moved w w d (client.Release ks) refl
  moves j w (Join threads) on = refl
  moves j w (Lose i) on = refl
  moves j w (SeeLoss i) on = refl
  moves j w (Suspect i) on = refl
  moves j w (DeliverDown i) on = kept_down w i (w.down i)
  moves j w (DeliverUp i) on = kept_up w i (w.up i)
  moves j w (DeliverToClient d) on = told w d (w.to_client d) on
  moves j w (DeliverFromClient d) on = kept_from w d (w.from_client d)
  moves j w (Start i) on = refl
  moves j w (Finish i k) on = refl
  moves j w (SendGather (Worker i) p) on = refl
  moves j w (SendGather (Client d) p) on = moved w w d (client.Ask p) refl
  moves j w (ServeGather p a n) on = kept_serve w p (parcel_of a p n w.requests)
  moves j w (ArriveGather a p n) on = answered w a p n (parcel_of a p n w.answers) refl (and_parts _ _ on).1
  moves j w (FailGather (Worker i) p) on = kept_fail w i p (open_ask w (Worker i) p)
  moves j w (FailGather (Client d) p) on = failed w d p (c == d) refl
  moves j w Balance on = refl
  moves j w Evict on = refl
  moves j w (Replicate k i) on = refl
  moves j w (Spill i k) on = refl
  moves j w (LoseSpilled i k) on = refl

  -- with the message that it takes
  steps : (j : Job) (w : World) (e : Event) → enabled w e ≡ true → (world_step j w e).clients c ≡ becomes (is_own c e) (w.clients c) (told_client (w.clients c) e (message w e))
  unfolding message
  steps j w e on = moves j w e on ∙ ap (λ b. becomes (is_own c e) (w.clients c) (told_client (w.clients c) e (cond b (message_at w e) None))) (sym on)

-- ## Entries

module _ (j : Job) (c : ℕ) where
  -- entries from a world on, each enabled, with the message that it takes
  abbrev Goes : World → List Entry → Type 0
  Goes w es = LegalFrom j w (events_of es) × (map taken_of es ≡ taken j w (events_of es))

  head_message : (w : World) (e : Entry) (es : List Entry) → Goes w (e ∷ es) → e.message ≡ message w e.event
  head_message w e es g = ap (λ (ts : List Taken). (get_or ts 0 (taken_of e)).1) g.1

  goes_on : (w : World) (e : Entry) (es : List Entry) → Goes w (e ∷ es) → Goes (world_step j w e.event) es
  goes_on w e es g = (g.0.1, same_tail _ _ _ _ g.1)

  -- the first entry
  here : (w : World) (e : Entry) (es : List Entry) → Goes w (e ∷ es) → (world_step j w e.event).clients c ≡ becomes c (is_own c e.event) (w.clients c) (told_client (w.clients c) e.event e.message)
  here w e es g = steps c j w e.event g.0.0 ∙ ap (λ m. becomes c (is_own c e.event) (w.clients c) (told_client (w.clients c) e.event m)) (sym (head_message w e es g))

  -- what an entry makes of it
  now : (w : World) (e : Entry) (es : List Entry) → Goes w (e ∷ es) → (b : Bool) → is_own c e.event ≡ b → (world_step j w e.event).clients c ≡ becomes c b (w.clients c) (told_client (w.clients c) e.event e.message)
  now w e es g b own = here w e es g ∙ ap (λ x. becomes c x (w.clients c) (told_client (w.clients c) e.event e.message)) own

  follows : (w : World) (es : List Entry) → Goes w es → (run_from j w (events_of es)).clients c ≡ client_run (w.clients c) (own_entries c es)
  follows w [] g = refl
  follows w (e ∷ es) g = pick (is_own c e.event) refl (follows (world_step j w e.event) es (goes_on w e es g))
    where
      pick : (b : Bool) → is_own c e.event ≡ b → (run_from j (world_step j w e.event) (events_of es)).clients c ≡ client_run ((world_step j w e.event).clients c) (own_entries c es)
          → (run_from j (world_step j w e.event) (events_of es)).clients c ≡ client_run (w.clients c) (cond b (e ∷ own_entries c es) (own_entries c es))
      pick true own later = later ∙ ap (λ f. client_run f (own_entries c es)) (now w e es g true own)
      pick false own later = later ∙ ap (λ f. client_run f (own_entries c es)) (now w e es g false own)

  -- what it had after some of its own entries, it got
  next : (w : World) (e : Entry) (es : List Entry) (k : ℕ) → GetsFrom j (world_step j w e.event) (events_of es) c k → GetsFrom j w (e.event ∷ events_of es) c k
  next w e es k h = record { before = e.event ∷ h.before; after = h.after; whole = ap (λ xs. e.event ∷ xs) h.whole; got = h.got }

  gets : (w : World) (es first rest : List Entry) (k : ℕ) → Goes w es → own_entries c es ≡ first ++ rest → (client_run (w.clients c) first).got k ≡ true → GetsFrom j w (events_of es) c k
  gets w es [] rest k g is got = record { before = []; after = events_of es; whole = refl; got = got }
  gets w [] (x ∷ first) rest k g is got = absurd (cons_not_nil _ _ (sym is))
  gets w (e ∷ es) (x ∷ first) rest k g is got = next w e es k (pick (is_own c e.event) refl is
      (λ i h. gets (world_step j w e.event) es first rest k (goes_on w e es g) i h) (λ i h. gets (world_step j w e.event) es (x ∷ first) rest k (goes_on w e es g) i h))
    where
      Later : List Entry → Type 0
      Later us = own_entries c es ≡ us ++ rest → (client_run ((world_step j w e.event).clients c) us).got k ≡ true → GetsFrom j (world_step j w e.event) (events_of es) c k

      pick : (b : Bool) → is_own c e.event ≡ b → cond b (e ∷ own_entries c es) (own_entries c es) ≡ x ∷ (first ++ rest) → Later first → Later (x ∷ first) → GetsFrom j (world_step j w e.event) (events_of es) c k
      pick true own i taken left =
          let same : e ≡ x = ap (λ ys. get_or ys 0 e) i in
          taken (same_tail _ _ _ _ i) (ap (λ f. (client_run f first).got k) (now w e es g true own ∙ ap (λ (y : Entry). client_after (w.clients c) (told_client (w.clients c) y.event y.message)) same) ∙ got)
      pick false own i taken left = left i (ap (λ f. (client_run f (x ∷ first)).got k) (now w e es g false own) ∙ got)

pub client_last : (j : Job) (es : List Entry) (c : ℕ) → IsLegalJournal j es → (reached j (events_of es)).clients c ≡ client_run (new_client j.setting.shape) (own_entries c es)
client_last j es c l = follows j c (opening j) es (l.legal, l.messages)

pub client_got : (j : Job) (es first rest : List Entry) (c k : ℕ) → IsLegalJournal j es → own_entries c es ≡ first ++ rest → (client_run (new_client j.setting.shape) first).got k ≡ true → Gets j (events_of es) c k
client_got j es first rest c k l is got = gets j c (opening j) es first rest k (l.legal, l.messages) is got
