-- What holds of asks stays so, over the world's events.
use Rattle.std.proofs.Common.{◌≡◌, ℕ, ◌+◌, ◌≤◌, ◌<◌, Bool, true, false, cond, not, List, [], ◌∷◌, length, Option, Some, None, refl, sym, ap, ◌∙◌, subst, arith, filter, find, append-nil}
use Rattle.std.proofs.Math.Dec.{eqb}
use Rattle.std.specs.List.{AllByRecursion}
use Rattle.std.proofs.lemmas.Bool.{false≢true}
use Rattle.std.proofs.lemmas.Option.{same_Some}
use Rattle.small_facts.proofs.Every.{all_of_filter, all_weaker}
use Rattle.small_facts.proofs.Options.{some_not_none}
use Rattle.cluster_msgs.specs.Shape.{key_count}
use Rattle.cluster_msgs.specs.declared.cores.SchedEvent.{SchedEvent}
use Rattle.cluster_msgs.specs.declared.cores.WorkerEvent.{WorkerEvent}
use Rattle.cluster_msgs.specs.declared.cores.ClientEvent.{ClientEvent}
use Rattle.cluster_msgs.specs.declared.events.Asker.{Asker}
use Rattle.cluster_msgs.specs.declared.events.Asker.TheVariants.{Worker, Client}
use Rattle.cluster_rules.specs.Sched.{Setting}
use Rattle.cluster_rules.specs.Worker.{Ask, WorkerFacts, new_worker, ask_to, has_any}
use Rattle.cluster_rules.specs.WorkerStep.{worker_step, keys_of}
use Rattle.cluster_rules.specs.Client.{ClientFacts, client_step}
use Rattle.cluster_rules.specs.World.{World, Parcel, shape_of, open_ask, parcel_of, is_parcel, with_parcel, parcel_before}
use Rattle.cluster_rules.specs.WorldStep.{requested, scheduled, worked, client_worked, at_scheduler, at_worker, at_client, new_at, died, serve}
use Rattle.cluster_rules.proofs.SchedFrame.{step_settles}
use Rattle.cluster_rules.proofs.WorkerLemmas.{at_one}
use Rattle.cluster_laws.proofs.Framed.{change_framed}
use Rattle.safety_laws.proofs.Homes.{last_more}
use Rattle.quiet_measure.specs.Turns.{next_ask_of, asks_of, PeersDiffer}
use Rattle.quiet_measure.specs.Asks.{IsOfAsk, IsNumbered, AreAsks}
use Rattle.quiet_laws.proofs.AskRows.{LessAsks, less_self, less_same, less_then, Fewer, IsNoAsk, fewer_step, FewerAtClient, IsNoClientAsk, fewer_client_step}

pub open_is : (w : World) (a : Asker) (p : ℕ) → open_ask w a p ≡ ask_to (asks_of w a) p
open_is w (Worker i) p = refl
open_is w (Client c) p = refl

-- ## Events after which no more asks are open

pub record Steady (w v : World) : Type 0 where
  pub asks : (a : Asker) → LessAsks (asks_of w a) (asks_of v a)
  pub next : (a : Asker) → next_ask_of v a ≡ next_ask_of w a
  pub ids : (i : ℕ) → v.alive i ≡ true → (w.alive i ≡ true) × ((v.workers i).id ≡ (w.workers i).id)
  pub last : w.sched.last_worker ≤ v.sched.last_worker
  pub setting : v.sched.setting ≡ w.sched.setting
  pub requests : v.requests ≡ w.requests
  pub answers : (u : World) → AllByRecursion (IsNumbered u) w.answers → AllByRecursion (IsNumbered u) v.answers

pub steady_then : (u v w : World) → Steady u v → Steady v w → Steady u w
steady_then u v w h g = record {
  asks = λ a. less_then (asks_of u a) (asks_of v a) (asks_of w a) (h.asks a) (g.asks a);
  next = λ a. g.next a ∙ h.next a;
  ids = λ i e. let x = g.ids i e in let y = h.ids i x.0 in (y.0, x.1 ∙ y.1);
  last = omega (arith, h.last, g.last);
  setting = g.setting ∙ h.setting;
  requests = g.requests ∙ h.requests;
  answers = λ z n. g.answers z (h.answers z n);
}

-- only links, answers and what the scheduler has differ
pub steady_links : (w v : World) → v.workers ≡ w.workers → v.clients ≡ w.clients → v.alive ≡ w.alive → w.sched.last_worker ≤ v.sched.last_worker → v.sched.setting ≡ w.sched.setting → v.requests ≡ w.requests
    → ((u : World) → AllByRecursion (IsNumbered u) w.answers → AllByRecursion (IsNumbered u) v.answers) → Steady w v
steady_links w v e c a l s r n = record {
  asks = asks;
  next = next;
  ids = λ i t. (ap (λ (f : ℕ → Bool). f i) (sym a) ∙ t, ap (λ (f : ℕ → WorkerFacts). (f i).id) e);
  last = l;
  setting = s;
  requests = r;
  answers = n;
}
  where
    asks : (b : Asker) → LessAsks (asks_of w b) (asks_of v b)
    asks (Worker i) = less_same _ _ (ap (λ (f : ℕ → WorkerFacts). (f i).asks) e)
    asks (Client i) = less_same _ _ (ap (λ (f : ℕ → ClientFacts). (f i).asks) c)

    next : (b : Asker) → next_ask_of v b ≡ next_ask_of w b
    next (Worker i) = ap (λ (f : ℕ → WorkerFacts). (f i).next_ask) e
    next (Client i) = ap (λ (f : ℕ → ClientFacts). (f i).next_ask) c

pub steady_self : (w : World) → Steady w w
steady_self w = steady_links w w refl refl refl (omega arith) refl refl (λ u n. n)

pub steady_scheduler : (w : World) (s : SchedEvent) → Steady w (at_scheduler w s)
unfolding scheduled
steady_scheduler w s = steady_links w (at_scheduler w s) refl refl refl (last_more w.sched s) ((step_settles w.sched s).setting ∙ (change_framed w.sched s).setting) refl (λ u n. n)

pub steady_worker : (w : World) (i : ℕ) (e : WorkerEvent) → IsNoAsk e → Steady w (at_worker w i e)
unfolding worked
steady_worker w i e o = record {
  asks = asks;
  next = next;
  ids = λ x t. (t, at_one i (λ b y. (cond b (worker_step (w.workers i) e).facts (w.workers y)).id ≡ (w.workers y).id) h.id (λ y. refl) x);
  last = omega arith;
  setting = refl;
  requests = ap (λ l. requested (Worker i) w.requests l) (sym (append-nil (worker_step (w.workers i) e).out)) ∙ h.alone.same i w.requests [];
  answers = λ u n. n;
}
  where
    h : Fewer (w.workers i) (worker_step (w.workers i) e)
    h = fewer_step (w.workers i) e o

    asks : (b : Asker) → LessAsks (asks_of w b) (asks_of (at_worker w i e) b)
    asks (Worker x) = at_one i (λ b y. LessAsks (w.workers y).asks (cond b (worker_step (w.workers i) e).facts (w.workers y)).asks) h.asks (λ y. less_self (w.workers y).asks) x
    asks (Client c) = less_self (w.clients c).asks

    next : (b : Asker) → next_ask_of (at_worker w i e) b ≡ next_ask_of w b
    next (Worker x) = at_one i (λ b y. (cond b (worker_step (w.workers i) e).facts (w.workers y)).next_ask ≡ (w.workers y).next_ask) h.next (λ y. refl) x
    next (Client c) = refl

pub steady_client : (w : World) (c : ℕ) (e : ClientEvent) → IsNoClientAsk e → Steady w (at_client w c e)
unfolding client_worked
steady_client w c e o = record {
  asks = asks;
  next = next;
  ids = λ x t. (t, refl);
  last = omega arith;
  setting = refl;
  requests = h.alone c w.requests;
  answers = λ u n. n;
}
  where
    h : FewerAtClient (w.clients c) (client_step (w.clients c) e)
    h = fewer_client_step (w.clients c) e o

    asks : (b : Asker) → LessAsks (asks_of w b) (asks_of (at_client w c e) b)
    asks (Worker x) = less_self (w.workers x).asks
    asks (Client x) = at_one c (λ b y. LessAsks (w.clients y).asks (cond b (client_step (w.clients c) e).facts (w.clients y)).asks) h.asks (λ y. less_self (w.clients y).asks) x

    next : (b : Asker) → next_ask_of (at_client w c e) b ≡ next_ask_of w b
    next (Worker x) = refl
    next (Client x) = at_one c (λ b y. (cond b (client_step (w.clients c) e).facts (w.clients y)).next_ask ≡ (w.clients y).next_ask) h.next (λ y. refl) x

pub steady_keeps : (w v : World) → Steady w v → AreAsks w → AreAsks v
steady_keeps w v s h = record {
  ids = λ i t. let x = s.ids i t in x.1 ∙ h.ids i x.0;
  first = λ i l. let e : (v.workers i).next_ask ≡ (w.workers i).next_ask = s.next (Worker i) in let m : (w.workers i).next_ask ≤ 1 = h.first i (omega (arith, l, s.last)) in omega arith;
  requests = subst (AllByRecursion (IsOfAsk v)) (sym s.requests) (all_weaker (IsOfAsk w) (IsOfAsk v) of_ask w.requests h.requests);
  sent = subst (AllByRecursion (IsNumbered v)) (sym s.requests) (all_weaker (IsNumbered w) (IsNumbered v) number w.requests h.sent);
  answered = all_weaker (IsNumbered w) (IsNumbered v) number v.answers (s.answers w h.answered);
  differ = λ a. (s.asks a).differ (h.differ a);
  some = λ a p q e. h.some a p q (opened a p q e);
  short = λ a. subst (λ (g : Setting). AllByRecursion (λ (q : Ask). length q.items ≤ key_count g.shape) (asks_of v a)) (sym s.setting) ((s.asks a).each (key_count (shape_of w)) (h.short a));
}
  where
    opened : (a : Asker) (p : ℕ) (q : Ask) → open_ask v a p ≡ Some q → open_ask w a p ≡ Some q
    opened a p q e = open_is w a p ∙ (s.asks a).opened p q (sym (open_is v a p) ∙ e)

    of_ask : (q : Parcel) → IsOfAsk w q → IsOfAsk v q
    of_ask q f a o n = f a (opened q.asker q.peer a o) n

    number : (q : Parcel) → IsNumbered w q → IsNumbered v q
    number q l = subst (λ n. q.ask < n) (sym (s.next q.asker)) l

-- ## Parcels

pub all_with : (Q : Parcel → Type 0) (p : Parcel) (qs : List Parcel) → Q p → AllByRecursion Q qs → AllByRecursion Q (with_parcel p qs)
all_with Q p [] h a = (h, tt)
all_with Q p (q ∷ qs) h a = pick (parcel_before p q) (all_with Q p qs h a.1)
  where
    pick : (b : Bool) → AllByRecursion Q (with_parcel p qs) → AllByRecursion Q (cond b (p ∷ q ∷ qs) (q ∷ with_parcel p qs))
    pick true r = (h, a)
    pick false r = (a.0, r)

found_has : (Q : Parcel → Type 0) (t : Parcel → Bool) (qs : List Parcel) (q : Parcel) → AllByRecursion Q qs → find t qs ≡ Some q → Q q
found_has Q t [] q a e = absurd (some_not_none q (sym e))
found_has Q t (x ∷ qs) q a e = pick (t x) e (found_has Q t qs q a.1)
  where
    pick : (b : Bool) → cond b (Some x) (find t qs) ≡ Some q → (find t qs ≡ Some q → Q q) → Q q
    pick true s r = subst Q (same_Some x q s) a.0
    pick false s r = r s

pub serve_keeps : (w : World) (p : ℕ) (a : Asker) (n : ℕ) (o : Option Parcel) → parcel_of a p n w.requests ≡ o → AreAsks w → AreAsks (serve w p o)
serve_keeps w p a n None e h = h
serve_keeps w p a n (Some q) e h = record {
  ids = h.ids;
  first = h.first;
  requests = all_of_filter (IsOfAsk (serve w p (Some q))) (λ x. not (is_parcel q.asker q.peer q.ask x)) w.requests (all_weaker (IsOfAsk w) (IsOfAsk (serve w p (Some q))) of_ask w.requests h.requests);
  sent = all_of_filter (IsNumbered (serve w p (Some q))) (λ x. not (is_parcel q.asker q.peer q.ask x)) w.requests (all_weaker (IsNumbered w) (IsNumbered (serve w p (Some q))) number w.requests h.sent);
  answered = all_with (IsNumbered (serve w p (Some q))) (record q { keys = filter (w.workers p).mem q.keys }) w.answers (number q (found_has (IsNumbered w) (is_parcel a p n) w.requests q h.sent e)) (all_weaker (IsNumbered w) (IsNumbered (serve w p (Some q))) number w.answers h.answered);
  differ = λ b. differ b;
  some = λ b p2 q2 t. some b p2 q2 t;
  short = λ b. short b;
}
  where
    of_ask : (x : Parcel) → IsOfAsk w x → IsOfAsk (serve w p (Some q)) x
    of_ask x f b o m = by x.asker f o
      where
        by : (c : Asker) → ((b : Ask) → open_ask w c x.peer ≡ Some b → b.number ≡ x.ask → keys_of b.items ≡ x.keys) → open_ask (serve w p (Some q)) c x.peer ≡ Some b → keys_of b.items ≡ x.keys
        by (Worker i) f o = f b o m
        by (Client i) f o = f b o m

    number : (x : Parcel) → IsNumbered w x → IsNumbered (serve w p (Some q)) x
    number x l = by x.asker l
      where
        by : (c : Asker) → x.ask < next_ask_of w c → x.ask < next_ask_of (serve w p (Some q)) c
        by (Worker i) l = l
        by (Client i) l = l

    differ : (b : Asker) → PeersDiffer (asks_of (serve w p (Some q)) b)
    differ (Worker i) = h.differ (Worker i)
    differ (Client i) = h.differ (Client i)

    some : (b : Asker) (p2 : ℕ) (q2 : Ask) → open_ask (serve w p (Some q)) b p2 ≡ Some q2 → has_any q2.items ≡ true
    some (Worker i) p2 q2 t = h.some (Worker i) p2 q2 t
    some (Client i) p2 q2 t = h.some (Client i) p2 q2 t

    short : (b : Asker) → AllByRecursion (λ (x : Ask). length x.items ≤ key_count (shape_of w)) (asks_of (serve w p (Some q)) b)
    short (Worker i) = h.short (Worker i)
    short (Client i) = h.short (Client i)

-- ## A worker joins

pub joins : (w : World) (threads : ℕ) → AreAsks w → AreAsks (new_at w (w.sched.last_worker + 1) threads)
joins w threads h = record {
  ids = λ x t. at_one n (λ b y. cond b true (w.alive y) ≡ true → (cond b new (w.workers y)).id ≡ y) (λ t. refl) (λ y t. h.ids y t) x t;
  first = λ x l. at_one n (λ b y. w.sched.last_worker < y → (cond b new (w.workers y)).next_ask ≤ 1) (λ l. omega arith) (λ y l. h.first y l) x l;
  requests = all_weaker (IsOfAsk w) (IsOfAsk v) of_ask w.requests h.requests;
  sent = all_weaker (IsNumbered w) (IsNumbered v) number w.requests h.sent;
  answered = all_weaker (IsNumbered w) (IsNumbered v) number w.answers h.answered;
  differ = differ;
  some = some;
  short = short;
}
  where
    n : ℕ
    n = w.sched.last_worker + 1

    new : WorkerFacts
    new = new_worker (shape_of w) n threads

    v : World
    v = new_at w n threads

    none : (q : Ask) (p : ℕ) → ask_to [] p ≡ Some q → ⊥
    none q p e = some_not_none q (sym e)

    opened : (a : Asker) (p : ℕ) (q : Ask) → open_ask v a p ≡ Some q → open_ask w a p ≡ Some q
    opened (Client c) p q e = e
    opened (Worker x) p q e = at_one n (λ b y. ask_to (cond b new (w.workers y)).asks p ≡ Some q → ask_to (w.workers y).asks p ≡ Some q) (λ e. absurd (none q p e)) (λ y e. e) x e

    of_ask : (q : Parcel) → IsOfAsk w q → IsOfAsk v q
    of_ask q f a o m = f a (opened q.asker q.peer a o) m

    number : (q : Parcel) → IsNumbered w q → IsNumbered v q
    number q l = by q.asker l
      where
        by : (c : Asker) → q.ask < next_ask_of w c → q.ask < next_ask_of v c
        by (Client i) l = l
        by (Worker x) l = at_one n (λ b y. q.ask < (w.workers y).next_ask → q.ask < (cond b new (w.workers y)).next_ask) (λ l. let m : (w.workers n).next_ask ≤ 1 = h.first n (omega arith) in omega (arith, l, m)) (λ y l. l) x l

    differ : (b : Asker) → PeersDiffer (asks_of v b)
    differ (Client i) = h.differ (Client i)
    differ (Worker x) = at_one n (λ b y. PeersDiffer (cond b new (w.workers y)).asks) tt (λ y. h.differ (Worker y)) x

    some : (b : Asker) (p : ℕ) (q : Ask) → open_ask v b p ≡ Some q → has_any q.items ≡ true
    some b p q e = h.some b p q (opened b p q e)

    short : (b : Asker) → AllByRecursion (λ (q : Ask). length q.items ≤ key_count (shape_of w)) (asks_of v b)
    short (Client i) = h.short (Client i)
    short (Worker x) = at_one n (λ b y. AllByRecursion (λ (q : Ask). length q.items ≤ key_count (shape_of w)) (cond b new (w.workers y)).asks) tt (λ y. h.short (Worker y)) x

pub steady_died : (w : World) (i : ℕ) → Steady w (died w i)
steady_died w i = record {
  asks = asks;
  next = next;
  ids = λ x t. (alive x (eqb x i) t, at_one i (λ b y. (cond b (record (w.workers i) { mem = λ k. false }) (w.workers y)).id ≡ (w.workers y).id) refl (λ y. refl) x);
  last = omega arith;
  setting = refl;
  requests = refl;
  answers = λ u n. n;
}
  where
    alive : (x : ℕ) (b : Bool) → cond b false (w.alive x) ≡ true → w.alive x ≡ true
    alive x true t = absurd (false≢true t)
    alive x false t = t

    asks : (b : Asker) → LessAsks (asks_of w b) (asks_of (died w i) b)
    asks (Worker x) = at_one i (λ b y. LessAsks (w.workers y).asks (cond b (record (w.workers i) { mem = λ k. false }) (w.workers y)).asks) (less_self (w.workers i).asks) (λ y. less_self (w.workers y).asks) x
    asks (Client c) = less_self (w.clients c).asks

    next : (b : Asker) → next_ask_of (died w i) b ≡ next_ask_of w b
    next (Worker x) = at_one i (λ b y. (cond b (record (w.workers i) { mem = λ k. false }) (w.workers y)).next_ask ≡ (w.workers y).next_ask) refl (λ y. refl) x
    next (Client c) = refl
