-- What a simulation's failure is blamed on: no client of it lets a key go, so a key that was killed stays so.
use Rattle.std.proofs.Common.{◌≡◌, ◌⊎◌, ⊎_elim, ℕ, zero, suc, ◌+◌, ◌≤◌, Bool, true, false, not, cond, List, [], ◌∷◌, ◌++◌, replicate, Option, Some, None, refl, sym, ap, ◌∙◌, subst, arith}
use Rattle.std.specs.Option.{option_map}
use Rattle.std.proofs.lemmas.Bool.{false≢true, ltb-true}
use Rattle.std.proofs.lemmas.Option.{none-some, same_Some}
use Rattle.std.specs.Prelude.{◌==◌, IfSome}
use Rattle.cluster_msgs.specs.Scripts.{removes_in}
use Rattle.cluster_msgs.specs.Shape.{deps_of}
use Rattle.cluster_msgs.specs.Values.{val, needed}
use Rattle.cluster_msgs.specs.declared.events.Item.{Item}
use Rattle.cluster_msgs.specs.declared.events.Item.TheVariants.{Lose as LoseItem, Suspect as SuspectItem, Join as JoinItem}
use Rattle.cluster_msgs.specs.declared.events.Event.{Event}
use Rattle.cluster_msgs.specs.declared.events.Event.TheVariants.{Want, Release, Join, Lose, SeeLoss, Suspect, DeliverDown, DeliverUp, DeliverToClient, DeliverFromClient, Start, Finish, SendGather, ServeGather, ArriveGather, FailGather, Balance, Evict, Replicate, Spill, LoseSpilled}
use Rattle.cluster_rules.specs.Sched.{Setting, is_above}
use Rattle.cluster_rules.specs.World.{Job, World}
use Rattle.cluster_rules.specs.Enabled.{progress}
use Rattle.cluster_rules.specs.Runs.{reached, killed, WasKilled}
use Rattle.cluster_rules.specs.Draw.{Plan, Sim, Evicts, Balances, Spent, Verdict, Draw, DrawnFrom, opening_events, over, is_reached, is_idle, is_blocked, item_event, scripted, evicts_now, balances_now, drawn, draw_one, turn, unscripted, next_by, next, event_of, moved}
use Rattle.cluster_laws.specs.AreValues.{IsBlamed}
use Rattle.cluster_laws.specs.Blocks.{job_of}
use Rattle.cluster_laws.proofs.Counted.{killed_is}
use Rattle.safety_laws.specs.Released.{is_release, NoneReleases}
use Rattle.safety_laws.proofs.Unreleased.{killed_stays}
use Rattle.cluster_world.specs.Safe.{LosesFew}
use Rattle.cluster_sim.specs.declared.ended.Fault.TheVariants.{Zero, Killed}
use Rattle.cluster_sim.specs.Faults.{fault_at, key_of, IsBounded, IfBlamed}
use Rattle.cluster_sim.proofs.NextLemmas.{progress_is}
use Rattle.cluster_sim.proofs.WorldKeeps.{is_gentle}

-- ## No event of a simulation lets a key go

gentle_keeps : (e : Event) → is_gentle e ≡ true → is_release e ≡ false
gentle_keeps (Want c ks) h = refl
gentle_keeps (Release c ks) h = absurd (false≢true h)
gentle_keeps (Join threads) h = refl
gentle_keeps (Lose i) h = refl
gentle_keeps (SeeLoss i) h = refl
gentle_keeps (Suspect i) h = refl
gentle_keeps (DeliverDown i) h = refl
gentle_keeps (DeliverUp i) h = refl
gentle_keeps (DeliverToClient c) h = refl
gentle_keeps (DeliverFromClient c) h = refl
gentle_keeps (Start i) h = refl
gentle_keeps (Finish i k) h = refl
gentle_keeps (SendGather a p) h = refl
gentle_keeps (ServeGather p a n) h = refl
gentle_keeps (ArriveGather a p n) h = refl
gentle_keeps (FailGather a p) h = refl
gentle_keeps Balance h = refl
gentle_keeps Evict h = refl
gentle_keeps (Replicate k i) h = refl
gentle_keeps (Spill i k) h = refl
gentle_keeps (LoseSpilled i k) h = refl

abbrev Keeps : Option Event → Type 0
Keeps None = Unit {0}
Keeps (Some e) = is_release e ≡ false

keeps_made : (o : Option Event) (e : Event) → Keeps o → o ≡ Some e → is_release e ≡ false
keeps_made None e h q = absurd (none-some e q)
keeps_made (Some x) e h q = subst (λ y. is_release y ≡ false) (same_Some x e q) h

item_keeps : (threads : ℕ) (i : Item) → is_release (item_event threads i) ≡ false
item_keeps threads (LoseItem i at) = refl
item_keeps threads (SuspectItem i at) = refl
item_keeps threads (JoinItem at) = refl

abbrev KeepsItem : Option (Event × List Item) → Type 0
KeepsItem None = Unit {0}
KeepsItem (Some p) = is_release p.0 ≡ false

scripted_keeps : (threads : ℕ) (w : World) (is : List Item) → KeepsItem (scripted threads w is)
scripted_keeps threads w [] = tt
scripted_keeps threads w (i ∷ is) = pick (not (is_reached w i)) (is_idle w i) (is_blocked w i) (scripted_keeps threads w is)
  where
    pick : (a b d : Bool) → KeepsItem (scripted threads w is) → KeepsItem (cond {A = Option (Event × List Item)} a None (cond b (scripted threads w is) (cond {A = Option (Event × List Item)} d None (Some (item_event threads i, is)))))
    pick true b d h = tt
    pick false true d h = h
    pick false false true h = tt
    pick false false false h = item_keeps threads i

drawn_keeps : (o : Option Event) → Keeps o → Keeps (event_of (drawn o))
drawn_keeps None h = tt
drawn_keeps (Some e) h = h

turn_keeps : (words : ℕ → ℕ) (s : Sim) → Keeps (event_of (turn words s))
turn_keeps words s = pick (s.budget == 0)
  where
    keeps : (o : Option Event) → ((e : Event) → o ≡ Some e → is_release e ≡ false) → Keeps o
    keeps None f = tt
    keeps (Some e) f = f e refl

    pick : (b : Bool) → Keeps (event_of (cond b Spent (draw_one (words s.turns) (progress s.world))))
    pick true = tt
    pick false = drawn_keeps _ (keeps _ (λ e h. gentle_keeps e (progress_is s.world _ e h).gentle))

unscripted_keeps : (words : ℕ → ℕ) (s : Sim) → Keeps (event_of (unscripted words s))
unscripted_keeps words s = pick (evicts_now s) (balances_now s)
  where
    pick : (a b : Bool) → Keeps (event_of (cond a Evicts (cond b Balances (turn words s))))
    pick true b = refl
    pick false true = refl
    pick false false = turn_keeps words s

next_keeps : (words : ℕ → ℕ) (p : Plan) (s : Sim) → Keeps (event_of (next words p s))
unfolding next
next_keeps words p s = pick (over (s.world.clients 1)) (scripted p.threads s.world s.script) (scripted_keeps p.threads s.world s.script)
  where
    pick : (o : Option (Option ℕ)) (i : Option (Event × List Item)) → KeepsItem i → Keeps (event_of (next_by words s o i))
    pick (Some failure) i h = tt
    pick None (Some i) h = h
    pick None None h = unscripted_keeps words s

drawn_from_keeps : (j : Job) (words : ℕ → ℕ) (p : Plan) (s : Sim) (es : List Event) (v : Verdict) → DrawnFrom j words p s es v → NoneReleases es
drawn_from_keeps j words p s [] v d = tt
drawn_from_keeps j words p s (e ∷ es) v d = (keeps_made (event_of (next words p s)) e (next_keeps words p s) d.0, drawn_from_keeps j words p (moved j s (next words p s)) es v d.1)

both_keep : (xs ys : List Event) → NoneReleases xs → NoneReleases ys → NoneReleases (xs ++ ys)
both_keep [] ys h r = r
both_keep (x ∷ xs) ys h r = (h.0, both_keep xs ys h.1 r)

joins_keep : (n threads : ℕ) → NoneReleases (replicate n (Join threads))
joins_keep zero threads = tt
joins_keep (suc n) threads = (refl, joins_keep n threads)

pub draw_keeps : (j : Job) (words : ℕ → ℕ) (p : Plan) (wanted : List ℕ) (es : List Event) (v : Verdict) → Draw j words p wanted es v → NoneReleases es
draw_keeps j words p wanted es v h = subst NoneReleases (sym h.whole)
    (both_keep (opening_events p wanted) h.later (both_keep (replicate p.workers (Join p.threads)) (Want 1 wanted ∷ []) (joins_keep p.workers p.threads) (refl, tt)) (drawn_from_keeps j words p _ h.later v h.drawn))

-- ## What a failure is blamed on

pub key_is : (w : World) (o : Option ℕ) → o ≡ option_map key_of (option_map (fault_at w) o)
key_is w None = refl
key_is w (Some b) = ap (λ x. Some x) (pick (is_above w.sched.setting.allowed (w.sched.losses b)))
  where
    pick : (a : Bool) → b ≡ key_of (cond a (Killed b (w.sched.losses b)) (Zero b))
    pick true = refl
    pick false = refl

pub no_fault : (w : World) (o : Option ℕ) → (option_map (fault_at w) o ≡ None → o ≡ None) × (o ≡ None → option_map (fault_at w) o ≡ None)
no_fault w None = ((λ e. refl), (λ e. refl))
no_fault w (Some b) = ((λ e. absurd (some_none (fault_at w b) e)), (λ e. absurd (some_none b e)))
  where
    some_none : {A : Type 0} (x : A) → Some x ≡ None → ⊥
    some_none x e = cc

-- so many losses above what is allowed, and one more at most, is one more
one_above : (o : Option ℕ) (n : ℕ) → is_above o n ≡ true → ((a : ℕ) → o ≡ Some a → n ≤ a + 1) → (a : ℕ) × (o ≡ Some a) × (n ≡ a + 1)
one_above None n h few = absurd (false≢true h)
one_above (Some a) n h few = let l = ltb-true a n h in let m = few a refl in (a, refl, omega (arith, l, m))

-- so where losses are few, that is what a killed key has lost
pub bounded : (w : World) (s : Setting) (script : List Item) (o : Option ℕ) → w.sched.setting ≡ s → LosesFew w.sched → ((k : ℕ) → w.sched.losses k ≤ removes_in script) → IfSome (option_map (fault_at w) o) (IsBounded s.allowed script)
bounded w s script None e few often = tt
bounded w s script (Some b) e few often = pick (is_above w.sched.setting.allowed (w.sched.losses b)) refl
  where
    pick : (a : Bool) → is_above w.sched.setting.allowed (w.sched.losses b) ≡ a → IsBounded s.allowed script (cond a (Killed b (w.sched.losses b)) (Zero b))
    pick true q = let m = one_above w.sched.setting.allowed (w.sched.losses b) q (few b) in record { above = (m.0, ap (λ (x : Setting). x.allowed) (sym e) ∙ m.1, m.2); often = often b }
    pick false q = tt

pub fault_is : {B : Type 0} (s : Setting) (op : ℕ → List B → Option B) (wanted : List ℕ) (es : List Event) (w : World) (k b : ℕ) → NoneReleases es → LosesFew (reached (job_of s op) es).sched → w.sched.setting ≡ s → reached (job_of s op) es ≡ w
    → IsBlamed (WasKilled (job_of s op) es) (deps_of s.shape) (val (deps_of s.shape) op) k b → needed (deps_of s.shape) wanted b ≡ true
    → IfBlamed (job_of s op) es (deps_of s.shape) (val (deps_of s.shape) op) wanted (Some (fault_at w b))
fault_is s op wanted es w k b keeps few e r h n = pick (is_above w.sched.setting.allowed (w.sched.losses b)) refl
  where
    killed_as : killed (job_of s op) es b ≡ is_above w.sched.setting.allowed (w.sched.losses b)
    killed_as = killed_is (job_of s op) es b ∙ ap (λ (x : World). is_above s.allowed (x.sched.losses b)) r ∙ ap (λ (x : Setting). is_above x.allowed (w.sched.losses b)) (sym e)

    few_here : LosesFew w.sched
    few_here = subst (λ (x : World). LosesFew x.sched) r few

    pick : (a : Bool) → is_above w.sched.setting.allowed (w.sched.losses b) ≡ a → IfBlamed (job_of s op) es (deps_of s.shape) (val (deps_of s.shape) op) wanted (Some (cond a (Killed b (w.sched.losses b)) (Zero b)))
    pick true q = let m = one_above w.sched.setting.allowed (w.sched.losses b) q (few_here b) in record {
      killed = killed_as ∙ q;
      needed = n;
      allowed = m.0;
      bounded = ap (λ (x : Setting). x.allowed) (sym e) ∙ m.1;
      losses = m.2;
    }
    pick false q = record {
      faulty = ⊎_elim (λ f. f) (λ x. absurd (false≢true (sym q ∙ sym killed_as ∙ killed_stays (job_of s op) es keeps b x))) h.fault;
      needed = n;
    }
