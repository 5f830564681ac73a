-- What each row of the scheduler's table leaves, whatever it does to wants, copies, places, steals and keys that failed: the one walk over the rows
-- for all that goes by no more than this.
use Rattle.std.proofs.Common.{◌≡◌, ℕ, ◌+◌, ◌≤◌, Bool, true, false, cond, ◌&&◌, List, [], ◌∷◌, Option, Some, None, refl, sym, ap, ◌∙◌, arith, is_some, eqb}
use Rattle.std.proofs.lemmas.Bool.{or_left}
use Rattle.std.proofs.lemmas.Bool.Decides.{nat_tests}
use Rattle.std.specs.Prelude.{nat_le}
use Rattle.small_facts.proofs.Options.{is_some_cond}
use Rattle.cluster_msgs.specs.declared.cores.Steal.{Steal}
use Rattle.cluster_msgs.specs.declared.cores.SchedEvent.{SchedEvent}
use Rattle.cluster_msgs.specs.declared.cores.SchedEvent.TheVariants.{Join, Leave, FromWorker, FromClient, Balance, Evict, Replicate}
use Rattle.cluster_msgs.specs.declared.messages.Up.{Up}
use Rattle.cluster_msgs.specs.declared.messages.Up.TheVariants.{TaskFinished, TaskErred, AddKeys, ReleaseWorkerData, MissingData, RequestRefreshWhoHas, StealResponse}
use Rattle.cluster_msgs.specs.declared.messages.FromClient.{FromClient as FromClientMessage}
use Rattle.cluster_msgs.specs.declared.messages.FromClient.TheVariants.{Want, Release, Missing}
use Rattle.cluster_rules.specs.Functions.{put, put_pair}
use Rattle.cluster_rules.specs.Sched.{Facts, held, holds, connected, is_on, is_above}
use Rattle.cluster_rules.specs.Policies.{next_steal, next_drop}
use Rattle.cluster_rules.specs.SchedTable.{Changed, change, change_up, change_client, plain, joined, left, is_this, finished, failed, add_key, add_keys, released, is_copy, lost_copy, is_asked_back, stolen_to, answered, wants_more, wants_less, balanced, evicted}
use Rattle.cluster_rules.specs.SchedStep.{sched_step}
use Rattle.cluster_rules.specs.Runs.{loses}
use Rattle.cluster_rules.proofs.SchedFrame.{step_settles}

-- how many workers an event lets join
abbrev pub joins_by : SchedEvent → ℕ
joins_by (Join n) = 1
joins_by (Leave w) = 0
joins_by (FromWorker w m) = 0
joins_by (FromClient c m) = 0
joins_by Balance = 0
joins_by Evict = 0
joins_by (Replicate k w) = 0

-- whether an event lets a key lose the worker that it is assigned to
abbrev pub loses_by : Facts → SchedEvent → ℕ → Bool
loses_by f e k = loses f k (Some e)

abbrev nobody : ℕ → Bool
nobody k = false

-- the setting stays and nothing was sent; attempts are only given; so many workers joined, and nobody else is there who wasn't; errors stay,
-- and these keys have one loss more
pub record IsFramed (f : Facts) (joining : ℕ) (losing : ℕ → Bool) (g : Facts) : Type 0 where
  pub setting : g.setting ≡ f.setting
  pub counter : f.counter ≤ g.counter
  pub sent : g.sent ≡ f.sent
  pub fence : g.fence ≡ f.fence
  pub last_worker : g.last_worker ≡ f.last_worker + joining
  pub bad : (k : ℕ) → f.bad k ≡ true → g.bad k ≡ true
  pub losses : (k : ℕ) → g.losses k ≡ cond (losing k) (f.losses k + 1) (f.losses k)
  pub threads : (i : ℕ) → connected g i ≡ true → i ≤ f.last_worker → connected f i ≡ true

cond_true : (b c : Bool) → c ≡ true → cond b true c ≡ true
cond_true true c e = refl
cond_true false c e = e

same_frame : (f : Facts) → IsFramed f 0 nobody f
same_frame f = record { setting = refl; counter = omega arith; sent = refl; fence = refl; last_worker = omega arith; bad = λ k e. e; losses = λ k. refl; threads = λ i e l. e }

frame_where : (f g : Facts) (b : Bool) → IsFramed f 0 nobody g → IsFramed f 0 nobody (cond b g f)
frame_where f g true h = h
frame_where f g false h = same_frame f

frame_then : (f g h : Facts) → IsFramed f 0 nobody g → IsFramed g 0 nobody h → IsFramed f 0 nobody h
frame_then f g h p q = record { setting = q.setting ∙ p.setting; counter = omega (arith, p.counter, q.counter); sent = q.sent ∙ p.sent; fence = q.fence ∙ p.fence; last_worker = omega (arith, p.last_worker, q.last_worker); bad = λ k e. q.bad k (p.bad k e); losses = λ k. q.losses k ∙ p.losses k; threads = λ i e l. p.threads i (q.threads i e (omega (arith, l, p.last_worker))) l }

frame_stolen : (f : Facts) (q : ℕ) (o : Option (ℕ × Bool)) → IsFramed f 0 nobody (stolen_to f q o)
frame_stolen f q None = same_frame f
frame_stolen f q (Some p) = pick (connected f p.0)
  where
    pick : (c : Bool) → IsFramed f 0 nobody (cond c (record f { on = put f.on q (Some (p.0, f.counter)); steal = put f.steal q None; counter = f.counter + 1 }) (record f { on = put f.on q None; steal = put f.steal q None }))
    pick true = record { setting = refl; counter = omega arith; sent = refl; fence = refl; last_worker = omega arith; bad = λ k e. e; losses = λ k. refl; threads = λ i e l. e }
    pick false = record { setting = refl; counter = omega arith; sent = refl; fence = refl; last_worker = omega arith; bad = λ k e. e; losses = λ k. refl; threads = λ i e l. e }

frame_add : (w seen : ℕ) (g : Changed) (k : ℕ) → IsFramed g.facts 0 nobody (add_key w seen g k).facts
frame_add w seen g k = pick (nat_le (g.facts.fence w k) seen) (holds g.facts w k) (held g.facts k) (is_on g.facts w k)
  where
    pick : (a b c d : Bool) → IsFramed g.facts 0 nobody (cond a (cond b g (cond c (record g { facts = record g.facts { has = put_pair g.facts.has w k (Some g.facts.counter); counter = g.facts.counter + 1 } }) (cond d g (record g { freed = put_pair g.freed w k true })))) g).facts
    pick true true c d = same_frame g.facts
    pick true false true d = record { setting = refl; counter = omega arith; sent = refl; fence = refl; last_worker = omega arith; bad = λ k e. e; losses = λ k. refl; threads = λ i e l. e }
    pick true false false true = same_frame g.facts
    pick true false false false = same_frame g.facts
    pick false b c d = same_frame g.facts

frame_adds : (w seen : ℕ) (g : Changed) (ks : List ℕ) → IsFramed g.facts 0 nobody (add_keys w seen g ks).facts
frame_adds w seen g [] = same_frame g.facts
frame_adds w seen g (k ∷ ks) = frame_then g.facts (add_key w seen g k).facts (add_keys w seen (add_key w seen g k) ks).facts (frame_add w seen g k) (frame_adds w seen (add_key w seen g k) ks)

frame_lost : (f : Facts) (x k c : ℕ) → IsFramed f 0 nobody (lost_copy f x k c).facts
unfolding lost_copy
frame_lost f x k c = pick (is_copy c (f.has x k))
  where
    pick : (b : Bool) → IsFramed f 0 nobody (cond b (record (plain (record f { has = put_pair f.has x k None })) { freed = put_pair (λ w j. false) x k true }) (plain f)).facts
    pick true = record { setting = refl; counter = omega arith; sent = refl; fence = refl; last_worker = omega arith; bad = λ k e. e; losses = λ k. refl; threads = λ i e l. e }
    pick false = same_frame f

frame_up : (f : Facts) (w : ℕ) (m : Up) → IsFramed f 0 nobody (change_up f w m).facts
unfolding finished failed released answered
frame_up f w (TaskFinished seen q a) = frame_where f _ (is_this w a (f.on q)) (record { setting = refl; counter = omega arith; sent = refl; fence = refl; last_worker = omega arith; bad = λ k e. e; losses = λ k. refl; threads = λ i e l. e })
frame_up f w (TaskErred seen q a) = frame_where f _ (is_this w a (f.on q)) (record { setting = refl; counter = omega arith; sent = refl; fence = refl; last_worker = omega arith; bad = λ k e. cond_true (eqb k q) (f.bad k) e; losses = λ k. refl; threads = λ i e l. e })
frame_up f w (AddKeys seen ks) = frame_adds w seen (plain f) ks
frame_up f w (ReleaseWorkerData seen q) = frame_where f _ (nat_le (f.fence w q) seen) (record { setting = refl; counter = omega arith; sent = refl; fence = refl; last_worker = omega arith; bad = λ k e. e; losses = λ k. refl; threads = λ i e l. e })
frame_up f w (MissingData seen q x c) = frame_lost f x q c
frame_up f w (RequestRefreshWhoHas seen q) = same_frame f
frame_up f w (StealResponse seen q a true) = frame_where f _ (is_this w a (f.on q) && is_asked_back (f.steal q)) (frame_stolen f q (f.steal q))
frame_up f w (StealResponse seen q a false) = frame_where f _ (is_this w a (f.on q) && is_asked_back (f.steal q)) (record { setting = refl; counter = omega arith; sent = refl; fence = refl; last_worker = omega arith; bad = λ k e. e; losses = λ k. refl; threads = λ i e l. e })

frame_client : (f : Facts) (c : ℕ) (m : FromClientMessage) → IsFramed f 0 nobody (change_client f c m).facts
unfolding wants_more wants_less
frame_client f c (Want ks) = record { setting = refl; counter = omega arith; sent = refl; fence = refl; last_worker = omega arith; bad = λ k e. e; losses = λ k. refl; threads = λ i e l. e }
frame_client f c (Release ks) = record { setting = refl; counter = omega arith; sent = refl; fence = refl; last_worker = omega arith; bad = λ k e. e; losses = λ k. refl; threads = λ i e l. e }
frame_client f c (Missing k x n) = frame_lost f x k n

frame_balanced : (f : Facts) (o : Option Steal) → IsFramed f 0 nobody (balanced f o).facts
frame_balanced f None = same_frame f
frame_balanced f (Some c) = record { setting = refl; counter = omega arith; sent = refl; fence = refl; last_worker = omega arith; bad = λ k e. e; losses = λ k. refl; threads = λ i e l. e }

frame_evicted : (f : Facts) (o : Option (ℕ × ℕ)) → IsFramed f 0 nobody (evicted f o).facts
frame_evicted f None = same_frame f
frame_evicted f (Some c) = record { setting = refl; counter = omega arith; sent = refl; fence = refl; last_worker = omega arith; bad = λ k e. e; losses = λ k. refl; threads = λ i e l. e }

pub change_framed : (f : Facts) (e : SchedEvent) → IsFramed f (joins_by e) (loses_by f e) (change f e).facts
unfolding joined left
change_framed f (Join n) = record { setting = refl; counter = omega arith; sent = refl; fence = refl; last_worker = omega arith; bad = λ k e. e; losses = λ k. refl; threads = λ i e l. ap (λ b. is_some (cond b (Some n) (f.threads i))) (sym (below i l)) ∙ e }
  where
    below : (i : ℕ) → i ≤ f.last_worker → eqb i (f.last_worker + 1) ≡ false
    below i l = grind (arith, nat_tests)
change_framed f (Leave w) = record { setting = refl; counter = omega arith; sent = refl; fence = refl; last_worker = omega arith; bad = λ k e. or_left (f.bad k) (is_on f w k && is_above f.setting.allowed (f.losses k + 1)) e; losses = λ k. refl; threads = λ i e l. is_some_cond (eqb i w) (f.threads i) e }
change_framed f (FromWorker w m) = frame_up f w m
change_framed f (FromClient c m) = frame_client f c m
change_framed f Balance = frame_balanced f (next_steal f)
change_framed f Evict = frame_evicted f (next_drop f)
change_framed f (Replicate k w) = same_frame f

-- and what each event leaves of the same
pub step_setting : (f : Facts) (e : SchedEvent) → (sched_step f e).facts.setting ≡ f.setting
step_setting f e = (step_settles f e).setting ∙ (change_framed f e).setting

pub step_last : (f : Facts) (e : SchedEvent) → (sched_step f e).facts.last_worker ≡ f.last_worker + joins_by e
step_last f e = (step_settles f e).last_worker ∙ (change_framed f e).last_worker
