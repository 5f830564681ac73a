-- Each copy that the scheduler counts was drawn, and no fence is above what was sent.
use Rattle.std.proofs.Common.{◌≡◌, ℕ, ◌+◌, ◌<◌, ◌≤◌, Bool, true, false, cond, ◌&&◌, List, [], ◌∷◌, Option, Some, None, ap, arith, ⊎_elim}
use Rattle.std.specs.Prelude.{nat_le}
use Rattle.std.proofs.Math.Dec.{eqb}
use Rattle.std.proofs.lemmas.Option.{none-some, same_Some}
use Rattle.cluster_msgs.specs.declared.cores.Steal.{Steal}
use Rattle.cluster_msgs.specs.declared.messages.Up.TheVariants.{TaskFinished, TaskErred, AddKeys, ReleaseWorkerData, MissingData, RequestRefreshWhoHas, StealResponse}
use Rattle.cluster_msgs.specs.declared.messages.FromClient.TheVariants.{Want as WantMessage, Release as ReleaseMessage, Missing as MissingMessage}
use Rattle.cluster_msgs.specs.declared.cores.SchedEvent.{SchedEvent}
use Rattle.cluster_msgs.specs.declared.cores.SchedEvent.TheVariants.{Join, Leave, FromWorker, FromClient, Balance, Evict, Replicate}
use Rattle.cluster_rules.specs.Functions.{put, put_pair}
use Rattle.cluster_rules.specs.Sched.{Facts, holds, held, is_on, connected}
use Rattle.cluster_rules.specs.Policies.{next_steal, next_drop}
use Rattle.cluster_rules.specs.SchedTable.{Changed, plain, change, joined, left, is_this, finished, failed, add_key, add_keys, released, is_copy, lost_copy, is_asked_back, stolen_to, refused, answered, wants_more, wants_less, balanced, evicted}
use Rattle.cluster_rules.specs.SchedStep.{sched_step}
use Rattle.cluster_rules.proofs.SchedFrame.{step_settles}
use Rattle.cluster_laws.proofs.Framed.{change_framed}
use Rattle.quiet_laws.specs.Old.{AreFenced}
use Rattle.quiet_laws.specs.Copies.{HasBelow}

abbrev IsDrawn : Facts → Type 0
IsDrawn f = HasBelow f.counter f

drawn_finished : (f : Facts) (w k a : ℕ) → HasBelow f.counter f → IsDrawn (finished f w k a)
unfolding finished
drawn_finished f w k a h = pick (is_this w a (f.on k))
  where
    one : (x q c : ℕ) (b : Bool) → cond b (Some f.counter) (f.has x q) ≡ Some c → c < f.counter + 1
    one x q c true e = let s : f.counter ≡ c = same_Some f.counter c e in omega (arith, s)
    one x q c false e = let l : c < f.counter = h x q c e in omega (arith, l)

    pick : (b : Bool) → IsDrawn (cond b (record f { on = put f.on k None; steal = put f.steal k None; has = put_pair f.has w k (Some f.counter); counter = f.counter + 1; finishes = f.finishes + 1 }) f)
    pick true = λ x q c e. one x q c (eqb x w && eqb q k) e
    pick false = h

drawn_failed : (f : Facts) (w k a : ℕ) → HasBelow f.counter f → IsDrawn (failed f w k a)
unfolding failed
drawn_failed f w k a h = pick (is_this w a (f.on k))
  where
    pick : (b : Bool) → IsDrawn (cond b (record f { on = put f.on k None; steal = put f.steal k None; bad = put f.bad k true }) f)
    pick true = h
    pick false = h

drawn_gone : (f : Facts) (w k : ℕ) → HasBelow f.counter f → IsDrawn (record f { has = put_pair f.has w k None })
drawn_gone f w k h x q c e = by (eqb x w && eqb q k) e
  where
    by : (b : Bool) → cond b None (f.has x q) ≡ Some c → c < f.counter
    by true e = absurd (none-some c e)
    by false e = h x q c e

drawn_add : (w seen k : ℕ) (g : Changed) → IsDrawn g.facts → IsDrawn (add_key w seen g k).facts
drawn_add w seen k g h = pick (nat_le (g.facts.fence w k) seen) (holds g.facts w k) (held g.facts k) (is_on g.facts w k)
  where
    one : (x q c : ℕ) (b : Bool) → cond b (Some g.facts.counter) (g.facts.has x q) ≡ Some c → c < g.facts.counter + 1
    one x q c true e = let s : g.facts.counter ≡ c = same_Some g.facts.counter c e in omega (arith, s)
    one x q c false e = let l : c < g.facts.counter = h x q c e in omega (arith, l)

    pick : (a b c d : Bool) → IsDrawn (cond a (cond b g (cond c (record g { facts = record g.facts { has = put_pair g.facts.has w k (Some g.facts.counter); counter = g.facts.counter + 1 } }) (cond d g (record g { freed = put_pair g.freed w k true })))) g).facts
    pick false b c d = h
    pick true true c d = h
    pick true false true d = λ x q y e. one x q y (eqb x w && eqb q k) e
    pick true false false true = h
    pick true false false false = h

drawn_adds : (w seen : ℕ) (ks : List ℕ) (g : Changed) → IsDrawn g.facts → IsDrawn (add_keys w seen g ks).facts
drawn_adds w seen [] g h = h
drawn_adds w seen (k ∷ ks) g h = drawn_adds w seen ks (add_key w seen g k) (drawn_add w seen k g h)

drawn_released : (f : Facts) (w seen k : ℕ) → HasBelow f.counter f → IsDrawn (released f w seen k)
unfolding released
drawn_released f w seen k h = pick (nat_le (f.fence w k) seen)
  where
    pick : (b : Bool) → IsDrawn (cond b (record f { has = put_pair f.has w k None }) f)
    pick true = drawn_gone f w k h
    pick false = h

drawn_lost : (f : Facts) (x k c : ℕ) → HasBelow f.counter f → IsDrawn (lost_copy f x k c).facts
unfolding lost_copy
drawn_lost f x k c h = pick (is_copy c (f.has x k))
  where
    pick : (b : Bool) → IsDrawn (cond b (record (plain (record f { has = put_pair f.has x k None })) { freed = put_pair (λ w j. false) x k true }) (plain f)).facts
    pick true = drawn_gone f x k h
    pick false = h

drawn_answered : (f : Facts) (w k a : ℕ) (agreed : Bool) → HasBelow f.counter f → IsDrawn (answered f w k a agreed)
unfolding answered
drawn_answered f w k a agreed h = pick (is_this w a (f.on k) && is_asked_back (f.steal k)) agreed (f.steal k)
  where
    more : (b : Bool) (thief : ℕ) → IsDrawn (cond b (record f { on = put f.on k (Some (thief, f.counter)); steal = put f.steal k None; counter = f.counter + 1 }) (record f { on = put f.on k None; steal = put f.steal k None }))
    more true thief = λ x q c e. let l : c < f.counter = h x q c e in omega (arith, l)
    more false thief = h

    yes_to : (m : Option (ℕ × Bool)) → IsDrawn (stolen_to f k m)
    yes_to None = h
    yes_to (Some q) = more (connected f q.0) q.0

    pick : (b c : Bool) (m : Option (ℕ × Bool)) → IsDrawn (cond b (cond c (stolen_to f k m) (record f { steal = put f.steal k (refused m) })) f)
    pick true true m = yes_to m
    pick true false m = h
    pick false c m = h

drawn_left : (f : Facts) (w : ℕ) → HasBelow f.counter f → IsDrawn (left f w)
unfolding left
drawn_left f w h x q c e = by (eqb x w) e
  where
    by : (b : Bool) → cond b None (f.has x q) ≡ Some c → c < f.counter
    by true e = absurd (none-some c e)
    by false e = h x q c e

drawn_balanced : (f : Facts) (o : Option Steal) → HasBelow f.counter f → IsDrawn (balanced f o).facts
drawn_balanced f None h = h
drawn_balanced f (Some c) h = h

drawn_evicted : (f : Facts) (o : Option (ℕ × ℕ)) → HasBelow f.counter f → IsDrawn (evicted f o).facts
drawn_evicted f None h = h
drawn_evicted f (Some p) h = drawn_gone f p.0 p.1 h

drawn_change : (f : Facts) (s : SchedEvent) → HasBelow f.counter f → IsDrawn (change f s).facts
unfolding joined wants_more wants_less
drawn_change f (Join threads) h = h
drawn_change f (Leave w) h = drawn_left f w h
drawn_change f (FromWorker w (TaskFinished seen k a)) h = drawn_finished f w k a h
drawn_change f (FromWorker w (TaskErred seen k a)) h = drawn_failed f w k a h
drawn_change f (FromWorker w (AddKeys seen ks)) h = drawn_adds w seen ks (plain f) h
drawn_change f (FromWorker w (ReleaseWorkerData seen k)) h = drawn_released f w seen k h
drawn_change f (FromWorker w (MissingData seen k x c)) h = drawn_lost f x k c h
drawn_change f (FromWorker w (RequestRefreshWhoHas seen k)) h = h
drawn_change f (FromWorker w (StealResponse seen k a agreed)) h = drawn_answered f w k a agreed h
drawn_change f (FromClient c (WantMessage ks)) h = h
drawn_change f (FromClient c (ReleaseMessage ks)) h = h
drawn_change f (FromClient c (MissingMessage k x n)) h = drawn_lost f x k n h
drawn_change f Balance h = drawn_balanced f (next_steal f) h
drawn_change f Evict h = drawn_evicted f (next_drop f) h
drawn_change f (Replicate k w) h = h

pub drawn_step : (f : Facts) (s : SchedEvent) → HasBelow f.counter f → HasBelow (sched_step f s).facts.counter (sched_step f s).facts
drawn_step f s h x k c e = let z = step_settles f s in let l : c < (change f s).facts.counter = drawn_change f s h x k c (z.has x k c e) in let m = z.counter in omega (arith, l, m)

pub counter_step : (f : Facts) (s : SchedEvent) → f.counter ≤ (sched_step f s).facts.counter
counter_step f s = let z = (step_settles f s).counter in let m = (change_framed f s).counter in omega (arith, z, m)

-- ## Fences

pub fenced_step : (f : Facts) (s : SchedEvent) → AreFenced f → AreFenced (sched_step f s).facts
fenced_step f s h i k =
    let z = step_settles f s in
    let a = z.sent i in
    let b : (change f s).facts.sent i ≡ f.sent i = ap (λ y. y i) (change_framed f s).sent in
    let c : (change f s).facts.fence i k ≡ f.fence i k = ap (λ y. y i k) (change_framed f s).fence in
    let l : f.fence i k ≤ f.sent i = h i k in
    ⊎_elim (λ e. omega (arith, a, b, c, l, e)) (λ e. let q = e.1 in omega (arith, a, b, c, l, q)) (z.fence i k)
