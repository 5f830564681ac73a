-- No event by itself makes a key with an error of its own a held one.
use Rattle.std.proofs.Common.{◌≡◌, ℕ, ◌+◌, Bool, true, false, not, ◌&&◌, ◌||◌, cond, List, [], ◌∷◌, Option, Some, None, refl, sym, ap, ◌∙◌, arith, is_some, ⊎_elim}
use Rattle.std.specs.Prelude.{nat_le}
use Rattle.std.proofs.lemmas.Bool.{false≢true, eqb-true, and_from, not-true, not_from_false, or_left, or_cases}
use Rattle.std.proofs.Math.Dec.{eqb}
use Rattle.std.specs.List.{list_any, Contains}
use Rattle.small_facts.proofs.Options.{is_some_cond}
use Rattle.small_facts.proofs.Ranges.{range_has}
use Rattle.small_facts.proofs.Truth.{and_first, and_second}
use Rattle.cluster_msgs.specs.declared.cores.Steal.{Steal}
use Rattle.cluster_msgs.specs.declared.cores.SchedEvent.{SchedEvent}
use Rattle.cluster_msgs.specs.declared.cores.SchedEvent.TheVariants.{Join, Leave, FromWorker, FromClient, Balance, Evict, Replicate}
use Rattle.cluster_msgs.specs.declared.messages.Up.{Up}
use Rattle.cluster_msgs.specs.declared.messages.Up.TheVariants.{TaskFinished, TaskErred, AddKeys, ReleaseWorkerData, MissingData, RequestRefreshWhoHas, StealResponse}
use Rattle.cluster_msgs.specs.declared.messages.FromClient.{FromClient as FromClientMessage}
use Rattle.cluster_msgs.specs.declared.messages.FromClient.TheVariants.{Want, Release, Missing}
use Rattle.cluster_rules.specs.Functions.{put, put_pair, from_one}
use Rattle.cluster_rules.specs.Sched.{Facts, IsSound, deps, holds, held, erred, need, ready, fed, open_key, connected, is_on, is_for, is_above}
use Rattle.cluster_rules.specs.Policies.{next_steal, next_drop}
use Rattle.cluster_rules.specs.SchedTable.{Changed, change, change_up, change_client, plain, joined, left, is_this, finished, failed, add_key, add_keys, released, is_copy, lost_copy, is_asked_back, stolen_to, refused, answered, wants_more, wants_less, balanced, evicted}
use Rattle.cluster_rules.proofs.SchedLemmas.{erred-is}
use Rattle.cluster_rules.proofs.Members.{any_some}
use Rattle.cluster_laws.specs.Settled.{IsSettled}
use Rattle.cluster_rules.proofs.PolicyLemmas.{any_true}

-- no worker holds a key with an error of its own
abbrev pub AreApart : Facts → Type 0
AreApart f = (w k : ℕ) → f.bad k ≡ true → holds f w k ≡ true → ⊥

-- what a worker holds is held
pub holder_holds : (f : Facts) → IsSound f → (w k : ℕ) → holds f w k ≡ true → held f k ≡ true
unfolding held
holder_holds f s w k e =
    let r = s.numbers w (s.holders w k e) in
    any_some (λ v. holds f v k) (from_one f.last_worker) w (range_has 1 f.last_worker w r.0 (omega (arith, r.1))) e

pub holder_of : (f : Facts) (k : ℕ) → held f k ≡ true → (w : ℕ) × (holds f w k ≡ true)
unfolding held
holder_of f k e = pick (any_true (λ v. holds f v k) (from_one f.last_worker) e)
  where
    pick : (w : ℕ) × Contains (from_one f.last_worker) w × (holds f w k ≡ true) → (w : ℕ) × (holds f w k ≡ true)
    pick (w, m, h) = (w, h)

pub apart_from : (f : Facts) → IsSound f → IsSettled f → AreApart f
apart_from f s t w k b h = false≢true (sym (t.errors_are_not_held k b) ∙ holder_holds f s w k h)

-- a ready key is not held, and has no error of its own
pub ready_is_not_held : (f : Facts) (k : ℕ) → ready f k ≡ true → held f k ≡ false
unfolding ready
ready_is_not_held f k r =
    let o = and_second (need f k) (open_key f k) (and_first (need f k && open_key f k) (fed f k) r) in
    not-true (held f k) (and_first (not (held f k)) (not (erred f k)) o)

ready_has_not_erred : (f : Facts) (k : ℕ) → ready f k ≡ true → erred f k ≡ false
unfolding ready
ready_has_not_erred f k r =
    let o = and_second (need f k) (open_key f k) (and_first (need f k && open_key f k) (fed f k) r) in
    not-true (erred f k) (and_second (not (held f k)) (not (erred f k)) o)

pub ready_is_not_bad : (f : Facts) → IsSound f → (k : ℕ) → ready f k ≡ true → f.bad k ≡ true → ⊥
ready_is_not_bad f s k r b = false≢true (sym (ready_has_not_erred f k r) ∙ erred-is f s k
    ∙ and_from (not (held f k)) (f.bad k || list_any (erred f) (deps f k)) (not_from_false (held f k) (ready_is_not_held f k r)) (or_left (f.bad k) (list_any (erred f) (deps f k)) b))

-- ## Each row of the table

pub on_is_some : (w : ℕ) (o : Option (ℕ × ℕ)) → is_for w o ≡ true → is_some o ≡ true
on_is_some w None e = absurd (false≢true e)
on_is_some w (Some p) e = refl

pub this_is_some : (w a : ℕ) (o : Option (ℕ × ℕ)) → is_this w a o ≡ true → is_some o ≡ true
this_is_some w a None e = absurd (false≢true e)
this_is_some w a (Some p) e = refl

placed_this : (f : Facts) → IsSettled f → (w k a : ℕ) → is_this w a (f.on k) ≡ true → ready f k ≡ true
placed_this f t w k a e = t.placed_are_ready k (this_is_some w a (f.on k) e)

apart_finished : (f : Facts) → IsSound f → IsSettled f → (w k a : ℕ) → AreApart (finished f w k a)
unfolding finished
apart_finished f s t w k a v j b h = pick (is_this w a (f.on k)) refl b h
  where
    one : ready f k ≡ true → (c : Bool) → (eqb v w && eqb j k) ≡ c → f.bad j ≡ true → is_some (cond c (Some f.counter) (f.has v j)) ≡ true → ⊥
    one r true q x y = ready_is_not_bad f s k r (ap f.bad (sym (eqb-true j k (and_second (eqb v w) (eqb j k) q))) ∙ x)
    one r false q x y = apart_from f s t v j x y

    pick : (c : Bool) → is_this w a (f.on k) ≡ c → (cond c (record f { on = put f.on k None; steal = put f.steal k None; has = put_pair f.has w k (Some f.counter); counter = f.counter + 1; finishes = f.finishes + 1 }) f).bad j ≡ true → is_some ((cond c (record f { on = put f.on k None; steal = put f.steal k None; has = put_pair f.has w k (Some f.counter); counter = f.counter + 1; finishes = f.finishes + 1 }) f).has v j) ≡ true → ⊥
    pick true q x y = one (placed_this f t w k a q) (eqb v w && eqb j k) refl x y
    pick false q x y = apart_from f s t v j x y

apart_failed : (f : Facts) → IsSound f → IsSettled f → (w k a : ℕ) → AreApart (failed f w k a)
unfolding failed
apart_failed f s t w k a v j b h = pick (is_this w a (f.on k)) refl b h
  where
    one : ready f k ≡ true → (c : Bool) → eqb j k ≡ c → cond c true (f.bad j) ≡ true → holds f v j ≡ true → ⊥
    one r true q x y = false≢true (sym (ready_is_not_held f k r) ∙ ap (held f) (sym (eqb-true j k q)) ∙ holder_holds f s v j y)
    one r false q x y = apart_from f s t v j x y

    pick : (c : Bool) → is_this w a (f.on k) ≡ c → (cond c (record f { on = put f.on k None; steal = put f.steal k None; bad = put f.bad k true }) f).bad j ≡ true → is_some ((cond c (record f { on = put f.on k None; steal = put f.steal k None; bad = put f.bad k true }) f).has v j) ≡ true → ⊥
    pick true q x y = one (placed_this f t w k a q) (eqb j k) refl x y
    pick false q x y = apart_from f s t v j x y

apart_gone : (f : Facts) → AreApart f → (w k : ℕ) → AreApart (record f { has = put_pair f.has w k None })
apart_gone f p w k v j b h = p v j b (is_some_cond (eqb v w && eqb j k) (f.has v j) h)

apart_add_key : (w seen : ℕ) (g : Changed) (k : ℕ) → AreApart g.facts → AreApart (add_key w seen g k).facts
apart_add_key w seen g k p v j b h = pick (nat_le (g.facts.fence w k) seen) (holds g.facts w k) (held g.facts k) refl (is_on g.facts w k) b h
  where
    given : held g.facts k ≡ true → (c : Bool) → (eqb v w && eqb j k) ≡ c → g.facts.bad j ≡ true → is_some (cond c (Some g.facts.counter) (g.facts.has v j)) ≡ true → ⊥
    given q true e x y = other (holder_of g.facts k q)
      where
        other : (u : ℕ) × (holds g.facts u k ≡ true) → ⊥
        other (u, z) = p u k (ap g.facts.bad (sym (eqb-true j k (and_second (eqb v w) (eqb j k) e))) ∙ x) z
    given q false e x y = p v j x y

    pick : (a c d : Bool) → held g.facts k ≡ d → (e : Bool) → (cond a (cond c g (cond d (record g { facts = record g.facts { has = put_pair g.facts.has w k (Some g.facts.counter); counter = g.facts.counter + 1 } }) (cond e g (record g { freed = put_pair g.freed w k true })))) g).facts.bad j ≡ true → is_some ((cond a (cond c g (cond d (record g { facts = record g.facts { has = put_pair g.facts.has w k (Some g.facts.counter); counter = g.facts.counter + 1 } }) (cond e g (record g { freed = put_pair g.freed w k true })))) g).facts.has v j) ≡ true → ⊥
    pick true true d q e x y = p v j x y
    pick true false true q e x y = given q (eqb v w && eqb j k) refl x y
    pick true false false q true x y = p v j x y
    pick true false false q false x y = p v j x y
    pick false c d q e x y = p v j x y

apart_add_keys : (w seen : ℕ) (g : Changed) (ks : List ℕ) → AreApart g.facts → AreApart (add_keys w seen g ks).facts
apart_add_keys w seen g [] p = p
apart_add_keys w seen g (k ∷ ks) p = apart_add_keys w seen (add_key w seen g k) ks (apart_add_key w seen g k p)

apart_released : (f : Facts) → AreApart f → (w seen k : ℕ) → AreApart (released f w seen k)
unfolding released
apart_released f p w seen k = pick (nat_le (f.fence w k) seen)
  where
    pick : (b : Bool) → AreApart (cond b (record f { has = put_pair f.has w k None }) f)
    pick true = apart_gone f p w k
    pick false = p

apart_lost_copy : (f : Facts) → AreApart f → (x k c : ℕ) → AreApart (lost_copy f x k c).facts
unfolding lost_copy
apart_lost_copy f p x k c = pick (is_copy c (f.has x k))
  where
    pick : (b : Bool) → AreApart (cond b (record (plain (record f { has = put_pair f.has x k None })) { freed = put_pair (λ w j. false) x k true }) (plain f)).facts
    pick true = apart_gone f p x k
    pick false = p

apart_answered : (f : Facts) → AreApart f → (w k a : ℕ) (agreed : Bool) → AreApart (answered f w k a agreed)
unfolding answered
apart_answered f p w k a agreed = pick (is_this w a (f.on k) && is_asked_back (f.steal k)) agreed (f.steal k)
  where
    to : (b : Bool) (thief : ℕ) → AreApart (cond b
        (record f { on = put f.on k (Some (thief, f.counter)); steal = put f.steal k None; counter = f.counter + 1 })
        (record f { on = put f.on k None; steal = put f.steal k None }))
    to true thief = p
    to false thief = p

    yes_to : (m : Option (ℕ × Bool)) → AreApart (stolen_to f k m)
    yes_to None = p
    yes_to (Some q) = to (connected f q.0) q.0

    pick : (b c : Bool) (m : Option (ℕ × Bool)) → AreApart (cond b (cond c (stolen_to f k m) (record f { steal = put f.steal k (refused m) })) f)
    pick true true m = yes_to m
    pick true false m = p
    pick false c m = p

-- a key that lost its worker once too often is not held: it was ready
apart_left : (f : Facts) → IsSound f → IsSettled f → (w : ℕ) → AreApart (left f w)
unfolding left
apart_left f s t w v j b h = ⊎_elim
    (λ x. apart_from f s t v j x (is_some_cond (eqb v w) (f.has v j) h))
    (λ x. false≢true (sym (ready_is_not_held f j (t.placed_are_ready j (on_is_some w (f.on j) (and_first (is_on f w j) (is_above f.setting.allowed (f.losses j + 1)) x)))) ∙ holder_holds f s v j (is_some_cond (eqb v w) (f.has v j) h)))
    (or_cases (f.bad j) (is_on f w j && is_above f.setting.allowed (f.losses j + 1)) b)

apart_balanced : (f : Facts) → AreApart f → (c : Option Steal) → AreApart (balanced f c).facts
apart_balanced f p None = p
apart_balanced f p (Some c) = p

apart_evicted : (f : Facts) → AreApart f → (c : Option (ℕ × ℕ)) → AreApart (evicted f c).facts
apart_evicted f p None = p
apart_evicted f p (Some c) = apart_gone f p c.0 c.1

apart_up : (f : Facts) → IsSound f → IsSettled f → (w : ℕ) (up : Up) → AreApart (change_up f w up).facts
apart_up f s t w (TaskFinished seen k a) = apart_finished f s t w k a
apart_up f s t w (TaskErred seen k a) = apart_failed f s t w k a
apart_up f s t w (AddKeys seen ks) = apart_add_keys w seen (plain f) ks (apart_from f s t)
apart_up f s t w (ReleaseWorkerData seen k) = apart_released f (apart_from f s t) w seen k
apart_up f s t w (MissingData seen k x c) = apart_lost_copy f (apart_from f s t) x k c
apart_up f s t w (RequestRefreshWhoHas seen k) = apart_from f s t
apart_up f s t w (StealResponse seen k a agreed) = apart_answered f (apart_from f s t) w k a agreed

apart_client : (f : Facts) → AreApart f → (c : ℕ) (m : FromClientMessage) → AreApart (change_client f c m).facts
unfolding wants_more wants_less
apart_client f p c (Want ks) = p
apart_client f p c (Release ks) = p
apart_client f p c (Missing k x copy) = apart_lost_copy f p x k copy

apart_joined : (f : Facts) → AreApart f → (threads : ℕ) → AreApart (joined f threads)
unfolding joined
apart_joined f p threads = p

pub apart_changed : (f : Facts) → IsSound f → IsSettled f → (e : SchedEvent) → AreApart (change f e).facts
apart_changed f s t (Join threads) = apart_joined f (apart_from f s t) threads
apart_changed f s t (Leave w) = apart_left f s t w
apart_changed f s t (FromWorker w up) = apart_up f s t w up
apart_changed f s t (FromClient c m) = apart_client f (apart_from f s t) c m
apart_changed f s t Balance = apart_balanced f (apart_from f s t) (next_steal f)
apart_changed f s t Evict = apart_evicted f (apart_from f s t) (next_drop f)
apart_changed f s t (Replicate k w) = apart_from f s t
