-- Each event that is taken keeps every fact in range.
use Rattle.std.proofs.Common.{◌≡◌, ℕ, ◌+◌, ◌<◌, ◌≤◌, Bool, true, false, cond, ◌&&◌, List, [], ◌∷◌, length, Option, Some, None, refl, sym, ap, ◌∙◌, subst, is_some}
use Rattle.std.specs.Prelude.{nat_le, nat_lt}
use Rattle.std.proofs.lemmas.Bool.{false≢true, eqb-true, ltb-true, and_parts}
use Rattle.std.proofs.Math.Dec.{eqb, ltb}
use Rattle.std.specs.List.{filter, list_all}
use Rattle.std.proofs.Math.Bool.{and-false}
use Rattle.small_facts.proofs.Numbers.{unequal_past}
use Rattle.small_facts.proofs.Options.{cond_none, some_not_none}
use Rattle.cluster_msgs.specs.Shape.{IsShape}
use Rattle.cluster_rules.specs.Functions.{put, put_pair, from_one}
use Rattle.cluster_rules.specs.Sched.{Setting, Facts, IsSound, keys, holds, held, is_on, is_for, connected}
use Rattle.cluster_rules.specs.Policies.{place}
use Rattle.cluster_rules.specs.SchedTable.{Changed, plain, change, finished, failed, add_key, add_keys, released, lost_copy, is_copy, is_this, answered, stolen_by, stolen_to, refused, is_asked_back, are_keys}

-- what a change of facts has to keep where nobody joins or leaves
pub record IsBounded (f g : Facts) : Type 0 where
  pub setting : g.setting ≡ f.setting
  pub threads : g.threads ≡ f.threads
  pub last_worker : g.last_worker ≡ f.last_worker
  pub want : (c k : ℕ) → keys f ≤ k → g.want c k ≡ false
  pub has : (w k : ℕ) → keys f ≤ k → g.has w k ≡ None
  pub bad : (k : ℕ) → keys f ≤ k → g.bad k ≡ false
  pub losses : (k : ℕ) → keys f ≤ k → g.losses k ≡ 0
  pub on : (k : ℕ) → keys f ≤ k → g.on k ≡ None
  pub steal : (k : ℕ) → g.on k ≡ None → g.steal k ≡ None
  pub holders : (w k : ℕ) → holds g w k ≡ true → connected f w ≡ true
  pub places : (w k : ℕ) → is_on g w k ≡ true → connected f w ≡ true

pub bounded_self : (f : Facts) → IsSound f → IsBounded f f
bounded_self f s = record { setting = refl; threads = refl; last_worker = refl; want = s.want; has = s.has; bad = s.bad; losses = s.losses; on = s.on; steal = s.steal; holders = s.holders; places = s.places }

pub sound_bounded : (f g : Facts) → IsSound f → IsBounded f g → IsSound g
sound_bounded f g s b = record {
  shape = subst (λ (c : Setting). IsShape c.shape) (sym b.setting) s.shape;
  few_clients = subst (λ (c : Setting). c.clients ≤ 16) (sym b.setting) s.few_clients;
  saturation = subst (λ (c : Setting). (1 ≤ c.saturation) × (c.saturation ≤ 1000)) (sym b.setting) s.saturation;
  want = λ c k l. b.want c k (same_keys k l);
  has = λ w k l. b.has w k (same_keys k l);
  bad = λ k l. b.bad k (same_keys k l);
  losses = λ k l. b.losses k (same_keys k l);
  on = λ k l. b.on k (same_keys k l);
  steal = b.steal;
  numbers = λ w e. let n = s.numbers w (ap (λ t. is_some (t w)) (sym b.threads) ∙ e) in (n.0, subst (λ m. w ≤ m) (sym b.last_worker) n.1);
  threads = λ w n e. s.threads w n (ap (λ t. t w) (sym b.threads) ∙ e);
  few_workers = subst (λ m. length (filter (λ w. is_some (g.threads w)) (from_one m)) ≤ 64) (sym b.last_worker) (subst (λ t. length (filter (λ w. is_some (t w)) (from_one f.last_worker)) ≤ 64) (sym b.threads) s.few_workers);
  few_numbers = subst (λ m. m ≤ 1024) (sym b.last_worker) s.few_numbers;
  holders = λ w k e. ap (λ t. is_some (t w)) b.threads ∙ b.holders w k e;
  places = λ w k e. ap (λ t. is_some (t w)) b.threads ∙ b.places w k e;
}
  where
    same_keys : (k : ℕ) → keys g ≤ k → keys f ≤ k
    same_keys k l = subst (λ (c : Setting). length c.shape.deps ≤ k) b.setting l

pub put_past : {A : Type 0} (f : ℕ → Option A) (k n j : ℕ) (v : Option A) → k < n → n ≤ j → f j ≡ None → put f k v j ≡ None
put_past f k n j v l m e = ap (λ b. cond b v (f j)) (unequal_past j k n l m) ∙ e

put_pair_past : {A : Type 0} (f : ℕ → ℕ → Option A) (w k n v j : ℕ) (x : Option A) → k < n → n ≤ j → f v j ≡ None → put_pair f w k x v j ≡ None
put_pair_past f w k n v j x l m e = ap (λ b. cond (eqb v w && b) x (f v j)) (unequal_past j k n l m) ∙ ap (λ b. cond b x (f v j)) (and-false (eqb v w)) ∙ e

-- who holds a key after a write, and who has it
held_then : (f : Facts) (w k : ℕ) (x : Option ℕ) → IsSound f → connected f w ≡ true → (v j : ℕ) → is_some (put_pair f.has w k x v j) ≡ true → connected f v ≡ true
held_then f w k x s c v j h = pick (eqb v w && eqb j k) refl h
  where
    pick : (b : Bool) → (eqb v w && eqb j k) ≡ b → is_some (cond b x (f.has v j)) ≡ true → connected f v ≡ true
    pick true e g = subst (λ u. connected f u ≡ true) (sym (eqb-true v w (and_parts (eqb v w) (eqb j k) e).0)) c
    pick false e g = s.holders v j g

held_less : (f : Facts) (b : Bool) → IsSound f → (v j : ℕ) → is_some (cond b None (f.has v j)) ≡ true → connected f v ≡ true
held_less f true s v j h = absurd (false≢true h)
held_less f false s v j h = s.holders v j h

pub held_some : (f : Facts) (b : Bool) → IsSound f → (v j : ℕ) → is_some (cond b (f.has v j) None) ≡ true → connected f v ≡ true
held_some f true s v j h = s.holders v j h
held_some f false s v j h = absurd (false≢true h)

on_less : (f : Facts) (b : Bool) → IsSound f → (v j : ℕ) → is_for v (cond b None (f.on j)) ≡ true → connected f v ≡ true
on_less f true s v j h = absurd (false≢true h)
on_less f false s v j h = s.places v j h

pub on_some : (f : Facts) (b : Bool) → IsSound f → (v j : ℕ) → is_for v (cond b (f.on j) None) ≡ true → connected f v ≡ true
on_some f true s v j h = s.places v j h
on_some f false s v j h = absurd (false≢true h)

pub on_then : (f : Facts) (b : Bool) (w a : ℕ) → IsSound f → connected f w ≡ true → (v j : ℕ) → is_for v (cond b (Some (w, a)) (f.on j)) ≡ true → connected f v ≡ true
on_then f true w a s c v j h = subst (λ u. connected f u ≡ true) (eqb-true w v h) c
on_then f false w a s c v j h = s.places v j h

pub steal_less : (f : Facts) (b : Bool) → IsSound f → (j : ℕ) → cond b None (f.on j) ≡ None → cond b None (f.steal j) ≡ None
steal_less f true s j h = refl
steal_less f false s j h = s.steal j h

-- the rows
pub bounded_finished : (f : Facts) → IsSound f → (w k a : ℕ) → k < keys f → connected f w ≡ true → IsBounded f (finished f w k a)
unfolding finished
bounded_finished f s w k a l c = pick (is_this w a (f.on k))
  where
    pick : (b : Bool) → IsBounded f (cond b (record f { on = put f.on k None; steal = put f.steal k None; has = put_pair f.has w k (Some f.counter); counter = f.counter + 1; finishes = f.finishes + 1 }) f)
    pick true = record {
      setting = refl;
      threads = refl;
      last_worker = refl;
      want = s.want;
      has = λ v j m. put_pair_past f.has w k (keys f) v j (Some f.counter) l m (s.has v j m);
      bad = s.bad;
      losses = s.losses;
      on = λ j m. cond_none (eqb j k) (f.on j) (s.on j m);
      steal = λ j h. steal_less f (eqb j k) s j h;
      holders = held_then f w k (Some f.counter) s c;
      places = λ v j h. on_less f (eqb j k) s v j h;
    }
    pick false = bounded_self f s

false_kept : (b x y : Bool) → b ≡ false → y ≡ false → cond b x y ≡ false
false_kept b x y e g = ap (λ c. cond c x y) e ∙ g

pub bounded_failed : (f : Facts) → IsSound f → (w k a : ℕ) → k < keys f → IsBounded f (failed f w k a)
unfolding failed
bounded_failed f s w k a l = pick (is_this w a (f.on k))
  where
    pick : (b : Bool) → IsBounded f (cond b (record f { on = put f.on k None; steal = put f.steal k None; bad = put f.bad k true }) f)
    pick true = record {
      setting = refl;
      threads = refl;
      last_worker = refl;
      want = s.want;
      has = s.has;
      bad = λ j m. false_kept (eqb j k) true (f.bad j) (unequal_past j k (keys f) l m) (s.bad j m);
      losses = s.losses;
      on = λ j m. cond_none (eqb j k) (f.on j) (s.on j m);
      steal = λ j h. steal_less f (eqb j k) s j h;
      holders = s.holders;
      places = λ v j h. on_less f (eqb j k) s v j h;
    }
    pick false = bounded_self f s

-- another copy at a worker, or none
bounded_copy : (f : Facts) → IsSound f → (w k n : ℕ) (x : Option ℕ) → k < keys f → connected f w ≡ true → IsBounded f (record f { has = put_pair f.has w k x; counter = n })
bounded_copy f s w k n x l c = record {
  setting = refl;
  threads = refl;
  last_worker = refl;
  want = s.want;
  has = λ v j m. put_pair_past f.has w k (keys f) v j x l m (s.has v j m);
  bad = s.bad;
  losses = s.losses;
  on = s.on;
  steal = s.steal;
  holders = held_then f w k x s c;
  places = s.places;
}

pub bounded_gone : (f : Facts) → IsSound f → (w k : ℕ) → IsBounded f (record f { has = put_pair f.has w k None })
bounded_gone f s w k = record {
  setting = refl;
  threads = refl;
  last_worker = refl;
  want = s.want;
  has = λ v j m. cond_none (eqb v w && eqb j k) (f.has v j) (s.has v j m);
  bad = s.bad;
  losses = s.losses;
  on = s.on;
  steal = s.steal;
  holders = λ v j h. held_less f (eqb v w && eqb j k) s v j h;
  places = s.places;
}

pub bounded_then : (f g h : Facts) → IsBounded f g → IsBounded g h → IsBounded f h
bounded_then f g h p q = record {
  setting = q.setting ∙ p.setting;
  threads = q.threads ∙ p.threads;
  last_worker = q.last_worker ∙ p.last_worker;
  want = λ c k l. q.want c k (same_keys k l);
  has = λ w k l. q.has w k (same_keys k l);
  bad = λ k l. q.bad k (same_keys k l);
  losses = λ k l. q.losses k (same_keys k l);
  on = λ k l. q.on k (same_keys k l);
  steal = q.steal;
  holders = λ w k e. ap (λ t. is_some (t w)) (sym p.threads) ∙ q.holders w k e;
  places = λ w k e. ap (λ t. is_some (t w)) (sym p.threads) ∙ q.places w k e;
}
  where
    same_keys : (k : ℕ) → keys f ≤ k → keys g ≤ k
    same_keys k l = subst (λ (c : Setting). length c.shape.deps ≤ k) (sym p.setting) l

bounded_add_key : (w seen : ℕ) (g : Changed) (k : ℕ) → IsSound g.facts → k < keys g.facts → connected g.facts w ≡ true → IsBounded g.facts (add_key w seen g k).facts
bounded_add_key w seen g k s l c = pick (nat_le (g.facts.fence w k) seen) (holds g.facts w k) (held g.facts k) (is_on g.facts w k)
  where
    pick : (a b d e : Bool) → IsBounded g.facts (cond a (cond b g (cond d (record g { facts = record g.facts { has = put_pair g.facts.has w k (Some g.facts.counter); counter = g.facts.counter + 1 } }) (cond e g (record g { freed = put_pair g.freed w k true })))) g).facts
    pick true true d e = bounded_self g.facts s
    pick true false true e = bounded_copy g.facts s w k (g.facts.counter + 1) (Some g.facts.counter) l c
    pick true false false true = bounded_self g.facts s
    pick true false false false = bounded_self g.facts s
    pick false b d e = bounded_self g.facts s

key_there : (f g : Facts) → g.setting ≡ f.setting → (ks : List ℕ) → are_keys f ks ≡ true → are_keys g ks ≡ true
key_there f g e ks h = ap (λ (c : Setting). list_all (λ k. nat_lt k (length c.shape.deps)) ks) e ∙ h

pub bounded_add_keys : (w seen : ℕ) (g : Changed) (ks : List ℕ) → IsSound g.facts → are_keys g.facts ks ≡ true → connected g.facts w ≡ true → IsBounded g.facts (add_keys w seen g ks).facts
bounded_add_keys w seen g [] s l c = bounded_self g.facts s
bounded_add_keys w seen g (k ∷ ks) s l c =
    let parts = and_parts (ltb k (keys g.facts)) (are_keys g.facts ks) l in
    let one = bounded_add_key w seen g k s (ltb-true k (keys g.facts) parts.0) c in
    let h = add_key w seen g k in
    bounded_then g.facts h.facts (add_keys w seen h ks).facts one
    (bounded_add_keys w seen h ks (sound_bounded g.facts h.facts s one) (key_there g.facts h.facts one.setting ks parts.1) (ap (λ t. is_some (t w)) one.threads ∙ c))

pub bounded_released : (f : Facts) → IsSound f → (w seen k : ℕ) → IsBounded f (released f w seen k)
unfolding released
bounded_released f s w seen k = pick (nat_le (f.fence w k) seen)
  where
    pick : (b : Bool) → IsBounded f (cond b (record f { has = put_pair f.has w k None }) f)
    pick true = bounded_gone f s w k
    pick false = bounded_self f s

pub bounded_lost_copy : (f : Facts) → IsSound f → (x k c : ℕ) → IsBounded f (lost_copy f x k c).facts
unfolding lost_copy
bounded_lost_copy f s x k c = pick (is_copy c (f.has x k))
  where
    pick : (b : Bool) → IsBounded f (cond b (record (plain (record f { has = put_pair f.has x k None })) { freed = put_pair (λ _ _. false) x k true }) (plain f)).facts
    pick true = bounded_gone f s x k
    pick false = bounded_self f s

-- a key that has a place
has_place : (w a : ℕ) (o : Option (ℕ × ℕ)) → is_this w a o ≡ true → o ≡ None → ⊥
has_place w a None h e = false≢true h
has_place w a (Some p) h e = some_not_none p e

bounded_stolen : (f : Facts) → IsSound f → (k thief : ℕ) → k < keys f → IsBounded f (stolen_by f k thief)
bounded_stolen f s k thief l = pick (connected f thief) refl
  where
    pick : (b : Bool) → connected f thief ≡ b → IsBounded f (cond b (record f { on = put f.on k (Some (thief, f.counter)); steal = put f.steal k None; counter = f.counter + 1 }) (record f { on = put f.on k None; steal = put f.steal k None }))
    pick true c = record {
      setting = refl;
      threads = refl;
      last_worker = refl;
      want = s.want;
      has = s.has;
      bad = s.bad;
      losses = s.losses;
      on = λ j m. put_past f.on k (keys f) j (Some (thief, f.counter)) l m (s.on j m);
      steal = λ j h. steal_at j (eqb j k) h;
      holders = s.holders;
      places = λ v j h. on_then f (eqb j k) thief f.counter s c v j h;
    }
      where
        steal_at : (j : ℕ) (b : Bool) → cond b (Some (thief, f.counter)) (f.on j) ≡ None → cond b None (f.steal j) ≡ None
        steal_at j true h = refl
        steal_at j false h = s.steal j h
    pick false c = record {
      setting = refl;
      threads = refl;
      last_worker = refl;
      want = s.want;
      has = s.has;
      bad = s.bad;
      losses = s.losses;
      on = λ j m. cond_none (eqb j k) (f.on j) (s.on j m);
      steal = λ j h. steal_less f (eqb j k) s j h;
      holders = s.holders;
      places = λ v j h. on_less f (eqb j k) s v j h;
    }

-- the key of a steal has a place
pub bounded_marked : (f : Facts) → IsSound f → (k : ℕ) (m : Option (ℕ × Bool)) → (f.on k ≡ None → ⊥) → IsBounded f (record f { steal = put f.steal k m })
bounded_marked f s k m placed = record { setting = refl; threads = refl; last_worker = refl; want = s.want; has = s.has; bad = s.bad; losses = s.losses; on = s.on; steal = λ j h. at j (eqb j k) refl h; holders = s.holders; places = s.places }
  where
    at : (j : ℕ) (b : Bool) → eqb j k ≡ b → f.on j ≡ None → cond b m (f.steal j) ≡ None
    at j true e h = absurd (placed (ap f.on (sym (eqb-true j k e)) ∙ h))
    at j false e h = s.steal j h

pub bounded_answered : (f : Facts) → IsSound f → (w k a : ℕ) (agreed : Bool) → k < keys f → IsBounded f (answered f w k a agreed)
unfolding answered
bounded_answered f s w k a agreed l = pick (is_this w a (f.on k) && is_asked_back (f.steal k)) refl agreed (f.steal k)
  where
    pick : (b : Bool) → (is_this w a (f.on k) && is_asked_back (f.steal k)) ≡ b → (c : Bool) (o : Option (ℕ × Bool)) → IsBounded f (cond b (cond c (stolen_to f k o) (record f { steal = put f.steal k (refused o) })) f)
    pick true e true None = bounded_self f s
    pick true e true (Some p) = bounded_stolen f s k p.0 l
    pick true e false o = bounded_marked f s k (refused o) (has_place w a (f.on k) (and_parts (is_this w a (f.on k)) (is_asked_back (f.steal k)) e).0)
    pick false e c o = bounded_self f s
