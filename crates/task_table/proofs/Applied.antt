-- One change of one fact, with all that follows.
use Rattle.std.proofs.Common.{◌≡◌, ℕ, ◌+◌, ◌<◌, ◌≤◌, Bool, true, false, ◌||◌, eqb, [], ◌∷◌, Option, Some, None, refl, sym, ap, ◌∙◌, subst, arith}
use Rattle.std.proofs.lemmas.Bool.{false≢true, eqb-true}
use Rattle.std.specs.List.{list_any}
use Rattle.std.proofs.Math.Bool.{or-false}
use Rattle.std.proofs.lemmas.List.Folds.{list_any-append}
use Rattle.std.proofs.lemmas.Option.{same_Some}
use Rattle.small_facts.proofs.Ranges.{range_push}
use Rattle.cluster_rules.specs.Functions.{from_one}
use Rattle.cluster_rules.specs.Sched.{Facts, IsSound, keys, held, holds}
use Rattle.cluster_rules.specs.SchedTable.{joined}
use Rattle.key_sets.specs.Sets.{has}
use Rattle.task_table.specs.Changes.{with_change, changed_key, Fits}
use Rattle.task_table.specs.Tasks.{Tasks, SameAt, IsTouched, IsRemembered}
use Rattle.task_table.specs.Parts.{IsParts, IsNearly, IsFollowed}
use Rattle.task_table.specs.declared.change.Change.{Change}
use Rattle.task_table.specs.declared.change.Change.TheVariants.{Want, Unwant, Hold, Lose, Assign, Unassign, Steal, Unsteal, Fail, Count, Forgive, Connect, Disconnect, Send, Fence, Finish}
use Rattle.task_table.specs.declared.parts.Parts.{Parts}
use Rattle.task_table.proofs.Near.{IsNear, near_change, wanted_same, held_same, some_key, no_key}
use Rattle.task_table.proofs.Alike.{IsAlike, same_alike, parts_alike, parts_near, same_levels}

-- what derived facts rest on is the same, and so is who holds and wants what
pub record IsEqual (f g : Facts) : Type 0 where
  pub alike : IsAlike f g
  pub has : (w k : ℕ) → g.has w k ≡ f.has w k
  pub want : (c k : ℕ) → g.want c k ≡ f.want c k

equal_fields : (f g : Facts) → g.setting ≡ f.setting → g.want ≡ f.want → g.has ≡ f.has → g.last_worker ≡ f.last_worker → g.bad ≡ f.bad → g.losses ≡ f.losses → g.on ≡ f.on → IsEqual f g
equal_fields f g s w h l b n o = record {
  alike = record {
    setting = s;
    wanted = λ i k. wanted_same f g w s k i;
    held = λ i k. held_same f g h l k i;
    bad = b;
    losses = n;
    on = o;
  };
  has = λ v k. ap (λ (p : ℕ → ℕ → Option ℕ). p v k) h;
  want = λ c k. ap (λ (p : ℕ → ℕ → Bool). p c k) w;
}

-- a number that no worker got holds nothing
held_more : (f : Facts) → IsSound f → (k : ℕ) → list_any (λ w. holds f w k) (from_one (f.last_worker + 1)) ≡ held f k
unfolding held
held_more f s k =
    ap (list_any (λ w. holds f w k)) (range_push 1 f.last_worker) ∙ list_any-append (λ w. holds f w k) (from_one f.last_worker) ((1 + f.last_worker) ∷ [])
    ∙ ap (λ t. list_any (λ w. holds f w k) (from_one f.last_worker) || (t || false)) (nobody (holds f (1 + f.last_worker) k) refl) ∙ or-false (list_any (λ w. holds f w k) (from_one f.last_worker))
  where
    nobody : (t : Bool) → holds f (1 + f.last_worker) k ≡ t → t ≡ false
    nobody true e = let a = s.numbers (1 + f.last_worker) (s.holders (1 + f.last_worker) k e) in absurd (over f.last_worker a.1)
      where
        over : (n : ℕ) → 1 + n ≤ n → ⊥
        over n l = omega (arith, l)
    nobody false e = refl

held_joined : (f : Facts) → IsSound f → (threads k : ℕ) → held (joined f threads) k ≡ held f k
unfolding held joined
held_joined f s threads k = held_more f s k

equal_joined : (f : Facts) → IsSound f → (threads : ℕ) → IsEqual f (joined f threads)
unfolding joined
equal_joined f s threads = record {
  alike = record {
    setting = refl;
    wanted = λ i k. wanted_same f (joined f threads) refl refl k i;
    held = λ i k. held_joined f s threads k i;
    bad = refl;
    losses = refl;
    on = refl;
  };
  has = λ v k. refl;
  want = λ c k. refl;
}

pub equal_change : (f : Facts) → IsSound f → (c : Change) → changed_key c ≡ None → IsEqual f (with_change f c)
equal_change f s (Want c k) e = some_key k e
equal_change f s (Unwant c k) e = some_key k e
equal_change f s (Hold w k) e = some_key k e
equal_change f s (Lose w k) e = some_key k e
equal_change f s (Assign k w) e = some_key k e
equal_change f s (Unassign k) e = some_key k e
equal_change f s (Steal k thief refused) e = equal_fields f (with_change f (Steal k thief refused)) refl refl refl refl refl refl refl
equal_change f s (Unsteal k) e = equal_fields f (with_change f (Unsteal k)) refl refl refl refl refl refl refl
equal_change f s (Fail k) e = some_key k e
equal_change f s (Count k) e = some_key k e
equal_change f s (Forgive k) e = some_key k e
equal_change f s (Connect threads) e = equal_joined f s threads
equal_change f s (Disconnect w) e = equal_fields f (with_change f (Disconnect w)) refl refl refl refl refl refl refl
equal_change f s (Send w) e = equal_fields f (with_change f (Send w)) refl refl refl refl refl refl refl
equal_change f s (Fence w k) e = equal_fields f (with_change f (Fence w k)) refl refl refl refl refl refl refl
equal_change f s Finish e = equal_fields f (with_change f Finish) refl refl refl refl refl refl refl

-- what following requires
pub near_after : (f g : Facts) (c : Change) (p : Parts) (key : ℕ) → g ≡ with_change f c → IsParts f p → changed_key c ≡ Some key → IsNearly g p key
near_after f g c p key e h k = parts_near f g p key (subst (λ (x : Facts). IsNear f x key) (sym e) (near_change f c key k)) h

pub rest_after : (f g : Facts) (c : Change) (p : Parts) → g ≡ with_change f c → IsSound f → IsParts f p → changed_key c ≡ None → IsParts g p
rest_after f g c p e s h k = parts_alike f g p (subst (λ (x : Facts). IsAlike f x) (sym e) (equal_change f s c k).alike) h

-- what is kept where a key was not touched
pub kept_after : (f g : Facts) (c : Change) (p q : Parts) → g ≡ with_change f c → IsSound f → IsSound g → IsParts f p → IsParts g q → keys g ≡ keys f → ((k : ℕ) → changed_key c ≡ Some k → IsFollowed (keys g) p q k) → (changed_key c ≡ None → q ≡ p) → (k : ℕ) → k < keys f → has q.touched k ≡ false → SameAt f g k
kept_after f g c p q e s t a b n h r k l u = pick (changed_key c) refl
  where
    pick : (o : Option ℕ) → changed_key c ≡ o → SameAt f g k
    pick None i =
        let w : IsEqual f g = subst (λ (x : Facts). IsEqual f x) (sym e) (equal_change f s c i) in
        same_alike f g k w.alike (λ v. w.has v k) (λ d. w.want d k)
    pick (Some key) i =
        let low : k < keys g = subst (λ (m : ℕ). k < m) (sym n) l in
        same_levels f g p.levels q.levels k key s t (subst (λ (x : Facts). IsNear f x key) (sym e) (near_change f c key i)) (apart key (h key i).named)
        (a.standing.derived k l) (b.standing.derived k low) ((h key i).kept k low u)
      where
        apart : (key : ℕ) → has q.touched key ≡ true → eqb k key ≡ false
        apart key m = choose (eqb k key) refl
          where
            choose : (y : Bool) → eqb k key ≡ y → eqb k key ≡ false
            choose true z = absurd (false≢true (sym u ∙ ap (has q.touched) (eqb-true k key z) ∙ m))
            choose false z = z

pub grows_after : (n : ℕ) (c : Change) (p q : Parts) → ((k : ℕ) → changed_key c ≡ Some k → IsFollowed n p q k) → (changed_key c ≡ None → q ≡ p) → (k : ℕ) → has p.touched k ≡ true → has q.touched k ≡ true
grows_after n c p q h r k e = pick (changed_key c) refl
  where
    pick : (o : Option ℕ) → changed_key c ≡ o → has q.touched k ≡ true
    pick None i = ap (λ (x : Parts). has x.touched k) (r i) ∙ e
    pick (Some key) i = (h key i).grows k e

-- what was so before is remembered still
pub remembered_after : (f g : Facts) (s t : Tasks) → IsRemembered f s → IsTouched f g s t → keys g ≡ keys f → ((k : ℕ) → has t.touched k ≡ true → k < keys g) → IsRemembered g t
remembered_after f g s t r u n w = record {
  within = w;
  held = λ k l e. ap (λ xs. has xs k) u.held ∙ r.held k (low k l) (untouched k e) ∙ sym (u.kept k (low k l) e).held;
  erred = λ k l e. ap (λ xs. has xs k) u.erred ∙ r.erred k (low k l) (untouched k e) ∙ sym (u.kept k (low k l) e).erred;
}
  where
    low : (k : ℕ) → k < keys g → k < keys f
    low k l = subst (λ (m : ℕ). k < m) n l

    untouched : (k : ℕ) → has t.touched k ≡ false → has s.touched k ≡ false
    untouched k e = pick (has s.touched k) refl
      where
        pick : (y : Bool) → has s.touched k ≡ y → has s.touched k ≡ false
        pick true z = absurd (false≢true (sym e ∙ u.grows k z))
        pick false z = z

-- the key of a change is there
pub key_low : (f : Facts) (rows : ℕ) (c : Change) (k : ℕ) → Fits f rows c → changed_key c ≡ Some k → k < keys f
key_low f rows (Want c k) q h e = subst (λ (x : ℕ). x < keys f) (same_Some k q e) h.key
key_low f rows (Unwant c k) q h e = subst (λ (x : ℕ). x < keys f) (same_Some k q e) h.key
key_low f rows (Hold w k) q h e = subst (λ (x : ℕ). x < keys f) (same_Some k q e) h.key
key_low f rows (Lose w k) q h e = subst (λ (x : ℕ). x < keys f) (same_Some k q e) h.key
key_low f rows (Assign k w) q h e = subst (λ (x : ℕ). x < keys f) (same_Some k q e) h.key
key_low f rows (Unassign k) q h e = subst (λ (x : ℕ). x < keys f) (same_Some k q e) h
key_low f rows (Steal k thief refused) q h e = no_key q e
key_low f rows (Unsteal k) q h e = no_key q e
key_low f rows (Fail k) q h e = subst (λ (x : ℕ). x < keys f) (same_Some k q e) h
key_low f rows (Count k) q h e = subst (λ (x : ℕ). x < keys f) (same_Some k q e) h.key
key_low f rows (Forgive k) q h e = subst (λ (x : ℕ). x < keys f) (same_Some k q e) h
key_low f rows (Connect threads) q h e = no_key q e
key_low f rows (Disconnect w) q h e = no_key q e
key_low f rows (Send w) q h e = no_key q e
key_low f rows (Fence w k) q h e = no_key q e
key_low f rows Finish q h e = no_key q e

-- no change adds a key
pub same_keys : (f : Facts) (c : Change) → keys (with_change f c) ≡ keys f
unfolding joined
same_keys f (Want c k) = refl
same_keys f (Unwant c k) = refl
same_keys f (Hold w k) = refl
same_keys f (Lose w k) = refl
same_keys f (Assign k w) = refl
same_keys f (Unassign k) = refl
same_keys f (Steal k thief refused) = refl
same_keys f (Unsteal k) = refl
same_keys f (Fail k) = refl
same_keys f (Count k) = refl
same_keys f (Forgive k) = refl
same_keys f (Connect threads) = refl
same_keys f (Disconnect w) = refl
same_keys f (Send w) = refl
same_keys f (Fence w k) = refl
same_keys f Finish = refl
