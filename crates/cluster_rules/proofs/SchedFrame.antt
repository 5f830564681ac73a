-- What one event of the scheduler leaves as it is.
use Rattle.std.proofs.Common.{◌≡◌, ℕ, zero, suc, ◌+◌, ◌<◌, ◌≤◌, Bool, true, false, cond, ◌&&◌, ◌||◌, List, [], ◌∷◌, ◌++◌, length, Option, Some, None, refl, sym, ap, ◌∙◌, arith, is_none, inl, inr, ◌⊎◌, ⊎_elim}
use Rattle.std.proofs.lemmas.Bool.{false≢true, eqb-true, or_cases, cases_lt, eq-eqb}
use Rattle.std.specs.List.{filter, range_with_len}
use Rattle.std.proofs.Math.Dec.{eqb}
use Rattle.std.proofs.Math.Bool.{or-true}
use Rattle.std.proofs.lemmas.Option.{none-some}
use Rattle.small_facts.proofs.Options.{same_second}
use Rattle.small_facts.proofs.Truth.{and_second}
use Rattle.cluster_msgs.specs.declared.messages.Down.{Down}
use Rattle.cluster_msgs.specs.declared.cores.SchedEvent.{SchedEvent}
use Rattle.cluster_rules.specs.Derived.{below, is_in}
use Rattle.cluster_rules.specs.Sched.{Facts, keys, known, need, ready}
use Rattle.cluster_rules.specs.Policies.{place}
use Rattle.cluster_rules.specs.SchedTable.{Changed, change}
use Rattle.cluster_rules.specs.SchedStep.{drop_bad, drop_has, drop_on, give, place_one, place_keys, place_all, settle, posted, down_messages, finish_step, sched_step, mail, count_to, takes_away, fence_after}
use Rattle.cluster_rules.specs.Frame.{IsSettling}

-- from f the placements lead to g: only places and the counter change, and a new place has a new attempt
pub record IsPlacing (f g : Facts) : Type 0 where
  pub bad : g.bad ≡ f.bad
  pub losses : g.losses ≡ f.losses
  pub has : g.has ≡ f.has
  pub counter : f.counter ≤ g.counter
  pub on : (k w a : ℕ) → g.on k ≡ Some (w, a) → (f.on k ≡ Some (w, a)) ⊎ ((f.counter ≤ a) × (a < g.counter))
  pub stays : (k : ℕ) (p : ℕ × ℕ) → f.on k ≡ Some p → g.on k ≡ Some p
  pub threads : g.threads ≡ f.threads
  pub last_worker : g.last_worker ≡ f.last_worker
  pub setting : g.setting ≡ f.setting
  pub want : g.want ≡ f.want
  pub steal : g.steal ≡ f.steal
  pub finishes : g.finishes ≡ f.finishes
  pub sent : g.sent ≡ f.sent
  pub fence : g.fence ≡ f.fence

placing_none : (f : Facts) → IsPlacing f f
placing_none f = record { bad = refl; losses = refl; has = refl; counter = omega arith; on = λ k w a h. inl h; stays = λ k p h. h; threads = refl; last_worker = refl; setting = refl; want = refl; steal = refl; finishes = refl; sent = refl; fence = refl }

none_is_not : {A : Type 0} (o : Option A) (p : A) → is_none o ≡ true → o ≡ Some p → ⊥
none_is_not None p e h = none-some p h
none_is_not (Some x) p e h = false≢true e

placing_give : (f : Facts) (k w : ℕ) → is_none (f.on k) ≡ true → IsPlacing f (give f k (Some w))
placing_give f k w free = record { bad = refl; losses = refl; has = refl; counter = omega arith; on = λ j v a h. pick j v a (eqb j k) h; stays = λ j p h. stay j p (eqb j k) refl h; threads = refl; last_worker = refl; setting = refl; want = refl; steal = refl; finishes = refl; sent = refl; fence = refl }
  where
    pick : (j v a : ℕ) (b : Bool) → cond b (Some (w, f.counter)) (f.on j) ≡ Some (v, a) → (f.on j ≡ Some (v, a)) ⊎ ((f.counter ≤ a) × (a < f.counter + 1))
    pick j v a true h = let e : f.counter ≡ a = same_second (w, f.counter) (v, a) h in inr (omega arith, omega arith)
    pick j v a false h = inl h

    stay : (j : ℕ) (p : ℕ × ℕ) (b : Bool) → eqb j k ≡ b → f.on j ≡ Some p → cond b (Some (w, f.counter)) (f.on j) ≡ Some p
    stay j p true e h = absurd (none_is_not (f.on k) p free (ap f.on (sym (eqb-true j k e)) ∙ h))
    stay j p false e h = h

placing_one : (f : Facts) (k : ℕ) → IsPlacing f (place_one f k)
unfolding place_one
placing_one f k = pick (ready f k && is_none (f.on k)) (place f k) refl
  where
    pick : (b : Bool) (to : Option ℕ) → (ready f k && is_none (f.on k)) ≡ b → IsPlacing f (cond b (give f k to) f)
    pick true None e = placing_none f
    pick true (Some w) e = placing_give f k w (and_second (ready f k) (is_none (f.on k)) e)
    pick false to e = placing_none f

placing_then : (f g h : Facts) → IsPlacing f g → IsPlacing g h → IsPlacing f h
placing_then f g h p q = record {
  bad = q.bad ∙ p.bad;
  losses = q.losses ∙ p.losses;
  has = q.has ∙ p.has;
  counter = omega (arith, p.counter, q.counter);
  on = λ k w a e. ⊎_elim
      (λ i. ⊎_elim (λ o. inl o) (λ n. inr (n.0, omega (arith, n.1, q.counter))) (p.on k w a i))
      (λ n. inr (omega (arith, n.0, p.counter), n.1))
      (q.on k w a e);
  stays = λ k r e. q.stays k r (p.stays k r e);
  threads = q.threads ∙ p.threads;
  last_worker = q.last_worker ∙ p.last_worker;
  setting = q.setting ∙ p.setting;
  want = q.want ∙ p.want;
  steal = q.steal ∙ p.steal;
  finishes = q.finishes ∙ p.finishes;
  sent = q.sent ∙ p.sent;
  fence = q.fence ∙ p.fence;
}

pub placing_keys : (f : Facts) (ks : List ℕ) → IsPlacing f (place_keys f ks)
placing_keys f [] = placing_none f
placing_keys f (k ∷ ks) = placing_then f (place_one f k) (place_keys (place_one f k) ks) (placing_one f k) (placing_keys (place_one f k) ks)

only_some : {A : Type 0} (b : Bool) (o : Option A) (x : A) → cond b o None ≡ Some x → o ≡ Some x
only_some true o x e = e
only_some false o x e = absurd (none-some x e)

cons_where : {A : Type 0} (b : Bool) (x : A) (xs ys zs : List A) → xs ≡ ys ++ zs → cond b (x ∷ xs) xs ≡ cond b (x ∷ ys) ys ++ zs
cons_where true x xs ys zs e = ap (λ l. x ∷ l) e
cons_where false x xs ys zs e = e

pub mail-append : (w : ℕ) (xs ys : List (ℕ × Down)) → mail w (xs ++ ys) ≡ mail w xs ++ mail w ys
mail-append w [] ys = refl
mail-append w (m ∷ xs) ys = cons_where (eqb m.0 w) m.1 (mail w (xs ++ ys)) (mail w xs) (mail w ys) (mail-append w xs ys)

-- a member that passes stays in a filter
pub in_filter : (p : ℕ → Bool) (x : ℕ) (xs : List ℕ) → is_in x xs ≡ true → p x ≡ true → is_in x (filter p xs) ≡ true
in_filter p x [] i e = i
in_filter p x (y ∷ xs) i e = pick (p y) refl
    (λ h. in_filter p x xs h e)
  where
    pick : (b : Bool) → p y ≡ b → (is_in x xs ≡ true → is_in x (filter p xs) ≡ true) → is_in x (cond b (y ∷ filter p xs) (filter p xs)) ≡ true
    pick true q rest = ⊎_elim (λ h. ap (λ b. b || is_in x (filter p xs)) h) (λ h. ap (λ b. eqb y x || b) (rest h) ∙ or-true (eqb y x)) (or_cases (eqb y x) (is_in x xs) i)
    pick false q rest = ⊎_elim (λ h. absurd (false≢true (sym q ∙ ap p (eqb-true y x h) ∙ e))) rest (or_cases (eqb y x) (is_in x xs) i)

pub in_range : (a n x : ℕ) → a ≤ x → x < a + n → is_in x (range_with_len a n) ≡ true
in_range a zero x l m = absurd (omega arith)
in_range a (suc n) x l m = ⊎_elim
    (λ h. ap (λ b. eqb a x || b) (in_range (a + 1) n x (omega arith) (omega arith)) ∙ or-true (eqb a x))
    (λ h. let e : eqb a x ≡ true = eq-eqb a x (omega arith) in ap (λ b. b || is_in x (range_with_len (a + 1) n)) e)
    (cases_lt a x)

-- as many messages are counted for a worker as it gets
pub count_to-mail : (w : ℕ) (ms : List (ℕ × Down)) → count_to w ms ≡ length (mail w ms)
count_to-mail w [] = refl
count_to-mail w (m ∷ ms) = pick (eqb m.0 w) (count_to-mail w ms)
  where
    pick : (b : Bool) → count_to w ms ≡ length (mail w ms) → cond b 1 0 + count_to w ms ≡ length (cond b (m.1 ∷ mail w ms) (mail w ms))
    pick true e = omega arith
    pick false e = omega arith

-- a fence stays, or is the place of one of these messages
pub fence_after-place : (k s : ℕ) (ms : List Down) (f : ℕ) → (fence_after k s ms f ≡ f) ⊎ ((s < fence_after k s ms f) × (fence_after k s ms f ≤ s + length ms))
fence_after-place k s [] f = inl refl
fence_after-place k s (m ∷ ms) f = pick (takes_away k m)
    (fence_after-place k (s + 1) ms f) (fence_after-place k (s + 1) ms (s + 1))
  where
    later : (f g : ℕ) → g ≤ s + 1 → (fence_after k (s + 1) ms f ≡ g) ⊎ ((s + 1 < fence_after k (s + 1) ms f) × (fence_after k (s + 1) ms f ≤ (s + 1) + length ms)) → s < g → (s < fence_after k (s + 1) ms f) × (fence_after k (s + 1) ms f ≤ s + length (m ∷ ms))
    later f g l h above = ⊎_elim (λ e. (omega arith, omega arith)) (λ r. (omega (arith, r.0), omega (arith, r.1))) h

    pick : (b : Bool) → (fence_after k (s + 1) ms f ≡ f) ⊎ ((s + 1 < fence_after k (s + 1) ms f) × (fence_after k (s + 1) ms f ≤ (s + 1) + length ms)) → (fence_after k (s + 1) ms (s + 1) ≡ s + 1) ⊎ ((s + 1 < fence_after k (s + 1) ms (s + 1)) × (fence_after k (s + 1) ms (s + 1) ≤ (s + 1) + length ms)) → (fence_after k (s + 1) ms (cond b (s + 1) f) ≡ f) ⊎ ((s < fence_after k (s + 1) ms (cond b (s + 1) f)) × (fence_after k (s + 1) ms (cond b (s + 1) f) ≤ s + length (m ∷ ms)))
    pick true h i = inr (later (s + 1) (s + 1) (omega arith) i (omega arith))
    pick false h i = ⊎_elim (λ e. inl e) (λ r. inr (omega (arith, r.0), omega (arith, r.1))) h

only_option : {A : Type 0} (b : Bool) (o : Option A) → (cond b o None ≡ o) ⊎ (cond b o None ≡ None)
only_option true o = inl refl
only_option false o = inr refl

pub settling : (f : Facts) (g : Changed) → IsSettling g.facts (finish_step (settle f g)).facts
unfolding finish_step settle posted place_all drop_bad drop_has drop_on
settling f g =
    let o = drop_on (drop_has (drop_bad g.facts)) in
    let p = placing_keys o (below (keys o)) in
    let t = settle f g in
    record {
      setting = p.setting;
      want = p.want;
      threads = p.threads;
      last_worker = p.last_worker;
      finishes = p.finishes;
      bad = λ k e. both (known g.facts k) (g.facts.bad k) (ap (λ b. b k) (sym p.bad) ∙ e);
      losses = λ k. ap (λ n. n k) p.losses;
      has = λ w k c e. only_some (need (drop_bad g.facts) k) (g.facts.has w k) c (ap (λ h. h w k) (sym p.has) ∙ e);
      counter = p.counter;
      on = λ k w a e. ⊎_elim (λ i. inl (only_some (ready (drop_has (drop_bad g.facts)) k) (g.facts.on k) (w, a) i)) (λ n. inr n) (p.on k w a e);
      steal = λ k. ⊎_elim (λ e. inl (ap (λ s. s k) p.steal ∙ e)) (λ e. inr (ap (λ s. s k) p.steal ∙ e)) (only_option (ready (drop_has (drop_bad g.facts)) k) (g.facts.steal k));
      sent = λ w. let e : t.placed.sent w ≡ g.facts.sent w = ap (λ s. s w) p.sent in omega arith;
      fence = λ w k. fences w k (ap (λ s. s w) p.sent) (ap (λ s. s w k) p.fence) (fence_after-place k (t.placed.sent w) (mail w (down_messages t)) (t.placed.fence w k)) (count_to-mail w (down_messages t));
    }
  where
    both : (b c : Bool) → cond b c false ≡ true → (b ≡ true) × (c ≡ true)
    both true c e = (refl, e)
    both false c e = absurd (false≢true e)

    fences : (w k : ℕ) → let t = settle f g in let ms = down_messages t in let n = fence_after k (t.placed.sent w) (mail w ms) (t.placed.fence w k) in
        t.placed.sent w ≡ g.facts.sent w → t.placed.fence w k ≡ g.facts.fence w k
        → (n ≡ t.placed.fence w k) ⊎ ((t.placed.sent w < n) × (n ≤ t.placed.sent w + length (mail w ms)))
        → count_to w ms ≡ length (mail w ms)
        → (n ≡ g.facts.fence w k) ⊎ ((g.facts.sent w < n) × (n ≤ t.placed.sent w + count_to w ms))
    fences w k a b c d = ⊎_elim (λ e. inl (e ∙ b)) (λ r. inr (omega (arith, r.0), omega (arith, r.1))) c

pub step_settles : (f : Facts) (e : SchedEvent) → IsSettling (change f e).facts (sched_step f e).facts
unfolding sched_step
step_settles f e = settling f (change f e)
