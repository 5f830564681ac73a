-- What is to be shown of each row of the scheduler's table, for one worker and one key, and what follows of the pair.
use Rattle.std.proofs.Common.{◌≡◌, ℕ, ◌+◌, ◌<◌, ◌≤◌, Bool, true, false, not, cond, ◌&&◌, List, [], ◌∷◌, ◌++◌, Option, Some, None, refl, sym, ap, ◌∙◌, subst, arith, is_some, inl, inr, ◌⊎◌}
use Rattle.std.proofs.lemmas.Bool.{false≢true, eqb-true, lt-leb, le-leb}
use Rattle.std.proofs.Math.Dec.{eqb}
use Rattle.std.proofs.Math.Bool.{and-false}
use Rattle.std.proofs.lemmas.Option.{none-some}
use Rattle.small_facts.proofs.Options.{same_second}
use Rattle.small_facts.proofs.Truth.{with_and_true, or_first_false, and_first}
use Rattle.cluster_msgs.specs.declared.messages.Down.TheVariants.{AcquireReplicas, RefreshWhoHas}
use Rattle.cluster_rules.specs.Sched.{Facts, IsSound, keys, holds, held, connected, is_on, is_for}
use Rattle.cluster_rules.specs.SchedTable.{is_this, is_asked_back, Changed, plain, refreshed, copied}
use Rattle.cluster_rules.specs.SchedStep.{settle, finish_step, lost, mail}
use Rattle.cluster_laws.specs.Settled.{IsSettled}
use Rattle.cluster_laws.proofs.Framed.{IsFramed}
use Rattle.cluster_laws.proofs.Errors.{holder_holds, ready_is_not_held}
use Rattle.pair_machine.specs.Pair.{Report, Quiet, is_at, Pair, IsPair}
use Rattle.pair_machine.specs.Moves.{withdrawn, counted, still_asked}
use Rattle.pair_machine.proofs.PairKept.{kept_withdrawn, kept_counted}
use Rattle.pair_moves.specs.Projection.{notes, reports, at_worker, Side, pair_of, IsNumbered}
use Rattle.pair_moves.proofs.PairTold.{AreOther}
use Rattle.pair_moves.proofs.Settling.{new_at}
use Rattle.pair_moves.proofs.SettleKeeps.{IsFair, old_at, changed_pair, Closes, settle_keeps, plain_closes, plain_newly}

-- ## What a row makes of a key's place and of its steal

pub data Moved (f g : Facts) (k : ℕ) : Type 0 where
  Stays : g.on k ≡ f.on k → (is_some (g.steal k) ≡ true → is_some (f.on k) ≡ true) → Moved f g k
  Ended : g.on k ≡ None → g.steal k ≡ None → Moved f g k
  Stolen : (v : ℕ) → is_some (f.on k) ≡ true → g.on k ≡ Some (v, f.counter) → f.counter < g.counter → g.steal k ≡ None → Moved f g k

-- a place that was there before the event is old
pub old_place : (since w : ℕ) (o : Option (ℕ × ℕ)) → ((v a : ℕ) → o ≡ Some (v, a) → a < since) → at_worker w o ≡ old_at since w o
old_place since w None h = refl
old_place since w (Some p) h = ap (λ b. cond b (Some p.1) None) (with_and_true (eqb p.0 w)) ∙ ap (λ c. cond (eqb p.0 w && not c) (Some p.1) None) (sym (lt-leb since p.1 (h p.0 p.1 refl)))

-- and one that is new isn't
pub old_none : (since w v : ℕ) → old_at since w (Some (v, since)) ≡ None
old_none since w v = ap (λ c. cond (eqb v w && not c) (Some since) None) (le-leb since since (omega arith)) ∙ ap (λ c. cond c (Some since) None) (and-false (eqb v w))

pub old_is : (f : Facts) → IsNumbered f → (w k : ℕ) → at_worker w (f.on k) ≡ old_at f.counter w (f.on k)
old_is f n w k = old_place f.counter w (f.on k) (λ v a e. n.below k v a e)

some_place : (o : Option (ℕ × ℕ)) → is_some o ≡ true → (q : ℕ × ℕ) × (o ≡ Some q)
some_place None e = absurd (false≢true e)
some_place (Some q) e = (q, refl)

-- a worker that the place isn't at sees no change of it
pub away : (f g : Facts) → IsNumbered f → (w k : ℕ) → at_worker w (f.on k) ≡ None → Moved f g k → old_at f.counter w (g.on k) ≡ None
away f g n w k e (Stays on steal) = ap (old_at f.counter w) on ∙ sym (old_is f n w k) ∙ e
away f g n w k e (Ended on steal) = ap (old_at f.counter w) on
away f g n w k e (Stolen v was on c steal) = ap (old_at f.counter w) on ∙ old_none f.counter w v

-- a key with a place isn't held, and a key that isn't held is held nowhere
pub placed_apart : (f : Facts) → IsSettled f → (k : ℕ) → is_some (f.on k) ≡ true → held f k ≡ false
placed_apart f t k e = ready_is_not_held f k (t.placed_are_ready k e)

pub held_none : (f : Facts) → IsSound f → (w k : ℕ) → held f k ≡ false → holds f w k ≡ false
held_none f s w k e = pick (holds f w k) refl
  where
    pick : (b : Bool) → holds f w k ≡ b → b ≡ false
    pick true h = sym (holder_holds f s w k h) ∙ e
    pick false h = refl

pub on_some : (w : ℕ) (o : Option (ℕ × ℕ)) → is_for w o ≡ true → is_some o ≡ true
on_some w None e = e
on_some w (Some p) e = refl

pub moved_apart : (f g : Facts) → IsSettled f → (w k : ℕ) → Moved f g k → is_on g w k ≡ true → held f k ≡ false
moved_apart f g t w k (Stays on steal) e = placed_apart f t k (on_some w (f.on k) (ap (is_for w) (sym on) ∙ e))
moved_apart f g t w k (Ended on steal) e = absurd (false≢true (sym (ap (is_for w) on) ∙ e))
moved_apart f g t w k (Stolen v was on c steal) e = placed_apart f t k was

pub moved_below : (f g : Facts) → IsNumbered f → f.counter ≤ g.counter → (w k a : ℕ) → Moved f g k → g.on k ≡ Some (w, a) → a < g.counter
moved_below f g n l w k a (Stays on steal) e = let m : a < f.counter = n.below k w a (sym on ∙ e) in omega arith
moved_below f g n l w k a (Ended on steal) e = absurd (none-some (w, a) (sym on ∙ e))
moved_below f g n l w k a (Stolen v was on c steal) e = let m : f.counter ≡ a = same_second (v, f.counter) (w, a) (sym on ∙ e) in omega arith

moved_inside : (f g : Facts) → IsNumbered f → (k : ℕ) → Moved f g k → (p : ℕ × Bool) → g.steal k ≡ Some p → (q : ℕ × ℕ) × ((g.on k ≡ Some q) × (q.1 < f.counter))
moved_inside f g n k (Stays on steal) p e = there (some_place (f.on k) (steal (ap is_some e)))
  where
    there : (q : ℕ × ℕ) × (f.on k ≡ Some q) → (q : ℕ × ℕ) × ((g.on k ≡ Some q) × (q.1 < f.counter))
    there (q, h) = (q, (on ∙ h, n.below k q.0 q.1 h))
moved_inside f g n k (Ended on steal) p e = absurd (none-some p (sym steal ∙ e))
moved_inside f g n k (Stolen v was on c steal) p e = absurd (none-some p (sym steal ∙ e))

-- ## A row

-- what a row, and the message r that it takes from the worker, make of the pair: as it is before the answer, with a copy or without and asked for or not
pub record IsRow (f : Facts) (g : Changed) (copy was : Bool) (w k : ℕ) (r : Report) (s : Side) : Type 0 where
  pub fair : IsFair g w k
  pub newly : (a : ℕ) → new_at f.counter w ((settle f g).placed.on k) ≡ Some a → cond (lost (settle f g) w k) false copy ≡ false
  pub has : g.freed w k ≡ false → (counted (pair_of f w k s) r).0 ≡ copy
  pub on : g.freed w k ≡ false → (counted (pair_of f w k s) r).1 ≡ old_at f.counter w (g.facts.on k)
  pub asked : g.freed w k ≡ false → still_asked (pair_of f w k s) r ≡ was
  pub closes : Closes (settle f g) copy was w k

pub row_keeps : {joining : ℕ} {losing : ℕ → Bool} (f : Facts) (g : Changed) (has was : Bool) (w k : ℕ) (r : Report) (s : Side) → IsFramed f joining losing g.facts → IsSound g.facts → k < keys f → connected g.facts w ≡ true → IsRow f g has was w k r s
    → IsPair (record (pair_of f w k s) { up = r ∷ reports k s.up }) → IsPair (pair_of (finish_step (settle f g)).facts w k (record s { down = s.down ++ mail w (finish_step (settle f g)).down }))
unfolding settle
row_keeps f g has was w k r s frame sound low there row p =
    settle_keeps f g has was w k s low frame.setting frame.counter (sound.numbers w there).0 (sound.numbers w there).1 there row.fair row.newly
    (λ l. stays (or_first_false (g.freed w k) _ l)) (λ _. goes) row.closes
  where
    goes : IsPair (withdrawn (changed_pair f g has was w k s))
    goes = subst (λ n. IsPair (record (withdrawn (changed_pair f g has was w k s)) { fence = n + 1; sent = n + 1 })) (ap (λ t. t w) (sym frame.sent))
        (kept_withdrawn (record (pair_of f w k s) { up = r ∷ reports k s.up }) (reports k s.up) p p.heard_of.1 (λ a. omega arith) (λ a. omega arith))

    stays : g.freed w k ≡ false → IsPair (changed_pair f g has was w k s)
    stays e = subst (λ (x : Pair). IsPair x)
        (λ i. record (changed_pair f g has was w k s) {
          has = row.has e i;
          on = row.on e i;
          asked = row.asked e i;
          fence = sym frame.fence i w k;
          sent = sym frame.sent i w;
        })
        (kept_counted (pair_of f w k s) r (reports k s.up) p)

-- a row that answers nothing on the key
pub record IsPlain (f : Facts) (g : Changed) (w k : ℕ) (r : Report) (s : Side) : Type 0 where
  pub moved : Moved f g.facts k
  pub on : (counted (pair_of f w k s) r).1 ≡ old_at f.counter w (g.facts.on k)
  pub asked : still_asked (pair_of f w k s) r ≡ (is_some (old_at f.counter w (g.facts.on k)) && is_asked_back (g.facts.steal k))
  pub freed : is_on g.facts w k ≡ true → g.freed w k ≡ false
  pub gone : g.freed w k ≡ true → holds g.facts w k ≡ false
  pub alone : is_on g.facts w k ≡ true → holds g.facts w k ≡ false
  pub has : g.freed w k ≡ false → (counted (pair_of f w k s) r).0 ≡ holds g.facts w k
  pub silent : (x : Facts) → AreOther (notes k (g.answer x w))

pub plain_keeps : {joining : ℕ} {losing : ℕ → Bool} (f : Facts) (g : Changed) (w k : ℕ) (r : Report) (s : Side) → IsNumbered f → IsFramed f joining losing g.facts → IsSound g.facts → k < keys f → connected g.facts w ≡ true → IsPlain f g w k r s
    → IsPair (record (pair_of f w k s) { up = r ∷ reports k s.up }) → IsPair (pair_of (finish_step (settle f g)).facts w k (record s { down = s.down ++ mail w (finish_step (settle f g)).down }))
plain_keeps f g w k r s n frame sound low there row p =
    row_keeps f g (holds g.facts w k) (is_some (old_at f.counter w (g.facts.on k)) && is_asked_back (g.facts.steal k)) w k r s frame sound low there (record {
      fair = fair;
      newly = plain_newly f g w k (sound.numbers w there).0 (sound.numbers w there).1 fair;
      has = row.has;
      on = λ e. row.on;
      asked = λ e. row.asked;
      closes = plain_closes f g w k fair row.silent (moved_inside f g.facts n k row.moved) frame.counter;
    }) p
  where
    fair : IsFair g w k
    fair = record { freed = row.freed; apart = row.alone; gone = row.gone; below = λ a e. moved_below f g.facts n frame.counter w k a row.moved e }

-- a row that changes nothing at the worker: the key's place and steal stay, or were elsewhere
pub record IsCalm (f : Facts) (g : Changed) (w k : ℕ) (r : Report) (s : Side) : Type 0 where
  pub moved : Moved f g.facts k
  pub place : ((g.facts.on k ≡ f.on k) × (g.facts.steal k ≡ f.steal k)) ⊎ (at_worker w (f.on k) ≡ None)
  pub counts : counted (pair_of f w k s) r ≡ (holds f w k, at_worker w (f.on k))
  pub asked : still_asked (pair_of f w k s) r ≡ (is_some (at_worker w (f.on k)) && is_asked_back (f.steal k))
  pub has : holds g.facts w k ≡ holds f w k
  pub freed : g.freed w k ≡ false
  pub silent : (x : Facts) → AreOther (notes k (g.answer x w))

pub calm_row : (f : Facts) (g : Changed) (w k : ℕ) (r : Report) (s : Side) → IsSound f → IsSettled f → IsNumbered f → IsCalm f g w k r s → IsPlain f g w k r s
calm_row f g w k r s sound settled n c = record {
  moved = c.moved;
  on = ap (λ (v : Bool × Option ℕ). v.1) c.counts ∙ old c.place;
  asked = c.asked ∙ back c.place;
  freed = λ e. c.freed;
  gone = λ e. absurd (false≢true (sym c.freed ∙ e));
  alone = λ e. c.has ∙ held_none f sound w k (moved_apart f g.facts settled w k c.moved e);
  has = λ e. ap (λ (v : Bool × Option ℕ). v.0) c.counts ∙ sym c.has;
  silent = c.silent;
}
  where
    old : ((g.facts.on k ≡ f.on k) × (g.facts.steal k ≡ f.steal k)) ⊎ (at_worker w (f.on k) ≡ None) → at_worker w (f.on k) ≡ old_at f.counter w (g.facts.on k)
    old (inl e) = old_is f n w k ∙ ap (old_at f.counter w) (sym e.0)
    old (inr e) = e ∙ sym (away f g.facts n w k e c.moved)

    back : ((g.facts.on k ≡ f.on k) × (g.facts.steal k ≡ f.steal k)) ⊎ (at_worker w (f.on k) ≡ None) → (is_some (at_worker w (f.on k)) && is_asked_back (f.steal k)) ≡ (is_some (old_at f.counter w (g.facts.on k)) && is_asked_back (g.facts.steal k))
    back (inl e) = ap (λ o. is_some o && is_asked_back (f.steal k)) (old (inl e)) ∙ ap (λ m. is_some (old_at f.counter w (g.facts.on k)) && is_asked_back m) (sym e.1)
    back (inr e) = ap (λ o. is_some o && is_asked_back (f.steal k)) e ∙ sym (ap (λ o. is_some o && is_asked_back (g.facts.steal k)) (away f g.facts n w k e c.moved))

-- an answer of who holds a key says nothing of the pair
pub refreshed_plain : (f : Facts) (g : Changed) (w k v q : ℕ) (r : Report) (s : Side) → IsPlain f g w k r s → IsPlain f (refreshed g v q) w k r s
refreshed_plain f g w k v q r s p = record {
  moved = p.moved;
  on = p.on;
  asked = p.asked;
  freed = p.freed;
  gone = p.gone;
  alone = p.alone;
  has = p.has;
  silent = λ x. none (eqb w v) _;
}
  where
    none : (b : Bool) (ws : List (ℕ × List (ℕ × ℕ))) → AreOther (notes k (cond b (RefreshWhoHas ws ∷ []) []))
    none true ws = (refl, tt)
    none false ws = tt

-- and neither does the answer that a worker is to get a copy
pub copied_plain : (f : Facts) (w k v q : ℕ) (s : Side) → IsPlain f (plain f) w k Quiet s → IsPlain f (copied f q v) w k Quiet s
copied_plain f w k v q s p = record {
  moved = p.moved;
  on = p.on;
  asked = p.asked;
  freed = p.freed;
  gone = p.gone;
  alone = p.alone;
  has = p.has;
  silent = λ x. none (eqb w v) _;
}
  where
    none : (b : Bool) (ws : List (ℕ × List (ℕ × ℕ))) → AreOther (notes k (cond b (AcquireReplicas ws ∷ []) []))
    none true ws = (refl, tt)
    none false ws = tt

-- ## Places and attempts

-- a place that is this worker's isn't another's
pub not_at : (w v a : ℕ) (o : Option (ℕ × ℕ)) → eqb v w ≡ false → is_this v a o ≡ true → at_worker w o ≡ None
not_at w v a None e t = refl
not_at w v a (Some p) e t = ap (λ b. cond b (Some p.1) None) (ap (λ n. eqb n w) (eqb-true p.0 v (and_first (eqb p.0 v) (eqb p.1 a) t)) ∙ e)

pub this_is : (w a : ℕ) (o : Option (ℕ × ℕ)) → is_this w a o ≡ is_at a (at_worker w o)
this_is w a None = refl
this_is w a (Some p) = pick (eqb p.0 w)
  where
    pick : (b : Bool) → (b && eqb p.1 a) ≡ is_at a (cond b (Some p.1) None)
    pick true = refl
    pick false = refl

-- the same, in place of a message
pub quiet_calm : (f : Facts) (g : Changed) (w k : ℕ) (s : Side) → Moved f g.facts k → ((g.facts.on k ≡ f.on k) × (g.facts.steal k ≡ f.steal k)) ⊎ (at_worker w (f.on k) ≡ None) → holds g.facts w k ≡ holds f w k → g.freed w k ≡ false → ((x : Facts) → AreOther (notes k (g.answer x w))) → IsCalm f g w k Quiet s
quiet_calm f g w k s moved place has freed silent = record { moved = moved; place = place; counts = refl; asked = refl; has = has; freed = freed; silent = silent }

-- nothing of the key changed
pub same_moved : (f g : Facts) → IsSettled f → (k : ℕ) → g.on k ≡ f.on k → g.steal k ≡ f.steal k → Moved f g k
same_moved f g t k on steal = Stays on (λ e. t.stolen_are_placed k (ap is_some (sym steal) ∙ e))
