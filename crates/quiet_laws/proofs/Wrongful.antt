-- Nothing becomes wrongful by an event of the scheduler, and no other disturbance comes.
use Rattle.std.proofs.Common.{◌≡◌, ℕ, ◌+◌, ◌<◌, ◌≤◌, Bool, true, false, cond, not, ◌&&◌, ◌||◌, List, [], ◌∷◌, ◌++◌, length, Option, Some, None, refl, sym, ap, ◌∙◌, arith, is_some, inl, inr, ◌⊎◌, ⊎_elim}
use Rattle.std.specs.Prelude.{nat_le}
use Rattle.std.specs.List.{list_any, filter_map, cons_option, AllByRecursion}
use Rattle.std.proofs.lemmas.Bool.{true≢false, false≢true, eqb-true, eq-eqb, or_cases, or_left, or_right, and_from, leb-true}
use Rattle.std.proofs.Math.Dec.{eqb}
use Rattle.small_facts.proofs.Truth.{and_first, and_second}
use Rattle.cluster_msgs.specs.declared.messages.Down.{Down}
use Rattle.cluster_msgs.specs.declared.messages.Down.TheVariants.{ComputeTask, FreeKeys}
use Rattle.cluster_msgs.specs.declared.messages.Up.{Up}
use Rattle.cluster_msgs.specs.declared.messages.Up.TheVariants.{TaskFinished, TaskErred, AddKeys, ReleaseWorkerData, MissingData, RequestRefreshWhoHas, StealResponse}
use Rattle.cluster_msgs.specs.declared.messages.FromClient.{FromClient as ClientMessage}
use Rattle.cluster_msgs.specs.declared.messages.FromClient.TheVariants.{Want, Release, Missing}
use Rattle.cluster_rules.specs.Derived.{below, is_in}
use Rattle.cluster_rules.specs.Sched.{Facts, keys, deps, holds, workers, need, ready, is_on, is_for, who_has}
use Rattle.cluster_rules.specs.SchedTable.{is_copy}
use Rattle.cluster_rules.specs.SchedStep.{Stages, lost, lost_keys, free_message, task_message, task_messages, to_worker, down_messages, finish_step, posted, mail, takes_away, fence_after}
use Rattle.cluster_rules.specs.Worker.{Ask}
use Rattle.cluster_rules.specs.World.{World, Parcel}
use Rattle.cluster_rules.proofs.WorkerLemmas.{in_filter}
use Rattle.cluster_rules.proofs.SchedFrame.{fence_after-place}
use Rattle.cluster_laws.proofs.OrderLemmas.{mail-own_part, mail-down}
use Rattle.quiet_measure.specs.Weights.{bit, sum_of, is_current}
use Rattle.quiet_measure.specs.Measure.{counts_loss, is_doomed, is_wrongful, up_disturbs, letter_disturbs, is_missed, missed_in}
use Rattle.quiet_measure.specs.Lighter.{under}
use Rattle.quiet_measure.specs.Settles.{SettlesAt}
use Rattle.quiet_laws.specs.Old.{IsOldUp, IsOldLetter, IsOldAsk, AreFenced}

-- ## Fences

-- no message takes the key away: the fence stays
untaken : (k s : ℕ) (ms : List Down) (f : ℕ) → list_any (takes_away k) ms ≡ false → fence_after k s ms f ≡ f
untaken k s [] f e = refl
untaken k s (m ∷ ms) f e = pick (takes_away k m) e (λ g x. untaken k (s + 1) ms g x)
  where
    pick : (b : Bool) → (b || list_any (takes_away k) ms) ≡ false → ((g : ℕ) → list_any (takes_away k) ms ≡ false → fence_after k (s + 1) ms g ≡ g) → fence_after k (s + 1) ms (cond b (s + 1) f) ≡ f
    pick true x rest = absurd (true≢false x)
    pick false x rest = rest f x

any_append : {A : Type 0} (p : A → Bool) (xs ys : List A) → list_any p (xs ++ ys) ≡ true → (list_any p xs ≡ true) ⊎ (list_any p ys ≡ true)
any_append p [] ys e = inr e
any_append p (x ∷ xs) ys e = ⊎_elim (λ a. inl (or_left (p x) (list_any p xs) a)) (λ a. ⊎_elim (λ c. inl (or_right (p x) (list_any p xs) c)) (λ c. inr c) (any_append p xs ys a)) (or_cases (p x) (list_any p (xs ++ ys)) e)

module _ (t : Stages) (x k : ℕ) where
  free_takes : (ks : List ℕ) → list_any (takes_away k) (mail x (free_message x ks)) ≡ true → is_in k ks ≡ true
  free_takes [] e = absurd (false≢true e)
  free_takes (q ∷ ks) e = pick (eqb x x) e
    where
      pick : (b : Bool) → list_any (takes_away k) (cond b (FreeKeys (q ∷ ks) ∷ []) []) ≡ true → is_in k (q ∷ ks) ≡ true
      pick true h = ⊎_elim (λ a. a) (λ a. absurd (false≢true a)) (or_cases (is_in k (q ∷ ks)) false h)
      pick false h = absurd (false≢true h)

  task_takes : (qs : List ℕ) → list_any (takes_away k) (mail x (filter_map (λ q. task_message t.placed t.before.counter x q (t.placed.on q)) qs)) ≡ true → ⊥
  task_takes [] e = false≢true e
  task_takes (q ∷ qs) e = one (t.placed.on q) (task_takes qs) e
    where
      put_on : (b c : Bool) (m : Down) → takes_away k m ≡ false → (list_any (takes_away k) (mail x (filter_map (λ q. task_message t.placed t.before.counter x q (t.placed.on q)) qs)) ≡ true → ⊥)
          → list_any (takes_away k) (mail x (cons_option (cond b (Some (x, m)) None) (filter_map (λ q. task_message t.placed t.before.counter x q (t.placed.on q)) qs))) ≡ true → ⊥
      put_on false c m n rest h = rest h
      put_on true c m n rest h = pick (eqb x x) h
        where
          pick : (b : Bool) → list_any (takes_away k) (cond b (m ∷ mail x (filter_map (λ q. task_message t.placed t.before.counter x q (t.placed.on q)) qs)) (mail x (filter_map (λ q. task_message t.placed t.before.counter x q (t.placed.on q)) qs))) ≡ true → ⊥
          pick true h = rest (sym (ap (λ y. y || list_any (takes_away k) (mail x (filter_map (λ q. task_message t.placed t.before.counter x q (t.placed.on q)) qs))) n) ∙ h)
          pick false h = rest h

      one : (o : Option (ℕ × ℕ)) → (list_any (takes_away k) (mail x (filter_map (λ q. task_message t.placed t.before.counter x q (t.placed.on q)) qs)) ≡ true → ⊥)
          → list_any (takes_away k) (mail x (cons_option (task_message t.placed t.before.counter x q o) (filter_map (λ q. task_message t.placed t.before.counter x q (t.placed.on q)) qs))) ≡ true → ⊥
      one None rest h = rest h
      one (Some r) rest h = put_on (eqb r.0 x && nat_le t.before.counter r.1) true (ComputeTask q r.1 (who_has t.placed (deps t.placed q))) refl rest h

  -- a message that takes a key away from a worker that lost it, and no other
  takes_lost : list_any (takes_away k) (t.changed.answer t.placed x) ≡ false → list_any (takes_away k) (mail x (down_messages t)) ≡ true → lost t x k ≡ true
  unfolding task_messages
  takes_lost silent e = pick (is_in x (workers t.placed)) (ap (list_any (takes_away k)) (sym (mail-down t x)) ∙ e)
    where
      part : list_any (takes_away k) (mail x (to_worker t x)) ≡ true → lost t x k ≡ true
      part h = ⊎_elim
          (λ a. in_filter (lost t x) (below (keys t.before)) k (free_takes (lost_keys t x) a))
          (λ a. ⊎_elim (λ c. absurd (task_takes (below (keys t.placed)) c)) (λ c. absurd (false≢true (sym silent ∙ c)))
          (any_append (takes_away k) (mail x (task_messages t.placed t.before.counter x)) (t.changed.answer t.placed x) a))
          (any_append (takes_away k) (mail x (free_message x (lost_keys t x))) (mail x (task_messages t.placed t.before.counter x) ++ t.changed.answer t.placed x) (ap (list_any (takes_away k)) (sym (mail-own_part t x)) ∙ h))

      pick : (b : Bool) → list_any (takes_away k) (cond b (mail x (to_worker t x)) []) ≡ true → lost t x k ≡ true
      pick true h = part h
      pick false h = absurd (false≢true h)

pub fence_is : (t : Stages) (x k : ℕ) → (finish_step t).facts.fence x k ≡ fence_after k (t.placed.sent x) (mail x (down_messages t)) (t.placed.fence x k)
unfolding finish_step posted
fence_is t x k = refl

pub has_is : (t : Stages) → (finish_step t).facts.has ≡ t.placed.has
unfolding finish_step posted
has_is t = refl

-- ## What an event is to be, so that it brings no disturbance

pub record IsHonest (f : Facts) (t : Stages) : Type 0 where
  pub at : (k : ℕ) → SettlesAt t k
  -- a worker that has the key's attempt, or from which the event itself frees the key, is no holder
  pub alone : (x k : ℕ) → is_on t.changed.facts x k ≡ true → holds t.changed.facts x k ≡ false
  pub freed : (x k : ℕ) → t.changed.freed x k ≡ true → holds t.changed.facts x k ≡ false
  pub silent : (x k : ℕ) → list_any (takes_away k) (t.changed.answer t.placed x) ≡ false
  -- a copy is new, or was there
  pub copies : (x k c : ℕ) → t.changed.facts.has x k ≡ Some c → c < f.counter → f.has x k ≡ Some c
  pub sent : t.placed.sent ≡ f.sent
  pub fences : t.placed.fence ≡ f.fence
  pub fenced : AreFenced f

module _ (f : Facts) (t : Stages) (h : IsHonest f t) where
  unneeded_gone : (x k : ℕ) → need t.known_only k ≡ false → holds t.placed x k ≡ false
  unneeded_gone x k n = ap is_some ((h.at k).has_is x ∙ ap (λ b. cond b (t.changed.facts.has x k) None) n)

  unheld_stays : (x k : ℕ) → holds t.changed.facts x k ≡ false → holds t.placed x k ≡ false
  unheld_stays x k e = ap is_some ((h.at k).has_is x) ∙ by (need t.known_only k) (t.changed.facts.has x k) e
    where
      by : (b : Bool) (o : Option ℕ) → is_some o ≡ false → is_some (cond b o None) ≡ false
      by true o e = e
      by false o e = refl

  pub lost_unheld : (x k : ℕ) → lost t x k ≡ true → holds t.placed x k ≡ false
  lost_unheld x k e = ⊎_elim
      (λ a. unheld_stays x k (h.freed x k a))
      (λ a. ⊎_elim
      (λ c. unneeded_gone x k (flip (need t.known_only k) (and_second (holds t.known_only x k) (not (need t.known_only k)) c)))
      (λ c. unheld_stays x k (h.alone x k (ap (λ o. is_for x (o k)) (sym (h.at k).was_on) ∙ and_first (is_on t.needed_only x k) (not (ready t.needed_only k)) c)))
      (or_cases (holds t.known_only x k && not (need t.known_only k)) (is_on t.needed_only x k && not (ready t.needed_only k)) a))
      (or_cases (t.changed.freed x k) ((holds t.known_only x k && not (need t.known_only k)) || (is_on t.needed_only x k && not (ready t.needed_only k))) e)
    where
      flip : (b : Bool) → not b ≡ true → b ≡ false
      flip true q = absurd (false≢true q)
      flip false q = refl

  abbrev g : Facts
  g = (finish_step t).facts

  -- a fence that is another is one of a key that the worker holds no longer
  pub fence_cases : (x k : ℕ) → ((finish_step t).facts.fence x k ≡ f.fence x k) ⊎ (holds (finish_step t).facts x k ≡ false)
  fence_cases x k = pick (list_any (takes_away k) (mail x (down_messages t))) refl
    where
      pick : (b : Bool) → list_any (takes_away k) (mail x (down_messages t)) ≡ b → (g.fence x k ≡ f.fence x k) ⊎ (holds g x k ≡ false)
      pick false e = inl (fence_is t x k ∙ untaken k (t.placed.sent x) (mail x (down_messages t)) (t.placed.fence x k) e ∙ ap (λ y. y x k) h.fences)
      pick true e = inr (ap (λ y. is_some (y x k)) (has_is t) ∙ lost_unheld x k (takes_lost t x k (h.silent x k) e))

  pub fence_rises : (x k : ℕ) → f.fence x k ≤ (finish_step t).facts.fence x k
  fence_rises x k =
      let a : g.fence x k ≡ fence_after k (t.placed.sent x) (mail x (down_messages t)) (t.placed.fence x k) = fence_is t x k in
      let b : t.placed.fence x k ≡ f.fence x k = ap (λ y. y x k) h.fences in
      let c : t.placed.sent x ≡ f.sent x = ap (λ y. y x) h.sent in
      let d : f.fence x k ≤ f.sent x = h.fenced x k in
      ⊎_elim (λ e. omega (arith, a, b, e)) (λ e. let z = e.0 in omega (arith, a, b, c, d, z)) (fence_after-place k (t.placed.sent x) (mail x (down_messages t)) (t.placed.fence x k))

  pub old_copy : (x k c : ℕ) → (finish_step t).facts.has x k ≡ Some c → c < f.counter → f.has x k ≡ Some c
  old_copy x k c e l = h.copies x k c (by (need t.known_only k) (sym ((h.at k).has_is x) ∙ ap (λ y. y x k) (sym (has_is t)) ∙ e)) l
    where
      none_some : (c : ℕ) → None ≡ Some c → ⊥
      none_some c e = cc

      by : (b : Bool) → cond b (t.changed.facts.has x k) None ≡ Some c → t.changed.facts.has x k ≡ Some c
      by true q = q
      by false q = absurd (none_some c q)

-- ## Losses

-- a loss counts by the fence alone
loss_same : (f g : Facts) (x k : ℕ) (us : List Up) → g.fence x k ≡ f.fence x k → list_any (counts_loss g x k) us ≡ list_any (counts_loss f x k) us
loss_same f g x k [] e = refl
loss_same f g x k (TaskFinished seen q a ∷ us) e = loss_same f g x k us e
loss_same f g x k (TaskErred seen q a ∷ us) e = loss_same f g x k us e
loss_same f g x k (AddKeys seen ks ∷ us) e = loss_same f g x k us e
loss_same f g x k (ReleaseWorkerData seen q ∷ us) e = ap (λ n. (eqb q k && nat_le n seen) || list_any (counts_loss g x k) us) e ∙ ap (λ b. (eqb q k && nat_le (f.fence x k) seen) || b) (loss_same f g x k us e)
loss_same f g x k (MissingData seen q p c ∷ us) e = loss_same f g x k us e
loss_same f g x k (RequestRefreshWhoHas seen q ∷ us) e = loss_same f g x k us e
loss_same f g x k (StealResponse seen q a agreed ∷ us) e = loss_same f g x k us e

-- world w with v, which is w but for the message that was taken, and the facts that the event leaves
module _ (w v : World) (t : Stages) (h : IsHonest w.sched t) (alive : v.alive ≡ w.alive)
    (took : (x k : ℕ) → list_any (counts_loss w.sched x k) (w.up x) ≡ true → (list_any (counts_loss w.sched x k) (v.up x) ≡ true) ⊎ (holds (finish_step t).facts x k ≡ false)) where
  abbrev pub then : World
  then = under v (finish_step t).facts

  copy_is : (c : ℕ) (o : Option ℕ) → is_copy c o ≡ true → o ≡ Some c
  copy_is c None e = absurd (false≢true e)
  copy_is c (Some d) e = ap (λ n. Some n) (eqb-true d c e)

  copy_refl : (c : ℕ) → is_copy c (Some c) ≡ true
  copy_refl c = eq-eqb c c refl

  -- what would be wrongful was so
  pub nothing_new : (x k c : ℕ) → c < w.sched.counter → is_wrongful then x k c ≡ true → is_wrongful w x k c ≡ true
  nothing_new x k c l e =
      let has : (finish_step t).facts.has x k ≡ Some c = copy_is c ((finish_step t).facts.has x k) (and_first (is_current (finish_step t).facts x k c) (not (is_doomed then x k)) e) in
      and_from (is_current w.sched x k c) (not (is_doomed w x k))
      (ap (is_copy c) (old_copy w.sched t h x k c has l) ∙ copy_refl c)
      (spared has (is_doomed w x k) refl (and_second (is_current (finish_step t).facts x k c) (not (is_doomed then x k)) e))
    where
      some_not : (c : ℕ) (o : Option ℕ) → o ≡ Some c → is_some o ≡ false → ⊥
      some_not c o a b = true≢false (sym (ap is_some a) ∙ b)

      spared : (finish_step t).facts.has x k ≡ Some c → (b : Bool) → is_doomed w x k ≡ b → not (is_doomed then x k) ≡ true → not b ≡ true
      spared has false q n = refl
      spared has true q n = absurd (⊎_elim
          (λ a. false≢true (sym (ap not (ap (λ z. not (z x) || list_any (counts_loss (finish_step t).facts x k) (v.up x)) alive ∙ ap (λ z. z || list_any (counts_loss (finish_step t).facts x k) (v.up x)) a)) ∙ n))
          (λ a. ⊎_elim
          (λ y. ⊎_elim
          (λ z. false≢true (sym (ap not (ap (λ b. not (v.alive x) || b) (loss_same w.sched (finish_step t).facts x k (v.up x) z ∙ y) ∙ right (not (v.alive x)))) ∙ n))
          (λ z. some_not c ((finish_step t).facts.has x k) has z)
          (fence_cases w.sched t h x k))
          (λ y. some_not c ((finish_step t).facts.has x k) has y)
          (took x k a))
          (or_cases (not (w.alive x)) (list_any (counts_loss w.sched x k) (w.up x)) q))
        where
          right : (b : Bool) → (b || true) ≡ true
          right true = refl
          right false = refl

  bits : (a b : Bool) → (a ≡ true → b ≡ true) → bit a ≤ bit b
  bits true b p = let e : bit b ≡ 1 = ap bit (p refl) in omega (arith, e)
  bits false b p = omega arith

  wrong_less : (x k c : ℕ) → c < w.sched.counter → bit (is_wrongful then x k c) ≤ bit (is_wrongful w x k c)
  wrong_less x k c l = bits (is_wrongful then x k c) (is_wrongful w x k c) (nothing_new x k c l)

  pub up_less : (i : ℕ) (m : Up) → IsOldUp w.sched.counter m → up_disturbs then i m ≤ up_disturbs w i m
  up_less i (ReleaseWorkerData seen k) o = bits (nat_le ((finish_step t).facts.fence i k) seen) (nat_le (w.sched.fence i k) seen)
      (λ e. let a : (finish_step t).facts.fence i k ≤ seen = leb-true ((finish_step t).facts.fence i k) seen e in let b : w.sched.fence i k ≤ (finish_step t).facts.fence i k = fence_rises w.sched t h i k in le_true (w.sched.fence i k) seen (omega (arith, a, b)))
    where
      le_true : (n m : ℕ) → n ≤ m → nat_le n m ≡ true
      le_true n m l = grind (arith, l)
  up_less i (MissingData seen k x c) o = wrong_less x k c o
  up_less i (TaskFinished seen k a) o = same (v.alive i) (w.alive i) (ap (λ a. a i) alive)
    where
      same : (x y : Bool) → x ≡ y → bit (not x) ≤ bit (not y)
      same x y e = bits (not x) (not y) (λ q. ap not (sym e) ∙ q)
  up_less i (AddKeys seen ks) o = same (v.alive i) (w.alive i) (ap (λ a. a i) alive)
    where
      same : (x y : Bool) → x ≡ y → cond x 0 (length ks) ≤ cond y 0 (length ks)
      same x y e = let z : cond x 0 (length ks) ≡ cond y 0 (length ks) = ap (λ b. cond b 0 (length ks)) e in omega (arith, z)
  up_less i (TaskErred seen k a) o = omega arith
  up_less i (RequestRefreshWhoHas seen k) o = omega arith
  up_less i (StealResponse seen k a agreed) o = omega arith

  pub ups_less : (i : ℕ) (us : List Up) → AllByRecursion (IsOldUp w.sched.counter) us → sum_of (up_disturbs then i) us ≤ sum_of (up_disturbs w i) us
  ups_less i [] o = omega arith
  ups_less i (m ∷ us) o = let a : up_disturbs then i m ≤ up_disturbs w i m = up_less i m o.0 in let b : sum_of (up_disturbs then i) us ≤ sum_of (up_disturbs w i) us = ups_less i us o.1 in omega (arith, a, b)

  letter_less : (m : ClientMessage) → IsOldLetter w.sched.counter m → letter_disturbs then m ≤ letter_disturbs w m
  letter_less (Want ks) o = omega arith
  letter_less (Release ks) o = omega arith
  letter_less (Missing k x c) o = wrong_less x k c o

  pub letters_less : (us : List ClientMessage) → AllByRecursion (IsOldLetter w.sched.counter) us → sum_of (letter_disturbs then) us ≤ sum_of (letter_disturbs w) us
  letters_less [] o = omega arith
  letters_less (m ∷ us) o = let a : letter_disturbs then m ≤ letter_disturbs w m = letter_less m o.0 in let b : sum_of (letter_disturbs then) us ≤ sum_of (letter_disturbs w) us = letters_less us o.1 in omega (arith, a, b)

  items_less : (q : Parcel) (is : List (ℕ × ℕ)) → AllByRecursion (λ (i : ℕ × ℕ). i.1 < w.sched.counter) is → sum_of (λ i. bit (is_missed then q i)) is ≤ sum_of (λ i. bit (is_missed w q i)) is
  items_less q [] o = omega arith
  items_less q (i ∷ is) o =
      let a : bit (not (is_in i.0 q.keys) && is_wrongful then q.peer i.0 i.1) ≤ bit (not (is_in i.0 q.keys) && is_wrongful w q.peer i.0 i.1) = one (not (is_in i.0 q.keys)) in
      let b : sum_of (λ i. bit (is_missed then q i)) is ≤ sum_of (λ i. bit (is_missed w q i)) is = items_less q is o.1 in
      omega (arith, a, b)
    where
      one : (b : Bool) → bit (b && is_wrongful then q.peer i.0 i.1) ≤ bit (b && is_wrongful w q.peer i.0 i.1)
      one true = wrong_less q.peer i.0 i.1 o.0
      one false = omega arith

  pub missed_less : (q : Parcel) (a : Option Ask) → ((b : Ask) → a ≡ Some b → IsOldAsk w.sched.counter b) → missed_in then q a ≤ missed_in w q a
  missed_less q None o = omega arith
  missed_less q (Some a) o = pick (eqb a.number q.ask)
    where
      pick : (b : Bool) → cond b (sum_of (λ i. bit (is_missed then q i)) a.items) 0 ≤ cond b (sum_of (λ i. bit (is_missed w q i)) a.items) 0
      pick true = items_less q a.items (o a refl)
      pick false = omega arith
