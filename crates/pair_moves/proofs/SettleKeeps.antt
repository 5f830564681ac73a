-- Settling keeps what holds of each pair.
use Rattle.std.proofs.Common.{◌≡◌, ℕ, ◌+◌, ◌<◌, ◌≤◌, Bool, true, false, not, cond, ◌&&◌, ◌||◌, List, [], ◌∷◌, ◌++◌, Option, Some, None, refl, sym, ap, ◌∙◌, subst, arith, is_some, inl, inr, ◌⊎◌, ⊎_elim, length, append_assoc}
use Rattle.std.specs.Prelude.{nat_le}
use Rattle.std.specs.List.{list_any}
use Rattle.std.proofs.lemmas.Bool.{true≢false, false≢true, eqb-true, or_cases, leb-false, leb-true, eq-eqb}
use Rattle.std.proofs.Math.Dec.{eqb}
use Rattle.std.proofs.Math.Bool.{and-false}
use Rattle.std.proofs.lemmas.List.{length-append}
use Rattle.std.proofs.lemmas.Option.{none-some, same_Some}
use Rattle.small_facts.proofs.Options.{same_second}
use Rattle.small_facts.proofs.Truth.{or_first_false, or_second_false}
use Rattle.cluster_msgs.specs.Shape.{key_count}
use Rattle.cluster_msgs.specs.declared.messages.Down.{Down}
use Rattle.cluster_rules.specs.Functions.{from_one}
use Rattle.cluster_rules.specs.Derived.{below, is_in}
use Rattle.cluster_rules.specs.Sched.{Facts, keys, workers, connected, holds, held, need, ready, is_on, is_for}
use Rattle.cluster_rules.specs.SchedTable.{is_asked_back, Changed}
use Rattle.cluster_rules.specs.SchedStep.{fence_after, Stages, settle, finish_step, posted, place_all, place_keys, drop_bad, drop_has, drop_on, down_messages, lost, lost_keys, mail, count_to}
use Rattle.cluster_rules.proofs.SchedFrame.{IsPlacing, placing_keys, in_filter, in_range, count_to-mail}
use Rattle.pair_machine.specs.Pair.{Note, Free, Other, fence_notes, Pair, IsPair}
use Rattle.pair_machine.specs.Moves.{withdrawn}
use Rattle.pair_machine.proofs.PairKept.{kept_tell}
use Rattle.pair_moves.specs.Projection.{notes, reports, at_worker, Side, pair_of}
use Rattle.pair_moves.proofs.PairTold.{AreOther, fence_other, told_others, task_notes, sent_on, sent_none, kept_more, told_nothing, told_given}
use Rattle.pair_moves.proofs.Settling.{notes-append, notes_long, free_notes, fence_noted, fence-append, fence_free, fence_tasks, new_at, in_filter_is, distinct_range, event_notes, placed_ready}
use Rattle.cluster_laws.proofs.Errors.{ready_is_not_held}

-- the change of an event itself: a key with a place is neither freed nor held, and a key that is freed isn't held there
pub record IsFair (g : Changed) (w k : ℕ) : Type 0 where
  pub freed : is_on g.facts w k ≡ true → g.freed w k ≡ false
  pub apart : is_on g.facts w k ≡ true → holds g.facts w k ≡ false
  pub gone : g.freed w k ≡ true → holds g.facts w k ≡ false
  pub below : (a : ℕ) → g.facts.on k ≡ Some (w, a) → a < g.facts.counter

-- the pair after the message that names what the worker lost
abbrev pub freed_pair : Bool → List Note → Pair → Pair
freed_pair lost ns p = record p { has = cond lost false p.has; on = cond lost None p.on; asked = cond lost false p.asked; fence = cond lost (p.sent + 1) p.fence; down = p.down ++ ns; sent = p.sent + length ns }

freed_keeps : (k : ℕ) (ks : List ℕ) (b : Bool) (p : Pair) → is_in k ks ≡ b → (b ≡ false → IsPair p) → (b ≡ true → IsPair (withdrawn p)) → IsPair (freed_pair b (free_notes k ks) p)
freed_keeps k [] true p i h g = absurd (false≢true i)
freed_keeps k [] false p i h g = sent_none p (h refl)
freed_keeps k (x ∷ xs) true p i h g = subst (λ c. IsPair (freed_pair true (cond c Free Other ∷ []) p)) (sym i) (g refl)
freed_keeps k (x ∷ xs) false p i h g = subst (λ c. IsPair (freed_pair false (cond c Free Other ∷ []) p)) (sym i) (kept_tell p (h refl))

abbrev pub asked_or : Option ℕ → Bool → Bool
asked_or None b = b
asked_or (Some a) b = false

abbrev pub or_else : Option ℕ → Option ℕ → Option ℕ
or_else None o = o
or_else (Some a) o = Some a

-- the pair after the tasks
abbrev pub given_pair : Option ℕ → ℕ → List Note → Pair → Pair
given_pair o c ns p = record p { on = or_else o p.on; asked = asked_or o p.asked; counter = c; down = p.down ++ ns; sent = p.sent + length ns }

tasks_keep : (k n c : ℕ) (h : ℕ → Option ℕ) (p : Pair) (o : Option ℕ) → h k ≡ o → k < n → p.counter ≤ c → ((a : ℕ) → o ≡ Some a → (p.has ≡ false) × (p.counter ≤ a) × (a < c)) → IsPair p → IsPair (given_pair o c (task_notes k h (below n)) p)
tasks_keep k n c h p None e l m new s = kept_more (sent_on p (task_notes k h (below n))) c m (told_nothing k h (below n) p (λ _. e) s)
tasks_keep k n c h p (Some a) e l m new s = let r = new a refl in told_given k a c h (below n) p e (in_range 0 n k (omega arith) (omega arith)) (distinct_range 0 n) r.0 r.1 r.2 s

-- the attempt of a place that is the worker's and older than that
abbrev pub old_at : ℕ → ℕ → Option (ℕ × ℕ) → Option ℕ
old_at since w None = None
old_at since w (Some p) = cond (eqb p.0 w && not (nat_le since p.1)) (Some p.1) None

-- a place that is new and the worker's
pub new_some : (since w a : ℕ) (x : Option (ℕ × ℕ)) → new_at since w x ≡ Some a → (x ≡ Some (w, a)) × (since ≤ a)
new_some since w a None e = absurd (none-some a e)
new_some since w a (Some p) e = pick (eqb p.0 w) refl (nat_le since p.1) refl e
  where
    pick : (b : Bool) → eqb p.0 w ≡ b → (c : Bool) → nat_le since p.1 ≡ c → cond (b && c) (Some p.1) None ≡ Some a → (Some p ≡ Some (w, a)) × (since ≤ a)
    pick true x true y h = let q : p.1 ≡ a = same_Some p.1 a h in (ap Some (λ i. (eqb-true p.0 w x i, q i)), subst (λ n. since ≤ n) q (leb-true since p.1 y))
    pick true x false y h = absurd (none-some a h)
    pick false x c y h = absurd (none-some a h)

only_place : {A : Type 0} (b : Bool) (o : Option A) (x : A) → cond b o None ≡ Some x → (b ≡ true) × (o ≡ Some x)
only_place true o x e = (refl, e)
only_place false o x e = absurd (none-some x e)

-- no worker holds a ready key
none_of : (p : ℕ → Bool) (x : ℕ) (xs : List ℕ) → list_any p xs ≡ false → is_in x xs ≡ true → p x ≡ false
none_of p x [] e i = absurd (false≢true i)
none_of p x (y ∷ ys) e i = ⊎_elim (λ h. ap p (sym (eqb-true y x h)) ∙ or_first_false (p y) (list_any p ys) e) (λ h. none_of p x ys (or_second_false (p y) (list_any p ys) e) h) (or_cases (eqb y x) (is_in x ys) i)

pub held_none : (f : Facts) (w k : ℕ) → 1 ≤ w → w ≤ f.last_worker → held f k ≡ false → holds f w k ≡ false
unfolding held
held_none f w k from upto h = none_of (λ v. holds f v k) w (from_one f.last_worker) h (in_range 1 f.last_worker w from (omega arith))

ready_apart : (f : Facts) (w k : ℕ) → 1 ≤ w → w ≤ f.last_worker → ready f k ≡ true → holds f w k ≡ false
ready_apart f w k from upto r = held_none f w k from upto (ready_is_not_held f k r)

-- the pair once the event's own change is made: what is given anew is not yet told
abbrev pub changed_pair : Facts → Changed → Bool → Bool → ℕ → ℕ → Side → Pair
changed_pair f g has asked w k s = record {
  has = has;
  on = old_at f.counter w (g.facts.on k);
  asked = asked;
  fence = g.facts.fence w k;
  sent = g.facts.sent w;
  counter = f.counter;
  down = notes k s.down;
  seen = s.seen;
  mine = s.mine;
  mem = s.mem;
  up = reports k s.up;
}

-- what an answer does to the pair
abbrev pub Closes : Stages → Bool → Bool → ℕ → ℕ → Type 0
Closes t has was w k =
    (x : Pair) → x.has ≡ cond (lost t w k) false has → x.on ≡ at_worker w (t.placed.on k) → x.on ≡ or_else (new_at t.before.counter w (t.placed.on k)) (cond (lost t w k) None (old_at t.before.counter w (t.changed.facts.on k))) → x.asked ≡ asked_or (new_at t.before.counter w (t.placed.on k)) (cond (lost t w k) false was) → x.counter ≡ t.placed.counter → IsPair x
    → IsPair (record x { has = holds t.placed w k; asked = is_some (at_worker w (t.placed.on k)) && is_asked_back (t.placed.steal k); fence = fence_notes x.sent (notes k (t.changed.answer t.placed w)) x.fence; down = x.down ++ notes k (t.changed.answer t.placed w); sent = x.sent + length (notes k (t.changed.answer t.placed w)) })

pub settle_keeps : (f : Facts) (g : Changed) (has was : Bool) (w k : ℕ) (s : Side) → k < keys f → g.facts.setting ≡ f.setting → f.counter ≤ g.facts.counter → 1 ≤ w → w ≤ g.facts.last_worker → is_some (g.facts.threads w) ≡ true → IsFair g w k
    → ((a : ℕ) → new_at f.counter w ((settle f g).placed.on k) ≡ Some a → cond (lost (settle f g) w k) false has ≡ false)
    → (lost (settle f g) w k ≡ false → IsPair (changed_pair f g has was w k s))
    → (lost (settle f g) w k ≡ true → IsPair (withdrawn (changed_pair f g has was w k s)))
    → Closes (settle f g) has was w k
    → IsPair (pair_of (finish_step (settle f g)).facts w k (record s { down = s.down ++ mail w (finish_step (settle f g)).down }))
unfolding finish_step settle posted place_all drop_bad drop_has drop_on
settle_keeps f g has was w k s low same more from upto there fair newly stays goes closes =
    subst (λ (x : Pair). IsPair x) (λ i. record {
      has = holds t.placed w k;
      on = at_worker w place;
      asked = is_some (at_worker w place) && is_asked_back (t.placed.steal k);
      fence = fence_is i;
      sent = sent_is i;
      counter = t.placed.counter;
      down = down_is i;
      seen = s.seen;
      mine = s.mine;
      mem = s.mem;
      up = p.up;
    }) (closes (record {
      has = cond (lost t w k) false has;
      on = at_worker w place;
      asked = asked_or (h k) (cond (lost t w k) false was);
      fence = cond (lost t w k) (g.facts.sent w + 1) (g.facts.fence w k);
      sent = (g.facts.sent w + length free) + length tasks;
      counter = t.placed.counter;
      down = (notes k s.down ++ free) ++ tasks;
      seen = s.seen;
      mine = s.mine;
      mem = s.mem;
      up = p.up;
    }) refl refl (sym on_is) refl refl (subst (λ (x : Pair). IsPair x) equal
    (tasks_keep k (keys t.placed) t.placed.counter h (freed_pair (lost t w k) free p) (h k) refl (omega (arith, wide)) (omega (arith, p0.counter)) new
    (freed_keeps k (lost_keys t w) (lost t w k) p lost_is stays goes))))
  where
    a0 : Facts
    a0 = drop_has (drop_bad g.facts)

    o : Facts
    o = drop_on a0

    t : Stages
    t = settle f g

    p : Pair
    p = changed_pair f g has was w k s

    p0 : IsPlacing o (place_keys o (below (keys o)))
    p0 = placing_keys o (below (keys o))

    place : Option (ℕ × ℕ)
    place = t.placed.on k

    h : ℕ → Option ℕ
    h = λ q. new_at f.counter w (t.placed.on q)

    free : List Note
    free = free_notes k (lost_keys t w)

    tasks : List Note
    tasks = task_notes k h (below (keys t.placed))

    ms : List (ℕ × Down)
    ms = down_messages t

    wide : keys t.placed ≡ keys f
    wide = ap (λ s. key_count s.shape) (p0.setting ∙ same)

    is_worker : is_in w (workers t.placed) ≡ true
    is_worker = in_filter (connected t.placed) w (from_one t.placed.last_worker) (in_range 1 t.placed.last_worker w from (omega (arith, p0.last_worker))) (ap (λ s. is_some (s w)) p0.threads ∙ there)

    lost_is : is_in k (lost_keys t w) ≡ lost t w k
    lost_is = in_filter_is (lost t w) k (below (keys f)) ∙ ap (λ b. b && lost t w k) (in_range 0 (keys f) k (omega arith) (omega arith))

    answers : List Note
    answers = notes k (g.answer t.placed w)

    told : notes k (mail w ms) ≡ free ++ (tasks ++ answers)
    told = event_notes t w k is_worker

    new : (a : ℕ) → h k ≡ Some a → ((freed_pair (lost t w k) free p).has ≡ false) × (f.counter ≤ a) × (a < t.placed.counter)
    new a e =
        let n : (place ≡ Some (w, a)) × (f.counter ≤ a) = new_some f.counter w a place e in
        let c : a < t.placed.counter = ⊎_elim (λ i. let l : a < g.facts.counter = fair.below a (only_place (ready a0 k) (g.facts.on k) (w, a) i).1 in omega (arith, p0.counter)) (λ i. i.1) (p0.on k w a n.0) in
        (newly a e, n.1, c)

    on_it : (a : ℕ) → g.facts.on k ≡ Some (w, a) → is_on g.facts w k ≡ true
    on_it a on = ap (is_for w) on ∙ eq-eqb w w refl

    -- a place that the event's own change leaves stays where nothing is lost
    stay : (a : ℕ) → g.facts.on k ≡ Some (w, a) → lost t w k ≡ false → place ≡ Some (w, a)
    stay a on kept = pick (ready a0 k) refl
      where
        third : (x y z : Bool) → (x || (y || z)) ≡ false → z ≡ false
        third false false z e = e
        third false true z e = absurd (true≢false e)
        third true y z e = absurd (true≢false e)

        pick : (r : Bool) → ready a0 k ≡ r → place ≡ Some (w, a)
        pick true e = p0.stays k (w, a) (ap (λ r. cond r (g.facts.on k) None) e ∙ on)
        pick false e = absurd (true≢false (sym (ap (λ x. x && not (ready a0 k)) (on_it a on) ∙ ap not e) ∙ third (g.freed w k) (holds g.facts w k && not (need (drop_bad g.facts) k)) (is_on g.facts w k && not (ready a0 k)) kept))

    -- nothing is lost where the place is an old one
    old_stays : (a : ℕ) → place ≡ Some (w, a) → a < f.counter → (g.facts.on k ≡ Some (w, a)) × (lost t w k ≡ false)
    old_stays a e l = ⊎_elim (λ i. (only (only_place (ready a0 k) (g.facts.on k) (w, a) i))) (λ n. absurd (too_new a l n.0)) (p0.on k w a e)
      where
        too_new : (a : ℕ) → a < f.counter → g.facts.counter ≤ a → ⊥
        too_new a l m = omega arith

        not_lost : is_on g.facts w k ≡ true → ready a0 k ≡ true → lost t w k ≡ false
        not_lost it r = ap (λ x. x || ((holds g.facts w k && not (need (drop_bad g.facts) k)) || (is_on g.facts w k && not (ready a0 k)))) (fair.freed it)
            ∙ ap (λ x. (x && not (need (drop_bad g.facts) k)) || (is_on g.facts w k && not (ready a0 k))) (fair.apart it)
            ∙ ap (λ x. is_on g.facts w k && not x) r ∙ and-false (is_on g.facts w k)

        only : (ready a0 k ≡ true) × (g.facts.on k ≡ Some (w, a)) → (g.facts.on k ≡ Some (w, a)) × (lost t w k ≡ false)
        only i = (i.1, not_lost (on_it a i.1) i.0)

    -- the worker has no place of the key afterwards
    none_left : ((a : ℕ) → place ≡ Some (w, a) → ⊥) → cond (lost t w k) None (old_at f.counter w (g.facts.on k)) ≡ None
    none_left no_place = pick (lost t w k) refl (g.facts.on k) refl
      where
        pick : (b : Bool) → lost t w k ≡ b → (y : Option (ℕ × ℕ)) → g.facts.on k ≡ y → cond b None (old_at f.counter w y) ≡ None
        pick true l y e = refl
        pick false l None e = refl
        pick false l (Some r) e = here (eqb r.0 w) refl (nat_le f.counter r.1)
          where
            here : (c : Bool) → eqb r.0 w ≡ c → (d : Bool) → cond (c && not d) (Some r.1) None ≡ None
            here true i false = absurd (no_place r.1 (stay r.1 (e ∙ ap (λ v. Some (v, r.1)) (eqb-true r.0 w i)) l))
            here true i true = refl
            here false i d = refl

    on_is : or_else (h k) (cond (lost t w k) None (old_at f.counter w (g.facts.on k))) ≡ at_worker w place
    on_is = pick place refl
      where
        same_pair : (x y : ℕ × ℕ) → Some x ≡ Some y → x.0 ≡ y.0
        same_pair x y e = let same : x ≡ y = cc in ap (λ (z : ℕ × ℕ). z.0) same

        pick : (x : Option (ℕ × ℕ)) → place ≡ x → or_else (new_at f.counter w x) (cond (lost t w k) None (old_at f.counter w (g.facts.on k))) ≡ at_worker w x
        pick None e = none_left (λ a q. none-some (w, a) (sym e ∙ q))
        pick (Some r) e = here (eqb r.0 w) refl (nat_le f.counter r.1) refl
          where
            here : (b : Bool) → eqb r.0 w ≡ b → (c : Bool) → nat_le f.counter r.1 ≡ c → or_else (cond (b && c) (Some r.1) None) (cond (lost t w k) None (old_at f.counter w (g.facts.on k))) ≡ cond b (Some r.1) None
            here true i true j = refl
            here true i false j = let old = old_stays r.1 (e ∙ ap (λ v. Some (v, r.1)) (eqb-true r.0 w i)) (leb-false f.counter r.1 j) in
                ap (λ b. cond b None (old_at f.counter w (g.facts.on k))) old.1 ∙ ap (old_at f.counter w) old.0 ∙ ap (λ b. cond (b && not (nat_le f.counter r.1)) (Some r.1) None) (eq-eqb w w refl) ∙ ap (λ b. cond (not b) (Some r.1) None) j
            here false i c j = none_left (λ a q. true≢false (sym (eq-eqb r.0 w (same_pair r (w, a) (sym e ∙ q))) ∙ i))

    fence_is : fence_notes ((g.facts.sent w + length free) + length tasks) answers (cond (lost t w k) (g.facts.sent w + 1) (g.facts.fence w k)) ≡ fence_after k (t.placed.sent w) (mail w ms) (t.placed.fence w k)
    fence_is = ap (λ n. fence_notes ((g.facts.sent w + length free) + length tasks) answers n) (ap (λ b. cond b (g.facts.sent w + 1) (g.facts.fence w k)) (sym lost_is) ∙ sym (fence_free (g.facts.sent w) k (lost_keys t w) (g.facts.fence w k)) ∙ sym (fence_tasks k h (below (keys t.placed)) (g.facts.sent w + length free) (fence_notes (g.facts.sent w) free (g.facts.fence w k))))
        ∙ sym (fence-append (g.facts.sent w + length free) tasks answers (fence_notes (g.facts.sent w) free (g.facts.fence w k)))
        ∙ sym (fence-append (g.facts.sent w) free (tasks ++ answers) (g.facts.fence w k))
        ∙ ap (λ ns. fence_notes (g.facts.sent w) ns (g.facts.fence w k)) (sym told)
        ∙ sym (fence_noted k (g.facts.sent w) (mail w ms) (g.facts.fence w k))
        ∙ ap (λ n. fence_after k (n w) (mail w ms) (g.facts.fence w k)) (sym p0.sent) ∙ ap (λ n. fence_after k (t.placed.sent w) (mail w ms) (n w k)) (sym p0.fence)

    down_is : ((notes k s.down ++ free) ++ tasks) ++ answers ≡ notes k (s.down ++ mail w ms)
    down_is = append_assoc (notes k s.down ++ free) tasks answers ∙ append_assoc (notes k s.down) free (tasks ++ answers) ∙ ap (λ l. notes k s.down ++ l) (sym told) ∙ sym (notes-append k s.down (mail w ms))

    sent_is : ((g.facts.sent w + length free) + length tasks) + length answers ≡ t.placed.sent w + count_to w ms
    sent_is = let l = length-append free (tasks ++ answers) in let m = length-append tasks answers in let d = ap length told in let n = notes_long k (mail w ms) in let c = count_to-mail w ms in let e : t.placed.sent w ≡ g.facts.sent w = ap (λ x. x w) p0.sent in omega arith

    equal : given_pair (h k) t.placed.counter tasks (freed_pair (lost t w k) free p) ≡ record {
      has = cond (lost t w k) false has;
      on = at_worker w place;
      asked = asked_or (h k) (cond (lost t w k) false was);
      fence = cond (lost t w k) (g.facts.sent w + 1) (g.facts.fence w k);
      sent = (g.facts.sent w + length free) + length tasks;
      counter = t.placed.counter;
      down = (notes k s.down ++ free) ++ tasks;
      seen = s.seen;
      mine = s.mine;
      mem = s.mem;
      up = p.up;
    }
    equal = λ i. record (given_pair (h k) t.placed.counter tasks (freed_pair (lost t w k) free p)) { on = on_is i }

-- what a worker holds after an event that answers nothing on the key
pub plain_has : (f : Facts) (g : Changed) (w k : ℕ) → IsFair g w k → cond (lost (settle f g) w k) false (holds g.facts w k) ≡ holds (settle f g).placed w k
unfolding settle place_all drop_bad drop_has drop_on
plain_has f g w k fair = pick (need (drop_bad g.facts) k) refl (lost t w k) refl ∙ sym (ap (λ x. is_some (x w k)) p0.has)
  where
    a0 : Facts
    a0 = drop_has (drop_bad g.facts)

    o : Facts
    o = drop_on a0

    t : Stages
    t = settle f g

    p0 : IsPlacing o (place_keys o (below (keys o)))
    p0 = placing_keys o (below (keys o))

    lost_by : (y x n z r : Bool) → (y || ((x && not n) || (z && not r))) ≡ true → n ≡ true → (y ≡ true) ⊎ (z ≡ true)
    lost_by true x n z r e q = inl refl
    lost_by false x n true r e q = inr refl
    lost_by false true true false r e q = absurd (false≢true e)
    lost_by false true false false r e q = absurd (false≢true q)
    lost_by false false n false r e q = absurd (false≢true e)

    kept_by : (y x n z r : Bool) → (y || ((x && not n) || (z && not r))) ≡ false → n ≡ false → x ≡ false
    kept_by true x n z r e q = absurd (true≢false e)
    kept_by false true true z r e q = absurd (true≢false q)
    kept_by false true false z r e q = absurd (true≢false e)
    kept_by false false n z r e q = refl

    pick : (n : Bool) → need (drop_bad g.facts) k ≡ n → (b : Bool) → lost t w k ≡ b → cond b false (holds g.facts w k) ≡ is_some (cond n (g.facts.has w k) None)
    pick true e true l = sym (⊎_elim fair.gone fair.apart (lost_by (g.freed w k) (holds g.facts w k) (need (drop_bad g.facts) k) (is_on g.facts w k) (ready a0 k) l e))
    pick true e false l = refl
    pick false e true l = refl
    pick false e false l = kept_by (g.freed w k) (holds g.facts w k) (need (drop_bad g.facts) k) (is_on g.facts w k) (ready a0 k) l e

pub plain_newly : (f : Facts) (g : Changed) (w k : ℕ) → 1 ≤ w → w ≤ g.facts.last_worker → IsFair g w k → (a : ℕ) → new_at f.counter w ((settle f g).placed.on k) ≡ Some a → cond (lost (settle f g) w k) false (holds g.facts w k) ≡ false
unfolding settle place_all drop_bad drop_has drop_on
plain_newly f g w k from upto fair a e =
    let n : ((settle f g).placed.on k ≡ Some (w, a)) × (f.counter ≤ a) = new_some f.counter w a ((settle f g).placed.on k) e in
    let r : holds o w k ≡ false = ⊎_elim (λ i. ready_apart a0 w k from upto (only_place (ready a0 k) (g.facts.on k) (w, a) i).0) (λ i. ready_apart o w k from upto i) (placed_ready o (below (keys o)) k (w, a) n.0) in
    plain_has f g w k fair ∙ ap (λ x. is_some (x w k)) p0.has ∙ r
  where
    a0 : Facts
    a0 = drop_has (drop_bad g.facts)

    o : Facts
    o = drop_on a0

    t : Stages
    t = settle f g

    p0 : IsPlacing o (place_keys o (below (keys o)))
    p0 = placing_keys o (below (keys o))

-- an event that answers nothing on the key: what is to be stolen stays so, where the place stays
pub plain_closes : (f : Facts) (g : Changed) (w k : ℕ) → IsFair g w k → ((x : Facts) → AreOther (notes k (g.answer x w))) → ((p : ℕ × Bool) → g.facts.steal k ≡ Some p → (q : ℕ × ℕ) × ((g.facts.on k ≡ Some q) × (q.1 < f.counter))) → f.counter ≤ g.facts.counter
    → Closes (settle f g) (holds g.facts w k) (is_some (old_at f.counter w (g.facts.on k)) && is_asked_back (g.facts.steal k)) w k
unfolding settle place_all drop_bad drop_has drop_on
plain_closes f g w k fair silent inside more x has on old asked counter s =
    subst (λ (y : Bool × Bool). IsPair (record x { has = y.0; asked = y.1; fence = fence_notes x.sent (notes k (g.answer t.placed w)) x.fence; down = x.down ++ notes k (g.answer t.placed w); sent = x.sent + length (notes k (g.answer t.placed w)) })) (λ i. ((has ∙ plain_has f g w k fair) i, (asked ∙ asked_is) i))
    (subst (λ n. IsPair (record x { fence = n; down = x.down ++ notes k (g.answer t.placed w); sent = x.sent + length (notes k (g.answer t.placed w)) })) (sym (fence_other x.sent (notes k (g.answer t.placed w)) x.fence (silent t.placed))) (told_others (notes k (g.answer t.placed w)) x (silent t.placed) s))
  where
    t : Stages
    t = settle f g

    a0 : Facts
    a0 = drop_has (drop_bad g.facts)

    o : Facts
    o = drop_on a0

    p0 : IsPlacing o (place_keys o (below (keys o)))
    p0 = placing_keys o (below (keys o))

    place : Option (ℕ × ℕ)
    place = t.placed.on k

    was : Bool
    was = is_some (old_at f.counter w (g.facts.on k)) && is_asked_back (g.facts.steal k)

    steal_is : t.placed.steal k ≡ cond (ready a0 k) (g.facts.steal k) None
    steal_is = ap (λ h. h k) p0.steal

    new_apart : (a : ℕ) → new_at f.counter w place ≡ Some a → is_asked_back (cond (ready a0 k) (g.facts.steal k) None) ≡ false
    new_apart a e = pick (ready a0 k) refl (g.facts.steal k) refl
      where
        too_old : (m : ℕ) → m < f.counter → f.counter ≤ m → ⊥
        too_old m x y = omega arith

        pick : (b : Bool) → ready a0 k ≡ b → (y : Option (ℕ × Bool)) → g.facts.steal k ≡ y → is_asked_back (cond b y None) ≡ false
        pick false r y z = refl
        pick true r None z = refl
        pick true r (Some p) z =
            let i = inside p z in
            let n = new_some f.counter w a place e in
            let at : place ≡ Some i.0 = p0.stays k i.0 (ap (λ c. cond c (g.facts.on k) None) r ∙ i.1.0) in
            absurd (too_old a (subst (λ m. m < f.counter) (same_second i.0 (w, a) (sym at ∙ n.0)) i.1.1) n.1)

    -- an old place that stays is of a ready key
    still_ready : (a : ℕ) → old_at f.counter w (g.facts.on k) ≡ Some a → at_worker w place ≡ Some a → ready a0 k ≡ true
    still_ready a e i = pick place refl i
      where
        below_it : (a : ℕ) (y : Option (ℕ × ℕ)) → old_at f.counter w y ≡ Some a → a < f.counter
        below_it a None e = absurd (none-some a e)
        below_it a (Some r) e = here (eqb r.0 w) (nat_le f.counter r.1) refl e
          where
            here : (b c : Bool) → nat_le f.counter r.1 ≡ c → cond (b && not c) (Some r.1) None ≡ Some a → a < f.counter
            here true false j h = subst (λ m. m < f.counter) (same_Some r.1 a h) (leb-false f.counter r.1 j)
            here true true j h = absurd (none-some a h)
            here false c j h = absurd (none-some a h)

        too_new : g.facts.counter ≤ a → a < f.counter → ⊥
        too_new l m = omega arith

        pick : (y : Option (ℕ × ℕ)) → place ≡ y → at_worker w y ≡ Some a → ready a0 k ≡ true
        pick None z h = absurd (none-some a h)
        pick (Some r) z h = here (eqb r.0 w) refl h
          where
            here : (b : Bool) → eqb r.0 w ≡ b → cond b (Some r.1) None ≡ Some a → ready a0 k ≡ true
            here true j q = ⊎_elim (λ i. (only_place (ready a0 k) (g.facts.on k) r i).0) (λ n. absurd (too_new (subst (λ m. g.facts.counter ≤ m) (same_Some r.1 a q) n.0) (below_it a (g.facts.on k) e))) (p0.on k r.0 r.1 z)
            here false j q = absurd (none-some a q)

    asked_is : asked_or (new_at f.counter w place) (cond (lost t w k) false was) ≡ (is_some (at_worker w place) && is_asked_back (t.placed.steal k))
    asked_is = pick (new_at f.counter w place) refl (lost t w k) refl (old_at f.counter w (g.facts.on k)) refl (sym on ∙ old) ∙ ap (λ y. is_some (at_worker w place) && is_asked_back y) (sym steal_is)
      where
        pick : (n : Option ℕ) → new_at f.counter w place ≡ n → (l : Bool) → lost t w k ≡ l → (d : Option ℕ) → old_at f.counter w (g.facts.on k) ≡ d → at_worker w place ≡ or_else (new_at f.counter w place) (cond (lost t w k) None (old_at f.counter w (g.facts.on k)))
            → asked_or n (cond l false (is_some d && is_asked_back (g.facts.steal k))) ≡ (is_some (at_worker w place) && is_asked_back (cond (ready a0 k) (g.facts.steal k) None))
        pick (Some a) en l el d ed h = sym (ap (λ y. is_some (at_worker w place) && y) (new_apart a en) ∙ and-false (is_some (at_worker w place)))
        pick None en true el d ed h = sym (ap (λ y. is_some y && is_asked_back (cond (ready a0 k) (g.facts.steal k) None)) (h ∙ ap (λ n. or_else n (cond (lost t w k) None (old_at f.counter w (g.facts.on k)))) en ∙ ap (λ c. cond c None (old_at f.counter w (g.facts.on k))) el))
        pick None en false el d ed h =
            let here : at_worker w place ≡ d = h ∙ ap (λ n. or_else n (cond (lost t w k) None (old_at f.counter w (g.facts.on k)))) en ∙ ap (λ c. cond c None (old_at f.counter w (g.facts.on k))) el ∙ ed in
            by_old d ed here ∙ ap (λ y. is_some y && is_asked_back (cond (ready a0 k) (g.facts.steal k) None)) (sym here)
          where
            by_old : (d : Option ℕ) → old_at f.counter w (g.facts.on k) ≡ d → at_worker w place ≡ d → (is_some d && is_asked_back (g.facts.steal k)) ≡ (is_some d && is_asked_back (cond (ready a0 k) (g.facts.steal k) None))
            by_old None e i = refl
            by_old (Some a) e i = ap (λ b. is_asked_back (cond b (g.facts.steal k) None)) (sym (still_ready a e i))
