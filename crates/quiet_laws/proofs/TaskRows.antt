-- A task that finished, erred or was asked back lowers the measure as it is counted.
use Rattle.std.proofs.Common.{◌≡◌, ℕ, ◌+◌, ◌*◌, ◌<◌, ◌≤◌, Bool, true, false, cond, not, ◌&&◌, ◌||◌, List, [], ◌∷◌, Option, Some, None, refl, sym, ap, ◌∙◌, arith, is_some, ⊎_elim, mul-le-mul, le_refl}
use Rattle.std.specs.List.{list_any}
use Rattle.std.proofs.lemmas.Bool.{true≢false, false≢true, eqb-true, eq-eqb, or_left, or_right, and_from, not-true, cases_lt}
use Rattle.std.proofs.Math.Dec.{eqb}
use Rattle.std.proofs.lemmas.Option.{same_Some}
use Rattle.small_facts.proofs.Truth.{and_first, and_second}
use Rattle.small_facts.proofs.Ranges.{range_has}
use Rattle.small_facts.proofs.Options.{none_from_is_some}
use Rattle.cluster_msgs.specs.declared.messages.Up.{Up}
use Rattle.cluster_msgs.specs.declared.messages.Up.TheVariants.{TaskFinished}
use Rattle.cluster_msgs.specs.declared.events.Event.TheVariants.{DeliverUp}
use Rattle.cluster_rules.specs.Functions.{from_one, put, put_pair, total, count}
use Rattle.cluster_rules.specs.Derived.{below}
use Rattle.cluster_rules.specs.Sched.{Facts, IsSound, keys, holds, held, erred, need, ready, open_key, holder_count}
use Rattle.cluster_rules.specs.SchedTable.{Changed, plain, is_this, finished}
use Rattle.cluster_rules.specs.SchedStep.{Stages, drop_bad, settle, finish_step}
use Rattle.cluster_rules.specs.World.{Job, World, is_connected}
use Rattle.cluster_rules.specs.WorldStep.{world_step}
use Rattle.cluster_rules.proofs.Members.{any_some}
use Rattle.cluster_laws.proofs.Errors.{ready_is_not_held, this_is_some, holder_holds}
use Rattle.safety_laws.proofs.Joint.{IsJoint}
use Rattle.quiet_measure.specs.Weights.{bit}
use Rattle.quiet_measure.proofs.Sums.{total_gain}
use Rattle.quiet_measure.specs.Measure.{told_weight, counts_loss, is_to_try, deaths, most_told, most_asked, pair_weight, client_count, end_weight, death_disturbs, up_disturbs, disturbances, Falls}
use Rattle.quiet_measure.specs.Lighter.{under}
use Rattle.quiet_measure.specs.Settles.{SettlesAt}
use Rattle.quiet_measure.specs.Changes.{IsCalmChange}
use Rattle.quiet_measure.proofs.Pay.{IsBacked, most_deaths}
use Rattle.quiet_measure.proofs.Posts.{told_cost}
use Rattle.quiet_measure.proofs.CalmChanges.{ready_open}
use Rattle.quiet_measure.proofs.CalmPay.{backed_closed, Rest}
use Rattle.quiet_measure.proofs.CalmTold.{told_pays}
use Rattle.quiet_laws.specs.Old.{AreOld, AreFenced}
use Rattle.quiet_laws.proofs.Disturbed.{death_more}
use Rattle.quiet_laws.proofs.UpTurn.{drawn, sh, at, is_taken}
use Rattle.quiet_laws.proofs.UpFalls.{held_then, up_calm}
use Rattle.quiet_laws.proofs.Plain.{plain_costs, calm_same, told_held}

-- ## What a counted finish changes

abbrev ended : Facts → ℕ → ℕ → Facts
ended f i k = record f { on = put f.on k None; steal = put f.steal k None; has = put_pair f.has i k (Some f.counter); counter = f.counter + 1; finishes = f.finishes + 1 }

abbrev pub owns : ℕ → Bool → ℕ → Bool
owns k b q = eqb q k && b

pub own_none : (k q : ℕ) → owns k false q ≡ true → ⊥
own_none k q e = false≢true (and_second (eqb q k) false e)

pub own_key : (k q : ℕ) (b : Bool) → owns k b q ≡ true → q ≡ k
own_key k q b e = eqb-true q k (and_first (eqb q k) b e)

pub not_own : (k q : ℕ) → owns k true q ≡ false → eqb q k ≡ false
not_own k q e = flip (eqb q k) e
  where
    flip : (b : Bool) → (b && true) ≡ false → b ≡ false
    flip true e = e
    flip false e = refl

held_by : (f : Facts) (x k : ℕ) → 1 ≤ x → x ≤ f.last_worker → holds f x k ≡ true → held f k ≡ true
unfolding held
held_by f x k l m e = any_some (λ w. holds f w k) (from_one f.last_worker) x (range_has 1 f.last_worker x l (omega (arith, m))) e

pub held_same : (f h : Facts) → h.has ≡ f.has → h.last_worker ≡ f.last_worker → held h ≡ held f
unfolding held
held_same f h a b = λ i. held (record f { has = a i; last_worker = b i })

ended_held : (f : Facts) (i k q : ℕ) → held f q ≡ true → held (ended f i k) q ≡ true
unfolding held
ended_held f i k q e = weaken (from_one f.last_worker) e
  where
    one : (b : Bool) (o : Option ℕ) → is_some o ≡ true → is_some (cond b (Some f.counter) o) ≡ true
    one true o e = refl
    one false o e = e

    weaken : (xs : List ℕ) → list_any (λ w. is_some (f.has w q)) xs ≡ true → list_any (λ w. is_some (cond (eqb w i && eqb q k) (Some f.counter) (f.has w q))) xs ≡ true
    weaken [] e = e
    weaken (x ∷ xs) e = pick (is_some (f.has x q)) refl e (weaken xs)
      where
        pick : (b : Bool) → is_some (f.has x q) ≡ b → (b || list_any (λ w. is_some (f.has w q)) xs) ≡ true → (list_any (λ w. is_some (f.has w q)) xs ≡ true → list_any (λ w. is_some (cond (eqb w i && eqb q k) (Some f.counter) (f.has w q))) xs ≡ true)
            → (is_some (cond (eqb x i && eqb q k) (Some f.counter) (f.has x q)) || list_any (λ w. is_some (cond (eqb w i && eqb q k) (Some f.counter) (f.has w q))) xs) ≡ true
        pick true y e rest = or_left _ _ (one (eqb x i && eqb q k) (f.has x q) y)
        pick false y e rest = or_right _ _ (rest e)

ended_held_back : (f : Facts) (i k q : ℕ) → eqb q k ≡ false → held (ended f i k) q ≡ true → held f q ≡ true
unfolding held
ended_held_back f i k q n e = sym (same (from_one f.last_worker)) ∙ e
  where
    right : (b : Bool) → (b && false) ≡ false
    right true = refl
    right false = refl

    same : (xs : List ℕ) → list_any (λ w. is_some (cond (eqb w i && eqb q k) (Some f.counter) (f.has w q))) xs ≡ list_any (λ w. is_some (f.has w q)) xs
    same [] = refl
    same (x ∷ xs) = ap (λ b. is_some (cond (eqb x i && b) (Some f.counter) (f.has x q)) || list_any (λ w. is_some (cond (eqb w i && eqb q k) (Some f.counter) (f.has w q))) xs) n
        ∙ ap (λ b. is_some (cond b (Some f.counter) (f.has x q)) || list_any (λ w. is_some (cond (eqb w i && eqb q k) (Some f.counter) (f.has w q))) xs) (right (eqb x i))
        ∙ ap (λ b. is_some (f.has x q) || b) (same xs)

pub none_some : {A : Type 0} (x : A) → None ≡ Some x → ⊥
none_some x e = cc

calm_finished : (f : Facts) (i k a : ℕ) → IsSound f → ((x : ℕ) → is_this i a (f.on k) ≡ true → f.has x k ≡ None) → IsCalmChange f (finished f i k a) (owns k (is_this i a (f.on k)))
unfolding finished
calm_finished f i k a sound free = pick (is_this i a (f.on k)) refl
  where
    copies : ((x : ℕ) → f.has x k ≡ None) → (x q c : ℕ) (b : Bool) → (eqb x i && eqb q k) ≡ b → f.has x q ≡ Some c → cond b (Some f.counter) (f.has x q) ≡ Some c
    copies none x q c false e h = h
    copies none x q c true e h = absurd (none_some c (sym (none x) ∙ ap (f.has x) (sym (eqb-true q k (and_second (eqb x i) (eqb q k) e))) ∙ h))

    pick : (b : Bool) → is_this i a (f.on k) ≡ b → IsCalmChange f (cond b (record f { on = put f.on k None; steal = put f.steal k None; has = put_pair f.has i k (Some f.counter); counter = f.counter + 1; finishes = f.finishes + 1 }) f) (owns k b)
    pick false e = calm_same f (owns k false) (own_none k)
    pick true e = record {
      setting = refl;
      last = refl;
      want = refl;
      counter = omega arith;
      had_place = λ q o. ap (λ z. is_some (f.on z)) (own_key k q true o) ∙ this_is_some i a (f.on k) e;
      on = λ q o. ap (λ b. cond b None (f.on q)) (not_own k q o);
      steal = λ q o. ap (λ b. cond b None (f.steal q)) (not_own k q o);
      copies = λ x q c h. copies (λ x. free x e) x q c (eqb x i && eqb q k) refl h;
      held_still = λ q h. ended_held f i k q h;
      held_new = λ q h o. ended_held_back f i k q (not_own k q o) h;
      bad = λ q h. h;
      bad_new = λ q h o. h;
    }

-- ## How many hold a key

pub count_same : (f h : Facts) (k : ℕ) → ((x : ℕ) → holds h x k ≡ holds f x k) → h.last_worker ≡ f.last_worker → holder_count h k ≡ holder_count f k
unfolding holder_count
count_same f h k s l = ap (λ n. count (λ w. holds h w k) (from_one n)) l ∙ same (from_one f.last_worker)
  where
    same : (xs : List ℕ) → count (λ w. holds h w k) xs ≡ count (λ w. holds f w k) xs
    same [] = refl
    same (x ∷ xs) = let a : ◌≡◌ {A = ℕ} (cond (holds h x k) 1 0) (cond (holds f x k) 1 0) = ap (λ b. cond b 1 0) (s x) in let b : count (λ w. holds h w k) xs ≡ count (λ w. holds f w k) xs = same xs in omega (arith, a, b)

pub count_more : (f h : Facts) (i k : ℕ) → ((x : ℕ) → eqb x i ≡ false → holds h x k ≡ true → holds f x k ≡ true) → h.last_worker ≡ f.last_worker → holder_count h k ≤ holder_count f k + 1
unfolding holder_count
count_more f h i k s l =
    let a : count (λ w. holds h w k) (from_one h.last_worker) ≡ count (λ w. holds h w k) (from_one f.last_worker) = ap (λ n. count (λ w. holds h w k) (from_one n)) l in
    let b : count (λ w. holds h w k) (from_one f.last_worker) ≤ count (λ w. holds f w k) (from_one f.last_worker) + 1 =
    total_gain (λ w. cond (holds h w k) 1 0) (λ w. cond (holds f w k) 1 0) 1 i 1 f.last_worker (λ y m o. one (holds h y k) (holds f y k) (s y o)) (most (holds h i k) (cond (holds f i k) 1 0)) in
    omega (arith, a, b)
  where
    one : (x y : Bool) → (x ≡ true → y ≡ true) → cond x 1 0 ≤ cond y 1 0
    one false y p = omega arith
    one true y p = let e : ◌≡◌ {A = ℕ} (cond y 1 0) 1 = ap (λ b. cond b 1 0) (p refl) in omega (arith, e)

    most : (x : Bool) (n : ℕ) → cond x 1 0 ≤ n + 1
    most true n = omega arith
    most false n = omega arith

pub count_row : (f h : Facts) (i k n : ℕ) → ((q : ℕ) → eqb q k ≡ false → holds h i q ≡ true → holds f i q ≡ true) → count (λ q. holds h i q) (below n) ≤ count (λ q. holds f i q) (below n) + 1
count_row f h i k n s = total_gain (λ q. cond (holds h i q) 1 0) (λ q. cond (holds f i q) 1 0) 1 k 0 n (λ y m o. one (holds h i y) (holds f i y) (s y o)) (most (holds h i k) (cond (holds f i k) 1 0))
  where
    one : (x y : Bool) → (x ≡ true → y ≡ true) → cond x 1 0 ≤ cond y 1 0
    one false y p = omega arith
    one true y p = let e : ◌≡◌ {A = ℕ} (cond y 1 0) 1 = ap (λ b. cond b 1 0) (p refl) in omega (arith, e)

    most : (x : Bool) (n : ℕ) → cond x 1 0 ≤ n + 1
    most true n = omega arith
    most false n = omega arith

-- ## Task-finished

finished_none : (f : Facts) (i k a : ℕ) → is_this i a (f.on k) ≡ false → finished f i k a ≡ f
unfolding finished
finished_none f i k a e = ap (λ b. cond b (record f { on = put f.on k None; steal = put f.steal k None; has = put_pair f.has i k (Some f.counter); counter = f.counter + 1; finishes = f.finishes + 1 }) f) e

finished_threads : (f : Facts) (i k a : ℕ) → (finished f i k a).threads ≡ f.threads
unfolding finished
finished_threads f i k a = by (is_this i a (f.on k))
  where
    by : (b : Bool) → (cond b (record f { on = put f.on k None; steal = put f.steal k None; has = put_pair f.has i k (Some f.counter); counter = f.counter + 1; finishes = f.finishes + 1 }) f).threads ≡ f.threads
    by true = refl
    by false = refl

finished_last : (f : Facts) (i k a : ℕ) → (finished f i k a).last_worker ≡ f.last_worker
unfolding finished
finished_last f i k a = by (is_this i a (f.on k))
  where
    by : (b : Bool) → (cond b (record f { on = put f.on k None; steal = put f.steal k None; has = put_pair f.has i k (Some f.counter); counter = f.counter + 1; finishes = f.finishes + 1 }) f).last_worker ≡ f.last_worker
    by true = refl
    by false = refl

-- a copy of another worker, of another key, or one that is older, was there
finished_has : (f : Facts) (i k a x q : ℕ) → (eqb x i && eqb q k) ≡ false → (finished f i k a).has x q ≡ f.has x q
unfolding finished
finished_has f i k a x q e = by (is_this i a (f.on k))
  where
    by : (b : Bool) → (cond b (record f { on = put f.on k None; steal = put f.steal k None; has = put_pair f.has i k (Some f.counter); counter = f.counter + 1; finishes = f.finishes + 1 }) f).has x q ≡ f.has x q
    by true = ap (λ b. cond b (Some f.counter) (f.has x q)) e
    by false = refl

finished_copies : (f : Facts) (i k a x q c : ℕ) → (finished f i k a).has x q ≡ Some c → c < f.counter → f.has x q ≡ Some c
unfolding finished
finished_copies f i k a x q c e l = by (is_this i a (f.on k)) e
  where
    new : (b : Bool) → cond b (Some f.counter) (f.has x q) ≡ Some c → f.has x q ≡ Some c
    new false h = h
    new true h = absurd (let s : f.counter ≡ c = same_Some f.counter c h in omega (arith, s, l))

    by : (b : Bool) → (cond b (record f { on = put f.on k None; steal = put f.steal k None; has = put_pair f.has i k (Some f.counter); counter = f.counter + 1; finishes = f.finishes + 1 }) f).has x q ≡ Some c → f.has x q ≡ Some c
    by true h = new (eqb x i && eqb q k) h
    by false h = h

finished_on : (f : Facts) (i k a : ℕ) → is_this i a (f.on k) ≡ true → (finished f i k a).on k ≡ None
unfolding finished
finished_on f i k a e = ap (λ b. (cond b (record f { on = put f.on k None; steal = put f.steal k None; has = put_pair f.has i k (Some f.counter); counter = f.counter + 1; finishes = f.finishes + 1 }) f).on k) e ∙ ap (λ b. cond b None (f.on k)) (eq-eqb k k refl)

finished_there : (f : Facts) (i k a : ℕ) → is_this i a (f.on k) ≡ true → holds (finished f i k a) i k ≡ true
unfolding finished
finished_there f i k a e = ap (λ b. is_some ((cond b (record f { on = put f.on k None; steal = put f.steal k None; has = put_pair f.has i k (Some f.counter); counter = f.counter + 1; finishes = f.finishes + 1 }) f).has i k)) e
    ∙ ap (λ b. is_some (cond (b && eqb k k) (Some f.counter) (f.has i k))) (eq-eqb i i refl) ∙ ap (λ b. is_some (cond b (Some f.counter) (f.has i k))) (eq-eqb k k refl)

end_arith : (C M A K P H x y z : ℕ) → 1 ≤ K → P ≤ A → x ≤ y + C * (M + 1) → z ≤ H + P → (x + (0 + z)) ≤ (y + ((C * M + (A + (C * K + 3))) + H)) + 0
end_arith C M A K P H x y z k p l m =
    let a : C * (M + 1) ≡ C * M + C = omega arith in
    let b : C * 1 ≤ C * K = mul-le-mul (le_refl C) k in
    let c : C * 1 ≡ C = omega arith in
    omega (arith, p, l, m, a, b, c)

module _ (j : Job) (w : World) (joint : IsJoint j w) (old : AreOld w) (fenced : AreFenced w.sched) (i seen k a : ℕ) (ms : List Up) (e : w.up i ≡ TaskFinished seen k a ∷ ms) (there : is_connected w i ≡ true) where
  abbrev f : Facts
  f = w.sched

  abbrev g : Changed
  g = plain (finished w.sched i k a)

  abbrev t : Stages
  t = settle w.sched (plain (finished w.sched i k a))

  abbrev own : ℕ → Bool
  own = owns k (is_this i a (w.sched.on k))

  was_ready : is_this i a (w.sched.on k) ≡ true → ready w.sched k ≡ true
  was_ready h = joint.settled.placed_are_ready k (this_is_some i a (w.sched.on k) h)

  calm : IsCalmChange w.sched (finished w.sched i k a) (owns k (is_this i a (w.sched.on k)))
  calm = calm_finished w.sched i k a joint.sound (λ x h. none_from_is_some (w.sched.has x k) (unheld x (ready_is_not_held w.sched k (was_ready h))))
    where
      unheld : (x : ℕ) → held w.sched k ≡ false → holds w.sched x k ≡ false
      unheld x n = flip (holds w.sched x k) refl
        where
          flip : (b : Bool) → holds w.sched x k ≡ b → b ≡ false
          flip false q = refl
          flip true q = absurd (true≢false (sym (holder_holds w.sched joint.sound x k q) ∙ n))

  sound_then : IsSound (finished w.sched i k a)
  sound_then = sh j w joint old fenced i (TaskFinished seen k a) ms e there

  spot : (q : ℕ) → SettlesAt (settle w.sched (plain (finished w.sched i k a))) q
  spot q = at j w joint old fenced i (TaskFinished seen k a) ms e there q

  held_there : is_this i a (w.sched.on k) ≡ true → held (finished w.sched i k a) k ≡ true
  held_there h = holder_holds (finished w.sched i k a) sound_then i k (finished_there w.sched i k a h)

  -- the key itself is held and no longer open
  closed : (q : ℕ) → own q ≡ true → need (drop_bad (finished w.sched i k a)) q ≡ true → open_key (settle w.sched (plain (finished w.sched i k a))).placed q ≡ true → ⊥
  unfolding settle
  closed q o n p = false≢true (sym (ap not ((spot q).held_is ∙ and_from (need (drop_bad (finished w.sched i k a)) q) (held (finished w.sched i k a) q) n (ap (held (finished w.sched i k a)) (own_key k q _ o) ∙ held_there (and_second (eqb q k) _ o))))
      ∙ and_first (not (held (settle w.sched (plain (finished w.sched i k a))).placed q)) _ p)

  back : (q : ℕ) → own q ≡ true → IsBacked (settle w.sched (plain (finished w.sched i k a))) q (is_to_try w.sched q)
  unfolding settle
  back q o = backed_closed (settle w.sched (plain (finished w.sched i k a))) q (spot q) calm.counter (is_to_try w.sched q) (closed q o)

  want_same : (c q : ℕ) → (settle w.sched (plain (finished w.sched i k a))).placed.want c q ≡ w.sched.want c q
  unfolding settle
  want_same c q = ap (λ x. x c q) ((spot q).want_is ∙ calm.want)

  some_keys : is_this i a (w.sched.on k) ≡ true → 1 ≤ keys w.sched
  some_keys h = ⊎_elim (λ l. omega (arith, l)) (λ l. absurd (true≢false (sym (this_is_some i a (w.sched.on k) h) ∙ ap is_some (joint.sound.on k l)))) (cases_lt k (keys w.sched))

  rest : (b : (q : ℕ) → IsBacked (settle w.sched (plain (finished w.sched i k a))) q (is_to_try w.sched q)) (q : ℕ)
      → Rest w.sched (plain (finished w.sched i k a)) own joint.sound joint.settled (drawn j w joint old fenced i (TaskFinished seen k a) ms e there) sound_then calm (disturbances w) b q 0
  unfolding settle
  rest b q = pick (own q) refl
    where
      n : ℕ
      n = disturbances w

      x : ℕ
      x = total (λ c. told_weight (settle w.sched (plain (finished w.sched i k a))).placed c q) (from_one w.sched.setting.clients) + total (λ c. told_cost (settle w.sched (plain (finished w.sched i k a))) (deaths (settle w.sched (plain (finished w.sched i k a))).placed n) c q) (from_one w.sched.setting.clients)

      y : ℕ
      y = total (λ c. told_weight w.sched c q) (from_one w.sched.setting.clients)

      pick : (o : Bool) → own q ≡ o → x + (cond (is_some ((finished w.sched i k a).on q)) (end_weight w.sched n) 0 + holder_count (finished w.sched i k a) q * pair_weight n) ≤ (y + (cond (is_some (w.sched.on q)) (end_weight w.sched n) 0 + holder_count w.sched q * pair_weight n)) + 0
      pick false o =
          let p : x ≤ y = told_pays w.sched (plain (finished w.sched i k a)) own joint.sound joint.settled (drawn j w joint old fenced i (TaskFinished seen k a) ms e there) sound_then calm (deaths (settle w.sched (plain (finished w.sched i k a))).placed n) q refl (λ h. calm.held_new q h o) in
          let r : cond (is_some ((finished w.sched i k a).on q)) (end_weight w.sched n) 0 ≡ cond (is_some (w.sched.on q)) (end_weight w.sched n) 0 = ap (λ z. cond (is_some z) (end_weight w.sched n) 0) (calm.on q o) in
          let s : holder_count (finished w.sched i k a) q * pair_weight n ≡ holder_count w.sched q * pair_weight n = ap (λ z. z * pair_weight n) (other_count (is_this i a (w.sched.on k)) refl o) in
          omega (arith, p, r, s)
        where
          right : (b : Bool) → (b && false) ≡ false
          right true = refl
          right false = refl

          other_count : (c : Bool) → is_this i a (w.sched.on k) ≡ c → owns k (is_this i a (w.sched.on k)) q ≡ false → holder_count (finished w.sched i k a) q ≡ holder_count w.sched q
          other_count true h u = count_same w.sched (finished w.sched i k a) q (λ x. ap is_some (finished_has w.sched i k a x q (ap (λ b. eqb x i && b) (not_own k q (sym (ap (λ b. owns k b q) h) ∙ u)) ∙ right (eqb x i)))) (finished_last w.sched i k a)
          other_count false h u = ap (λ (f : Facts). holder_count f q) (finished_none w.sched i k a h)
      pick true o =
          let h : is_this i a (w.sched.on k) ≡ true = and_second (eqb q k) _ o in
          let s : q ≡ k = own_key k q _ o in
          let was : ready w.sched q ≡ true = ap (ready w.sched) s ∙ was_ready h in
          let p : x ≤ y + client_count w.sched * (most_told n + 1) = told_held (settle w.sched (plain (finished w.sched i k a))) (deaths (settle w.sched (plain (finished w.sched i k a))).placed n) n q (most_deaths (settle w.sched (plain (finished w.sched i k a))).placed n) (λ c. want_same c q)
          (not-true (erred w.sched q) (and_second (not (held w.sched q)) (not (erred w.sched q)) (ready_open w.sched q was))) in
          let r : cond (is_some ((finished w.sched i k a).on q)) (end_weight w.sched n) 0 ≡ 0 = ap (λ z. cond (is_some ((finished w.sched i k a).on z)) (end_weight w.sched n) 0) s ∙ ap (λ z. cond (is_some z) (end_weight w.sched n) 0) (finished_on w.sched i k a h) in
          let u : cond (is_some (w.sched.on q)) (end_weight w.sched n) 0 ≡ end_weight w.sched n = ap (λ z. cond z (end_weight w.sched n) 0) (ap (λ z. is_some (w.sched.on z)) s ∙ this_is_some i a (w.sched.on k) h) in
          let c : holder_count (finished w.sched i k a) q ≤ holder_count w.sched q + 1 = count_more w.sched (finished w.sched i k a) i q (λ x o v. sym (ap is_some (finished_has w.sched i k a x q (ap (λ b. b && eqb q k) o))) ∙ v) (finished_last w.sched i k a) in
          let d : holder_count (finished w.sched i k a) q * pair_weight n ≤ (holder_count w.sched q + 1) * pair_weight n = mul-le-mul c (le_refl (pair_weight n)) in
          let g : (holder_count w.sched q + 1) * pair_weight n ≡ holder_count w.sched q * pair_weight n + pair_weight n = omega arith in
          let z = end_arith (client_count w.sched) (most_told n) (most_asked n) (keys w.sched) (pair_weight n) (holder_count w.sched q * pair_weight n) x y (holder_count (finished w.sched i k a) q * pair_weight n) (some_keys h) (omega arith) p (omega (arith, d, g)) in
          omega (arith, r, u, z)

  lossy : (q : ℕ) → counts_loss w.sched i q (TaskFinished seen k a) ≡ true → holds (finish_step (settle w.sched (plain (finished w.sched i k a)))).facts i q ≡ false
  lossy q h = absurd (false≢true h)

  copies : (x q c : ℕ) → (finished w.sched i k a).has x q ≡ Some c → c < w.sched.counter → w.sched.has x q ≡ Some c
  copies x q c h l = finished_copies w.sched i k a x q c h l

  others : (x q : ℕ) → eqb x i ≡ false → holds (finish_step (settle w.sched (plain (finished w.sched i k a)))).facts x q ≡ true → holds w.sched x q ≡ true
  others x q o h = sym (ap is_some (finished_has w.sched i k a x q (ap (λ b. b && eqb q k) o))) ∙ held_then j w joint old fenced i (TaskFinished seen k a) ms e there x q h

  dead : death_disturbs (under (record w { up = put w.up i ms }) (finish_step (settle w.sched (plain (finished w.sched i k a)))).facts) i + 0 ≤ death_disturbs w i + up_disturbs w i (TaskFinished seen k a)
  dead =
      let l = death_more w (record w { up = put w.up i ms }) (settle w.sched (plain (finished w.sched i k a))) (is_taken j w joint old fenced i (TaskFinished seen k a) ms e there copies lossy) i 1 (count_row w.sched (finish_step (settle w.sched (plain (finished w.sched i k a)))).facts i k (keys w.sched) (λ q o h. sym (ap is_some (finished_has w.sched i k a i q (ap (λ b. eqb i i && b) o ∙ right (eqb i i)))) ∙ held_then j w joint old fenced i (TaskFinished seen k a) ms e there i q h)) in
      let m = by (w.alive i) in
      omega (arith, l, m)
    where
      right : (b : Bool) → (b && false) ≡ false
      right true = refl
      right false = refl

      by : (b : Bool) → cond b 0 1 ≡ bit (not b)
      by true = refl
      by false = refl

  pub task_finished_falls : Falls w (world_step j w (DeliverUp i))
  task_finished_falls = up_calm j w joint old fenced i (TaskFinished seen k a) ms e there (finished_threads w.sched i k a) copies lossy others dead own calm back (λ q. 0) rest
      (let z = plain_costs w.sched (finished w.sched i k a) (deaths (settle w.sched (plain (finished w.sched i k a))).placed (disturbances w)) (below (keys w.sched)) in omega (arith, z))
