-- Keys that a worker adds lower the measure as they are counted.
use Rattle.std.proofs.Common.{◌≡◌, ℕ, ◌+◌, ◌*◌, ◌-◌, ◌<◌, ◌≤◌, Bool, true, false, cond, ◌&&◌, ◌||◌, List, [], ◌∷◌, length, Option, Some, None, refl, sym, ap, ◌∙◌, arith, is_some, mul-le-mul, le_refl}
use Rattle.std.specs.Prelude.{nat_le}
use Rattle.std.specs.List.{list_any}
use Rattle.std.proofs.lemmas.Bool.{true≢false, false≢true, eqb-true, or_right}
use Rattle.std.proofs.lemmas.Option.{same_Some}
use Rattle.std.proofs.Math.Dec.{eqb}
use Rattle.small_facts.proofs.Truth.{and_first, and_second, same_truth}
use Rattle.cluster_msgs.specs.declared.messages.Down.{Down}
use Rattle.cluster_msgs.specs.declared.messages.ToClient.{ToClient}
use Rattle.cluster_msgs.specs.declared.messages.Up.{Up}
use Rattle.cluster_msgs.specs.declared.messages.Up.TheVariants.{AddKeys}
use Rattle.cluster_msgs.specs.declared.events.Event.TheVariants.{DeliverUp}
use Rattle.cluster_rules.specs.Functions.{from_one, put, put_pair, total, count}
use Rattle.cluster_rules.specs.Derived.{below}
use Rattle.cluster_rules.specs.Sched.{Facts, keys, holds, held, holder_count, is_on}
use Rattle.cluster_rules.specs.SchedTable.{Changed, plain, nothing_asked, no_answer, add_key, add_keys}
use Rattle.cluster_rules.specs.SchedStep.{settle, finish_step, reply_message, to_clients}
use Rattle.cluster_rules.specs.World.{Job, World, is_connected}
use Rattle.cluster_rules.specs.WorldStep.{world_step}
use Rattle.cluster_laws.proofs.Lists.{any_weaken, count_less}
use Rattle.safety_laws.proofs.Joint.{IsJoint}
use Rattle.quiet_measure.specs.Weights.{bit, sum_of, question, added_weight, down_weight, news_weight}
use Rattle.quiet_measure.specs.Measure.{is_to_try, deaths, pair_weight, counts_loss, disturbances, Falls}
use Rattle.quiet_measure.proofs.Sums.{total_at_most, total_gain}
use Rattle.quiet_measure.proofs.Fewer.{total_nothing}
use Rattle.quiet_measure.specs.Lighter.{IsLighter}
use Rattle.quiet_measure.specs.Changes.{IsCalmChange}
use Rattle.quiet_measure.proofs.Posts.{total_plus, answer_cost, reply_cost}
use Rattle.quiet_measure.proofs.Pay.{IsBacked}
use Rattle.quiet_measure.proofs.CalmPay.{backed, lighter}
use Rattle.quiet_measure.proofs.Assemble.{event_total}
use Rattle.quiet_laws.specs.Old.{AreOld, AreFenced}
use Rattle.quiet_laws.proofs.Disturbed.{death_more}
use Rattle.quiet_laws.proofs.UpTurn.{drawn, sh, is_taken}
use Rattle.quiet_laws.proofs.UpFalls.{held_then, up_calm}
use Rattle.quiet_laws.proofs.Plain.{zero_total, rest_plain}
use Rattle.quiet_laws.proofs.TaskRows.{count_more, count_same, count_row}

-- what was added, and what stays
record IsAdded (f : Facts) (i : ℕ) (g : Changed) : Type 0 where
  setting : g.facts.setting ≡ f.setting
  last : g.facts.last_worker ≡ f.last_worker
  threads : g.facts.threads ≡ f.threads
  want : g.facts.want ≡ f.want
  on : g.facts.on ≡ f.on
  steal : g.facts.steal ≡ f.steal
  bad : g.facts.bad ≡ f.bad
  counter : f.counter ≤ g.facts.counter
  copies : (x k c : ℕ) → f.has x k ≡ Some c → g.facts.has x k ≡ Some c
  older : (x k c : ℕ) → g.facts.has x k ≡ Some c → c < f.counter → f.has x k ≡ Some c
  others : (x k : ℕ) → eqb x i ≡ false → g.facts.has x k ≡ f.has x k
  held_as : (k : ℕ) → held g.facts k ≡ held f k
  asked : g.asked ≡ nothing_asked
  answer : g.answer ≡ no_answer
  reply : g.reply ≡ None

abbrev copied : Changed → ℕ → ℕ → Changed
copied g i k = record g { facts = record g.facts { has = put_pair g.facts.has i k (Some g.facts.counter); counter = g.facts.counter + 1 } }

abbrev strayed : Changed → ℕ → ℕ → Changed
strayed g i k = record g { freed = put_pair g.freed i k true }

abbrev chosen : Changed → ℕ → ℕ → Bool → Bool → Bool → Bool → Changed
chosen g i k a b c d = cond a (cond b g (cond c (copied g i k) (cond d g (strayed g i k)))) g

copied_held : (g : Changed) (i k q : ℕ) → held g.facts k ≡ true → held (copied g i k).facts q ≡ held g.facts q
unfolding held
copied_held g i k q h = same_truth _ _
    (λ e. pick (eqb q k) refl e)
    (λ e. any_weaken (λ w. is_some (g.facts.has w q)) (λ w. is_some (cond (eqb w i && eqb q k) (Some g.facts.counter) (g.facts.has w q))) (from_one g.facts.last_worker) (λ w x. more (eqb w i && eqb q k) (g.facts.has w q) x) e)
  where
    more : (b : Bool) (o : Option ℕ) → is_some o ≡ true → is_some (cond b (Some g.facts.counter) o) ≡ true
    more true o e = refl
    more false o e = e

    less : (a b : Bool) (o : Option ℕ) → b ≡ false → is_some (cond (a && b) (Some g.facts.counter) o) ≡ true → is_some o ≡ true
    less true b o n e = sym (ap (λ z. is_some (cond z (Some g.facts.counter) o)) n) ∙ e
    less false b o n e = e

    pick : (b : Bool) → eqb q k ≡ b → list_any (λ w. is_some (cond (eqb w i && eqb q k) (Some g.facts.counter) (g.facts.has w q))) (from_one g.facts.last_worker) ≡ true → list_any (λ w. is_some (g.facts.has w q)) (from_one g.facts.last_worker) ≡ true
    pick true n e = ap (λ z. list_any (λ w. is_some (g.facts.has w z)) (from_one g.facts.last_worker)) (eqb-true q k n) ∙ h
    pick false n e = any_weaken (λ w. is_some (cond (eqb w i && eqb q k) (Some g.facts.counter) (g.facts.has w q))) (λ w. is_some (g.facts.has w q)) (from_one g.facts.last_worker) (λ w x. less (eqb w i) (eqb q k) (g.facts.has w q) n x) e

copied_added : (f : Facts) (i k : ℕ) (g : Changed) → IsAdded f i g → holds g.facts i k ≡ false → held g.facts k ≡ true → IsAdded f i (copied g i k)
copied_added f i k g h n e = record {
  setting = h.setting;
  last = h.last;
  threads = h.threads;
  want = h.want;
  on = h.on;
  steal = h.steal;
  bad = h.bad;
  counter = let c = h.counter in omega (arith, c);
  copies = λ x q c p. stays x q c (eqb x i && eqb q k) refl (h.copies x q c p);
  older = λ x q c p l. old x q c (eqb x i && eqb q k) p l;
  others = λ x q o. ap (λ b. cond (b && eqb q k) (Some g.facts.counter) (g.facts.has x q)) o ∙ h.others x q o;
  held_as = λ q. copied_held g i k q e ∙ h.held_as q;
  asked = h.asked;
  answer = h.answer;
  reply = h.reply;
}
  where
    stays : (x q c : ℕ) (b : Bool) → (eqb x i && eqb q k) ≡ b → g.facts.has x q ≡ Some c → cond b (Some g.facts.counter) (g.facts.has x q) ≡ Some c
    stays x q c false o p = p
    stays x q c true o p = absurd (true≢false (sym (ap is_some (ap (λ y. g.facts.has y k) (sym (eqb-true x i (and_first (eqb x i) _ o))) ∙ ap (g.facts.has x) (sym (eqb-true q k (and_second (eqb x i) _ o))) ∙ p)) ∙ n))

    old : (x q c : ℕ) (b : Bool) → cond b (Some g.facts.counter) (g.facts.has x q) ≡ Some c → c < f.counter → f.has x q ≡ Some c
    old x q c false p l = h.older x q c p l
    old x q c true p l = absurd (let s : g.facts.counter ≡ c = same_Some g.facts.counter c p in let m = h.counter in omega (arith, s, l, m))

strayed_added : (f : Facts) (i k : ℕ) (g : Changed) → IsAdded f i g → IsAdded f i (strayed g i k)
strayed_added f i k g h = record {
  setting = h.setting;
  last = h.last;
  threads = h.threads;
  want = h.want;
  on = h.on;
  steal = h.steal;
  bad = h.bad;
  counter = h.counter;
  copies = h.copies;
  older = h.older;
  others = h.others;
  held_as = h.held_as;
  asked = h.asked;
  answer = h.answer;
  reply = h.reply;
}

one_added : (f : Facts) (i seen k : ℕ) (g : Changed) → IsAdded f i g → IsAdded f i (add_key i seen g k)
one_added f i seen k g h = pick (nat_le (g.facts.fence i k) seen) (holds g.facts i k) refl (held g.facts k) refl (is_on g.facts i k)
  where
    pick : (a b : Bool) → holds g.facts i k ≡ b → (c : Bool) → held g.facts k ≡ c → (d : Bool) → IsAdded f i (chosen g i k a b c d)
    pick false b p c q d = h
    pick true true p c q d = h
    pick true false p true q d = copied_added f i k g h p q
    pick true false p false q true = h
    pick true false p false q false = strayed_added f i k g h

all_added : (f : Facts) (i seen : ℕ) (ks : List ℕ) (g : Changed) → IsAdded f i g → IsAdded f i (add_keys i seen g ks)
all_added f i seen [] g h = h
all_added f i seen (k ∷ ks) g h = all_added f i seen ks (add_key i seen g k) (one_added f i seen k g h)

added_plain : (f : Facts) (i : ℕ) → IsAdded f i (plain f)
added_plain f i = record {
  setting = refl;
  last = refl;
  threads = refl;
  want = refl;
  on = refl;
  steal = refl;
  bad = refl;
  counter = omega arith;
  copies = λ x k c e. e;
  older = λ x k c e l. e;
  others = λ x k o. refl;
  held_as = λ k. refl;
  asked = refl;
  answer = refl;
  reply = refl;
}

-- ## What the additions cost

-- keys in xs may be freed, and each pair weighs p; a key freed costs q
abbrev cost : (ℕ → ℕ) → ℕ → ℕ → ℕ → Changed → ℕ
cost q p n m g = total (λ k. total (λ x. cond (g.freed x k) (q k) 0) (from_one m) + holder_count g.facts k * p) (below n)

copied_cost : (q : ℕ → ℕ) (p n m i k : ℕ) (g : Changed) → cost q p n m (copied g i k) ≤ cost q p n m g + p
copied_cost q p n m i k g = total_gain _ _ p k 0 n (λ y l o. same y o) here
  where
    right : (b : Bool) → (b && false) ≡ false
    right true = refl
    right false = refl

    same : (y : ℕ) → eqb y k ≡ false → total (λ x. cond (g.freed x y) (q y) 0) (from_one m) + holder_count (copied g i k).facts y * p ≤ total (λ x. cond (g.freed x y) (q y) 0) (from_one m) + holder_count g.facts y * p
    same y o = let c : holder_count (copied g i k).facts y * p ≡ holder_count g.facts y * p = ap (λ z. z * p) (count_same g.facts (copied g i k).facts y (λ x. ap (λ b. is_some (cond (eqb x i && b) (Some g.facts.counter) (g.facts.has x y))) o ∙ ap (λ b. is_some (cond b (Some g.facts.counter) (g.facts.has x y))) (right (eqb x i))) refl) in omega (arith, c)

    here : total (λ x. cond (g.freed x k) (q k) 0) (from_one m) + holder_count (copied g i k).facts k * p ≤ (total (λ x. cond (g.freed x k) (q k) 0) (from_one m) + holder_count g.facts k * p) + p
    here =
        let c : holder_count (copied g i k).facts k ≤ holder_count g.facts k + 1 = count_more g.facts (copied g i k).facts i k (λ x o h. sym (ap (λ b. is_some (cond (b && eqb k k) (Some g.facts.counter) (g.facts.has x k))) o) ∙ h) refl in
        let d : holder_count (copied g i k).facts k * p ≤ (holder_count g.facts k + 1) * p = mul-le-mul c (le_refl p) in
        let e : (holder_count g.facts k + 1) * p ≡ holder_count g.facts k * p + p = omega arith in
        omega (arith, d, e)

strayed_cost : (q : ℕ → ℕ) (p n m i k : ℕ) (g : Changed) → cost q p n m (strayed g i k) ≤ cost q p n m g + q k
strayed_cost q p n m i k g = total_gain _ _ (q k) k 0 n (λ y l o. same y o) here
  where
    right : (b : Bool) → (b && false) ≡ false
    right true = refl
    right false = refl

    at_most : (y : ℕ) (x : ℕ) (b : Bool) → b ≡ false → cond (cond b true (g.freed x y)) (q y) 0 ≤ cond (g.freed x y) (q y) 0
    at_most y x true e = absurd (true≢false e)
    at_most y x false e = omega arith

    same : (y : ℕ) → eqb y k ≡ false → total (λ x. cond (cond (eqb x i && eqb y k) true (g.freed x y)) (q y) 0) (from_one m) + holder_count g.facts y * p ≤ total (λ x. cond (g.freed x y) (q y) 0) (from_one m) + holder_count g.facts y * p
    same y o = let c : total (λ x. cond (cond (eqb x i && eqb y k) true (g.freed x y)) (q y) 0) (from_one m) ≤ total (λ x. cond (g.freed x y) (q y) 0) (from_one m) = total_at_most _ _ (from_one m) (λ x. at_most y x (eqb x i && eqb y k) (ap (λ b. eqb x i && b) o ∙ right (eqb x i))) in omega (arith, c)

    all : (b : Bool) → cond (cond b true (g.freed i k)) (q k) 0 ≤ cond (g.freed i k) (q k) 0 + q k
    all true = omega arith
    all false = omega arith

    here : total (λ x. cond (cond (eqb x i && eqb k k) true (g.freed x k)) (q k) 0) (from_one m) + holder_count g.facts k * p ≤ (total (λ x. cond (g.freed x k) (q k) 0) (from_one m) + holder_count g.facts k * p) + q k
    here = let c : total (λ x. cond (cond (eqb x i && eqb k k) true (g.freed x k)) (q k) 0) (from_one m) ≤ total (λ x. cond (g.freed x k) (q k) 0) (from_one m) + q k =
        total_gain _ _ (q k) i 1 m (λ x l o. at_most k x (eqb x i && eqb k k) (ap (λ b. b && eqb k k) o)) (all (eqb i i && eqb k k)) in omega (arith, c)

module _ (f : Facts) (i seen : ℕ) (q : ℕ → ℕ) (p n m : ℕ) (d : ℕ → ℕ) (pays : (k : ℕ) → held f k ≡ true → p ≤ added_weight f d k) (frees : (k : ℕ) → held f k ≡ false → q k ≤ added_weight f d k) where
  one_cost : (k : ℕ) (g : Changed) → IsAdded f i g → cost q p n m (add_key i seen g k) ≤ cost q p n m g + added_weight f d k
  one_cost k g h = pick (nat_le (g.facts.fence i k) seen) (holds g.facts i k) (held g.facts k) refl (is_on g.facts i k)
    where
      pick : (a b c : Bool) → held g.facts k ≡ c → (x : Bool) → cost q p n m (chosen g i k a b c x) ≤ cost q p n m g + added_weight f d k
      pick false b c o x = omega arith
      pick true true c o x = omega arith
      pick true false true o x = let l = copied_cost q p n m i k g in let r : p ≤ added_weight f d k = pays k (sym (h.held_as k) ∙ o) in omega (arith, l, r)
      pick true false false o true = omega arith
      pick true false false o false = let l = strayed_cost q p n m i k g in let r : q k ≤ added_weight f d k = frees k (sym (h.held_as k) ∙ o) in omega (arith, l, r)

  all_cost : (ks : List ℕ) (g : Changed) → IsAdded f i g → cost q p n m (add_keys i seen g ks) ≤ cost q p n m g + total (added_weight f d) ks
  all_cost [] g h = omega arith
  all_cost (k ∷ ks) g h = let a : cost q p n m (add_key i seen g k) ≤ cost q p n m g + added_weight f d k = one_cost k g h in let b : cost q p n m (add_keys i seen (add_key i seen g k) ks) ≤ cost q p n m (add_key i seen g k) + total (added_weight f d) ks = all_cost ks (add_key i seen g k) (one_added f i seen k g h) in omega (arith, a, b)

-- at most as many copies more as keys are added
one_row : (i seen k n : ℕ) (g : Changed) → count (λ q. holds (add_key i seen g k).facts i q) (below n) ≤ count (λ q. holds g.facts i q) (below n) + 1
one_row i seen k n g = count_row g.facts (add_key i seen g k).facts i k n (λ q o h. pick q o (nat_le (g.facts.fence i k) seen) (holds g.facts i k) (held g.facts k) (is_on g.facts i k) h)
  where
    right : (b : Bool) → (b && false) ≡ false
    right true = refl
    right false = refl

    pick : (q : ℕ) → eqb q k ≡ false → (a b c d : Bool) → holds (chosen g i k a b c d).facts i q ≡ true → holds g.facts i q ≡ true
    pick q o false b c d h = h
    pick q o true true c d h = h
    pick q o true false true d h = sym (ap (λ b. is_some (cond (eqb i i && b) (Some g.facts.counter) (g.facts.has i q))) o ∙ ap (λ b. is_some (cond b (Some g.facts.counter) (g.facts.has i q))) (right (eqb i i))) ∙ h
    pick q o true false false true h = h
    pick q o true false false false h = h

all_row : (i seen n : ℕ) (ks : List ℕ) (g : Changed) → count (λ q. holds (add_keys i seen g ks).facts i q) (below n) ≤ count (λ q. holds g.facts i q) (below n) + length ks
all_row i seen n [] g = omega arith
all_row i seen n (k ∷ ks) g = let a = one_row i seen k n g in let b = all_row i seen n ks (add_key i seen g k) in omega (arith, a, b)

-- ## The event

more_count : (f h : Facts) (k : ℕ) → ((x : ℕ) → holds f x k ≡ true → holds h x k ≡ true) → h.last_worker ≡ f.last_worker → holder_count f k ≤ holder_count h k
unfolding holder_count
more_count f h k s l =
    let a : count (λ w. holds f w k) (from_one f.last_worker) ≤ count (λ w. holds h w k) (from_one f.last_worker) = count_less _ _ (from_one f.last_worker) s in
    let c : count (λ w. holds h w k) (from_one h.last_worker) ≡ count (λ w. holds h w k) (from_one f.last_worker) = ap (λ n. count (λ w. holds h w k) (from_one n)) l in
    omega (arith, a, c)

less_and : (a b : ℕ) → b ≤ a → (a - b) + b ≡ a
less_and a b l = omega (arith, l)

module _ (j : Job) (w : World) (joint : IsJoint j w) (old : AreOld w) (fenced : AreFenced w.sched) (i seen : ℕ) (ks : List ℕ) (ms : List Up) (e : w.up i ≡ AddKeys seen ks ∷ ms) (there : is_connected w i ≡ true) where
  abbrev g : Changed
  g = add_keys i seen (plain w.sched) ks

  added : IsAdded w.sched i (add_keys i seen (plain w.sched) ks)
  added = all_added w.sched i seen ks (plain w.sched) (added_plain w.sched i)

  calm : IsCalmChange w.sched (add_keys i seen (plain w.sched) ks).facts (λ q. false)
  calm = record {
    setting = added.setting;
    last = added.last;
    want = added.want;
    counter = added.counter;
    had_place = λ k o. absurd (false≢true o);
    on = λ k o. ap (λ z. z k) added.on;
    steal = λ k o. ap (λ z. z k) added.steal;
    copies = added.copies;
    held_still = λ k h. added.held_as k ∙ h;
    held_new = λ k h o. sym (added.held_as k) ∙ h;
    bad = λ k h. ap (λ z. z k) added.bad ∙ h;
    bad_new = λ k h o. ap (λ z. z k) (sym added.bad) ∙ h;
  }

  lossy : (q : ℕ) → counts_loss w.sched i q (AddKeys seen ks) ≡ true → holds (finish_step (settle w.sched (add_keys i seen (plain w.sched) ks))).facts i q ≡ false
  lossy q h = absurd (false≢true h)

  others : (x q : ℕ) → eqb x i ≡ false → holds (finish_step (settle w.sched (add_keys i seen (plain w.sched) ks))).facts x q ≡ true → holds w.sched x q ≡ true
  others x q o h = sym (ap is_some (added.others x q o)) ∙ held_then j w joint old fenced i (AddKeys seen ks) ms e there x q h

  backs : (q : ℕ) → IsBacked (settle w.sched (add_keys i seen (plain w.sched) ks)) q (is_to_try w.sched q)
  backs q = backed w.sched (add_keys i seen (plain w.sched) ks) (λ q. false) joint.sound joint.settled (drawn j w joint old fenced i (AddKeys seen ks) ms e there) (sh j w joint old fenced i (AddKeys seen ks) ms e there) calm q refl

  abbrev b : ℕ
  b = disturbances w

  light : IsLighter w.sched (settle w.sched (add_keys i seen (plain w.sched) ks)).placed (deaths w.sched (disturbances w)) (deaths (settle w.sched (add_keys i seen (plain w.sched) ks)).placed (disturbances w))
  light = lighter w.sched (add_keys i seen (plain w.sched) ks) (λ q. false) joint.sound joint.settled (drawn j w joint old fenced i (AddKeys seen ks) ms e there) (sh j w joint old fenced i (AddKeys seen ks) ms e there) calm (disturbances w) backs

  held_dies : (k : ℕ) → held w.sched k ≡ true → disturbances w + 1 ≤ deaths w.sched (disturbances w) k
  unfolding deaths
  held_dies k h = let c : bit (is_some (w.sched.on k) || held w.sched k) ≡ 1 = ap bit (or_right (is_some (w.sched.on k)) (held w.sched k) h) in omega (arith, c)

  pays : (k : ℕ) → held w.sched k ≡ true → pair_weight (disturbances w) ≤ added_weight w.sched (deaths w.sched (disturbances w)) k
  pays k h = let a : bit (held w.sched k) ≡ 1 = ap bit h in let c = held_dies k h in omega (arith, a, c)

  frees : (k : ℕ) → held w.sched k ≡ false → question (deaths (settle w.sched (add_keys i seen (plain w.sched) ks)).placed (disturbances w)) k + 1 ≤ added_weight w.sched (deaths w.sched (disturbances w)) k
  frees k h = let a : bit (held w.sched k) ≡ 0 = ap bit h in let c = light.deaths k in omega (arith, a, c)

  abbrev gain : ℕ → ℕ
  gain k = holder_count (add_keys i seen (plain w.sched) ks).facts k * pair_weight (disturbances w) - holder_count w.sched k * pair_weight (disturbances w)

  more : (k : ℕ) → holder_count w.sched k * pair_weight (disturbances w) ≤ holder_count (add_keys i seen (plain w.sched) ks).facts k * pair_weight (disturbances w)
  more k = mul-le-mul counts (le_refl (pair_weight (disturbances w)))
    where
      one : (x : ℕ) (o : Option ℕ) → w.sched.has x k ≡ o → is_some o ≡ true → holds (add_keys i seen (plain w.sched) ks).facts x k ≡ true
      one x None q h = absurd (false≢true h)
      one x (Some c) q h = ap is_some (added.copies x k c q)

      counts : holder_count w.sched k ≤ holder_count (add_keys i seen (plain w.sched) ks).facts k
      counts = more_count w.sched (add_keys i seen (plain w.sched) ks).facts k (λ x h. one x (w.sched.has x k) refl h) added.last

  abbrev m : ℕ
  m = (settle w.sched (add_keys i seen (plain w.sched) ks)).placed.last_worker

  abbrev D : ℕ → ℕ
  D = deaths (settle w.sched (add_keys i seen (plain w.sched) ks)).placed (disturbances w)

  all_paid : event_total (settle w.sched (add_keys i seen (plain w.sched) ks)) D (below (keys w.sched)) + total gain (below (keys w.sched)) ≤ total (added_weight w.sched (deaths w.sched (disturbances w))) ks
  unfolding settle
  all_paid =
      let a = all_cost w.sched i seen (λ k. question D k + 1) (pair_weight b) (keys w.sched) m (deaths w.sched b) pays frees ks (plain w.sched) (added_plain w.sched i) in
      let c = total_plus (λ k. total (λ x. cond (g.freed x k) (question D k + 1) 0) (from_one m)) (λ k. holder_count g.facts k * pair_weight b) (below (keys w.sched)) in
      let d = total_plus (λ k. total (λ x. 0) (from_one m)) (λ k. holder_count w.sched k * pair_weight b) (below (keys w.sched)) in
      let z : total (λ k. total (λ x. 0) (from_one m)) (below (keys w.sched)) ≡ 0 = zero_total (from_one m) (below (keys w.sched)) in
      let u = total_plus gain (λ k. holder_count w.sched k * pair_weight b) (below (keys w.sched)) in
      let y : total (λ k. gain k + holder_count w.sched k * pair_weight b) (below (keys w.sched)) ≤ total (λ k. holder_count g.facts k * pair_weight b) (below (keys w.sched)) = total_at_most _ _ (below (keys w.sched)) (λ k. let s = less_and (holder_count g.facts k * pair_weight b) (holder_count w.sched k * pair_weight b) (more k) in omega (arith, s)) in
      omega (arith, a, c, d, z, u, y)

  no_answers : answer_cost (settle w.sched (add_keys i seen (plain w.sched) ks)) D ≡ 0
  unfolding settle
  no_answers = ap (λ (a : Facts → ℕ → List Down). total (λ x. sum_of (down_weight (settle w.sched g).placed D x) (a (settle w.sched g).placed x)) (from_one m)) added.answer ∙ total_nothing (from_one m)

  no_reply : reply_cost (settle w.sched (add_keys i seen (plain w.sched) ks)) D ≡ 0
  unfolding settle
  no_reply = ap (λ (o : Option (ℕ × ℕ)). sum_of (λ (z : ℕ × ToClient). news_weight (settle w.sched g).placed D z.1) (reply_message (settle w.sched g) (to_clients (settle w.sched g)) o)) added.reply

  pub add_keys_falls : Falls w (world_step j w (DeliverUp i))
  add_keys_falls = up_calm j w joint old fenced i (AddKeys seen ks) ms e there added.threads added.older lossy others
      (let l = death_more w (record w { up = put w.up i ms }) (settle w.sched g) (is_taken j w joint old fenced i (AddKeys seen ks) ms e there added.older lossy) i (length ks) rows in omega (arith, l))
      (λ q. false) calm (λ q o. absurd (false≢true o)) gain
      (λ b q. rest_plain w.sched (add_keys i seen (plain w.sched) ks) (λ q. false) joint.sound joint.settled (drawn j w joint old fenced i (AddKeys seen ks) ms e there) (sh j w joint old fenced i (AddKeys seen ks) ms e there) calm (disturbances w) b (λ q. ap (λ z. z q) added.asked) (λ q h. sym (added.held_as q) ∙ h) (λ q h. sym (ap (λ z. is_some (z q)) added.on) ∙ h) q (gain q)
      (let s = less_and (holder_count g.facts q * pair_weight (disturbances w)) (holder_count w.sched q * pair_weight (disturbances w)) (more q) in omega (arith, s)))
      (omega (arith, all_paid, no_answers, no_reply))
    where
      less : (xs : List ℕ) → count (λ k. holds (finish_step (settle w.sched (add_keys i seen (plain w.sched) ks))).facts i k) xs ≤ count (λ k. holds (add_keys i seen (plain w.sched) ks).facts i k) xs
      less xs = count_less _ _ xs (λ k h. held_then j w joint old fenced i (AddKeys seen ks) ms e there i k h)

      rows : count (λ k. holds (finish_step (settle w.sched (add_keys i seen (plain w.sched) ks))).facts i k) (below (keys w.sched)) ≤ count (λ k. holds w.sched i k) (below (keys w.sched)) + length ks
      rows = let a = less (below (keys w.sched)) in let c = all_row i seen (keys w.sched) ks (plain w.sched) in omega (arith, a, c)
