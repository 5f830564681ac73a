-- What came of an ask, at the worker that asked.
use Rattle.std.proofs.Common.{◌≡◌, ℕ, ◌+◌, ◌*◌, ◌-◌, ◌≤◌, Bool, true, false, cond, not, ◌&&◌, ◌||◌, List, [], ◌∷◌, ◌++◌, length, Option, Some, None, refl, sym, ap, ◌∙◌, subst, arith, is_some, fold}
use Rattle.std.proofs.Math.Dec.{eqb}
use Rattle.std.proofs.lemmas.Bool.{false≢true, eqb-true, eq-eqb, ne_eqb, eqb-false, and_parts, and_from}
use Rattle.std.proofs.Math.Bool.{or-true}
use Rattle.cluster_laws.proofs.Errors.{holder_holds}
use Rattle.cluster_msgs.specs.Shape.{Shape, key_count}
use Rattle.cluster_msgs.specs.declared.messages.Up.TheVariants.{TaskFinished, MissingData}
use Rattle.cluster_msgs.specs.declared.cores.Instruction.{Instruction}
use Rattle.cluster_msgs.specs.declared.cores.Instruction.TheVariants.{Send, Keep}
use Rattle.cluster_rules.specs.Functions.{put, total}
use Rattle.cluster_rules.specs.Derived.{is_in, below}
use Rattle.cluster_rules.specs.Sched.{Facts, IsSound, held}
use Rattle.cluster_rules.specs.SchedTable.{is_copy}
use Rattle.cluster_rules.specs.Worker.{WorkerFacts, worker_keys, awaited, is_wanted, flying, wstate, is_missing_state}
use Rattle.cluster_rules.specs.WorkerStep.{WorkerStep, quiet, after_out, each_key, into_mem, give_up, Arrivals, arrive_as, arrive, add_message, arrived, keys_of, lose_holders, not_found}
use Rattle.cluster_rules.specs.WorldStep.{sends}
use Rattle.cluster_rules.proofs.TotalLemmas.{total-push}
use Rattle.quiet_measure.specs.Weights.{bit, sum_of, is_current, added_weight, missed_weight, up_weight, task_weight, is_sought}
use Rattle.quiet_measure.specs.Measure.{deaths}
use Rattle.quiet_measure.proofs.Sums.{total_at_most, sum_append}
use Rattle.quiet_measure.proofs.Falling.{same_most}
use Rattle.quiet_measure.proofs.Asked.{sends_append}
use Rattle.quiet_measure.proofs.KeyByKey.{seeks, seek_closed, seek_settled, seek_unmissed, is_bare, FewerPending, awaited_less, flying_same, sought_less, seeks_less, tasks_less}
use Rattle.quiet_measure.proofs.Send.{item_weight}

-- ## A copy that is there

-- a copy that is there may still be lost
pub record IsBacked (f : Facts) (d : ℕ → ℕ) : Type 0 where
  pub held : (x k c : ℕ) → is_current f x k c ≡ true → held f k ≡ true
  pub deaths : (x k c : ℕ) → is_current f x k c ≡ true → 1 ≤ d k

pub backed : (f : Facts) (b : ℕ) → IsSound f → IsBacked f (deaths f b)
unfolding deaths
backed f b sound = record { held = λ x k c e. here x k c e; deaths = λ x k c e. more k (here x k c e) }
  where
    copies : (c : ℕ) (o : Option ℕ) → is_copy c o ≡ true → is_some o ≡ true
    copies c None e = absurd (false≢true e)
    copies c (Some y) e = refl

    here : (x k c : ℕ) → is_current f x k c ≡ true → held f k ≡ true
    here x k c e = holder_holds f sound x k (copies c (f.has x k) e)

    more : (k : ℕ) → held f k ≡ true → 1 ≤ deaths f b k
    more k e = let z : bit (is_some (f.on k) || held f k) ≡ 1 = ap bit (ap (λ y. is_some (f.on k) || y) e ∙ or-true (is_some (f.on k))) in omega arith

-- ## What is left of a worker, but for keys that are still to be told of

abbrev pub left_worth : Facts → (ℕ → ℕ) → WorkerFacts → List ℕ → ℕ → ℕ
left_worth f d w R q = task_weight d w q + cond (is_in q R) 0 (seeks f d w q)

abbrev pub left : Facts → (ℕ → ℕ) → WorkerFacts → List ℕ → ℕ
left f d w R = total (left_worth f d w R) (worker_keys w)

left_less : (f : Facts) (d : ℕ → ℕ) (w v : WorkerFacts) (k : ℕ) (R : List ℕ) → v.shape ≡ w.shape → ((q : ℕ) → task_weight d v q ≤ task_weight d w q) → ((q : ℕ) → eqb q k ≡ false → seeks f d v q ≤ seeks f d w q) → seeks f d v k ≤ 0
    → left f d v R ≤ left f d w (k ∷ R)
left_less f d w v k R s t o z =
    let a : total (left_worth f d v R) (below (key_count w.shape)) ≤ total (left_worth f d w (k ∷ R)) (below (key_count w.shape)) = total_at_most _ _ (below (key_count w.shape)) one in
    let e : left f d v R ≡ total (left_worth f d v R) (below (key_count w.shape)) = ap (λ (g : Shape). total (left_worth f d v R) (below (key_count g))) s in
    omega (arith, a, e)
  where
    nothing : (b : Bool) (n : ℕ) → n ≤ 0 → cond b 0 n ≤ 0
    nothing true n l = omega arith
    nothing false n l = l

    less : (b : Bool) (n m : ℕ) → n ≤ m → cond b 0 n ≤ cond b 0 m
    less true n m l = omega arith
    less false n m l = l

    one : (q : ℕ) → left_worth f d v R q ≤ left_worth f d w (k ∷ R) q
    one q = by (eqb k q) refl
      where
        by : (b : Bool) → eqb k q ≡ b → task_weight d v q + cond (is_in q R) 0 (seeks f d v q) ≤ task_weight d w q + cond (b || is_in q R) 0 (seeks f d w q)
        by true e =
            let l : seeks f d v q ≤ 0 = subst (λ x. seeks f d v x ≤ 0) (eqb-true k q e) z in
            let m : cond (is_in q R) 0 (seeks f d v q) ≤ 0 = nothing (is_in q R) _ l in
            let n : task_weight d v q ≤ task_weight d w q = t q in
            omega arith
        by false e =
            let l : seeks f d v q ≤ seeks f d w q = o q (ne_eqb q k (λ x. eqb-false k q e (sym x))) in
            let m : cond (is_in q R) 0 (seeks f d v q) ≤ cond (is_in q R) 0 (seeks f d w q) = less (is_in q R) _ _ l in
            let n : task_weight d v q ≤ task_weight d w q = t q in
            omega arith

-- a block came
filled_less : (f : Facts) (d : ℕ → ℕ) (w : WorkerFacts) (M : ℕ → Option ℕ) (k : ℕ) (R : List ℕ) → ((q : ℕ) → eqb q k ≡ false → M q ≡ w.mine q) → (is_some (M k) ≡ true → is_some (w.mine k) ≡ true)
    → left f d (into_mem (record w { mine = M }) k) R ≤ left f d w (k ∷ R)
filled_less f d w M k R o h = left_less f d w (into_mem (record w { mine = M }) k) k R refl (λ q. tasks_less d w (into_mem (record w { mine = M }) k) q (fewer q) refl)
    (λ q e. seeks_less f d w (into_mem (record w { mine = M }) k) q (sought_less w (into_mem (record w { mine = M }) k) q (awaited_less w (into_mem (record w { mine = M }) k) refl fewer q) (ap (λ b. cond b true (w.mem q)) e) (ap (λ b. cond b false (w.sought q)) e)
    (flying_same w (into_mem (record w { mine = M }) k) refl q))
    (record { mem = ap (λ b. cond b true (w.mem q)) e; sought = ap (λ b. cond b false (w.sought q)) e; running = refl; mine = o q e; asked = ap (λ b. cond b false (w.asked q)) e; holders = ap (λ b. cond b [] (w.holders q)) e }))
    (let z : seeks f d (into_mem (record w { mine = M }) k) k ≡ 0 = seek_closed f d k (is_sought (into_mem (record w { mine = M }) k) k) _ _ shut in omega (arith, z))
  where
    fewer : FewerPending w (into_mem (record w { mine = M }) k)
    fewer j e = by (eqb j k) refl e
      where
        by : (b : Bool) → eqb j k ≡ b → (is_some (M j) && not (w.running j)) ≡ true → (is_some (w.mine j) && not (w.running j)) ≡ true
        by true s x =
            let p = and_parts (is_some (M j)) (not (w.running j)) x in
            and_from _ _ (subst (λ y. is_some (M y) ≡ true → is_some (w.mine y) ≡ true) (sym (eqb-true j k s)) h p.0) p.1
        by false s x = sym (ap (λ m. is_some m && not (w.running j)) (o j s)) ∙ x

    shut : is_sought (into_mem (record w { mine = M }) k) k ≡ false
    shut = ap (λ b. (not (cond b true (w.mem k)) && ((into_mem (record w { mine = M }) k).sought k || awaited (into_mem (record w { mine = M }) k) k)) && not (flying (into_mem (record w { mine = M }) k) k)) (eq-eqb k k refl)

-- a block came for which there is no use
unused_less : (f : Facts) (d : ℕ → ℕ) (w : WorkerFacts) (k : ℕ) (R : List ℕ) → is_wanted w k ≡ false → left f d w R ≤ left f d w (k ∷ R)
unused_less f d w k R e = left_less f d w w k R refl (λ q. same_most _ _ refl) (λ q o. same_most _ _ refl)
    (let z : seeks f d w k ≡ 0 = seek_closed f d k (is_sought w k) _ _ (ap (λ b. b && not (flying w k)) e) in omega (arith, z))

-- ## Keys that were found

module _ (f : Facts) (d : ℕ → ℕ) (p : ℕ) (back : IsBacked f d) where
  pub item_some : (x : ℕ × ℕ) → 7 ≤ item_weight f d p x
  item_some x = by (is_current f p x.0 x.1) (back.deaths p x.0 x.1)
    where
      by : (b : Bool) → (b ≡ true → 1 ≤ d x.0) → 7 ≤ 7 * (d x.0 + bit (not b))
      by true h = let l : 1 ≤ d x.0 = h refl in omega arith
      by false h = omega arith

  item_added : (x : ℕ × ℕ) → added_weight f d x.0 + 1 ≤ item_weight f d p x
  item_added x = by (is_current f p x.0 x.1) (held f x.0) (back.deaths p x.0 x.1) (back.held p x.0 x.1)
    where
      by : (b c : Bool) → (b ≡ true → 1 ≤ d x.0) → (b ≡ true → c ≡ true) → 7 * (d x.0 - bit c) + 6 + 1 ≤ 7 * (d x.0 + bit (not b))
      by true true h g = let l : 1 ≤ d x.0 = h refl in omega arith
      by true false h g = absurd (false≢true (g refl))
      by false true h g = omega arith
      by false false h g = omega arith

  pub item_missed : (x : ℕ × ℕ) → missed_weight f d x.0 p x.1 + 2 ≤ item_weight f d p x
  item_missed x = by (is_current f p x.0 x.1) (back.deaths p x.0 x.1)
    where
      by : (b : Bool) → (b ≡ true → 1 ≤ d x.0) → 7 * (d x.0 - bit b) + 5 + 2 ≤ 7 * (d x.0 + bit (not b))
      by true h = let l : 1 ≤ d x.0 = h refl in omega arith
      by false h = omega arith

  abbrev pub ups : List Instruction → ℕ
  ups out = sum_of (up_weight f d) (sends out)

  ups_both : (xs ys : List Instruction) → ups (xs ++ ys) ≡ ups xs + ups ys
  ups_both xs ys = ap (sum_of (up_weight f d)) (sends_append xs ys) ∙ sum_append (up_weight f d) (sends xs) (sends ys)

  abbrev got_weight : Arrivals → List ℕ → ℕ
  got_weight r R = left f d r.facts R + (ups r.out + total (λ k. added_weight f d k + 1) r.added)

  got_one : (r : Arrivals) (x : ℕ × ℕ) (R : List ℕ) → got_weight (arrive r x.0) R ≤ got_weight r (x.0 ∷ R) + item_weight f d p x
  got_one r x R = by (r.facts.mine x.0) refl
    where
      k : ℕ
      k = x.0

      by : (o : Option ℕ) → r.facts.mine x.0 ≡ o → got_weight (arrive_as r x.0 o) R ≤ got_weight r (x.0 ∷ R) + item_weight f d p x
      by (Some a) e =
          let l : left f d (into_mem (give_up r.facts x.0) x.0) R ≤ left f d r.facts (x.0 ∷ R) =
          filled_less f d r.facts (put r.facts.mine x.0 None) x.0 R (λ q o. ap (λ b. cond b None (r.facts.mine q)) o) (λ s. absurd (false≢true (sym (ap (λ b. is_some (cond b None (r.facts.mine x.0))) (eq-eqb x.0 x.0 refl)) ∙ s))) in
          let u : ups (r.out ++ Keep x.0 ∷ Send (TaskFinished r.facts.seen x.0 a) ∷ []) ≡ ups r.out + 1 = ups_both r.out (Keep x.0 ∷ Send (TaskFinished r.facts.seen x.0 a) ∷ []) in
          omega (arith, l, u, item_some x)
      by None e = want (is_wanted r.facts x.0) refl
        where
          want : (b : Bool) → is_wanted r.facts x.0 ≡ b
              → got_weight (cond b (record { facts = into_mem r.facts x.0; out = r.out ++ Keep x.0 ∷ []; added = r.added ++ x.0 ∷ [] }) r) R ≤ got_weight r (x.0 ∷ R) + item_weight f d p x
          want true t =
              let l : left f d (into_mem r.facts x.0) R ≤ left f d r.facts (x.0 ∷ R) = filled_less f d r.facts r.facts.mine x.0 R (λ q o. refl) (λ s. s) in
              let u : ups (r.out ++ Keep x.0 ∷ []) ≡ ups r.out + 0 = ups_both r.out (Keep x.0 ∷ []) in
              let m : total (λ k. added_weight f d k + 1) (r.added ++ x.0 ∷ []) ≡ total (λ k. added_weight f d k + 1) r.added + (added_weight f d x.0 + 1) = total-push (λ k. added_weight f d k + 1) r.added x.0 in
              omega (arith, l, u, m, item_added x)
          want false t = let l : left f d r.facts R ≤ left f d r.facts (x.0 ∷ R) = unused_less f d r.facts x.0 R t in omega (arith, l)

  got_all : (r : Arrivals) (is : List (ℕ × ℕ)) (R : List ℕ) → got_weight (fold arrive r (keys_of is)) R ≤ got_weight r (keys_of is ++ R) + sum_of (item_weight f d p) is
  got_all r [] R = omega arith
  got_all r (x ∷ is) R =
      let a : got_weight (fold arrive (arrive r x.0) (keys_of is)) R ≤ got_weight (arrive r x.0) (keys_of is ++ R) + sum_of (item_weight f d p) is = got_all (arrive r x.0) is R in
      let b : got_weight (arrive r x.0) (keys_of is ++ R) ≤ got_weight r (x.0 ∷ (keys_of is ++ R)) + item_weight f d p x = got_one r x (keys_of is ++ R) in
      omega arith

  add_most : (seen : ℕ) (ks : List ℕ) → ups (add_message seen ks) ≤ total (λ k. added_weight f d k + 1) ks
  add_most seen [] = omega arith
  add_most seen (k ∷ ks) = let l : total (added_weight f d) ks ≤ total (λ k. added_weight f d k + 1) ks = total_at_most _ _ ks (λ x. omega arith) in omega arith

  abbrev pub step_weight : WorkerStep → List ℕ → ℕ
  step_weight s R = left f d s.facts R + ups s.out

  pub arrived_weight : (w : WorkerFacts) (is : List (ℕ × ℕ)) (R : List ℕ) → step_weight (arrived w (keys_of is)) R ≤ left f d w (keys_of is ++ R) + sum_of (item_weight f d p) is
  unfolding arrived
  arrived_weight w is R =
      let r : Arrivals = fold arrive (record { facts = w; out = []; added = [] }) (keys_of is) in
      let a : got_weight r R ≤ got_weight (record { facts = w; out = []; added = [] }) (keys_of is ++ R) + sum_of (item_weight f d p) is = got_all (record { facts = w; out = []; added = [] }) is R in
      let u : ups (r.out ++ add_message r.facts.seen r.added) ≡ ups r.out + ups (add_message r.facts.seen r.added) = ups_both r.out (add_message r.facts.seen r.added) in
      let m : ups (add_message r.facts.seen r.added) ≤ total (λ k. added_weight f d k + 1) r.added = add_most r.facts.seen r.added in
      omega (arith, a, u, m)

  -- ## Keys that weren't found

  missed_one : (s : WorkerStep) (x : ℕ × ℕ) (R : List ℕ) → step_weight (after_out s.out (not_found p s.facts x)) R + 2 ≤ step_weight s (x.0 ∷ R) + item_weight f d p x
  missed_one s x R = by (is_missing_state (wstate (lose_holders s.facts x.0) x.0)) refl
    where
      w : WorkerFacts
      w = s.facts

      by : (b : Bool) → is_missing_state (wstate (lose_holders s.facts x.0) x.0) ≡ b
          → step_weight (after_out s.out (cond b (record { facts = record (lose_holders s.facts x.0) { asked = put s.facts.asked x.0 true }; out = Send (MissingData s.facts.seen x.0 p x.1) ∷ [] }) (quiet (lose_holders s.facts x.0)))) R + 2
          ≤ step_weight s (x.0 ∷ R) + item_weight f d p x
      by true m =
          let v : WorkerFacts = record (lose_holders s.facts x.0) { asked = put s.facts.asked x.0 true } in
          let l : left f d v R ≤ left f d s.facts (x.0 ∷ R) = left_less f d s.facts v x.0 R refl (λ q. same_most _ _ refl)
          (λ q o. seeks_less f d s.facts v q (sought_less s.facts v q (awaited_less s.facts v refl (λ j e. e) q) refl refl (flying_same s.facts v refl q))
          (record { mem = refl; sought = refl; running = refl; mine = refl; asked = ap (λ b. cond b true (s.facts.asked q)) o; holders = ap (λ b. cond b [] (s.facts.holders q)) o }))
          (seek_settled f d x.0 (is_sought v x.0) (is_bare v x.0) (put s.facts.holders x.0 [] x.0) (ap (λ b. cond b [] (s.facts.holders x.0)) (eq-eqb x.0 x.0 refl))
          (ap (λ b. (not (s.facts.running x.0) && not (is_some (s.facts.mine x.0))) && not (cond b true (s.facts.asked x.0))) (eq-eqb x.0 x.0 refl) ∙ none (not (s.facts.running x.0) && not (is_some (s.facts.mine x.0))))) in
          let u : ups (s.out ++ Send (MissingData s.facts.seen x.0 p x.1) ∷ []) ≡ ups s.out + (missed_weight f d x.0 p x.1 + 0) = ups_both s.out (Send (MissingData s.facts.seen x.0 p x.1) ∷ []) in
          omega (arith, l, u, item_missed x)
        where
          none : (b : Bool) → (b && false) ≡ false
          none true = refl
          none false = refl
      by false m =
          let v : WorkerFacts = lose_holders s.facts x.0 in
          let l : left f d v R ≤ left f d s.facts (x.0 ∷ R) = left_less f d s.facts v x.0 R refl (λ q. same_most _ _ refl)
          (λ q o. seeks_less f d s.facts v q (sought_less s.facts v q (awaited_less s.facts v refl (λ j e. e) q) refl refl (flying_same s.facts v refl q))
          (record { mem = refl; sought = refl; running = refl; mine = refl; asked = refl; holders = ap (λ b. cond b [] (s.facts.holders q)) o }))
          (seek_unmissed f d v x.0 (ap (λ b. cond b [] (s.facts.holders x.0)) (eq-eqb x.0 x.0 refl)) m) in
          let u : ups (s.out ++ []) ≡ ups s.out + 0 = ups_both s.out [] in
          omega (arith, l, u, item_some x)

  pub missed_all : (s : WorkerStep) (is : List (ℕ × ℕ)) (R : List ℕ) → step_weight (each_key (not_found p) s is) R + 2 * length is ≤ step_weight s (keys_of is ++ R) + sum_of (item_weight f d p) is
  missed_all s [] R = omega arith
  missed_all s (x ∷ is) R =
      let a : step_weight (each_key (not_found p) (after_out s.out (not_found p s.facts x)) is) R + 2 * length is ≤ step_weight (after_out s.out (not_found p s.facts x)) (keys_of is ++ R) + sum_of (item_weight f d p) is =
      missed_all (after_out s.out (not_found p s.facts x)) is R in
      let b : step_weight (after_out s.out (not_found p s.facts x)) (keys_of is ++ R) + 2 ≤ step_weight s (x.0 ∷ (keys_of is ++ R)) + item_weight f d p x = missed_one s x (keys_of is ++ R) in
      omega arith
