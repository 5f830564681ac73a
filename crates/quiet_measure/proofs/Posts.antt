-- What the messages of one event of the scheduler weigh, key by key.
use Rattle.std.proofs.Common.{◌≡◌, ℕ, zero, suc, ◌+◌, ◌≤◌, ◌<◌, Bool, true, false, cond, ◌&&◌, List, [], ◌∷◌, ◌++◌, Option, Some, None, refl, sym, ap, ◌∙◌, arith}
use Rattle.std.proofs.Math.Dec.{eqb}
use Rattle.std.specs.Prelude.{nat_le}
use Rattle.std.specs.List.{filter_map, flat_map, cons_option, range_with_len}
use Rattle.std.proofs.lemmas.Bool.{eqb-true}
use Rattle.cluster_msgs.specs.declared.messages.Down.{Down}
use Rattle.cluster_msgs.specs.declared.messages.Down.TheVariants.{ComputeTask}
use Rattle.cluster_msgs.specs.declared.messages.ToClient.{ToClient}
use Rattle.cluster_rules.specs.Functions.{from_one, total}
use Rattle.cluster_rules.specs.Derived.{below}
use Rattle.cluster_rules.specs.Sched.{keys, deps, connected, workers, who_has}
use Rattle.cluster_rules.specs.SchedStep.{Stages, Stepped, lost, lost_keys, free_message, task_message, task_messages, all_to, to_worker, down_messages, client_message, to_clients, reply_message, client_messages, mail}
use Rattle.cluster_rules.specs.World.{World}
use Rattle.cluster_rules.specs.WorldStep.{letters, scheduled}
use Rattle.quiet_measure.specs.Weights.{sum_of, question, down_weight, up_weight, core_weight, news_weight}
use Rattle.quiet_measure.specs.Measure.{site_weight, worker_weight, client_site_weight, client_weight, links_weight}
use Rattle.quiet_measure.proofs.Sums.{total_at_most, sum_append}
use Rattle.quiet_measure.proofs.Falling.{same_most}
use Rattle.quiet_measure.proofs.Fewer.{total_filter, total_nothing}
use Rattle.quiet_measure.specs.Lighter.{under}

-- ## Sums of sums

pub total_plus : (g h : ℕ → ℕ) (xs : List ℕ) → total (λ x. g x + h x) xs ≡ total g xs + total h xs
total_plus g h [] = refl
total_plus g h (x ∷ xs) = let r : total (λ x. g x + h x) xs ≡ total g xs + total h xs = total_plus g h xs in omega arith

pub total_swap : (g : ℕ → ℕ → ℕ) (xs ys : List ℕ) → total (λ x. total (g x) ys) xs ≡ total (λ y. total (λ x. g x y) xs) ys
total_swap g [] ys = sym (total_nothing ys)
total_swap g (x ∷ xs) ys =
    let r : total (λ x. total (g x) ys) xs ≡ total (λ y. total (λ x. g x y) xs) ys = total_swap g xs ys in
    let p : total (λ y. g x y + total (λ x. g x y) xs) ys ≡ total (g x) ys + total (λ y. total (λ x. g x y) xs) ys = total_plus (g x) (λ y. total (λ x. g x y) xs) ys in
    omega arith

-- of numbers in a row at most one is the one
pub one_place : (g : ℕ → ℕ) (i a n : ℕ) → total (λ x. cond (eqb i x) (g x) 0) (range_with_len a n) ≤ g i
one_place g i a n = by n a
  where
    past : (n a : ℕ) → i < a → total (λ x. cond (eqb i x) (g x) 0) (range_with_len a n) ≡ 0
    past zero a l = refl
    past (suc n) a l = let r : total (λ x. cond (eqb i x) (g x) 0) (range_with_len (a + 1) n) ≡ 0 = past n (a + 1) (omega (arith, l)) in
        let z : cond (eqb i a) (g a) 0 ≡ 0 = none (eqb i a) refl in omega arith
      where
        none : (b : Bool) → eqb i a ≡ b → cond b (g a) 0 ≡ 0
        none true e = absurd (let s : i ≡ a = eqb-true i a e in omega (arith, l, s))
        none false e = refl

    by : (n a : ℕ) → total (λ x. cond (eqb i x) (g x) 0) (range_with_len a n) ≤ g i
    by zero a = omega arith
    by (suc n) a = pick (eqb i a) refl (by n (a + 1)) (past n (a + 1))
      where
        pick : (b : Bool) → eqb i a ≡ b → total (λ x. cond (eqb i x) (g x) 0) (range_with_len (a + 1) n) ≤ g i → (i < a + 1 → total (λ x. cond (eqb i x) (g x) 0) (range_with_len (a + 1) n) ≡ 0)
            → cond b (g a) 0 + total (λ x. cond (eqb i x) (g x) 0) (range_with_len (a + 1) n) ≤ g i
        pick true e r z = let s : i ≡ a = eqb-true i a e in let t : g a ≡ g i = ap g (sym s) in let u : total (λ x. cond (eqb i x) (g x) 0) (range_with_len (a + 1) n) ≡ 0 = z (omega (arith, s)) in omega (arith, t, u)
        pick false e r z = omega (arith, r)

-- ## The links with the messages

module _ (w : World) (s : Stepped) (e : ℕ → ℕ) where
  abbrev pub sent_down : ℕ
  sent_down = total (λ i. sum_of (down_weight s.facts e i) (mail i s.down)) (from_one s.facts.last_worker)

  abbrev pub sent_news : ℕ
  sent_news = total (λ c. sum_of (news_weight s.facts e) (letters c s.clients)) (from_one s.facts.setting.clients)

  pub links_posted : links_weight e (scheduled w s) ≤ links_weight e (under w s.facts) + (sent_down + sent_news)
  unfolding links_weight scheduled worker_weight client_weight client_site_weight site_weight
  links_posted =
      let x : total (worker_weight e (scheduled w s)) ws ≤ total (λ i. worker_weight e (under w s.facts) i + sum_of (down_weight s.facts e i) (mail i s.down)) ws = total_at_most _ _ ws site in
      let y : total (client_weight e (scheduled w s)) cs ≤ total (λ c. client_weight e (under w s.facts) c + sum_of (news_weight s.facts e) (letters c s.clients)) cs = total_at_most _ _ cs home in
      let u : total (λ i. worker_weight e (under w s.facts) i + sum_of (down_weight s.facts e i) (mail i s.down)) ws ≡ total (worker_weight e (under w s.facts)) ws + sent_down = total_plus (worker_weight e (under w s.facts)) (λ i. sum_of (down_weight s.facts e i) (mail i s.down)) ws in
      let v : total (λ c. client_weight e (under w s.facts) c + sum_of (news_weight s.facts e) (letters c s.clients)) cs ≡ total (client_weight e (under w s.facts)) cs + sent_news = total_plus (client_weight e (under w s.facts)) (λ c. sum_of (news_weight s.facts e) (letters c s.clients)) cs in
      omega arith
    where
      ws : List ℕ
      ws = from_one s.facts.last_worker

      cs : List ℕ
      cs = from_one s.facts.setting.clients

      more : (i : ℕ) (a c : Bool) (ds ms : List Down) (v : ℕ) (u : ℕ) → cond c (cond a (sum_of (down_weight s.facts e i) (ds ++ ms) + v) 0 + u) 0 ≤ cond c (cond a (sum_of (down_weight s.facts e i) ds + v) 0 + u) 0 + sum_of (down_weight s.facts e i) ms
      more i a false ds ms v u = omega arith
      more i false true ds ms v u = omega arith
      more i true true ds ms v u = let p : sum_of (down_weight s.facts e i) (ds ++ ms) ≡ sum_of (down_weight s.facts e i) ds + sum_of (down_weight s.facts e i) ms = sum_append (down_weight s.facts e i) ds ms in omega arith

      site : (i : ℕ) → worker_weight e (scheduled w s) i ≤ worker_weight e (under w s.facts) i + sum_of (down_weight s.facts e i) (mail i s.down)
      site i = more i (w.alive i) (connected s.facts i) (w.down i) (mail i s.down) (core_weight s.facts e (w.workers i)) (sum_of (up_weight s.facts e) (w.up i))

      home : (c : ℕ) → client_weight e (scheduled w s) c ≤ client_weight e (under w s.facts) c + sum_of (news_weight s.facts e) (letters c s.clients)
      home c = let p : sum_of (news_weight s.facts e) (w.to_client c ++ letters c s.clients) ≡ sum_of (news_weight s.facts e) (w.to_client c) + sum_of (news_weight s.facts e) (letters c s.clients) = sum_append (news_weight s.facts e) (w.to_client c) (letters c s.clients) in omega arith

-- ## To the workers

pub mail_sum : (g : ℕ → Down → ℕ) (n : ℕ) (ms : List (ℕ × Down)) → total (λ i. sum_of (g i) (mail i ms)) (from_one n) ≤ sum_of (λ (m : ℕ × Down). g m.0 m.1) ms
mail_sum g n [] = let z : total (λ i. 0) (from_one n) ≡ 0 = total_nothing (from_one n) in omega arith
mail_sum g n (m ∷ ms) =
    let a : total (λ i. sum_of (g i) (mail i (m ∷ ms))) (from_one n) ≤ total (λ i. cond (eqb m.0 i) (g i m.1) 0 + sum_of (g i) (mail i ms)) (from_one n) = total_at_most _ _ (from_one n) (λ i. one i (eqb m.0 i)) in
    let b : total (λ i. cond (eqb m.0 i) (g i m.1) 0 + sum_of (g i) (mail i ms)) (from_one n) ≡ total (λ i. cond (eqb m.0 i) (g i m.1) 0) (from_one n) + total (λ i. sum_of (g i) (mail i ms)) (from_one n) =
    total_plus (λ i. cond (eqb m.0 i) (g i m.1) 0) (λ i. sum_of (g i) (mail i ms)) (from_one n) in
    let c : total (λ i. cond (eqb m.0 i) (g i m.1) 0) (from_one n) ≤ g m.0 m.1 = one_place (λ i. g i m.1) m.0 1 n in
    let r : total (λ i. sum_of (g i) (mail i ms)) (from_one n) ≤ sum_of (λ (m : ℕ × Down). g m.0 m.1) ms = mail_sum g n ms in
    omega arith
  where
    one : (i : ℕ) (b : Bool) → sum_of (g i) (cond b (m.1 ∷ mail i ms) (mail i ms)) ≤ cond b (g i m.1) 0 + sum_of (g i) (mail i ms)
    one i true = omega arith
    one i false = omega arith

pub letters_sum : (g : ToClient → ℕ) (n : ℕ) (ms : List (ℕ × ToClient)) → total (λ c. sum_of g (letters c ms)) (from_one n) ≤ sum_of (λ (m : ℕ × ToClient). g m.1) ms
letters_sum g n [] = let z : total (λ c. 0) (from_one n) ≡ 0 = total_nothing (from_one n) in omega arith
letters_sum g n (m ∷ ms) =
    let a : total (λ i. sum_of g (letters i (m ∷ ms))) (from_one n) ≤ total (λ i. cond (eqb m.0 i) (g m.1) 0 + sum_of g (letters i ms)) (from_one n) = total_at_most _ _ (from_one n) (λ i. one i (eqb m.0 i)) in
    let b : total (λ i. cond (eqb m.0 i) (g m.1) 0 + sum_of g (letters i ms)) (from_one n) ≡ total (λ i. cond (eqb m.0 i) (g m.1) 0) (from_one n) + total (λ i. sum_of g (letters i ms)) (from_one n) =
    total_plus (λ i. cond (eqb m.0 i) (g m.1) 0) (λ i. sum_of g (letters i ms)) (from_one n) in
    let c : total (λ i. cond (eqb m.0 i) (g m.1) 0) (from_one n) ≤ g m.1 = one_place (λ i. g m.1) m.0 1 n in
    let r : total (λ c. sum_of g (letters c ms)) (from_one n) ≤ sum_of (λ (m : ℕ × ToClient). g m.1) ms = letters_sum g n ms in
    omega arith
  where
    one : (i : ℕ) (b : Bool) → sum_of g (cond b (m.1 ∷ letters i ms) (letters i ms)) ≤ cond b (g m.1) 0 + sum_of g (letters i ms)
    one i true = omega arith
    one i false = omega arith

pub flat_sum : {A : Type 0} (g : A → ℕ) (f : ℕ → List A) (xs : List ℕ) → sum_of g (flat_map f xs) ≡ total (λ x. sum_of g (f x)) xs
flat_sum g f [] = refl
flat_sum g f (x ∷ xs) = let a : sum_of g (f x ++ flat_map f xs) ≡ sum_of g (f x) + sum_of g (flat_map f xs) = sum_append g (f x) (flat_map f xs) in
    let r : sum_of g (flat_map f xs) ≡ total (λ x. sum_of g (f x)) xs = flat_sum g f xs in omega arith

abbrev pub at_option : {A : Type 0} → (A → ℕ) → Option A → ℕ
at_option g None = 0
at_option g (Some x) = g x

pub map_sum : {A : Type 0} (g : A → ℕ) (h : ℕ → Option A) (xs : List ℕ) → sum_of g (filter_map h xs) ≡ total (λ x. at_option g (h x)) xs
map_sum g h [] = refl
map_sum {A = A} g h (x ∷ xs) = pick (h x) (map_sum g h xs)
  where
    pick : (o : Option A) → sum_of g (filter_map h xs) ≡ total (λ x. at_option g (h x)) xs → sum_of g (cons_option o (filter_map h xs)) ≡ at_option g o + total (λ x. at_option g (h x)) xs
    pick None r = omega (arith, r)
    pick (Some y) r = ap (λ n. g y + n) r

module _ (t : Stages) (e : ℕ → ℕ) where
  abbrev pub to_weight : ℕ × Down → ℕ
  to_weight m = down_weight t.placed e m.0 m.1

  -- what it costs that the worker lost the key, and that it was given it
  abbrev pub freed_cost : ℕ → ℕ → ℕ
  freed_cost i k = cond (lost t i k) (question e k + 1) 0

  abbrev pub task_cost : ℕ → ℕ → Option (ℕ × ℕ) → ℕ
  task_cost i k None = 0
  task_cost i k (Some q) = cond (eqb q.0 i && nat_le t.before.counter q.1) (down_weight t.placed e i (ComputeTask k q.1 (who_has t.placed (deps t.placed k)))) 0

  abbrev pub new_cost : ℕ → Option (ℕ × ℕ) → ℕ
  new_cost k None = 0
  new_cost k (Some q) = cond (nat_le t.before.counter q.1) (down_weight t.placed e q.0 (ComputeTask k q.1 (who_has t.placed (deps t.placed k)))) 0

  abbrev pub answer_cost : ℕ
  answer_cost = total (λ i. sum_of (down_weight t.placed e i) (t.changed.answer t.placed i)) (from_one t.placed.last_worker)

  free_weight : (i : ℕ) (ks : List ℕ) → sum_of to_weight (free_message i ks) ≤ total (λ k. question e k + 1) ks
  free_weight i [] = omega arith
  free_weight i (k ∷ ks) = let r : total (question e) ks ≤ total (λ k. question e k + 1) ks = total_at_most _ _ ks (λ k. omega arith) in omega arith

  tasks_weight : (i : ℕ) → sum_of to_weight (task_messages t.placed t.before.counter i) ≡ total (λ k. task_cost i k (t.placed.on k)) (below (keys t.placed))
  unfolding task_messages
  tasks_weight i = map_sum to_weight (λ k. task_message t.placed t.before.counter i k (t.placed.on k)) (below (keys t.placed)) ∙ same (below (keys t.placed))
    where
      one : (k : ℕ) (o : Option (ℕ × ℕ)) → at_option to_weight (task_message t.placed t.before.counter i k o) ≡ task_cost i k o
      one k None = refl
      one k (Some q) = pick (eqb q.0 i && nat_le t.before.counter q.1)
        where
          pick : (b : Bool) → at_option to_weight (cond b (Some (i, ComputeTask k q.1 (who_has t.placed (deps t.placed k)))) None) ≡ cond b (down_weight t.placed e i (ComputeTask k q.1 (who_has t.placed (deps t.placed k)))) 0
          pick true = refl
          pick false = refl

      same : (xs : List ℕ) → total (λ k. at_option to_weight (task_message t.placed t.before.counter i k (t.placed.on k))) xs ≡ total (λ k. task_cost i k (t.placed.on k)) xs
      same [] = refl
      same (x ∷ xs) = let a : at_option to_weight (task_message t.placed t.before.counter i x (t.placed.on x)) ≡ task_cost i x (t.placed.on x) = one x (t.placed.on x) in
          let r : total (λ k. at_option to_weight (task_message t.placed t.before.counter i k (t.placed.on k))) xs ≡ total (λ k. task_cost i k (t.placed.on k)) xs = same xs in omega (arith, a, r)

  answers_weight : (i : ℕ) (ms : List Down) → sum_of to_weight (all_to i ms) ≡ sum_of (down_weight t.placed e i) ms
  answers_weight i [] = refl
  answers_weight i (m ∷ ms) = ap (λ n. down_weight t.placed e i m + n) (answers_weight i ms)

  worker_part : (i : ℕ) → sum_of to_weight (to_worker t i) ≤ total (freed_cost i) (below (keys t.before)) + (total (λ k. task_cost i k (t.placed.on k)) (below (keys t.placed)) + sum_of (down_weight t.placed e i) (t.changed.answer t.placed i))
  unfolding to_worker
  worker_part i =
      let a : sum_of to_weight (free_message i (lost_keys t i) ++ (task_messages t.placed t.before.counter i ++ all_to i (t.changed.answer t.placed i))) ≡ sum_of to_weight (free_message i (lost_keys t i)) + sum_of to_weight (task_messages t.placed t.before.counter i ++ all_to i (t.changed.answer t.placed i)) =
      sum_append to_weight (free_message i (lost_keys t i)) (task_messages t.placed t.before.counter i ++ all_to i (t.changed.answer t.placed i)) in
      let b : sum_of to_weight (task_messages t.placed t.before.counter i ++ all_to i (t.changed.answer t.placed i)) ≡ sum_of to_weight (task_messages t.placed t.before.counter i) + sum_of to_weight (all_to i (t.changed.answer t.placed i)) =
      sum_append to_weight (task_messages t.placed t.before.counter i) (all_to i (t.changed.answer t.placed i)) in
      let f : sum_of to_weight (free_message i (lost_keys t i)) ≤ total (λ k. question e k + 1) (lost_keys t i) = free_weight i (lost_keys t i) in
      let g : total (λ k. question e k + 1) (lost_keys t i) ≡ total (freed_cost i) (below (keys t.before)) = total_filter (λ k. question e k + 1) (lost t i) (below (keys t.before)) in
      let h : sum_of to_weight (task_messages t.placed t.before.counter i) ≡ total (λ k. task_cost i k (t.placed.on k)) (below (keys t.placed)) = tasks_weight i in
      let n : sum_of to_weight (all_to i (t.changed.answer t.placed i)) ≡ sum_of (down_weight t.placed e i) (t.changed.answer t.placed i) = answers_weight i (t.changed.answer t.placed i) in
      omega (arith, a, b, f, g, h, n)

  all_parts : sum_of to_weight (down_messages t) ≤ total (λ i. sum_of to_weight (to_worker t i)) (from_one t.placed.last_worker)
  unfolding down_messages
  all_parts =
      let a : sum_of to_weight (flat_map (to_worker t) (workers t.placed)) ≡ total (λ i. sum_of to_weight (to_worker t i)) (workers t.placed) = flat_sum to_weight (to_worker t) (workers t.placed) in
      let b : total (λ i. sum_of to_weight (to_worker t i)) (workers t.placed) ≡ total (λ i. cond (connected t.placed i) (sum_of to_weight (to_worker t i)) 0) (from_one t.placed.last_worker) =
      total_filter (λ i. sum_of to_weight (to_worker t i)) (connected t.placed) (from_one t.placed.last_worker) in
      let c : total (λ i. cond (connected t.placed i) (sum_of to_weight (to_worker t i)) 0) (from_one t.placed.last_worker) ≤ total (λ i. sum_of to_weight (to_worker t i)) (from_one t.placed.last_worker) =
      total_at_most _ _ (from_one t.placed.last_worker) (λ i. some (connected t.placed i) (sum_of to_weight (to_worker t i))) in
      omega (arith, a, b, c)
    where
      some : (b : Bool) (n : ℕ) → cond b n 0 ≤ n
      some true n = omega arith
      some false n = omega arith

  new_task : (k : ℕ) (o : Option (ℕ × ℕ)) (n : ℕ) → total (λ i. task_cost i k o) (from_one n) ≤ new_cost k o
  new_task k None n = let z : total (λ i. 0) (from_one n) ≡ 0 = total_nothing (from_one n) in omega arith
  new_task k (Some q) n =
      let a : total (λ i. task_cost i k (Some q)) (from_one n) ≤ total (λ i. cond (eqb q.0 i) (cond (nat_le t.before.counter q.1) (down_weight t.placed e i (ComputeTask k q.1 (who_has t.placed (deps t.placed k)))) 0) 0) (from_one n) =
      total_at_most _ _ (from_one n) (λ i. pick (eqb q.0 i) (nat_le t.before.counter q.1) (down_weight t.placed e i (ComputeTask k q.1 (who_has t.placed (deps t.placed k))))) in
      let b : total (λ i. cond (eqb q.0 i) (cond (nat_le t.before.counter q.1) (down_weight t.placed e i (ComputeTask k q.1 (who_has t.placed (deps t.placed k)))) 0) 0) (from_one n) ≤ new_cost k (Some q) =
      one_place (λ i. cond (nat_le t.before.counter q.1) (down_weight t.placed e i (ComputeTask k q.1 (who_has t.placed (deps t.placed k)))) 0) q.0 1 n in
      omega (arith, a, b)
    where
      pick : (b c : Bool) (n : ℕ) → cond (b && c) n 0 ≤ cond b (cond c n 0) 0
      pick true true n = omega arith
      pick true false n = omega arith
      pick false c n = omega arith

  -- key by key what is sent down
  pub posts_down : (n : ℕ) → total (λ i. sum_of (down_weight t.placed e i) (mail i (down_messages t))) (from_one n)
      ≤ total (λ k. total (λ i. freed_cost i k) (from_one t.placed.last_worker)) (below (keys t.before)) + (total (λ k. new_cost k (t.placed.on k)) (below (keys t.placed)) + answer_cost)
  posts_down n =
      let a : total (λ i. sum_of (down_weight t.placed e i) (mail i (down_messages t))) (from_one n) ≤ sum_of to_weight (down_messages t) = mail_sum (down_weight t.placed e) n (down_messages t) in
      let b : sum_of to_weight (down_messages t) ≤ total (λ i. sum_of to_weight (to_worker t i)) ws = all_parts in
      let c : total (λ i. sum_of to_weight (to_worker t i)) ws ≤ total (λ i. total (freed_cost i) (below (keys t.before)) + (total (λ k. task_cost i k (t.placed.on k)) (below (keys t.placed)) + sum_of (down_weight t.placed e i) (t.changed.answer t.placed i))) ws =
      total_at_most _ _ ws worker_part in
      let d : total (λ i. total (freed_cost i) (below (keys t.before)) + (total (λ k. task_cost i k (t.placed.on k)) (below (keys t.placed)) + sum_of (down_weight t.placed e i) (t.changed.answer t.placed i))) ws ≡ total (λ i. total (freed_cost i) (below (keys t.before))) ws + total (λ i. total (λ k. task_cost i k (t.placed.on k)) (below (keys t.placed)) + sum_of (down_weight t.placed e i) (t.changed.answer t.placed i)) ws =
      total_plus (λ i. total (freed_cost i) (below (keys t.before))) (λ i. total (λ k. task_cost i k (t.placed.on k)) (below (keys t.placed)) + sum_of (down_weight t.placed e i) (t.changed.answer t.placed i)) ws in
      let f : total (λ i. total (λ k. task_cost i k (t.placed.on k)) (below (keys t.placed)) + sum_of (down_weight t.placed e i) (t.changed.answer t.placed i)) ws ≡ total (λ i. total (λ k. task_cost i k (t.placed.on k)) (below (keys t.placed))) ws + answer_cost =
      total_plus (λ i. total (λ k. task_cost i k (t.placed.on k)) (below (keys t.placed))) (λ i. sum_of (down_weight t.placed e i) (t.changed.answer t.placed i)) ws in
      let g : total (λ i. total (freed_cost i) (below (keys t.before))) ws ≡ total (λ k. total (λ i. freed_cost i k) ws) (below (keys t.before)) = total_swap freed_cost ws (below (keys t.before)) in
      let h : total (λ i. total (λ k. task_cost i k (t.placed.on k)) (below (keys t.placed))) ws ≡ total (λ k. total (λ i. task_cost i k (t.placed.on k)) ws) (below (keys t.placed)) = total_swap (λ i k. task_cost i k (t.placed.on k)) ws (below (keys t.placed)) in
      let m : total (λ k. total (λ i. task_cost i k (t.placed.on k)) ws) (below (keys t.placed)) ≤ total (λ k. new_cost k (t.placed.on k)) (below (keys t.placed)) = total_at_most _ _ (below (keys t.placed)) (λ k. new_task k (t.placed.on k) t.placed.last_worker) in
      omega (arith, a, b, c, d, f, g, h, m)
    where
      ws : List ℕ
      ws = from_one t.placed.last_worker

  -- what a client is told of a key
  abbrev pub told_cost : ℕ → ℕ → ℕ
  told_cost c k = at_option (λ (m : ℕ × ToClient). news_weight t.placed e m.1) (client_message t c k)

  abbrev pub reply_cost : ℕ
  reply_cost = sum_of (λ (m : ℕ × ToClient). news_weight t.placed e m.1) (reply_message t (to_clients t) t.changed.reply)

  pub posts_news : (n : ℕ) → total (λ c. sum_of (news_weight t.placed e) (letters c (client_messages t))) (from_one n)
      ≤ total (λ k. total (λ c. told_cost c k) (from_one t.before.setting.clients)) (below (keys t.before)) + reply_cost
  unfolding client_messages to_clients
  posts_news n =
      let a : total (λ c. sum_of (news_weight t.placed e) (letters c (client_messages t))) (from_one n) ≤ sum_of g (client_messages t) = letters_sum (news_weight t.placed e) n (client_messages t) in
      let b : sum_of g (to_clients t ++ reply_message t (to_clients t) t.changed.reply) ≡ sum_of g (to_clients t) + reply_cost = sum_append g (to_clients t) (reply_message t (to_clients t) t.changed.reply) in
      let c : sum_of g (flat_map (λ c. filter_map (client_message t c) (below (keys t.before))) cs) ≡ total (λ c. sum_of g (filter_map (client_message t c) (below (keys t.before)))) cs = flat_sum g (λ c. filter_map (client_message t c) (below (keys t.before))) cs in
      let d : total (λ c. sum_of g (filter_map (client_message t c) (below (keys t.before)))) cs ≤ total (λ c. total (told_cost c) (below (keys t.before))) cs = total_at_most _ _ cs (λ c. same_most _ _ (map_sum g (client_message t c) (below (keys t.before)))) in
      let f : total (λ c. total (told_cost c) (below (keys t.before))) cs ≡ total (λ k. total (λ c. told_cost c k) cs) (below (keys t.before)) = total_swap told_cost cs (below (keys t.before)) in
      omega (arith, a, b, c, d, f)
    where
      g : ℕ × ToClient → ℕ
      g m = news_weight t.placed e m.1

      cs : List ℕ
      cs = from_one t.before.setting.clients
