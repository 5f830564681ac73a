-- What holds of each message to the workers, as `post_all` asks it.
use Rattle.std.proofs.Common.{◌≡◌, ℕ, suc, ◌<◌, ◌≤◌, ◌+◌, ◌*◌, Bool, true, false, cond, List, [], ◌∷◌, ◌++◌, Option, Some, None, refl, arith, length, length-append}
use Rattle.std.specs.Prelude.{◌==◌, nat_le, ◌&&◌, filter}
use Rattle.std.specs.List.{filter_map, flat_map, cons_option, AllByRecursion}
use Rattle.std.proofs.lemmas.List.FromFn.{length-range_with_len}
use Rattle.small_facts.proofs.Every.{all_of_filter, all_join, all_weaker}
use Rattle.small_facts.proofs.Ranges.{range_all_below}
use Rattle.cluster_msgs.specs.declared.messages.Down.{Down}
use Rattle.cluster_msgs.specs.declared.messages.Down.TheVariants.{StealRequest, RemoveReplicas, AcquireReplicas, RefreshWhoHas, ComputeTask}
use Rattle.cluster_rules.specs.Functions.{from_one}
use Rattle.cluster_rules.specs.Derived.{below}
use Rattle.cluster_rules.specs.Sched.{Facts, keys, deps, workers, connected, who_has}
use Rattle.cluster_rules.specs.SchedTable.{ask_message}
use Rattle.cluster_rules.specs.SchedStep.{free_message, task_message, task_messages, all_to}
use Rattle.cluster_rules.proofs.InsideSched.{all_flat_map_in}
use Rattle.sched_changes.specs.declared.answer.Answer.{Answer}
use Rattle.sched_changes.specs.declared.answer.Answer.TheVariants.{Nothing, Refresh, AskBack, Remove, Acquire}
use Rattle.sched_changes.specs.Answers.{answer_of}
use Rattle.scheduler_core.specs.Mail.{has_pair, worker_mail}
use Rattle.scheduler_core.specs.Posted.{taken_keys}

-- the answer takes no key away, or one that is there
abbrev pub AnswersKey : ℕ → Answer → Type 0
AnswersKey n Nothing = Unit {0}
AnswersKey n (Refresh w k) = Unit {0}
AnswersKey n (AskBack k) = Unit {0}
AnswersKey n (Remove w k) = k < n
AnswersKey n (Acquire w k) = Unit {0}

-- a message to this worker that takes away only keys below n
record IsSent (n w : ℕ) (m : ℕ × Down) : Type 0 where
  pub to : m.0 ≡ w
  pub taken : AllByRecursion (λ k. k < n) (taken_keys m.1)

free_sent : (n w : ℕ) (ks : List ℕ) → AllByRecursion (λ k. k < n) ks → AllByRecursion (IsSent n w) (free_message w ks)
free_sent n w [] h = tt
free_sent n w (k ∷ ks) h = (record { to = refl; taken = h }, tt)

tasks_sent : (f : Facts) (since w n : ℕ) (ks : List ℕ) → AllByRecursion (IsSent n w) (filter_map (λ k. task_message f since w k (f.on k)) ks)
tasks_sent f since w n [] = tt
tasks_sent f since w n (k ∷ ks) = place (f.on k) (tasks_sent f since w n ks)
  where
    rest : List (ℕ × Down)
    rest = filter_map (λ k. task_message f since w k (f.on k)) ks

    given : (a : ℕ) (b : Bool) → AllByRecursion (IsSent n w) rest → AllByRecursion (IsSent n w) (cons_option (cond b (Some (w, ComputeTask k a (who_has f (deps f k)))) None) rest)
    given a true h = (record { to = refl; taken = tt }, h)
    given a false h = h

    place : (o : Option (ℕ × ℕ)) → AllByRecursion (IsSent n w) rest → AllByRecursion (IsSent n w) (cons_option (task_message f since w k o) rest)
    place None h = h
    place (Some p) h = given p.1 (p.0 == w && nat_le since p.1) h

answer_sent : (f : Facts) (n w : ℕ) (a : Answer) → AnswersKey n a → AllByRecursion (IsSent n w) (all_to w (answer_of a f w))
answer_sent f n w Nothing h = tt
answer_sent f n w (Refresh v k) h = pick (w == v)
  where
    pick : (b : Bool) → AllByRecursion (IsSent n w) (all_to w (cond b (RefreshWhoHas (who_has f (k ∷ [])) ∷ []) []))
    pick true = (record { to = refl; taken = tt }, tt)
    pick false = tt
answer_sent f n w (Acquire v k) h = pick (w == v)
  where
    pick : (b : Bool) → AllByRecursion (IsSent n w) (all_to w (cond b (AcquireReplicas (who_has f (k ∷ [])) ∷ []) []))
    pick true = (record { to = refl; taken = tt }, tt)
    pick false = tt
answer_sent f n w (AskBack k) h = place (f.on k)
  where
    pick : (a : ℕ) (b : Bool) → AllByRecursion (IsSent n w) (all_to w (cond b (StealRequest k a ∷ []) []))
    pick a true = (record { to = refl; taken = tt }, tt)
    pick a false = tt

    place : (o : Option (ℕ × ℕ)) → AllByRecursion (IsSent n w) (all_to w (ask_message k o w))
    place None = tt
    place (Some p) = pick p.1 (p.0 == w)
answer_sent f n w (Remove v k) h = pick (w == v)
  where
    pick : (b : Bool) → AllByRecursion (IsSent n w) (all_to w (cond b (RemoveReplicas (k ∷ []) ∷ []) []))
    pick true = (record { to = refl; taken = (h, tt) }, tt)
    pick false = tt

mail_sent : (f : Facts) (lost : List (ℕ × ℕ)) (since w : ℕ) (a : Answer) → AnswersKey (keys f) a → AllByRecursion (IsSent (keys f) w) (worker_mail f lost since a w)
unfolding worker_mail task_messages
mail_sent f lost since w a h =
    all_join (IsSent (keys f) w) (free_message w (filter (has_pair lost w) (below (keys f)))) _ (free_sent (keys f) w _ (all_of_filter (λ k. k < keys f) (has_pair lost w) (below (keys f)) (range_all_below 0 (keys f) (keys f) (omega arith))))
    (all_join (IsSent (keys f) w) (filter_map (λ k. task_message f since w k (f.on k)) (below (keys f))) _ (tasks_sent f since w (keys f) (below (keys f))) (answer_sent f (keys f) w a h))

-- each message goes to a worker that has joined
pub sent_to_workers : (f : Facts) (lost : List (ℕ × ℕ)) (since : ℕ) (a : Answer) → AnswersKey (keys f) a → AllByRecursion (λ (m : ℕ × Down). m.0 ≤ f.last_worker) (flat_map (worker_mail f lost since a) (workers f))
sent_to_workers f lost since a h =
    all_flat_map_in (λ (m : ℕ × Down). m.0 ≤ f.last_worker) (worker_mail f lost since a) (workers f)
    (all_weaker (λ w. w < f.last_worker + 1) (λ w. AllByRecursion (λ (m : ℕ × Down). m.0 ≤ f.last_worker) (worker_mail f lost since a w)) (λ w l. all_weaker (IsSent (keys f) w) (λ m. m.0 ≤ f.last_worker) (λ m s. omega (arith, s.to)) (worker_mail f lost since a w) (mail_sent f lost since w a h)) (workers f)
    (all_of_filter (λ w. w < f.last_worker + 1) (connected f) (from_one f.last_worker) (range_all_below 1 f.last_worker (f.last_worker + 1) (omega arith))))

-- each message takes away only keys that are there
pub taken_are_keys : (f : Facts) (lost : List (ℕ × ℕ)) (since : ℕ) (a : Answer) → AnswersKey (keys f) a → AllByRecursion (λ (m : ℕ × Down). AllByRecursion (λ k. k < keys f) (taken_keys m.1)) (flat_map (worker_mail f lost since a) (workers f))
taken_are_keys f lost since a h = all_flat_map_in (λ (m : ℕ × Down). AllByRecursion (λ k. k < keys f) (taken_keys m.1)) (worker_mail f lost since a) (workers f) (each (workers f))
  where
    each : (ws : List ℕ) → AllByRecursion (λ w. AllByRecursion (λ (m : ℕ × Down). AllByRecursion (λ k. k < keys f) (taken_keys m.1)) (worker_mail f lost since a w)) ws
    each [] = tt
    each (w ∷ ws) = (all_weaker (IsSent (keys f) w) (λ m. AllByRecursion (λ k. k < keys f) (taken_keys m.1)) (λ m s. s.taken) (worker_mail f lost since a w) (mail_sent f lost since w a h), each ws)

few_free : (w : ℕ) (ks : List ℕ) → length (free_message w ks) ≤ 1
few_free w [] = omega arith
few_free w (k ∷ ks) = omega arith

few_answers : (f : Facts) (w : ℕ) (a : Answer) → length (all_to w (answer_of a f w)) ≤ 1
few_answers f w Nothing = omega arith
few_answers f w (Refresh v k) = pick (w == v)
  where
    pick : (b : Bool) → length (all_to w (cond b (RefreshWhoHas (who_has f (k ∷ [])) ∷ []) [])) ≤ 1
    pick true = omega arith
    pick false = omega arith
few_answers f w (Acquire v k) = pick (w == v)
  where
    pick : (b : Bool) → length (all_to w (cond b (AcquireReplicas (who_has f (k ∷ [])) ∷ []) [])) ≤ 1
    pick true = omega arith
    pick false = omega arith
few_answers f w (AskBack k) = place (f.on k)
  where
    pick : (a : ℕ) (b : Bool) → length (all_to w (cond b (StealRequest k a ∷ []) [])) ≤ 1
    pick a true = omega arith
    pick a false = omega arith

    place : (o : Option (ℕ × ℕ)) → length (all_to w (ask_message k o w)) ≤ 1
    place None = omega arith
    place (Some p) = pick p.1 (p.0 == w)
few_answers f w (Remove v k) = pick (w == v)
  where
    pick : (b : Bool) → length (all_to w (cond b (RemoveReplicas (k ∷ []) ∷ []) [])) ≤ 1
    pick true = omega arith
    pick false = omega arith

few_mapped : {B : Type 0} (h : ℕ → Option B) (xs : List ℕ) → length (filter_map h xs) ≤ length xs
few_mapped h [] = omega arith
few_mapped {B} h (x ∷ xs) = pick (h x) (few_mapped h xs)
  where
    pick : (o : Option B) → length (filter_map h xs) ≤ length xs → length (cons_option o (filter_map h xs)) ≤ length (x ∷ xs)
    pick None l = omega (arith, l)
    pick (Some y) l = omega (arith, l)

-- one worker gets at most one message for each key, and two
pub few_mail : (f : Facts) (lost : List (ℕ × ℕ)) (since w : ℕ) (a : Answer) → length (worker_mail f lost since a w) ≤ keys f + 2
unfolding worker_mail task_messages
few_mail f lost since w a =
    let free = free_message w (filter (has_pair lost w) (below (keys f))) in
    let tasks = filter_map (λ k. task_message f since w k (f.on k)) (below (keys f)) in
    let answers = all_to w (answer_of a f w) in
    omega (arith, length-append free (tasks ++ answers), length-append tasks answers, few_free w (filter (has_pair lost w) (below (keys f))), few_mapped (λ k. task_message f since w k (f.on k)) (below (keys f)), length-range_with_len 0 (keys f), few_answers f w a)

few_joined : (g : ℕ → List (ℕ × Down)) (n : ℕ) → ((w : ℕ) → length (g w) ≤ n) → (ws : List ℕ) → length (flat_map g ws) ≤ length ws * n
few_joined g n h [] = omega arith
few_joined g n h (w ∷ ws) = omega (arith, length-append (g w) (flat_map g ws), h w, few_joined g n h ws, next (length ws) n)
  where
    next : (m n : ℕ) → suc m * n ≡ n + m * n
    next m n = grind arith

-- all workers together
pub few_in_all : (f : Facts) (lost : List (ℕ × ℕ)) (since : ℕ) (a : Answer) → length (flat_map (worker_mail f lost since a) (workers f)) ≤ length (workers f) * (keys f + 2)
few_in_all f lost since a = few_joined (worker_mail f lost since a) (keys f + 2) (λ w. few_mail f lost since w a) (workers f)
