-- To whom the scheduler writes: to workers that it counts, and to clients that are there.
use Rattle.std.proofs.Common.{◌≡◌, ℕ, zero, suc, ◌+◌, ◌≤◌, Bool, true, false, not, ◌&&◌, List, [], ◌∷◌, Option, Some, None, refl, arith, cond}
use Rattle.std.specs.Prelude.{◌==◌, nat_le}
use Rattle.std.specs.List.{filter_map, cons_option, list_any, AllByRecursion, range_with_len}
use Rattle.std.specs.Option.{option_map}
use Rattle.small_facts.proofs.Every.{all_weaker, all_of_filter, all_join}
use Rattle.cluster_msgs.specs.declared.messages.Down.{Down}
use Rattle.cluster_msgs.specs.declared.messages.Down.TheVariants.{ComputeTask}
use Rattle.cluster_msgs.specs.declared.messages.ToClient.{ToClient}
use Rattle.cluster_msgs.specs.declared.messages.ToClient.TheVariants.{KeyInMemory, LostData, ClientTaskErred}
use Rattle.cluster_msgs.specs.declared.cores.SchedEvent.{SchedEvent}
use Rattle.cluster_rules.specs.Derived.{below}
use Rattle.cluster_rules.specs.Functions.{from_one}
use Rattle.cluster_rules.specs.Sched.{Facts, workers, connected, keys, deps, held, erred, blame, holders, who_has}
use Rattle.cluster_rules.specs.SchedTable.{change}
use Rattle.cluster_rules.specs.SchedStep.{Stages, settle, free_message, lost_keys, task_message, task_messages, all_to, to_worker, down_messages, was_held, was_erred, client_message, to_clients, tells_held, reply_message, client_messages, finish_step, posted, sched_step}
use Rattle.cluster_rules.proofs.InsideSched.{all_flat_map_in}

range_most : (n a m : ℕ) → a + m ≤ n + 1 → AllByRecursion (λ k. k ≤ n) (range_with_len a m)
range_most n a zero h = tt
range_most n a (suc m) h = (omega arith, range_most n (a + 1) m (omega arith))

module _ (P : ℕ → Type 0) where
  abbrev To : ℕ × Down → Type 0
  To m = P m.0

  freed : (w : ℕ) (ks : List ℕ) → P w → AllByRecursion To (free_message w ks)
  freed w [] l = tt
  freed w (k ∷ ks) l = (l, tt)

  given : (f : Facts) (since w k : ℕ) → P w → (o : Option (ℕ × ℕ)) (ms : List (ℕ × Down)) → AllByRecursion To ms → AllByRecursion To (cons_option (task_message f since w k o) ms)
  given f since w k l None ms r = r
  given f since w k l (Some p) ms r = pick (p.0 == w && nat_le since p.1)
    where
      pick : (b : Bool) → AllByRecursion To (cons_option (cond b (Some (w, ComputeTask k p.1 (who_has f (deps f k)))) None) ms)
      pick true = (l, r)
      pick false = r

  tasks : (f : Facts) (since w : ℕ) → P w → (ks : List ℕ) → AllByRecursion To (filter_map (λ k. task_message f since w k (f.on k)) ks)
  tasks f since w l [] = tt
  tasks f since w l (k ∷ ks) = given f since w k l (f.on k) _ (tasks f since w l ks)

  answered : (w : ℕ) (ms : List Down) → P w → AllByRecursion To (all_to w ms)
  answered w [] l = tt
  answered w (m ∷ ms) l = (l, answered w ms l)

  one_worker : (t : Stages) (w : ℕ) → P w → AllByRecursion To (to_worker t w)
  unfolding to_worker task_messages
  one_worker t w l = all_join To _ _ (freed w (lost_keys t w) l) (all_join To _ _ (tasks t.placed t.before.counter w l (below (keys t.placed))) (answered w (t.changed.answer t.placed w) l))

  abbrev For : ℕ × ToClient → Type 0
  For m = P m.0

  news : (t : Stages) (c k : ℕ) → P c → (ms : List (ℕ × ToClient)) → AllByRecursion For ms → AllByRecursion For (cons_option (client_message t c k) ms)
  news t c k l ms r = by (t.placed.want c k) (erred t.placed k && not (was_erred t k)) (held t.placed k && not (was_held t k)) (was_held t k && not (held t.placed k)) (blame t.placed k)
    where
      by : (p q u x : Bool) (o : Option ℕ) → AllByRecursion For (cons_option (cond (not p) None (cond q (option_map (λ b. (c, ClientTaskErred k b)) o) (cond u (Some (c, KeyInMemory k (holders t.placed k))) (cond x (Some (c, LostData k)) None)))) ms)
      by false q u x o = r
      by true true u x None = r
      by true true u x (Some b) = (l, r)
      by true false true x o = (l, r)
      by true false false true o = (l, r)
      by true false false false o = r

  all_news : (t : Stages) (c : ℕ) → P c → (ks : List ℕ) → AllByRecursion For (filter_map (client_message t c) ks)
  all_news t c l [] = tt
  all_news t c l (k ∷ ks) = news t c k l _ (all_news t c l ks)

  replied : (t : Stages) (ms : List (ℕ × ToClient)) (o : Option (ℕ × ℕ)) → ((p : ℕ × ℕ) → o ≡ Some p → P p.0) → AllByRecursion For (reply_message t ms o)
  replied t ms None h = tt
  replied t ms (Some p) h = pick (held t.placed p.1 && not (list_any (tells_held p.0 p.1) ms))
    where
      pick : (b : Bool) → AllByRecursion For (cond b ((p.0, KeyInMemory p.1 (holders t.placed p.1)) ∷ []) [])
      pick true = (h p refl, tt)
      pick false = tt

-- to workers up to the greatest number after the event
pub downs_reach : (f : Facts) (e : SchedEvent) → AllByRecursion (λ (m : ℕ × Down). m.0 ≤ (sched_step f e).facts.last_worker) (sched_step f e).down
unfolding sched_step finish_step posted down_messages settle
downs_reach f e =
    let t = settle f (change f e) in
    let most = λ (w : ℕ). w ≤ t.placed.last_worker in
    all_flat_map_in (To most) (to_worker t) (workers t.placed)
    (all_weaker most (λ w. AllByRecursion (To most) (to_worker t w)) (one_worker most t) (workers t.placed)
    (all_of_filter most (connected t.placed) (from_one t.placed.last_worker) (range_most t.placed.last_worker 1 t.placed.last_worker (omega arith))))

-- to clients that are there, where the one that is answered is
pub news_go : (P : ℕ → Type 0) (f : Facts) (e : SchedEvent) → AllByRecursion P (from_one f.setting.clients) → ((p : ℕ × ℕ) → (change f e).reply ≡ Some p → P p.0)
    → AllByRecursion (λ (m : ℕ × ToClient). P m.0) (sched_step f e).clients
unfolding sched_step finish_step posted client_messages to_clients settle
news_go P f e all h =
    let t = settle f (change f e) in
    let n = f.setting.clients in
    all_join (For P) (to_clients t) (reply_message t (to_clients t) t.changed.reply)
    (all_flat_map_in (For P) (λ c. filter_map (client_message t c) (below (keys t.before))) (from_one n)
    (all_weaker P (λ c. AllByRecursion (For P) (filter_map (client_message t c) (below (keys t.before)))) (λ c l. all_news P t c l (below (keys t.before))) (from_one n) all))
    (replied P t (to_clients t) t.changed.reply h)

pub news_reach : (f : Facts) (e : SchedEvent) → ((p : ℕ × ℕ) → (change f e).reply ≡ Some p → p.0 ≤ f.setting.clients) → AllByRecursion (λ (m : ℕ × ToClient). m.0 ≤ f.setting.clients) (sched_step f e).clients
news_reach f e h = news_go (λ c. c ≤ f.setting.clients) f e (range_most f.setting.clients 1 f.setting.clients (omega arith)) h
