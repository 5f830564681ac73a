-- An event of the scheduler whose messages are paid for lowers the measure.
use Rattle.std.proofs.Common.{◌≡◌, ℕ, ◌+◌, ◌<◌, ◌≤◌, true, List, refl, sym, ap, ◌∙◌, subst, arith, is_some}
use Rattle.cluster_msgs.specs.Shape.{key_count}
use Rattle.cluster_rules.specs.Functions.{from_one, total}
use Rattle.cluster_rules.specs.Derived.{below}
use Rattle.cluster_rules.specs.Sched.{Setting, Facts, keys, connected, held, erred, wanted, need, holder_count}
use Rattle.cluster_rules.specs.SchedStep.{Stages, Stepped, posted, down_messages, client_messages, finish_step, mail}
use Rattle.cluster_rules.specs.World.{World}
use Rattle.cluster_rules.specs.WorldStep.{scheduled, letters}
use Rattle.quiet_measure.specs.Weights.{sum_of, down_weight, news_weight}
use Rattle.quiet_measure.specs.Measure.{is_to_try, deaths, disturbance_weight, disturbances, sched_weight, links_weight, measure, measure_at, Falls}
use Rattle.quiet_measure.proofs.Rising.{measure_rises}
use Rattle.quiet_measure.specs.Lighter.{IsLighter, under}
use Rattle.quiet_measure.proofs.LighterLemmas.{links_lighter}
use Rattle.quiet_measure.proofs.Posts.{sent_down, sent_news, links_posted, freed_cost, new_cost, told_cost, answer_cost, reply_cost, posts_down, posts_news}

pub posted_deaths : (t : Stages) (b : ℕ) → deaths (finish_step t).facts b ≡ deaths t.placed b
unfolding finish_step posted deaths is_to_try need held erred wanted
posted_deaths t b = refl

posted_sched : (t : Stages) (b : ℕ) → sched_weight (finish_step t).facts b ≡ sched_weight t.placed b
unfolding finish_step posted sched_weight disturbance_weight is_to_try need held erred wanted holder_count
posted_sched t b = refl

lighter_posted : (f : Facts) (t : Stages) (d e : ℕ → ℕ) → IsLighter f t.placed d e → IsLighter f (finish_step t).facts d e
unfolding finish_step posted held
lighter_posted f t d e h = record { deaths = h.deaths; gone = h.gone; unheld = h.unheld }

down_is : (w : World) (t : Stages) (e : ℕ → ℕ) → sent_down w (finish_step t) e ≡ total (λ i. sum_of (down_weight t.placed e i) (mail i (down_messages t))) (from_one t.placed.last_worker)
unfolding finish_step posted
down_is w t e = refl

news_is : (w : World) (t : Stages) (e : ℕ → ℕ) → sent_news w (finish_step t) e ≡ total (λ c. sum_of (news_weight t.placed e) (letters c (client_messages t))) (from_one t.placed.setting.clients)
unfolding finish_step posted
news_is w t e = refl

pub last_posted : (t : Stages) → (finish_step t).facts.last_worker ≡ t.placed.last_worker
unfolding finish_step posted
last_posted t = refl

pub setting_posted : (t : Stages) → (finish_step t).facts.setting ≡ t.placed.setting
unfolding finish_step posted
setting_posted t = refl

pub threads_posted : (t : Stages) → (finish_step t).facts.threads ≡ t.placed.threads
unfolding finish_step posted
threads_posted t = refl

sched_scheduled : (w : World) (s : Stepped) → (scheduled w s).sched ≡ s.facts
unfolding scheduled
sched_scheduled w s = refl

-- what one event costs in messages
abbrev pub all_costs : Stages → (ℕ → ℕ) → List ℕ → ℕ
all_costs t e ks = total (λ k. total (λ i. freed_cost t e i k) (from_one t.placed.last_worker)) ks + (total (λ k. new_cost t e k (t.placed.on k)) ks + total (λ k. total (λ c. told_cost t e c k) (from_one t.before.setting.clients)) ks)

pub record IsPaid (w v : World) (t : Stages) (b popped : ℕ) : Type 0 where
  pub sched : v.sched ≡ w.sched
  pub before : t.before ≡ w.sched
  pub setting : t.placed.setting ≡ w.sched.setting
  pub last : t.placed.last_worker ≡ w.sched.last_worker
  pub threads : (i : ℕ) → connected t.placed i ≡ true → connected w.sched i ≡ true
  -- the message that was taken
  pub taken : links_weight (deaths w.sched (disturbances w)) v + popped ≤ links_weight (deaths w.sched (disturbances w)) w
  pub lighter : IsLighter w.sched t.placed (deaths w.sched (disturbances w)) (deaths t.placed b)
  pub pays : (sched_weight t.placed b + all_costs t (deaths t.placed b) (below (keys w.sched))) + (answer_cost t (deaths t.placed b) + reply_cost t (deaths t.placed b)) + 1 ≤ sched_weight w.sched (disturbances w) + popped
  pub calm : disturbances (scheduled v (finish_step t)) ≤ b
  pub fewer : b ≤ disturbances w

pub paid_falls : (w v : World) (t : Stages) (b popped : ℕ) → IsPaid w v t b popped → Falls w (scheduled v (finish_step t))
unfolding measure measure_at
paid_falls w v t b popped h = record { disturbances = let x : disturbances (scheduled v s) ≤ b = h.calm in let y : b ≤ disturbances w = h.fewer in omega (arith, x, y); measure = less }
  where
    s : Stepped
    s = finish_step t

    ks : List ℕ
    ks = below (keys w.sched)

    e : ℕ → ℕ
    e = deaths t.placed b

    at_b : measure_at b (scheduled v s) ≡ sched_weight t.placed b + links_weight e (scheduled v s)
    at_b = ap (λ (f : Facts). sched_weight f b + links_weight (deaths f b) (scheduled v s)) (sched_scheduled v s)
        ∙ ap (λ n. n + links_weight (deaths s.facts b) (scheduled v s)) (posted_sched t b)
        ∙ ap (λ d. sched_weight t.placed b + links_weight d (scheduled v s)) (posted_deaths t b)

    light : links_weight e (under v s.facts) ≤ links_weight (deaths w.sched (disturbances w)) v
    light = links_lighter v s.facts (deaths w.sched (disturbances w)) e
        (last_posted t ∙ h.last ∙ sym (ap (λ (f : Facts). f.last_worker) h.sched))
        (setting_posted t ∙ h.setting ∙ sym (ap (λ (f : Facts). f.setting) h.sched))
        (λ i c. ap (λ (f : Facts). connected f i) h.sched ∙ h.threads i (sym (ap (λ x. is_some (x i)) (threads_posted t)) ∙ c))
        (subst (λ (f : Facts). IsLighter f s.facts (deaths w.sched (disturbances w)) e) (sym h.sched) (lighter_posted w.sched t (deaths w.sched (disturbances w)) e h.lighter))

    keys_before : keys t.before ≡ keys w.sched
    keys_before = ap keys h.before

    keys_placed : keys t.placed ≡ keys w.sched
    keys_placed = ap (λ (x : Setting). key_count x.shape) h.setting

    costs : sent_down v s e + sent_news v s e ≤ all_costs t e ks + (answer_cost t e + reply_cost t e)
    costs =
        let a = down_is v t e in
        let c = news_is v t e in
        let p = posts_down t e t.placed.last_worker in
        let q = posts_news t e t.placed.setting.clients in
        let x : total (λ k. total (λ i. freed_cost t e i k) (from_one t.placed.last_worker)) (below (keys t.before)) ≡ total (λ k. total (λ i. freed_cost t e i k) (from_one t.placed.last_worker)) ks = ap (λ n. total (λ k. total (λ i. freed_cost t e i k) (from_one t.placed.last_worker)) (below n)) keys_before in
        let y : total (λ k. new_cost t e k (t.placed.on k)) (below (keys t.placed)) ≡ total (λ k. new_cost t e k (t.placed.on k)) ks = ap (λ n. total (λ k. new_cost t e k (t.placed.on k)) (below n)) keys_placed in
        let z : total (λ k. total (λ c. told_cost t e c k) (from_one t.before.setting.clients)) (below (keys t.before)) ≡ total (λ k. total (λ c. told_cost t e c k) (from_one t.before.setting.clients)) ks = ap (λ n. total (λ k. total (λ c. told_cost t e c k) (from_one t.before.setting.clients)) (below n)) keys_before in
        omega (arith, a, c, p, q, x, y, z)

    less : measure (scheduled v s) < measure w
    less =
        let m : measure_at (disturbances (scheduled v s)) (scheduled v s) ≤ measure_at b (scheduled v s) = measure_rises (scheduled v s) (disturbances (scheduled v s)) b h.calm in
        let l = links_posted v s e in
        let pay = h.pays in
        let took = h.taken in
        omega (arith, m, at_b, l, light, costs, pay, took)
