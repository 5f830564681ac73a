-- The opening of a simulation, put together.
use Rattle.std.proofs.Common.{◌≡◌, ℕ, ◌+◌, ◌-◌, ◌^◌, ◌≤◌, ◌<◌, Bool, true, List, [], ◌∷◌, ◌++◌, length, replicate, Option, Result, Ok, Err, refl, sym, ap, ◌∙◌, arith, subst}
use Rattle.std.specs.Prelude.{IfOk}
use Rattle.std.proofs.lemmas.List.{length-append, length-replicate}
use Rattle.std.proofs.lemmas.Grind.{replicate_next}
use Rattle.cluster_msgs.specs.Shape.{Shape, key_count}
use Rattle.cluster_msgs.specs.declared.events.Event.{Event}
use Rattle.cluster_msgs.specs.declared.events.Event.TheVariants.{Join, Want}
use Rattle.cluster_rules.specs.Sched.{Setting}
use Rattle.cluster_rules.specs.World.{Job, World as Cluster, opening}
use Rattle.cluster_rules.specs.WorldStep.{world_step}
use Rattle.cluster_rules.specs.Enabled.{enabled, message}
use Rattle.cluster_rules.specs.Report.{Taken, is_join, how_many}
use Rattle.cluster_laws.specs.Blocks.{Cluster as Blocks, setting_of, opening_cluster}
use Rattle.run_report.specs.Counts.{IsCountOf}
use Rattle.run_report.specs.declared.tally.Tally.{Tally}
use Rattle.cluster_world.specs.declared.state.State.{State}
use Rattle.cluster_world.specs.Worlds.{cluster, world, setting, running, IsReady}
use Rattle.cluster_rules.specs.Runs.{Run, event_limit}
use Rattle.cluster_sim.specs.Acts.{Stays, IsAct}
use Rattle.cluster_sim.specs.Courses.{IsCounted}
use Rattle.cluster_sim.specs.Openings.{IsOpening, AreWanted, IsOpen, HasOpened}
use Rattle.cluster_sim.specs.Led.{any_job}
use Rattle.cluster_world.proofs.Making.{made_opening, legal_more, world_more}
use Rattle.cluster_sim.proofs.ActLemmas.{setting-world}
use Rattle.cluster_sim.proofs.CourseLemmas.{counted_none, counted_more}
use Rattle.cluster_sim.proofs.OpeningLemmas.{open_none, open_join, may_want, open_want}

-- an opening world has opened with no event
pub open_first : {J B F : Type 0} (op : J → ℕ → List B → Option B) (tells : J → F → Type 0) (s : State J B F) (t : Tally) → IsOpening op s → IsCountOf t [] → HasOpened op tells [] 0 [] s s t
open_first {J} {B} {F} op tells s t h count = record {
  going = h.going;
  opened = subst (λ (w : Cluster). IsOpen [] 0 w) (sym first) (open_none (running op s));
  count = sym h.made.count;
  run = record { legal = tt; reached = sym first };
  all = λ told. counted_none op s t h.made count;
}
  where
    first : world s ≡ opening (running op s)
    first = sym h.made.run.reached

-- one event more was made
run_on : (j : Job) (es : List Event) (e : Event) (w v : Cluster) → Run j es w → enabled w e ≡ true → v ≡ world_step j w e → Run j (es ++ e ∷ []) v
run_on j es e w v r t is = record {
  legal = legal_more j (opening j) es e r.legal (ap (λ x. enabled x e) r.reached ∙ t);
  reached = world_more j (opening j) es e ∙ ap (λ x. world_step j x e) r.reached ∙ sym is;
}

-- neither event of an opening ends an operation
join_any : (i j : Job) (w : Cluster) (threads : ℕ) → world_step i w (Join threads) ≡ world_step j w (Join threads)
unfolding world_step
join_any i j w threads = refl

want_any : (i j : Job) (w : Cluster) (keys : List ℕ) → world_step i w (Want 1 keys) ≡ world_step j w (Want 1 keys)
unfolding world_step
want_any i j w keys = refl

-- a worker more joined
pub join_on : {J B F : Type 0} (op : J → ℕ → List B → Option B) (tells : J → F → Type 0) (n threads : ℕ) (old mid new : State J B F) (t u : Tally) → HasOpened op tells [] n (replicate n (Join threads)) old mid t → n < 64 → enabled (world mid) (Join threads) ≡ true
    → IsAct op tells mid (Join threads) new → Stays tells old mid → Stays tells mid new
    → ((ts : List Taken) → length ts < 2 ^ 64 - 1 → how_many is_join ts < 2 ^ 32 - 1 → IsCountOf t ts → IsCountOf u (ts ++ (Join threads, message (world mid) (Join threads)) ∷ []))
    → HasOpened op tells [] (n + 1) (replicate (n + 1) (Join threads)) old new u
join_on op tells n threads old mid new t u h few may act before stays count = record {
  going = act.going;
  opened = open_join (other act.some.0) (world mid) (world new) n threads h.opened act.some.1;
  count = let a = act.counted in let b = h.count in let c = length-replicate n (Join threads) in let d = length-replicate (n + 1) (Join threads) in omega (arith, a, b, c, d);
  run = subst (λ es. Run (any_job (setting old)) es (world new)) (sym (replicate_next n (Join threads)))
      (run_on (any_job (setting old)) (replicate n (Join threads)) (Join threads) (world mid) (world new) h.run may (act.some.1 ∙ join_any (other act.some.0) (any_job (setting old)) (world mid) threads));
  all = λ told. subst (λ es. IsCounted op es new u) (sym (replicate_next n (Join threads)))
      (counted_more op tells (replicate n (Join threads)) mid new t u (Join threads) (h.all told) act stays (before.tells.1 told) (let l = h.opened.last in omega (arith, l, few)) count);
}
  where
    other : Bool → Job
    other met = record { setting = (world mid).sched.setting; zero = λ k. met }

-- the client may want its keys
pub want_may : {J B F : Type 0} (op : J → ℕ → List B → Option B) (tells : J → F → Type 0) (old mid : State J B F) (wanted : List ℕ) → IsOpening op old → Stays tells old mid → AreWanted (key_count (setting old).shape) wanted → enabled (world mid) (Want 1 wanted) ≡ true
want_may op tells old mid wanted h stays keys =
    may_want (world mid) wanted (subst (λ (s : Setting). 1 ≤ s.clients) (sym same) h.client) (subst (λ (s : Setting). AreWanted (key_count s.shape) wanted) (sym same) keys)
  where
    same : (world mid).sched.setting ≡ setting old
    same = setting-world mid ∙ stays.setting

-- and then it waits for them
pub want_on : {J B F : Type 0} (op : J → ℕ → List B → Option B) (tells : J → F → Type 0) (n threads : ℕ) (wanted keys : List ℕ) (old mid new : State J B F) (t u : Tally) → HasOpened op tells [] n (replicate n (Join threads)) old mid t → n ≤ 64 → keys ≡ wanted → enabled (world mid) (Want 1 keys) ≡ true
    → IsAct op tells mid (Want 1 keys) new → Stays tells old mid → Stays tells mid new
    → ((ts : List Taken) → length ts < 2 ^ 64 - 1 → how_many is_join ts < 2 ^ 32 - 1 → IsCountOf t ts → IsCountOf u (ts ++ (Want 1 keys, message (world mid) (Want 1 keys)) ∷ []))
    → HasOpened op tells wanted n (replicate n (Join threads) ++ Want 1 wanted ∷ []) old new u
want_on op tells n threads wanted keys old mid new t u h few same may act before stays count =
    subst (λ ks. HasOpened op tells ks n (replicate n (Join threads) ++ Want 1 ks ∷ []) old new u) same (record {
      going = act.going;
      opened = open_want (other act.some.0) (world mid) (world new) n keys h.opened act.some.1;
      count = let a = act.counted in let b = h.count in let l = length-append (replicate n (Join threads)) (Want 1 keys ∷ []) in omega (arith, a, b, l);
      run = run_on (any_job (setting old)) (replicate n (Join threads)) (Want 1 keys) (world mid) (world new) h.run may (act.some.1 ∙ want_any (other act.some.0) (any_job (setting old)) (world mid) keys);
      all = λ told. counted_more op tells (replicate n (Join threads)) mid new t u (Want 1 keys) (h.all told) act stays (before.tells.1 told) (let l = h.opened.last in omega (arith, l, few)) count;
    })
  where
    other : Bool → Job
    other met = record { setting = (world mid).sched.setting; zero = λ k. met }

-- no event of an opening comes once all were taken
pub opening_goes : {J B F : Type 0} (op : J → ℕ → List B → Option B) (tells : J → F → Type 0) (n threads : ℕ) (old mid : State J B F) (t : Tally) → HasOpened op tells [] n (replicate n (Join threads)) old mid t → n ≤ 64 → mid.events ≡ event_limit → ⊥
opening_goes op tells n threads old mid t h few e = let b = h.count in let c = length-replicate n (Join threads) in omega (arith, b, c, few, e)

-- a new world with clients, within the limits, is an opening one
pub opening_is : {J B F : Type 0} (op : J → ℕ → List B → Option B) (s : State J B F) (g : Shape) (clients saturation : ℕ) (allowed : Option ℕ) → IsReady s → s.events ≡ 0 → cluster s ≡ opening_cluster (setting_of g clients saturation allowed) (op s.job) → (1 ≤ clients) × (clients ≤ 16) → (1 ≤ saturation) × (saturation ≤ 1000) → IsOpening op s
opening_is {J} {B} {F} op s g clients saturation allowed ready fresh h some most = record {
  going = ready.going;
  made = made_opening op s (h ∙ ap (λ (x : Setting). opening_cluster x (op s.job)) (sym same)) fresh;
  client = subst (λ (x : Setting). 1 ≤ x.clients) (sym same) some.0;
  few = subst (λ (x : Setting). x.clients ≤ 16) (sym same) some.1;
  saturation = subst (λ (x : Setting). (1 ≤ x.saturation) × (x.saturation ≤ 1000)) (sym same) most;
}
  where
    same : setting s ≡ setting_of g clients saturation allowed
    same = sym (setting-world s) ∙ ap (λ (c : Blocks B). c.world.sched.setting) h

pub opening_if : {J B F E : Type 0} (op : J → ℕ → List B → Option B) (r : Result (State J B F) E) (job : J) (g : Shape) (clients saturation : ℕ) (allowed : Option ℕ) → (1 ≤ clients) × (clients ≤ 16) → (1 ≤ saturation) × (saturation ≤ 1000) → IfOk r (λ w. cluster w ≡ opening_cluster (setting_of g clients saturation allowed) (op job)) → IfOk r (λ w. IsReady w) → IfOk r (λ w. w.events ≡ 0) → IfOk r (λ w. w.job ≡ job) → IfOk r (λ w. IsOpening op w)
opening_if op (Ok w) job g clients saturation allowed some most a b e j = opening_is op w g clients saturation allowed b e (a ∙ ap (λ i. opening_cluster (setting_of g clients saturation allowed) (op i)) (sym j)) some most
opening_if op (Err x) job g clients saturation allowed some most a b e j = tt
