-- Lists of events of the scheduler: the facts after them, and what is sent at each.
use Rattle.std.specs.Prelude.{ℕ, ◌-◌, ◌==◌, Bool, false, List, [], ◌∷◌, length, Option, None, map, slice_index_or, cond}
use Rattle.cluster_msgs.specs.declared.messages.Down.{Down}
use Rattle.cluster_msgs.specs.declared.messages.ToClient.{ToClient}
use Rattle.cluster_msgs.specs.declared.cores.SchedEvent.{SchedEvent}
use Rattle.cluster_rules.specs.Functions.{from_one}
use Rattle.cluster_rules.specs.Derived.{below}
use Rattle.cluster_rules.specs.Sched.{Setting, Facts, keys}
use Rattle.cluster_rules.specs.SchedStep.{sched_step}

-- what is known of one worker
pub record WorkerRow : Type 0 where
  pub threads : Option ℕ
  pub has : List (Option ℕ)
  pub sent : ℕ
  pub fence : List ℕ

-- the facts written out: by client, worker and key
pub record Table : Type 0 where
  pub want : List (List Bool)
  pub workers : List WorkerRow
  pub on : List (Option (ℕ × ℕ))
  pub steal : List (Option (ℕ × Bool))
  pub bad : List Bool
  pub losses : List ℕ
  pub counter : ℕ
  pub finishes : ℕ

abbrev pub by_key : {A : Type 0} → Facts → (ℕ → A) → List A
by_key f g = map g (below (keys f))

abbrev pub worker_row : Facts → ℕ → WorkerRow
worker_row f w = record { threads = f.threads w; has = by_key f (f.has w); sent = f.sent w; fence = by_key f (f.fence w) }

abbrev pub table : Facts → Table
table f = record {
  want = map (λ c. by_key f (f.want c)) (from_one f.setting.clients);
  workers = map (worker_row f) (from_one f.last_worker);
  on = by_key f f.on;
  steal = by_key f f.steal;
  bad = by_key f f.bad;
  losses = by_key f f.losses;
  counter = f.counter;
  finishes = f.finishes;
}

abbrev pub nobody : WorkerRow
nobody = record { threads = None; has = []; sent = 0; fence = [] }

-- the member of this number, counted from 1
abbrev pub numbered : {A : Type 0} → List A → ℕ → A → A
numbered xs n d = cond (n == 0) d (slice_index_or xs (n - 1) d)

-- the facts that are written there
abbrev pub facts_of : Setting → Table → Facts
facts_of s t = record {
  setting = s;
  want = λ c k. slice_index_or (numbered t.want c []) k false;
  has = λ w k. slice_index_or (numbered t.workers w nobody).has k None;
  on = λ k. slice_index_or t.on k None;
  steal = λ k. slice_index_or t.steal k None;
  bad = λ k. slice_index_or t.bad k false;
  losses = λ k. slice_index_or t.losses k 0;
  threads = λ w. (numbered t.workers w nobody).threads;
  sent = λ w. (numbered t.workers w nobody).sent;
  fence = λ w k. slice_index_or (numbered t.workers w nobody).fence k 0;
  last_worker = length t.workers;
  counter = t.counter;
  finishes = t.finishes;
}

-- the facts after one event, written out, so that computing goes on from what they are
abbrev pub step : Facts → SchedEvent → Facts
step f e = facts_of f.setting (table (sched_step f e).facts)

-- the facts after these events
abbrev pub after : Facts → List SchedEvent → Facts
after f [] = f
after f (e ∷ es) = after (step f e) es

-- what is sent to workers and to clients at each of these events
abbrev pub said : Facts → List SchedEvent → List (List (ℕ × Down) × List (ℕ × ToClient))
said f [] = []
said f (e ∷ es) = ((sched_step f e).down, (sched_step f e).clients) ∷ said (step f e) es
