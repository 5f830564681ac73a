-- What callers see of a worker's core.
use Rattle.std.specs.Prelude.{ℕ, ◌≤◌, Bool, ◌&&◌, not, List, filter, cond}
use Rattle.cluster_msgs.specs.declared.cores.Instruction.{Instruction}
use Rattle.cluster_rules.specs.Derived.{is_in}
use Rattle.cluster_rules.specs.Worker.{WorkerFacts, worker_keys, awaited, running_count}
use Rattle.cluster_rules.specs.WorkerStep.{WorkerStep, Arrivals}
use Rattle.worker_facts.specs.Stored.{Stored, facts_of}

-- the stored facts, whether it stopped for want of memory, and how many events it took
pub record Core : Type 0 where
  pub stored : Stored
  pub stopped : Bool
  pub events : ℕ

-- the facts of a core
abbrev pub facts : Core → WorkerFacts
facts c = facts_of c.stored

-- no more tasks run than there are threads
abbrev pub RunsFew : WorkerFacts → Type 0
RunsFew w = running_count w ≤ w.threads

-- stored facts with instructions
abbrev pub step_of : Stored → List Instruction → WorkerStep
step_of s out = record { facts = facts_of s; out = out }

-- stored facts with instructions and the keys that are to be counted
abbrev pub arrivals_of : Stored → List Instruction → List ℕ → Arrivals
arrivals_of s out added = record { facts = facts_of s; out = out; added = added }

-- the keys of a remove-replicas that stay, ascending
abbrev pub refused_keys : WorkerFacts → List ℕ → List ℕ
refused_keys w ks = filter (λ k. is_in k ks && (w.mem k && awaited w k)) (worker_keys w)

-- the items whose keys came, or those whose keys didn't
abbrev pub items_where : Bool → List (ℕ × ℕ) → List ℕ → List (ℕ × ℕ)
items_where came is found = filter (λ i. cond came (is_in i.0 found) (not (is_in i.0 found))) is
