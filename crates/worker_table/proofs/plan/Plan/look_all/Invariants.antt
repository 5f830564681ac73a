use Rattle.std.proofs.Common.{ℕ, take}
use Rattle.cluster_rules.specs.Derived.{is_in}
use Rattle.worker_facts.specs.Stored.{facts_of}
use Rattle.worker_table.specs.Plan.{HasRoom}
use Rattle.worker_table.proofs.PlanLemmas.{Looked, Leaves}
use Rattle.worker_table.proofs.plan.Plan.look_all.Given as goal

abbrev pub invariant-loop-key : goal.invariant-loop-key
invariant-loop-key l = record {
  here : Looked (λ k. is_in k (take l.key-index l.keys)) (facts_of l.facts) l.self;
  others : Leaves (λ k. is_in k (take l.key-index l.keys)) l.fn.self l.self;
  room : (n : ℕ) → HasRoom n l.fn.self → HasRoom n l.self;
}
