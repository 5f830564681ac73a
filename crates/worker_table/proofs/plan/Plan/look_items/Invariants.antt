use Rattle.std.proofs.Common.{ℕ, take}
use Rattle.std.specs.Prelude.{◌==◌}
use Rattle.std.specs.List.{list_any}
use Rattle.worker_facts.specs.Stored.{facts_of}
use Rattle.worker_table.specs.Plan.{HasRoom}
use Rattle.worker_table.proofs.PlanLemmas.{Looked, Leaves}
use Rattle.worker_table.proofs.plan.Plan.look_items.Given as goal

abbrev pub invariant-loop-item : goal.invariant-loop-item
invariant-loop-item l = record {
  here : Looked (λ k. list_any (λ (i : ℕ × ℕ). i.0 == k) (take l.item-index l.items)) (facts_of l.facts) l.self;
  others : Leaves (λ k. list_any (λ (i : ℕ × ℕ). i.0 == k) (take l.item-index l.items)) l.fn.self l.self;
  room : (n : ℕ) → HasRoom n l.fn.self → HasRoom n l.self;
}
