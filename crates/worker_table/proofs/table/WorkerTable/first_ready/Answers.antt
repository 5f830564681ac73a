use Rattle.std.proofs.Common.{◌≡◌, ◌≤◌, ◌∙◌, ap, sym, ℕ, false}
use Rattle.cluster_msgs.specs.Shape.{key_count}
use Rattle.cluster_rules.specs.Worker.{wstate, is_ready_state}
use Rattle.key_sets.specs.Sets.{has}
use Rattle.worker_facts.specs.Stored.{facts_of, first_ready}
use Rattle.worker_table.proofs.PartLemmas.{ready-is}
use Rattle.worker_table.proofs.SearchLemmas.{first_same, first_found}
use Rattle.worker_table.proofs.table.WorkerTable.first_ready.Goals as goal

pub returns : goal.returns
returns c =
    let f = facts_of c.self.inside.facts in
    let v = c.self.invariant in
    let same : (k : ℕ) → has c.self.inside.plan.ready k ≡ is_ready_state (wstate f k) = λ k. (v.at k).ready ∙ sym (ready-is f k) in
    let none : (k : ℕ) → key_count f.shape ≤ k → is_ready_state (wstate f k) ≡ false = λ k l. sym (same k) ∙ (v.outside k l).ready in
    first_found (λ k. is_ready_state (wstate f k)) (key_count f.shape) c.first_from.result none (first_same (has c.self.inside.plan.ready) (λ k. is_ready_state (wstate f k)) 0 c.first_from.result same c.first_from.ensures) ∙ ap (λ s. first_ready (facts_of s)) c.self.view_is
