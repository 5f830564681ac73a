use Rattle.std.proofs.Common.{◌∙◌, ap, sym, arith, ℕ, ◌&&◌}
use Rattle.std.specs.Prelude.{nat_lt}
use Rattle.std.proofs.lemmas.List.{get_or_past}
use Rattle.cluster_msgs.specs.Shape.{key_count, deps_of}
use Rattle.cluster_rules.specs.Derived.{below, is_in}
use Rattle.cluster_rules.specs.Worker.{awaited}
use Rattle.worker_facts.proofs.FactLemmas.{any_count}
use Rattle.worker_facts.specs.Stored.{facts_of, pends}
use Rattle.worker_facts.proofs.table.WorkerTable.is_awaited.Goals as goal

pub returns-then-key-len : goal.returns-then-key-len
unfolding facts_of awaited
returns-then-key-len c =
    let a = c.self.inside in
    rw (← c.self.view_is) (ap (nat_lt 0) (c.get.ensures 0 ∙ c.self.invariant.awaiting c.args.key) ∙ sym (any_count (λ (j : ℕ). pends a.mine a.running j && is_in c.args.key (deps_of a.shape j)) (below (key_count a.shape))))

pub returns-else-key-len : goal.returns-else-key-len
unfolding facts_of awaited
returns-else-key-len c =
    let a = c.self.inside in
    rw (← c.self.view_is) (sym (any_count (λ (j : ℕ). pends a.mine a.running j && is_in c.args.key (deps_of a.shape j)) (below (key_count a.shape)) ∙ ap (nat_lt 0) (sym (c.self.invariant.awaiting c.args.key) ∙ get_or_past a.awaiting c.args.key 0 (omega (arith, c.len.ensures)))))
