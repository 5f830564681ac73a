use Rattle.std.proofs.Common.{ℕ, List, ap, ◌∙◌}
use Rattle.fact_rows.specs.Rows.{cell}
use Rattle.sched_facts.proofs.store.grid_of.Goals as goal

pub returns-clause-same : goal.returns-clause-same
returns-clause-same g c = c.add_rows.ensures.same ∙ ap (λ (v : ℕ × List (List _)). cell v c.args.value) c.empty-grid.ensures
