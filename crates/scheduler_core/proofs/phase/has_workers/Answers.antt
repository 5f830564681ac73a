use Rattle.std.proofs.Common.{ℕ, length, ap, ◌∙◌}
use Rattle.std.specs.Prelude.{nat_lt}
use Rattle.cluster_rules.specs.Functions.{from_one}
use Rattle.cluster_rules.specs.Sched.{connected, workers}
use Rattle.sched_facts.specs.Stored.{Stored, facts_of}
use Rattle.task_table.specs.Tasks.{facts}
use Rattle.scheduler_core.proofs.PhaseLemmas.{any_worker}
use Rattle.scheduler_core.proofs.phase.has_workers.Goals as goal

pub returns : goal.returns
returns c =
    let f = facts c.args.table.now in
    ap (λ (n : ℕ). nat_lt 0 n) (c.connected_count.ensures ∙ ap (λ (z : Stored). length (workers (facts_of z))) c.table.ensures) ∙ any_worker (connected f) (from_one f.last_worker)
