use Rattle.std.proofs.Common.{arith, false}
use Rattle.std.proofs.lemmas.List.{get_or_past}
use Rattle.worker_facts.specs.Stored.{facts_of}
use Rattle.worker_facts.proofs.table.WorkerTable.inside.Goals as goal

pub returns-clause-mem : goal.returns-clause-mem
unfolding facts_of
returns-clause-mem c =
    let v = c.self.invariant in
    rw (← c.self.view_is) (λ k h. get_or_past c.self.inside.mem k false (omega (arith, h, v.rows.mem)))

pub returns-clause-running : goal.returns-clause-running
unfolding facts_of
returns-clause-running c =
    let v = c.self.invariant in
    rw (← c.self.view_is) (λ k h. get_or_past c.self.inside.running k false (omega (arith, h, v.rows.running)))
