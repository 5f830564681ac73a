use Rattle.std.proofs.Common.{sym, subst}
use Rattle.cluster_rules.specs.Worker.{WorkerFacts, new_worker}
use Rattle.worker_table.specs.Table.{Fits}
use Rattle.worker_table.proofs.PartLemmas.{count_none}
use Rattle.worker_table.proofs.PlanLemmas.{at_first}
use Rattle.worker_table.proofs.table.WorkerTable.new.Goals as goal

pub invariant_of-result : goal.invariant_of-result
invariant_of-result c =
    let g = c.args.shape in
    let fits : Fits (new_worker g c.args.id c.args.threads) c.in_ok-dependents.dependents.items c.in_ok-plan.plan 0 = record {
      linked = c.in_ok-dependents.ensures;
      room = rw (← c.keys.ensures) c.in_ok-plan.ensures.room;
      at = λ k. at_first g c.args.id c.args.threads c.in_ok-plan.plan k (c.in_ok-plan.ensures.empty k);
      outside = λ k l. c.in_ok-plan.ensures.empty k;
      count = count_none g c.args.id c.args.threads;
    } in
    subst (λ (w : WorkerFacts). Fits w c.in_ok-dependents.dependents.items c.in_ok-plan.plan 0) (sym c.in_ok-facts.ensures) fits
