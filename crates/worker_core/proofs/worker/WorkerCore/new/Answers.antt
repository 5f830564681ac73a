use Rattle.std.proofs.Common.{ap, sym, subst, arith}
use Rattle.cluster_rules.specs.WorkerKept.{IsKept}
use Rattle.cluster_rules.proofs.WorkerLemmas.{kept_at_first}
use Rattle.worker_core.specs.Core.{RunsFew}
use Rattle.worker_core.proofs.RunLemmas.{few_at_first}
use Rattle.worker_core.proofs.worker.WorkerCore.new.Goals as goal

pub invariant_of-result : goal.invariant_of-result
invariant_of-result c = record {
  limit = omega arith;
  kept = λ e. subst IsKept (sym c.in_ok-table.ensures) (kept_at_first c.args.shape c.args.id c.args.threads);
  runs = λ e. subst RunsFew (sym c.in_ok-table.ensures) (few_at_first c.args.shape c.args.id c.args.threads);
  seen = λ e. omega (arith, ap (λ f. f.seen) c.in_ok-table.ensures);
  asks = λ e. omega (arith, ap (λ f. f.next_ask) c.in_ok-table.ensures);
  moves = c.work_out.ensures;
}
