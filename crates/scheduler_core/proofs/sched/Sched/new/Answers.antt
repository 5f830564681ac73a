use Rattle.std.proofs.Common.{subst, sym, arith}
use Rattle.cluster_rules.specs.Sched.{Facts}
use Rattle.scheduler_core.specs.Inner.{IsAfter}
use Rattle.scheduler_core.proofs.AfterLemmas.{after_opening}
use Rattle.scheduler_core.proofs.sched.Sched.new.Goals as goal

pub invariant_of-result : goal.invariant_of-result
invariant_of-result c = record {
  limit = omega arith;
  after = λ e. subst (λ (z : Facts). IsAfter z 0) (sym c.in_ok-table.ensures.facts) (after_opening _);
  untouched = λ e. c.in_ok-table.ensures.touched;
}
