use Rattle.cluster_rules.specs.Sched.{sched_opening}
use Rattle.sched_facts.specs.Stored.{facts_of}
use Rattle.sched_facts.proofs.store.FactStore.new.Goals as goal

pub returns-clause-facts : goal.returns-clause-facts
unfolding facts_of
returns-clause-facts c = λ i. record (sched_opening (record { shape = c.args.shape; clients = c.args.clients; saturation = c.args.saturation; allowed = c.args.allowed })) {
  want = c.in_ok-grids.ensures.want i;
  has = c.in_ok-grids.ensures.has i;
  on = λ k. c.in_ok-rows.ensures.on k i;
  steal = λ k. c.in_ok-rows.ensures.steal k i;
  bad = λ k. c.in_ok-rows.ensures.bad k i;
  losses = λ k. c.in_ok-rows.ensures.losses k i;
  threads = λ k. c.in_ok-threads.ensures.same k i;
  sent = λ k. c.in_ok-sent.ensures.same k i;
  fence = c.in_ok-grids.ensures.fence i;
}
