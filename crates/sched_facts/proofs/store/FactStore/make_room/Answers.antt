use Rattle.std.proofs.Common.{None, ap, ◌∙◌}
use Rattle.fact_rows.specs.Rows.{read}
use Rattle.sched_facts.specs.Stored.{facts_of}
use Rattle.sched_facts.specs.Stores.{stored}
use Rattle.sched_facts.proofs.GridLemmas.{read-push}
use Rattle.sched_facts.proofs.store.FactStore.make_room.Goals as goal

pub returns-in_err-push-2-clause-facts : goal.returns-in_err-push-2-clause-facts
unfolding facts_of
returns-in_err-push-2-clause-facts c = rw (← c.self.view_is) (λ i. record (facts_of (stored c.self.inside)) {
  has = c.add.ensures.same i;
  fence = c.add-2.ensures.same i;
  threads = (ap (λ r. read r None) c.in_ok-push.ensures.ok ∙ read-push c.self.inside.threads None) i;
  sent = (ap (λ r. read r 0) c.in_err-push-2.ensures.err) i;
})

pub returns-clause-facts : goal.returns-clause-facts
unfolding facts_of
returns-clause-facts c = rw (← c.self.view_is) (λ i. record (facts_of (stored c.self.inside)) {
  has = c.add.ensures.same i;
  fence = c.add-2.ensures.same i;
  threads = (ap (λ r. read r None) c.in_ok-push.ensures.ok ∙ read-push c.self.inside.threads None) i;
  sent = (ap (λ r. read r 0) c.in_ok-push-2.ensures.ok ∙ read-push c.self.inside.sent 0) i;
})

pub returns-in_err-push-clause-facts : goal.returns-in_err-push-clause-facts
unfolding facts_of
returns-in_err-push-clause-facts c = rw (← c.self.view_is) (λ i. record (facts_of (stored c.self.inside)) {
  has = c.add.ensures.same i;
  fence = c.add-2.ensures.same i;
  threads = (ap (λ r. read r None) c.in_err-push.ensures.err) i;
})

pub returns-in_err-add-2-clause-facts : goal.returns-in_err-add-2-clause-facts
unfolding facts_of
returns-in_err-add-2-clause-facts c = rw (← c.self.view_is) (λ i. record (facts_of (stored c.self.inside)) {
  has = c.add.ensures.same i;
  fence = c.add-2.ensures.same i;
})

pub returns-in_err-add-clause-facts : goal.returns-in_err-add-clause-facts
unfolding facts_of
returns-in_err-add-clause-facts c = rw (← c.self.view_is) (λ i. record (facts_of (stored c.self.inside)) { has = c.add.ensures.same i })
