use Rattle.std.proofs.Common.{refl}
use Rattle.sched_facts.specs.Stored.{facts_of}
use Rattle.sched_facts.proofs.store.FactStore.set_losses.Goals as goal

pub returns-clause-facts : goal.returns-clause-facts
unfolding facts_of
returns-clause-facts c = rw (← c.self.view_is, c.set.ensures.meaning 0) refl
