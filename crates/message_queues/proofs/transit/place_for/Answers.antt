use Rattle.message_queues.proofs.transit.place_for.Goals as goal
use Rattle.small_facts.proofs.Lists.{place_at_end}
use Rattle.small_facts.proofs.Options.{cond_some_none}

pub returns-in-None-clause-place : goal.returns-in-None-clause-place
returns-in-None-clause-place g c = place_at_end _ _ (cond_some_none _ _ c.in-None.ensures)
