use Rattle.open_asks.proofs.AskLemmas.{place_some}
use Rattle.open_asks.proofs.asks.place_for.Goals as goal
use Rattle.small_facts.proofs.Lists.{place_at_end}
use Rattle.small_facts.proofs.Options.{cond_some_none}

pub returns-in-Some-clause-place : goal.returns-in-Some-clause-place
returns-in-Some-clause-place c = place_some _ _ _ c.in-Some.ensures

pub returns-in-None-clause-place : goal.returns-in-None-clause-place
returns-in-None-clause-place c = place_at_end _ _ (cond_some_none _ _ c.in-None.ensures)
