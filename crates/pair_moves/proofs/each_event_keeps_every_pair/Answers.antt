use Rattle.pair_moves.proofs.Events.{event_keeps, numbered_step}
use Rattle.pair_moves.proofs.each_event_keeps_every_pair.Goals as goal

pub returns-clause-pairs : goal.returns-clause-pairs
returns-clause-pairs c = event_keeps

pub returns-clause-numbers : goal.returns-clause-numbers
returns-clause-numbers c = numbered_step
