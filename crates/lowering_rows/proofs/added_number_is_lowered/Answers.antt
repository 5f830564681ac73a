use Rattle.std.proofs.Common.{refl}
use Rattle.lowering_rows.proofs.added_number_is_lowered.Goals as goal

pub returns-clause-graph : goal.returns-clause-graph
returns-clause-graph c = refl

pub returns-clause-keys : goal.returns-clause-keys
returns-clause-keys c = refl

pub returns-clause-dependencies : goal.returns-clause-dependencies
returns-clause-dependencies c = refl
