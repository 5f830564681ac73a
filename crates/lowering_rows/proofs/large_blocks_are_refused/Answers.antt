use Rattle.std.proofs.Common.{refl}
use Rattle.lowering_rows.proofs.large_blocks_are_refused.Goals as goal

pub returns-clause-largest : goal.returns-clause-largest
returns-clause-largest c = refl

pub returns-clause-larger : goal.returns-clause-larger
returns-clause-larger c = refl
