use Rattle.std.proofs.Common.{arith}
use Rattle.key_sets.proofs.BitLemmas.{lowest_bit}
use Rattle.key_sets.proofs.bits.lowest.Goals as goal

pub returns-clause-first : goal.returns-clause-first
returns-clause-first c = lowest_bit c.args.word (omega arith) c.requires
