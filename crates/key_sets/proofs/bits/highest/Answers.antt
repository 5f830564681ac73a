use Rattle.std.proofs.Common.{arith}
use Rattle.key_sets.proofs.BitLemmas.{last_bit}
use Rattle.key_sets.proofs.bits.highest.Goals as goal

pub returns-else-word-eq0 : goal.returns-else-word-eq0
returns-else-word-eq0 c = let t = last_bit c.args.word (omega arith) (omega arith) in (t.0, t.1, λ k a b. t.2 k a)
