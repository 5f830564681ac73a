use Rattle.std.proofs.Common.{arith}
use Rattle.key_sets.proofs.BitLemmas.{last_bit}
use Rattle.key_sets.proofs.bits.top.Goals as goal

pub returns : goal.returns
returns c = let t = last_bit c.args.word c.requires (omega arith) in (t.0, t.1, λ k a b. t.2 k a)
