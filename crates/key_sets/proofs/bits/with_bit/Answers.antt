use Rattle.key_sets.proofs.BitLemmas.{set_bit}
use Rattle.key_sets.proofs.bits.with_bit.Goals as goal

pub returns : goal.returns
returns c i l = set_bit c.args.word c.args.place i c.requires
