use Rattle.key_sets.proofs.BitLemmas.{clear_bit}
use Rattle.key_sets.proofs.bits.without_bit.Goals as goal

pub returns : goal.returns
returns c i l = clear_bit c.args.word c.args.place i c.requires l
