use Rattle.std.proofs.lemmas.List.{take_rest}
use Rattle.plain_eval.proofs.contraction.rest_of.Goals as goal

pub returns : goal.returns
returns c = take_rest c.args.index.now c.args.kept
