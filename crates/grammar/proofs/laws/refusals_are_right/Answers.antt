use Rattle.grammar.proofs.RunLaws.{refused-next}
use Rattle.grammar.proofs.laws.refusals_are_right.Goals as goal

pub returns : goal.returns
returns c = λ kind left next actions e. refused-next c.args.table.now c.requires kind left next actions e
