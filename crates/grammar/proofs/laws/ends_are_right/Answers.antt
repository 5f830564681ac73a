use Rattle.grammar.proofs.RunLaws.{ended}
use Rattle.grammar.proofs.laws.ends_are_right.Goals as goal

pub returns : goal.returns
returns c = λ kind left after actions e. ended c.args.table.now kind left after actions e
