use Rattle.grammar.proofs.RunLaws.{viable}
use Rattle.grammar.proofs.laws.no_token_is_taken_in_vain.Goals as goal

pub returns : goal.returns
returns c = λ x kind token_of left l k f. viable c.args.table.now x kind token_of l k left f
