-- The reply is the move's, at what was left when the move began.
use Rattle.grammar.specs.Tables.{grammar_of}
use Rattle.grammar.proofs.Moving.{moved-nothing, moved-token}
use Rattle.grammar.proofs.reader.one_move.Goals as goal

pub returns-in_default-clause-ok : goal.returns-in_default-clause-ok
returns-in_default-clause-ok c =
    moved-nothing (grammar_of c.args.table.now) c.args.next c.args.left.now.left c.pop.new.self.left c.at_end.result c.args.actions.now.items
    c.in_default.ensures.first.0 c.in_default.ensures.first.1 (c.at_end.ensures (grammar_of c.args.table.now) c.args.actions.now.items)

pub returns-in-Token-clause-ok : goal.returns-in-Token-clause-ok
returns-in-Token-clause-ok c =
    moved-token (grammar_of c.args.table.now) c.args.next c.args.left.now.left c.pop.new.self.left c.in-Some.symbol c.in-Token.kind c.at_token.result c.args.actions.now.items
    c.in-Some.ensures.first c.in-Token.is (c.at_token.ensures (grammar_of c.args.table.now) c.pop.new.self.left c.args.actions.now.items)
