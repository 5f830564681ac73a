use Rattle.grammar.specs.Tables.{grammar_of}
use Rattle.grammar.proofs.RunLaws.{ready-start, ready-taken, leaves-start, leaves-taken}
use Rattle.grammar.proofs.laws.taken_tokens_decide.Goals as goal

pub returns : goal.returns
returns c = record {
  ready_first = λ x part h. ready-start c.args.table.now x part h;
  ready = λ x left after k actions l f e. ready-taken c.args.table.now x l left after k actions f e;
  first = λ kind symbols. leaves-start (grammar_of c.args.table.now) kind symbols;
  next = λ x kind symbols left after past t actions l f e b. leaves-taken c.args.table.now x l kind symbols left after past t actions f e b;
}
