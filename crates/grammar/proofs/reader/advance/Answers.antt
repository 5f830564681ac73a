-- A move that is the last ends the step, and another one leaves less to do.
use Rattle.std.proofs.Common.{Some, subst, ◌∙◌}
use Rattle.grammar.specs.Grammars.{move}
use Rattle.grammar.specs.Tables.{grammar_of}
use Rattle.grammar.specs.Reading.{Moved}
use Rattle.grammar.proofs.Checked.{rows-bounded}
use Rattle.grammar.proofs.Moving.{moved-more, moved-last}
use Rattle.grammar.proofs.reader.advance.Goals as goal

pub returns-in-Some-clause-ok : goal.returns-in-Some-clause-ok
returns-in-Some-clause-ok c =
    c.loop-reply.invariant.whole
    ∙ moved-last (grammar_of c.args.table.now) (rows-bounded c.args.table.now c.requires.bounded) c.loop-reply.left.left c.one_move.new.left.left c.args.next c.in-Some.reply c.loop-reply.actions.items c.one_move.new.actions.items
    (subst (λ r. Moved (move (grammar_of c.args.table.now) c.loop-reply.left.left c.args.next) r c.one_move.new.left.left c.loop-reply.actions.items c.one_move.new.actions.items) c.in-Some.is c.in_ok-reply.ensures.ok)

pub loop-reply-smaller : goal.loop-reply-smaller
loop-reply-smaller c =
    (moved-more (grammar_of c.args.table.now) (rows-bounded c.args.table.now c.requires.bounded) c.loop-reply.left.left c.one_move.new.left.left c.args.next c.loop-reply.actions.items c.one_move.new.actions.items
    (subst (λ r. Moved (move (grammar_of c.args.table.now) c.loop-reply.left.left c.args.next) r c.one_move.new.left.left c.loop-reply.actions.items c.one_move.new.actions.items) c.in_default.is c.in_ok-reply.ensures.ok)).1

pub loop-reply-preserved : goal.loop-reply-preserved
loop-reply-preserved c =
    let m = moved-more (grammar_of c.args.table.now) (rows-bounded c.args.table.now c.requires.bounded) c.loop-reply.left.left c.one_move.new.left.left c.args.next c.loop-reply.actions.items c.one_move.new.actions.items
    (subst (λ r. Moved (move (grammar_of c.args.table.now) c.loop-reply.left.left c.args.next) r c.one_move.new.left.left c.loop-reply.actions.items c.one_move.new.actions.items) c.in_default.is c.in_ok-reply.ensures.ok) in
    record {
      bounded = c.requires.bounded;
      base = c.in_ok-reply.ensures.base ∙ c.loop-reply.invariant.base;
      whole = c.loop-reply.invariant.whole ∙ m.0;
    }
