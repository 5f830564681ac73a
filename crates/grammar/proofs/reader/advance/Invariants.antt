-- The moves so far and those that follow make the step.
use Rattle.std.proofs.Common.{◌≡◌, true}
use Rattle.grammar.specs.Grammars.{step, effort}
use Rattle.grammar.specs.Tables.{grammar_of, moves_end}
use Rattle.grammar.specs.Reading.{after_actions}
use Rattle.grammar.proofs.reader.advance.Given as goal

abbrev pub invariant-loop-reply : goal.invariant-loop-reply
invariant-loop-reply l = record {
  bounded : moves_end l.table ≡ true;
  base : l.left.base ≡ l.fn.left.base;
  whole : step (grammar_of l.table) l.fn.left.left l.next ≡ after_actions l.actions.items (step (grammar_of l.table) l.left.left l.next);
}

abbrev pub decreases-loop-reply : goal.decreases-loop-reply
decreases-loop-reply l = effort (grammar_of l.table) l.left.left
