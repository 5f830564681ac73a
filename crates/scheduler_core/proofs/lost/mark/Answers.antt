use Rattle.std.proofs.Common.{◌∙◌, arith}
use Rattle.key_sets.specs.Sets.{has}
use Rattle.scheduler_core.proofs.MailLemmas.{mark_there, mark_past}
use Rattle.scheduler_core.proofs.lost.mark.Goals as goal

pub insert-requires : goal.insert-requires
insert-requires c = omega (arith, c.requires, c.if-key-count.true)

pub returns-then-key-count : goal.returns-then-key-count
returns-then-key-count c = record {
  marked = λ k. c.insert.ensures.keys k ∙ mark_there (has c.args.marks.now) c.args.key c.args.count k (omega (arith, c.if-key-count.true));
  room = c.insert.ensures.room;
}

pub returns-else-key-count-clause-marked : goal.returns-else-key-count-clause-marked
returns-else-key-count-clause-marked c k = mark_past (has c.args.marks.now) c.args.key c.args.count k (omega (arith, c.if-key-count.false))
