use Rattle.std.proofs.Common.{get_or, ◌∙◌, arith}
use Rattle.std.proofs.Math.Dec.{eqb}
use Rattle.key_sets.specs.Sets.{has}
use Rattle.scheduler_core.proofs.MailLemmas.{any_more, set_mark}
use Rattle.scheduler_core.proofs.asked.mark_all.Goals as goal

pub insert-requires : goal.insert-requires
insert-requires c = let h = c.requires c.loop-key.key-index 0 c.loop-key-test.true in omega (arith, h, c.loop-key.invariant.room)

pub loop-key-preserved : goal.loop-key-preserved
loop-key-preserved c =
    let key = get_or c.args.named.now c.loop-key.key-index 0 in
    record {
      marked = λ k. any_more (λ d. eqb d k) (has c.args.marks.now k) (has c.loop-key.marks k) (has c.insert.new.self k) c.args.named.now c.loop-key.key-index 0 c.loop-key-test.true (c.loop-key.invariant.marked k) (c.insert.ensures.keys k ∙ set_mark (has c.loop-key.marks) key k);
      room = c.insert.ensures.room ∙ c.loop-key.invariant.room;
    }
