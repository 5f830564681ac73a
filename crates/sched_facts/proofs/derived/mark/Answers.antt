use Rattle.std.proofs.Common.{arith, ◌∙◌, false, length, refl}
use Rattle.fact_rows.specs.Rows.{read}
use Rattle.sched_facts.proofs.DeriveLemmas.{marked_more}
use Rattle.sched_facts.proofs.derived.mark.Goals as goal

pub loop-key-preserved : goal.loop-key-preserved
loop-key-preserved c = record {
  marked = marked_more (read c.args.row.now false) (read c.loop-key.row false) (read c.set.new.self false) c.args.keys.now c.loop-key.key-index _ (omega arith) refl c.loop-key.invariant.marked (c.set.ensures.meaning false);
  long = c.set.ensures.length ∙ c.loop-key.invariant.long;
}
