use Rattle.std.proofs.Common.{◌+◌, arith, ap, ◌∙◌, refl, get_or}
use Rattle.fact_rows.specs.Rows.{read}
use Rattle.cluster_rules.specs.Functions.{put}
use Rattle.sched_facts.proofs.DeriveLemmas.{counted_more}
use Rattle.sched_facts.proofs.derived.count_all.Goals as goal

pub loop-key-preserved : goal.loop-key-preserved
loop-key-preserved c = record {
  counted = counted_more (read c.args.row.now 0) (read c.loop-key.row 0) (read c.set.new.self 0) c.args.keys.now c.loop-key.key-index (get_or c.args.keys.now c.loop-key.key-index 0) c.requires.rising (omega arith) refl c.loop-key.invariant.counted (c.set.ensures.meaning 0 ∙ ap (λ n. put (read c.loop-key.row 0) (get_or c.args.keys.now c.loop-key.key-index 0) (n + 1)) (c.get-waiting.ensures 0));
  long = c.set.ensures.length ∙ c.loop-key.invariant.long;
}
