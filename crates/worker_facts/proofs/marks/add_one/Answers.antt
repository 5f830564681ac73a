use Rattle.std.proofs.Common.{◌∙◌, ◌+◌, ap, get_or}
use Rattle.cluster_rules.specs.Functions.{put}
use Rattle.fact_rows.specs.Rows.{read}
use Rattle.worker_facts.proofs.FactLemmas.{added}
use Rattle.worker_facts.proofs.marks.add_one.Goals as goal

pub loop-key-preserved : goal.loop-key-preserved
loop-key-preserved c =
    let key = get_or c.args.keys.now c.loop-key.key-index 0 in
    record {
      counted = added c.loop-key.row c.set.new.self (read c.args.row.now 0) c.args.keys.now c.loop-key.key-index c.loop-key-test.true c.requires.rising c.loop-key.invariant.counted
          (c.set.ensures.meaning 0 ∙ ap (λ n. put (read c.loop-key.row 0) key (n + 1)) (c.get-count.ensures 0));
      long = c.set.ensures.length ∙ c.loop-key.invariant.long;
    }
