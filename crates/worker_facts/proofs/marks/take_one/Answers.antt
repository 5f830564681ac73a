use Rattle.std.proofs.Common.{◌≤◌, ◌∙◌, ◌-◌, ap, sym, subst, get_or}
use Rattle.cluster_rules.specs.Functions.{put}
use Rattle.fact_rows.specs.Rows.{read}
use Rattle.worker_facts.proofs.FactLemmas.{enough, taken_off}
use Rattle.worker_facts.proofs.marks.take_one.Goals as goal

pub overflow_sub-count : goal.overflow_sub-count
overflow_sub-count c = subst (λ n. 1 ≤ n) (sym (c.get-count.ensures 0))
    (enough c.loop-key.row (read c.args.row.now 0) c.args.keys.now c.loop-key.key-index c.loop-key-test.true c.requires.rising c.loop-key.invariant.counted c.requires.there)

pub loop-key-preserved : goal.loop-key-preserved
loop-key-preserved c =
    let key = get_or c.args.keys.now c.loop-key.key-index 0 in
    record {
      counted = taken_off c.loop-key.row c.set.new.self (read c.args.row.now 0) c.args.keys.now c.loop-key.key-index c.loop-key-test.true c.requires.rising c.loop-key.invariant.counted
          (enough c.loop-key.row (read c.args.row.now 0) c.args.keys.now c.loop-key.key-index c.loop-key-test.true c.requires.rising c.loop-key.invariant.counted c.requires.there)
          (c.set.ensures.meaning 0 ∙ ap (λ n. put (read c.loop-key.row 0) key (n - 1)) (c.get-count.ensures 0));
      long = c.set.ensures.length ∙ c.loop-key.invariant.long;
    }
