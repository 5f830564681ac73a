use Rattle.std.proofs.Common.{◌-◌, arith, ap, ◌∙◌, refl, get_or}
use Rattle.fact_rows.specs.Rows.{read}
use Rattle.cluster_rules.specs.Functions.{put}
use Rattle.spread_flags.proofs.CountLemmas.{counted_less, one_to_lose}
use Rattle.spread_flags.proofs.turn.count_less.Goals as goal

pub overflow_sub-count : goal.overflow_sub-count
overflow_sub-count c =
    let x = get_or c.args.keys.now c.loop-key.key-index 0 in
    omega (arith, c.get-count.ensures 0, one_to_lose (read c.args.counts.now 0) (read c.loop-key.counts 0) c.args.keys.now c.loop-key.key-index x c.requires.rising (omega arith) refl c.loop-key.invariant.counted c.requires.enough)

pub loop-key-preserved : goal.loop-key-preserved
loop-key-preserved c =
    let x = get_or c.args.keys.now c.loop-key.key-index 0 in
    record {
      counted = counted_less (read c.args.counts.now 0) (read c.loop-key.counts 0) (read c.set.new.self 0) c.args.keys.now c.loop-key.key-index x c.requires.rising (omega arith) refl
          (one_to_lose (read c.args.counts.now 0) (read c.loop-key.counts 0) c.args.keys.now c.loop-key.key-index x c.requires.rising (omega arith) refl c.loop-key.invariant.counted c.requires.enough)
          c.loop-key.invariant.counted (c.set.ensures.meaning 0 ∙ ap (λ n. put (read c.loop-key.counts 0) x (n - 1)) (c.get-count.ensures 0));
      long = c.set.ensures.length ∙ c.loop-key.invariant.long;
    }
