use Rattle.std.proofs.Common.{◌≡◌, ◌∙◌, false, ◌&&◌, ap, sym, rules, arith}
use Rattle.fact_rows.specs.Rows.{cell}
use Rattle.worker_core.specs.Core.{facts}
use Rattle.cluster_nodes.proofs.Places.{change_none, change_more, change_all}
use Rattle.cluster_nodes.proofs.cores.unspill_all.Goals as goal

pub loop-key-init : goal.loop-key-init
loop-key-init c = record {
  done = λ w k. change_none (λ q x. x && (facts c.args.core.now).mem q) (cell c.args.spilled.now false) c.args.worker w k;
  high = search rules;
  wide = search rules;
}

pub loop-key-preserved : goal.loop-key-preserved
loop-key-preserved c = record {
  done = change_more (λ q x. x && (facts c.args.core.now).mem q) (cell c.args.spilled.now false) (cell c.loop-key.spilled false) (cell c.unspill_key.new.spilled false) c.args.worker c.loop-key.key c.unspill_key.ensures.meaning c.loop-key.invariant.done;
  high = search rules;
  wide = search rules;
}

pub returns-clause-meaning : goal.returns-clause-meaning
returns-clause-meaning c = change_all (λ q x. x && (facts c.args.core.now).mem q) (cell c.args.spilled.now false) (cell c.loop-key.spilled false) c.args.worker c.loop-key.key
    (λ w k h. let e : cell c.args.spilled.now false w k ≡ false = c.sound.ensures false w k (omega (arith, c.requires.keys)) in ap (λ x. x && (facts c.args.core.now).mem k) e ∙ sym e)
    c.loop-key.invariant.done
