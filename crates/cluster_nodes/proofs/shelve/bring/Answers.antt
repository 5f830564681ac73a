use Rattle.std.proofs.Common.{None, rules}
use Rattle.fact_rows.specs.Rows.{cell}
use Rattle.cluster_nodes.proofs.Places.{bring_none, bring_more}
use Rattle.cluster_nodes.proofs.shelve.bring.Goals as goal

pub loop-pair-init : goal.loop-pair-init
loop-pair-init g c = record {
  done = λ w k. bring_none (cell c.args.shelf.now None) c.args.node (g.H.Holder.counted c.args.holder.now) w k;
  high = search rules;
  wide = search rules;
}

pub loop-pair-preserved : goal.loop-pair-preserved
loop-pair-preserved g c = record {
  done = bring_more (cell c.args.shelf.now None) (cell c.loop-pair.shelf None) (cell c.bring_one.new.shelf None) c.args.node (g.H.Holder.counted c.args.holder.now) c.loop-pair.yielded c.in-Some.pair c.bring_one.ensures.meaning c.loop-pair.invariant.done;
  high = search rules;
  wide = search rules;
}
