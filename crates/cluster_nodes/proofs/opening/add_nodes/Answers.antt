use Rattle.std.proofs.Common.{◌≡◌, ◌∙◌, ◌+◌, arith}
use Rattle.fact_rows.specs.Rows.{height}
use Rattle.cluster_nodes.proofs.opening.add_nodes.Goals as goal

pub loop-node-preserved : goal.loop-node-preserved
loop-node-preserved g c = record {
  high = let e : height c.add.new.self ≡ height c.loop-node.shelf + 1 = c.in_ok-add.ensures.height in omega (arith, e, c.loop-node.invariant.high);
  wide = c.add.ensures.width ∙ c.loop-node.invariant.wide;
  same = c.add.ensures.meaning ∙ c.loop-node.invariant.same;
}
