use Rattle.std.proofs.Common.{◌≡◌, ◌∙◌, ◌+◌, [], length, arith}
use Rattle.cluster_nodes.proofs.Places.{one_longer}
use Rattle.cluster_nodes.proofs.opening.add_links.Goals as goal

pub loop-link-preserved : goal.loop-link-preserved
loop-link-preserved c = record {
  long = let e : length c.add.new.self ≡ length c.loop-link.links + 1 = one_longer c.add.new.self c.loop-link.links [] c.in_ok-add.ensures.ok in omega (arith, e, c.loop-link.invariant.long);
  same = c.add.ensures.meaning ∙ c.loop-link.invariant.same;
}
