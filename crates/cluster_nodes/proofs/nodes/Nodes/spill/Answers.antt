use Rattle.std.proofs.Common.{false, not, ◌||◌}
use Rattle.cluster_nodes.proofs.Changing.{spilled_is}
use Rattle.cluster_nodes.proofs.Keeping.{sized_spilled}
use Rattle.cluster_nodes.proofs.Tidying.{tidy_spilled}
use Rattle.cluster_nodes.proofs.nodes.Nodes.spill.Goals as goal

pub returns-clause-cluster : goal.returns-clause-cluster
returns-clause-cluster g c f = spilled_is f c.args.self.now (c.args.self.now.strays || not c.in_memory-counted.result) c.set.new.self c.args.worker c.args.key (c.set.ensures.meaning false)

pub returns-clause-nodes : goal.returns-clause-nodes
returns-clause-nodes g c =
    let old = c.args.self.now in
    let s = c.requires.nodes.sorted in
    record {
      sized = sized_spilled old (old.strays || not c.in_memory-counted.result) c.set.new.self c.set.ensures.height c.set.ensures.width c.requires.nodes.sized;
      sorted = record { down = s.down; up = s.up; to_client = s.to_client; from_client = s.from_client; requests = s.requests; answers = s.answers };
      tidy = tidy_spilled old.strays old.alive old.workers.items old.clients.items old.spilled old.held old.got c.set.new.self c.args.worker c.args.key c.in_memory-counted.result c.in_memory-counted.ensures (c.set.ensures.meaning false) c.requires.nodes.tidy;
    }

pub returns-clause-few : goal.returns-clause-few
returns-clause-few g c n h = h
