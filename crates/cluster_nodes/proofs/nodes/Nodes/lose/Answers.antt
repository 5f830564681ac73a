use Rattle.std.proofs.Common.{false}
use Rattle.cluster_nodes.proofs.Changing.{lost_is}
use Rattle.cluster_nodes.proofs.Keeping.{sized_lost}
use Rattle.cluster_nodes.proofs.Tidying.{tidy_lost}
use Rattle.cluster_nodes.proofs.nodes.Nodes.lose.Goals as goal

pub returns-clause-cluster : goal.returns-clause-cluster
returns-clause-cluster g c f = lost_is f c.args.self.now c.set.new.self c.fill_row.new.self c.vacate.new.self c.args.worker (c.set.ensures.meaning false) c.fill_row.ensures.meaning c.vacate.ensures.meaning

pub returns-clause-nodes : goal.returns-clause-nodes
returns-clause-nodes g c =
    let old = c.args.self.now in
    let s = c.requires.nodes.sorted in
    record {
      sized = sized_lost c.args.self.now c.set.new.self c.fill_row.new.self c.vacate.new.self c.set.ensures.length c.fill_row.ensures.height c.fill_row.ensures.width c.vacate.ensures.height c.vacate.ensures.width c.requires.nodes.sized;
      sorted = record { down = s.down; up = s.up; to_client = s.to_client; from_client = s.from_client; requests = s.requests; answers = s.answers };
      tidy = tidy_lost old.strays old.alive old.workers.items old.clients.items old.spilled old.held old.got c.set.new.self c.fill_row.new.self c.vacate.new.self c.args.worker (c.set.ensures.meaning false) c.fill_row.ensures.meaning c.vacate.ensures.meaning c.requires.nodes.tidy;
    }

pub returns-clause-few : goal.returns-clause-few
returns-clause-few g c n h = h
