use Rattle.std.proofs.Common.{refl}
use Rattle.cluster_nodes.specs.Nodes.{world_of}
use Rattle.cluster_nodes.proofs.Changing.{with_up}
use Rattle.cluster_nodes.proofs.Keeping.{sized_links}
use Rattle.cluster_nodes.proofs.nodes.Nodes.take_up.Goals as goal

pub returns-clause-first : goal.returns-clause-first
unfolding world_of
returns-clause-first g c f = c.pop_up.ensures.first

pub returns-clause-cluster : goal.returns-clause-cluster
unfolding world_of
returns-clause-cluster g c f = with_up f c.args.self.now c.pop_up.new.up _ c.pop_up.ensures.rest

pub returns-clause-nodes : goal.returns-clause-nodes
returns-clause-nodes g c =
    let old = c.args.self.now in
    let s = c.requires.nodes.sorted in
    record {
      sized = sized_links old old.down c.pop_up.new.up old.to_client old.from_client refl c.pop_up.ensures.length refl refl c.requires.nodes.sized;
      sorted = record { down = s.down; up = c.pop_up.ensures.sorted; to_client = s.to_client; from_client = s.from_client; requests = s.requests; answers = s.answers };
      tidy = c.requires.nodes.tidy;
    }

pub returns-clause-few : goal.returns-clause-few
returns-clause-few g c n h = h
