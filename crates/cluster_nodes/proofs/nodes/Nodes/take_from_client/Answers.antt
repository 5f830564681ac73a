use Rattle.std.proofs.Common.{refl}
use Rattle.cluster_nodes.specs.Nodes.{world_of}
use Rattle.cluster_nodes.proofs.Changing.{with_from_client}
use Rattle.cluster_nodes.proofs.Keeping.{sized_links}
use Rattle.cluster_nodes.proofs.nodes.Nodes.take_from_client.Goals as goal

pub returns-clause-first : goal.returns-clause-first
unfolding world_of
returns-clause-first g c f = c.pop_from_client.ensures.first

pub returns-clause-cluster : goal.returns-clause-cluster
unfolding world_of
returns-clause-cluster g c f = with_from_client f c.args.self.now c.pop_from_client.new.from_client _ c.pop_from_client.ensures.rest

pub returns-clause-nodes : goal.returns-clause-nodes
returns-clause-nodes g c =
    let old = c.args.self.now in
    let s = c.requires.nodes.sorted in
    record {
      sized = sized_links old old.down old.up old.to_client c.pop_from_client.new.from_client refl refl refl c.pop_from_client.ensures.length c.requires.nodes.sized;
      sorted = record { down = s.down; up = s.up; to_client = s.to_client; from_client = c.pop_from_client.ensures.sorted; requests = s.requests; answers = s.answers };
      tidy = c.requires.nodes.tidy;
    }

pub returns-clause-few : goal.returns-clause-few
returns-clause-few g c n h = h
