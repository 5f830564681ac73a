use Rattle.std.proofs.Common.{◌≡◌, ◌∙◌, ℕ, List, false, ap, refl, subst}
use Rattle.std.specs.Prelude.{IsSomeAnd}
use Rattle.std.specs.declared.sync.Arc.{Arc}
use Rattle.std.specs.declared.alloc.Global.{Global}
use Rattle.std.proofs.lemmas.Result.{on_ok_weaker}
use Rattle.cluster_msgs.specs.declared.cores.ClientEvent.TheVariants.{FromScheduler}
use Rattle.cluster_rules.specs.Client.{client_takes}
use Rattle.cluster_laws.specs.Blocks.{Cluster}
use Rattle.cluster_nodes.specs.Nodes.{world_of, cluster_of}
use Rattle.cluster_nodes.specs.Turns.{among, nothing, client_turned}
use Rattle.cluster_nodes.proofs.Changing.{with_to_client, told, not_told}
use Rattle.cluster_nodes.proofs.Keeping.{sized_links}
use Rattle.cluster_nodes.proofs.Counting.{took_more}
use Rattle.cluster_nodes.proofs.nodes.Nodes.deliver_to_client.Goals as goal

pub client_turn-requires-clause-nodes : goal.client_turn-requires-clause-nodes
client_turn-requires-clause-nodes g c =
    let old = c.args.self.now in
    let s = c.requires.nodes.sorted in
    record {
      sized = sized_links old old.down old.up c.pop_to_client.new.to_client old.from_client refl refl c.pop_to_client.ensures.length refl c.requires.nodes.sized;
      sorted = record { down = s.down; up = s.up; to_client = c.pop_to_client.ensures.sorted; from_client = s.from_client; requests = s.requests; answers = s.answers };
      tidy = c.requires.nodes.tidy;
    }

pub returns-in-Some-clause-cluster : goal.returns-in-Some-clause-cluster
unfolding world_of
returns-in-Some-clause-cluster g c = on_ok_weaker c.client_turn.result
    (λ h f. h f
    ∙ ap (λ (l : List (ℕ × Arc g.row.B.Denot Global)). client_turned (cluster_of f (record c.args.self.now { to_client = c.pop_to_client.new.to_client })) c.args.client (FromScheduler c.in-Some.message) (among l)) c.new-none.ensures.items
    ∙ ap (λ (x : Cluster g.row.B.Denot). client_turned x c.args.client (FromScheduler c.in-Some.message) nothing) (with_to_client f c.args.self.now c.pop_to_client.new.to_client _ c.pop_to_client.ensures.rest)
    ∙ told (cluster_of f c.args.self.now) c.args.client ((world_of f c.args.self.now).to_client c.args.client) c.in-Some.message c.in-Some.ensures.first)
    c.client_turn.ensures.cluster

pub returns-in-None-clause-cluster : goal.returns-in-None-clause-cluster
unfolding world_of
returns-in-None-clause-cluster g c f = with_to_client f c.args.self.now c.pop_to_client.new.to_client _ c.pop_to_client.ensures.rest
    ∙ not_told (cluster_of f c.args.self.now) c.args.client ((world_of f c.args.self.now).to_client c.args.client) refl c.in-None.ensures.first

pub returns-in-None-clause-nodes : goal.returns-in-None-clause-nodes
returns-in-None-clause-nodes g c =
    let old = c.args.self.now in
    let s = c.requires.nodes.sorted in
    record {
      sized = sized_links old old.down old.up c.pop_to_client.new.to_client old.from_client refl refl c.pop_to_client.ensures.length refl c.requires.nodes.sized;
      sorted = record { down = s.down; up = s.up; to_client = c.pop_to_client.ensures.sorted; from_client = s.from_client; requests = s.requests; answers = s.answers };
      tidy = c.requires.nodes.tidy;
    }

pub returns-in-Some-clause-few : goal.returns-in-Some-clause-few
returns-in-Some-clause-few g c = c.client_turn.ensures.few

pub returns-in-Some-clause-refused : goal.returns-in-Some-clause-refused
unfolding world_of
returns-in-Some-clause-refused g c r f = subst (λ o. IsSomeAnd o (λ m. client_takes ((world_of f c.args.self.now).clients c.args.client) (FromScheduler m) ≡ false)) c.in-Some.ensures.first (c.client_turn.ensures.refused r f)

pub returns-in-Some-clause-spent : goal.returns-in-Some-clause-spent
returns-in-Some-clause-spent g c = c.client_turn.ensures.spent

pub returns-in-None-clause-few : goal.returns-in-None-clause-few
returns-in-None-clause-few g c n h = took_more n c.args.self.now h
