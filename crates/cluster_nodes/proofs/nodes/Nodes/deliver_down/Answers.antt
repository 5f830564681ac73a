use Rattle.std.proofs.Common.{◌≡◌, ◌∙◌, ℕ, List, false, ap, refl, subst}
use Rattle.std.specs.Prelude.{IsSomeAnd}
use Rattle.std.specs.declared.sync.Arc.{Arc}
use Rattle.std.specs.declared.alloc.Global.{Global}
use Rattle.std.proofs.lemmas.Result.{on_ok_weaker}
use Rattle.cluster_msgs.specs.declared.cores.WorkerEvent.TheVariants.{Down as Told}
use Rattle.cluster_rules.specs.WorkerStep.{worker_takes}
use Rattle.cluster_laws.specs.Blocks.{Cluster}
use Rattle.cluster_nodes.specs.Nodes.{world_of, cluster_of}
use Rattle.cluster_nodes.specs.Turns.{among, nothing, worker_turned}
use Rattle.cluster_nodes.proofs.Changing.{with_down, delivered, not_delivered}
use Rattle.cluster_nodes.proofs.Keeping.{sized_links}
use Rattle.cluster_nodes.proofs.Counting.{took_more}
use Rattle.cluster_nodes.proofs.nodes.Nodes.deliver_down.Goals as goal

pub worker_turn-requires-clause-nodes : goal.worker_turn-requires-clause-nodes
worker_turn-requires-clause-nodes g c =
    let old = c.args.self.now in
    let s = c.requires.nodes.sorted in
    record {
      sized = sized_links old c.pop_down.new.down old.up old.to_client old.from_client c.pop_down.ensures.length refl refl refl c.requires.nodes.sized;
      sorted = record { down = c.pop_down.ensures.sorted; up = s.up; to_client = s.to_client; from_client = s.from_client; requests = s.requests; answers = s.answers };
      tidy = c.requires.nodes.tidy;
    }

pub returns-in-Some-clause-cluster : goal.returns-in-Some-clause-cluster
unfolding world_of
returns-in-Some-clause-cluster g c = on_ok_weaker c.worker_turn.result
    (λ h f. h f
    ∙ ap (λ (l : List (ℕ × Arc g.row.B.Denot Global)). worker_turned (cluster_of f (record c.args.self.now { down = c.pop_down.new.down })) c.args.worker (Told c.in-Some.message) (among l)) c.new-none.ensures.items
    ∙ ap (λ (x : Cluster g.row.B.Denot). worker_turned x c.args.worker (Told c.in-Some.message) nothing) (with_down f c.args.self.now c.pop_down.new.down _ c.pop_down.ensures.rest)
    ∙ delivered (cluster_of f c.args.self.now) c.args.worker ((world_of f c.args.self.now).down c.args.worker) c.in-Some.message c.in-Some.ensures.first)
    c.worker_turn.ensures.cluster

pub returns-in-None-clause-cluster : goal.returns-in-None-clause-cluster
unfolding world_of
returns-in-None-clause-cluster g c f = with_down f c.args.self.now c.pop_down.new.down _ c.pop_down.ensures.rest
    ∙ not_delivered (cluster_of f c.args.self.now) c.args.worker ((world_of f c.args.self.now).down c.args.worker) refl c.in-None.ensures.first

pub returns-in-None-clause-nodes : goal.returns-in-None-clause-nodes
returns-in-None-clause-nodes g c =
    let old = c.args.self.now in
    let s = c.requires.nodes.sorted in
    record {
      sized = sized_links old c.pop_down.new.down old.up old.to_client old.from_client c.pop_down.ensures.length refl refl refl c.requires.nodes.sized;
      sorted = record { down = c.pop_down.ensures.sorted; up = s.up; to_client = s.to_client; from_client = s.from_client; requests = s.requests; answers = s.answers };
      tidy = c.requires.nodes.tidy;
    }

pub returns-in-Some-clause-few : goal.returns-in-Some-clause-few
returns-in-Some-clause-few g c = c.worker_turn.ensures.few

pub returns-in-Some-clause-refused : goal.returns-in-Some-clause-refused
unfolding world_of
returns-in-Some-clause-refused g c r f = subst (λ o. IsSomeAnd o (λ m. worker_takes ((world_of f c.args.self.now).workers c.args.worker) (Told m) ≡ false)) c.in-Some.ensures.first (c.worker_turn.ensures.refused r f)

pub returns-in-Some-clause-spent : goal.returns-in-Some-clause-spent
returns-in-Some-clause-spent g c = c.worker_turn.ensures.spent

pub returns-in-None-clause-few : goal.returns-in-None-clause-few
returns-in-None-clause-few g c n h = took_more n c.args.self.now h
