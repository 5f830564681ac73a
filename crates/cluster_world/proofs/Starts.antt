-- A task that starts: the blocks that it takes are kept.
use Rattle.std.proofs.Common.{◌≡◌, ℕ, Bool, true, false, ◌&&◌, List, Option, Some, None, ap, ◌∙◌, cond}
use Rattle.std.specs.Prelude.{◌==◌}
use Rattle.std.specs.List.{filter_map}
use Rattle.std.specs.declared.sync.Arc.{Arc}
use Rattle.std.specs.declared.alloc.Global.{Global}
use Rattle.cluster_msgs.specs.Jobs.{blocks_of}
use Rattle.cluster_msgs.specs.Shape.{deps_of}
use Rattle.cluster_msgs.specs.declared.cores.WorkerEvent.TheVariants as work
use Rattle.cluster_msgs.specs.declared.events.Event.TheVariants as event
use Rattle.cluster_rules.specs.Functions.{put_pair}
use Rattle.cluster_rules.specs.Worker.{would_start}
use Rattle.cluster_rules.specs.World.{shape_of}
use Rattle.fact_rows.specs.Rows.{cell, height, width}
use Rattle.cluster_laws.specs.Blocks.{Blocks, Cluster}
use Rattle.cluster_nodes.specs.Nodes.{block_at, blocks_at, world_of, blocks_in}
use Rattle.cluster_nodes.specs.Turns.{nothing, worker_turned}
use Rattle.cluster_world.specs.declared.state.State.{State}
use Rattle.cluster_world.specs.Worlds.{cluster, world, setting}
use Rattle.cluster_world.specs.Kept.{IsJoint}
use Rattle.cluster_world.specs.Outcomes.{IsTurned, IsMoved}
use Rattle.cluster_world.proofs.Rows.{start_is}

module _ {J B F : Type 0} (old : State J B F) (joint : IsJoint old) (i k : ℕ) (next : would_start ((world old).workers i) ≡ Some k) where
  abbrev taken : List B
  taken = filter_map ((cluster old).blocks.held i) (deps_of (shape_of (world old)) k)

  -- the world of the nodes doesn't see the inputs
  pub started : (mid : State J B F) (shelf : ℕ × List (List (Option (List (Arc B Global))))) (bs : List (Arc B Global))
      → IsTurned old mid (worker_turned (cluster old) i work.Start nothing)
      → blocks_of bs ≡ filter_map (λ q. block_at (cell old.nodes.held None i q)) (deps_of (setting old).shape k)
      → cell shelf None ≡ put_pair (cell mid.nodes.inputs None) i k (Some bs) → height shelf ≡ height mid.nodes.inputs → width shelf ≡ width mid.nodes.inputs
      → IsMoved old (record mid { nodes = record mid.nodes { inputs = shelf } }) (event.Start i)
  unfolding world_of blocks_in
  started mid shelf bs t be ce he we = record {
    cluster = (λ z. record { world = w z; blocks = record { held = (bl z).held; inputs = inputs z; carried = (bl z).carried; got = (bl z).got } }) ∙ start_is None (cluster old) joint.tidy i k next;
    nodes = record {
      sized = record {
        alive = t.nodes.sized.alive;
        spilled = t.nodes.sized.spilled;
        down = t.nodes.sized.down;
        up = t.nodes.sized.up;
        held = t.nodes.sized.held;
        inputs = he ∙ t.nodes.sized.inputs;
        to_client = t.nodes.sized.to_client;
        from_client = t.nodes.sized.from_client;
        got = t.nodes.sized.got;
        spilled_keys = t.nodes.sized.spilled_keys;
        held_keys = t.nodes.sized.held_keys;
        inputs_keys = we ∙ t.nodes.sized.inputs_keys;
        got_keys = t.nodes.sized.got_keys;
        workers = t.nodes.sized.workers;
        clients = t.nodes.sized.clients;
      };
      sorted = record { down = t.nodes.sorted.down; up = t.nodes.sorted.up; to_client = t.nodes.sorted.to_client; from_client = t.nodes.sorted.from_client; requests = t.nodes.sorted.requests; answers = t.nodes.sorted.answers };
      tidy = t.nodes.tidy;
    };
    shape = t.shape;
    workers = t.workers;
    clients = t.clients;
    more = t.more;
    few = t.few;
  }
    where
      w : world mid ≡ (worker_turned (cluster old) i work.Start nothing).world
      w = ap (λ (x : Cluster B). x.world) t.cluster

      bl : (cluster mid).blocks ≡ (worker_turned (cluster old) i work.Start nothing).blocks
      bl = ap (λ (x : Cluster B). x.blocks) t.cluster

      same : (x q : ℕ) → blocks_at (cell mid.nodes.inputs None x q) ≡ (cluster old).blocks.inputs x q
      same x q = ap (λ (b : Blocks B). b.inputs x q) bl

      at_place : (x q : ℕ) (b : Bool) → blocks_at (cond b (Some bs) (cell mid.nodes.inputs None x q)) ≡ cond b taken ((cluster old).blocks.inputs x q)
      at_place x q true = be
      at_place x q false = same x q

      inputs : ◌≡◌ {A = ℕ → ℕ → List B} (λ x q. blocks_at (cell shelf None x q)) (λ x q. cond (x == i && q == k) taken ((cluster old).blocks.inputs x q))
      inputs = λ z x q. (ap (λ (f : ℕ → ℕ → Option (List (Arc B Global))). blocks_at (f x q)) ce ∙ at_place x q (x == i && q == k)) z
