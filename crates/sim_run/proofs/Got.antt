-- What the client of a simulated plan got: the blocks of its saves, and with them a value of each key.
use Rattle.std.proofs.Common.{◌≡◌, ℕ, ◌<◌, List, length, map, sym, ◌∙◌, subst, arith, Option, Some, None}
use Rattle.nd_shape.specs.Block.{Array}
use Rattle.array_expr.specs.Node.{IsExpression}
use Rattle.block_kernels.specs.Kernels.{result_shape}
use Rattle.cluster_msgs.specs.Shape.{Shape, deps_of}
use Rattle.cluster_world.specs.declared.state.Course.TheVariants.{Going}
use Rattle.cluster_world.specs.declared.state.State.{State}
use Rattle.cluster_world.specs.Worlds.{IsMade, cluster, setting, world}
use Rattle.cluster_sim.specs.Openings.{AreWanted}
use Rattle.cluster_sim.specs.Faults.{IsNeededFault}
use Rattle.cluster_sim.specs.Simulations.{HasAll}
use Rattle.task_graph.specs.Graphs.{operation, shape_of, task_at, value}
use Rattle.lowering_laws.specs.Lowered.{lowered}
use Rattle.lowering_laws.specs.Named.{layout_of}
use Rattle.lowering_laws.specs.Faults.{DividesByZero, IsZeroDivide}
use Rattle.lowering_laws.specs.Whole.{saved_key}
use Rattle.lowering_laws.proofs.Limits.{limits-law}
use Rattle.lowering_laws.proofs.Runs.{order-law}
use Rattle.job_run.specs.Evaluating.{HasLaws, HaveAll, array_at}
use Rattle.job_run.specs.Plan.{IsRunnable, Plan, nodes_saved}
use Rattle.job_run.specs.Runs.{IsSmall}
use Rattle.job_run.specs.Saving.{HasSaves, IsGot}
use Rattle.job_run.specs.Values.{IsFaulty, MeetsNone, Named, tasks_of}
use Rattle.job_run.proofs.KeyValues.{lacks-none}
use Rattle.job_run.proofs.Laws.{saves-there}
use Rattle.job_run.proofs.SavedBlocks.{count-saves, has-saves, is-got}
use Rattle.sim_run.specs.Client.{HasGot}
use Rattle.sim_run.specs.Jobs.{wanted_of}
use Rattle.sim_run.specs.Serving.{IsBlockAt}
use Rattle.sim_run.proofs.Simulating.{HasRun, got_value, have_values, values_in}
use Rattle.sim_run.proofs.Wanted.{are-wanted, in-flat, needed-small, small-keys}

wanted-there : (p : Plan) → IsRunnable p → IsExpression p.nodes → AreWanted (length (shape_of (tasks_of p)).deps) (wanted_of p)
wanted-there p runs ex = are-wanted p.nodes (nodes_saved p) ex (saves-there p runs) (omega (arith, runs.some, count-saves p))

pub wanted-for : (p : Plan) (graph : Shape) (wanted : List ℕ) → IsRunnable p → IsExpression p.nodes → graph ≡ shape_of (tasks_of p) → wanted ≡ wanted_of p → AreWanted (length graph.deps) wanted
wanted-for p graph wanted runs ex same keys =
    let K : List ℕ → Type 0 = λ ks. AreWanted (length graph.deps) ks in
    let G : Shape → Type 0 = λ g. AreWanted (length g.deps) (wanted_of p) in
    subst K (sym keys) (subst G (sym same) (wanted-there p runs ex))

-- ## The saves

-- where it got all that is wanted, and the world goes on
pub has-all : {J F : Type 0} (p : Plan) (s : State J Array F) (dims : ℕ → List ℕ) (saved : List (List ℕ)) (layouts : List (List (List ℕ))) → IsRunnable p → IsExpression p.nodes → saved ≡ (lowered p.nodes (nodes_saved p)).saved →
    layouts ≡ map (layout_of p.nodes) (nodes_saved p) → s.course ≡ Going → HasAll (world s) (wanted_of p) → ((k : ℕ) → dims k ≡ result_shape (task_at (tasks_of p) k).spec) → HasSaves p saved layouts (HasGot s dims)
has-all p s dims saved layouts runs ex keys layouts_are going all shaped =
    has-saves p saved layouts (HasGot s dims) runs ex keys layouts_are (λ j c lj lc.
    let key = saved_key p.nodes (nodes_saved p) j c in
    record { going = going; got = all key (in-flat (lowered p.nodes (nodes_saved p)).saved j c lj lc); lengths_are = shaped key })

-- ## Values

-- the world that a simulation of a plan's graph left
pub has-run : {J F : Type 0} {op : J → ℕ → List Array → Option Array} (p : Plan) (named : Named) (s : State J Array F) (wanted : List ℕ) → IsMade op s → op s.job ≡ operation named (tasks_of p) → (setting s).shape ≡ shape_of (tasks_of p) → IsRunnable p →
    IsExpression p.nodes → IsSmall p → wanted ≡ wanted_of p → HasAll (world s) wanted → HasRun named p.nodes (nodes_saved p) s
has-run p named s wanted made ops graph runs ex small same all =
    let inside = saves-there p runs in
    let A : List ℕ → Type 0 = λ ks. HasAll (world s) ks in
    record {
      values = values_in s (shape_of (tasks_of p)) (operation named (tasks_of p)) made graph ops (limits-law p.nodes (nodes_saved p) ex inside (order-law p.nodes (nodes_saved p) ex inside) small);
      all = subst A same all;
    }

module _ {J F : Type 0} (p : Plan) (named : Named) (s : State J Array F) (runs : IsRunnable p) (laws : HasLaws p named) (r : HasRun named p.nodes (nodes_saved p) s) where
  have_all : HaveAll p named (length (tasks_of p))
  have_all = have_values named p.nodes (nodes_saved p) s r laws.expression (saves-there p runs)

  pub meets-none : MeetsNone p named
  meets-none key fault = lacks-none p named (length (tasks_of p)) key laws have_all fault.needed.within fault

  -- what it got of a save are the blocks of its array
  pub saves-got : (saved : List (List ℕ)) (layouts : List (List (List ℕ))) → saved ≡ (lowered p.nodes (nodes_saved p)).saved → layouts ≡ map (layout_of p.nodes) (nodes_saved p) → (k : ℕ) → k < length p.saves →
      IsGot p saved layouts ((cluster s).blocks.got 1) k (array_at p named k)
  saves-got = is-got p named ((cluster s).blocks.got 1) runs laws (got_value named p.nodes (nodes_saved p) s r) have_all

-- ## A zero divisor

abbrev DividesAt : Plan → Named → Option (ℕ × ℕ) → Type 0
DividesAt p named None = ⊥
DividesAt p named (Some x) = DividesByZero named p.nodes x.0 x.1

-- the key that the client's failure is blamed on
pub is-faulty : (p : Plan) (named : Named) (key node : ℕ) (block : List ℕ) → IsRunnable p → HasLaws p named → IsBlockAt p key node block →
    IsNeededFault (deps_of (shape_of (tasks_of p))) (value named (tasks_of p)) (wanted_of p) key → IsFaulty p named node block
is-faulty p named key node block runs laws at blamed =
    let within : key < length (tasks_of p) = needed-small (deps_of (shape_of (tasks_of p))) laws.order.run.below (length (tasks_of p)) (wanted_of p) key (small-keys p.nodes (nodes_saved p) laws.expression (saves-there p runs)) blamed.needed in
    let z : IsZeroDivide named p.nodes (nodes_saved p) key = laws.faults.fault key within blamed.faulty in
    let same : Some (z.node, z.block) ≡ Some (node, at.number) = sym z.name ∙ at.name in
    record {
      key = key;
      number = at.number;
      needed = record { within = within; name = at.name };
      is_block = at.is_block;
      faulty_is = blamed.faulty;
      divides = subst (DividesAt p named) same z.zero;
    }
