-- The job of a cluster that a text stands for.
use Rattle.std.specs.Prelude.{◌≡◌, ℕ, List}
use Rattle.std.specs.List.{flat_map}
use Rattle.io_edge.specs.View.{Files}
use Rattle.plain_eval.specs.Held.{held_in}
use Rattle.cluster_rules.specs.World.{Job}
use Rattle.task_graph.specs.Graphs.{operation, shape_of}
use Rattle.lowering_laws.specs.Lowered.{lowered}
use Rattle.job_run.specs.Inputs.{InputsFit}
use Rattle.job_run.specs.Plan.{Plan, nodes_saved}
use Rattle.job_run.specs.Runs.{IsSmall}
use Rattle.job_run.specs.Values.{Named, OnInputs, tasks_of}
use Rattle.command_words.specs.declared.sim.SimWords.{SimWords}
use Rattle.sim_run.specs.Simulated.{running}

-- the keys of all saved blocks, save by save
abbrev pub wanted_of : Plan → List ℕ
wanted_of p = flat_map (λ ks. ks) (lowered p.nodes (nodes_saved p)).saved

-- The graph that makes a plan's saved blocks, as the job of a cluster whose client wants these blocks. The inputs are as declared, and where a site
-- tells what they hold, the job reads just that.
pub record IsTextJob (p : Plan) (files : Files) (s : SimWords) (job : Job) (wanted : List ℕ) : Type 0 where
  pub small : IsSmall p
  pub inputs : InputsFit p files
  pub named : Named
  pub runs : job ≡ running s (shape_of (tasks_of p)) (operation named (tasks_of p))
  pub wants : wanted ≡ wanted_of p
  pub told : OnInputs p files (λ blocks. held_in blocks ≡ named)
