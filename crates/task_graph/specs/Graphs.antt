-- Graphs of tasks, and the value of each key: its operation over the values of its dependencies.
use Rattle.std.specs.Prelude.{ℕ, ℤ, ◌+◌, ◌*◌, List, [], map, slice_index_or, Option}
use Rattle.nd_shape.specs.Shape.{elements}
use Rattle.nd_shape.specs.Chunk.{total}
use Rattle.nd_shape.specs.Block.{Array}
use Rattle.cluster_msgs.specs.Shape.{Shape, deps_of}
use Rattle.cluster_msgs.specs.Values.{val}
use Rattle.block_kernels.specs.declared.spec.Spec.{Spec}
use Rattle.block_kernels.specs.declared.spec.Spec.TheVariants.{Load}
use Rattle.block_kernels.specs.Kernels.{made, input_shapes, result_shape}
use Rattle.task_graph.specs.declared.graph.Task.{Task}

abbrev pub no_task : Task
no_task = record { spec = Load 0 (record { start = []; lengths = [] }); deps = []; work = 0; nbytes = 0 }

abbrev pub task_at : List Task → ℕ → Task
task_at tasks k = slice_index_or tasks k no_task

-- the graph as the cluster sees it
abbrev pub shape_of : List Task → Shape
shape_of tasks = record { deps = map (λ (t : Task). t.deps) tasks; work = map (λ (t : Task). t.work) tasks; nbytes = map (λ (t : Task). t.nbytes) tasks }

-- what key k makes of the blocks of its dependencies
abbrev pub operation : (ℕ → List ℕ → ℤ) → List Task → ℕ → List Array → Option Array
operation files tasks k blocks = made files (task_at tasks k).spec blocks

-- the value of key k, or nothing where it is Bad
abbrev pub value : (ℕ → List ℕ → ℤ) → List Task → ℕ → Option Array
value files tasks k = val (deps_of (shape_of tasks)) (operation files tasks) k

-- ---- a task by its operation and its dependencies

abbrev pub bytes : List ℕ → ℕ
bytes dims = 8 * elements dims

abbrev pub task : Spec → List ℕ → Task
task spec deps = record {
  spec = spec;
  deps = deps;
  work = bytes (result_shape spec) + total (map bytes (input_shapes spec));
  nbytes = bytes (result_shape spec);
}
