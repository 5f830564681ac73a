-- What the laws say of a plan before anything of it is made, and how its run ends where not all is made.
use Rattle.std.specs.Prelude.{◌≡◌, ◌<◌, ℕ, List, length}
use Rattle.io_edge.specs.Content.{Content}
use Rattle.npy_codec.specs.declared.head.Head.{Head}
use Rattle.array_expr.specs.Node.{shape_at}
use Rattle.block_lowering.specs.Jobs.{IsJob}
use Rattle.saved_files.specs.Saving.{IsOf}
use Rattle.job_run.specs.declared.blocks.Halt.{Halt}
use Rattle.job_run.specs.declared.blocks.Halt.TheVariants as halts
use Rattle.job_run.specs.declared.ends.Ended.{Ended}
use Rattle.job_run.specs.declared.ends.Ended.TheVariants.{Zero, ReadFault, WriteFault, OutOfMemory}
use Rattle.job_run.specs.Evaluating.{array_at, node_at}
use Rattle.job_run.specs.Loading.{AreHeads}
use Rattle.job_run.specs.Plan.{Plan, input_shapes}
use Rattle.job_run.specs.Values.{Named, tasks_of}

-- the graph is a job over all files that have the heads of the inputs
abbrev pub IsJobOver : Plan → Type 0
IsJobOver p = (files : List Content) (heads : List Head)
    → AreHeads (input_shapes p.nodes) files heads → length heads ≡ length (input_shapes p.nodes) → IsJob (tasks_of p) heads

-- each saved array has its node's shape, whatever the inputs hold
abbrev pub AreOfShapes : Plan → Type 0
AreOfShapes p = (named : Named) (k : ℕ) → k < length p.saves → IsOf (shape_at p.nodes (node_at p k)) (array_at p named k)

-- how a run ends after a halt
abbrev pub end_of : Halt → Ended
end_of (halts.Zero node block) = Zero node block
end_of halts.ReadFault = ReadFault
end_of halts.WriteFault = WriteFault
end_of halts.OutOfMemory = OutOfMemory
