-- How a graph grows by the tasks of an array, and why it doesn't.
use Rattle.std.specs.Prelude.{◌≡◌, List, ◌++◌, Some}
use Rattle.array_expr.specs.declared.expr.Node.{Node}
use Rattle.task_graph.specs.declared.graph.Task.{Task}
use Rattle.lowering_laws.specs.Sources.{Source, Made}
use Rattle.lowering_laws.specs.Lowered.{limit_from, limit_of}
use Rattle.block_lowering.specs.declared.error.LowerError.{LowerError}
use Rattle.block_lowering.specs.declared.error.LowerError.TheVariants.{Limit, OutOfMemory}

-- tasks aren't put behind others for the first limit that all of them pass, whatever follows
abbrev pub Refuses : List Task → List Task → LowerError → Type 0
Refuses old more (Limit q) = (rest : List Task) → limit_from 0 0 (old ++ more ++ rest) ≡ Some q
Refuses old more OutOfMemory = Unit {0}

-- the tasks of an array stand behind others, and the array is known
pub record IsGrown (old : List Task) (m : Made) (new : List Task) (s : Source) : Type 0 where
  pub tasks : new ≡ old ++ m.tasks
  pub source : s ≡ m.source

-- why nodes aren't lowered
abbrev pub IsCause : List Node → LowerError → Type 0
IsCause nodes (Limit q) = limit_of nodes ≡ Some q
IsCause nodes OutOfMemory = Unit {0}
