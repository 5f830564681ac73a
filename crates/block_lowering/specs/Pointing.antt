-- Operands that were brought to a layout.
use Rattle.std.specs.Prelude.{◌≡◌, List, [], ◌∷◌, ◌++◌}
use Rattle.task_graph.specs.declared.graph.Task.{Task}
use Rattle.lowering_laws.specs.Stages.{Arg, Args}

-- one, with the tasks that make it so behind others
pub record ArgGrown (old : List Task) (made : Args) (new : List Task) (arg : Arg) : Type 0 where
  pub tasks : new ≡ old ++ made.tasks
  pub arg_is : made.args ≡ arg ∷ []

-- all of them
pub record ArgsGrown (old : List Task) (made : Args) (new : List Task) (args : List Arg) : Type 0 where
  pub tasks : new ≡ old ++ made.tasks
  pub args_are : made.args ≡ args
