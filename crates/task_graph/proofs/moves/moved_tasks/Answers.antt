use Rattle.std.proofs.Common.{◌<◌, List, sym, subst}
use Rattle.std.specs.List.{AllByRecursion}
use Rattle.cluster_msgs.specs.Shape.{IsShape}
use Rattle.task_graph.specs.declared.graph.Task.{Task}
use Rattle.task_graph.specs.Graphs.{shape_of}
use Rattle.task_graph.proofs.Bounds.{renumbered-shape}
use Rattle.task_graph.proofs.moves.moved_tasks.Goals as goal

pub returns-clause-shape : goal.returns-clause-shape
returns-clause-shape c =
    subst (λ (ts : List Task). IsShape (shape_of ts)) (sym c.in_ok-new.ensures)
    (renumbered-shape c.args.tasks.items c.args.numbers.now.order c.requires.shape c.requires.closed (subst (λ n. AllByRecursion (λ k. k < n) c.args.numbers.now.order) c.requires.whole c.sound.ensures.below) c.sound.ensures.once)
