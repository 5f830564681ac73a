use Rattle.std.proofs.Common.{◌≡◌, ◌∙◌, ap, IfOk, subst}
use Rattle.task_graph.specs.declared.graph.Task.{Task}
use Rattle.chunk_layout.specs.Layouts.{lengths_at}
use Rattle.chunk_layout.specs.Plans.{plan}
use Rattle.block_lowering.proofs.Assembling.{planned-task}
use Rattle.block_lowering.proofs.rechunk.RechunkedStage.task.Goals as goal

pub returns : goal.returns
returns c =
    subst (λ (t : Task). IfOk c.assembly.result (λ task. task ≡ t))
    (planned-task c.args.self.now.source.now c.args.self.now.layout.now c.args.place c.args.block.now c.into_vec.result.items c.in_ok-shape.shape c.requires.sound c.requires.place c.requires.block
    (c.into_vec.ensures ∙ c.in_ok-pieces.ensures ∙ ap (λ from. plan from c.args.self.now.layout.now c.args.place) c.layout.ensures.value)
    (c.in_ok-shape.ensures ∙ ap (λ axes. lengths_at axes c.args.block.now) c.axes.ensures.value))
    c.assembly.ensures
