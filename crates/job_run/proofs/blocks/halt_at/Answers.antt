use Rattle.std.proofs.Common.{◌≡◌, ◌<◌, ap, sym, subst, ◌∙◌}
use Rattle.std.specs.Prelude.{Some}
use Rattle.nd_shape.specs.Index.{index_at}
use Rattle.nd_shape.specs.Shape.{elements}
use Rattle.chunk_layout.specs.Layouts.{counts}
use Rattle.lowering_laws.specs.Named.{layout_of}
use Rattle.job_run.specs.declared.blocks.Halt.TheVariants.{Zero}
use Rattle.job_run.specs.Evaluating.{IsZeroOf}
use Rattle.job_run.specs.Jobs.{plan_of}
use Rattle.job_run.specs.Lowering.{HasBlock}
use Rattle.job_run.proofs.Laws.{count-there, count-at}
use Rattle.job_run.proofs.blocks.halt_at.Goals as goal

pub bounds-blocks-node : goal.bounds-blocks-node
bounds-blocks-node c =
    let nodes = c.args.job.now.expr in
    let has : HasBlock c.args.job.now.expr (Some (c.in-Some.node, c.in-Some.number)) = subst (HasBlock c.args.job.now.expr) c.in-Some.is c.requires.there in
    count-there nodes c.args.blocks.now c.in-Some.node c.nodes-nodes.ensures.sound c.requires.counts has.0

pub index_of-requires : goal.index_of-requires
index_of-requires c =
    let nodes = c.args.job.now.expr in
    let has : HasBlock c.args.job.now.expr (Some (c.in-Some.node, c.in-Some.number)) = subst (HasBlock c.args.job.now.expr) c.in-Some.is c.requires.there in
    let are = count-at nodes c.args.blocks.now c.in-Some.node c.index-blocks-node.result c.nodes-nodes.ensures.sound c.requires.counts has.0 c.index-blocks-node.is in
    subst (λ ns. c.in-Some.number < elements ns) (sym are) has.1

pub returns-in-Ok : goal.returns-in-Ok
returns-in-Ok c =
    let nodes = c.args.job.now.expr in
    let has : HasBlock c.args.job.now.expr (Some (c.in-Some.node, c.in-Some.number)) = subst (HasBlock c.args.job.now.expr) c.in-Some.is c.requires.there in
    let are = count-at nodes c.args.blocks.now c.in-Some.node c.index-blocks-node.result c.nodes-nodes.ensures.sound c.requires.counts has.0 c.index-blocks-node.is in
    let index : c.in-Ok.block ≡ index_at (counts (layout_of c.args.job.now.expr c.in-Some.node)) c.in-Some.number = c.in-Ok.ensures ∙ ap (λ ns. index_at ns c.in-Some.number) are in
    subst (λ name. IsZeroOf (plan_of c.args.job.now) name (Zero c.new.result c.in-Ok.block)) (sym c.in-Some.is) (c.new.ensures, index)
