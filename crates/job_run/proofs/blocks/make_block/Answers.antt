use Rattle.std.proofs.Common.{◌<◌, ◌+◌, length, arith}
use Rattle.small_facts.proofs.Results.{on_err_from}
use Rattle.lowering_laws.specs.Lowered.{lowered}
use Rattle.job_run.specs.Evaluating.{boxes_made}
use Rattle.job_run.specs.Grouping.{waiting_of}
use Rattle.job_run.specs.Jobs.{plan_of}
use Rattle.job_run.specs.Plan.{nodes_saved}
use Rattle.job_run.proofs.WaitingBlocks.{adds-next, held-right}
use Rattle.job_run.proofs.blocks.make_block.Goals as goal

pub returns-in_err-made-clause-right : goal.returns-in_err-made-clause-right
returns-in_err-made-clause-right g c =
    let p = plan_of c.args.job.now in
    on_err_from c.from_residual.result (λ told held. held-right p g.E.Elements.named (boxes_made p c.args.evaluation.now.next) (waiting_of c.args.group.now) c.args.files.now held)

pub returns-in-Ok-clause-holds : goal.returns-in-Ok-clause-holds
returns-in-Ok-clause-holds g c told held =
    let p = plan_of c.args.job.now in
    let named = g.E.Elements.named in
    let laws = c.laws_hold.ensures named in
    let lt : c.args.evaluation.now.next < length (lowered c.args.job.now.expr (nodes_saved (plan_of c.args.job.now))).names = omega (arith, laws.names.number, c.requires.there) in
    c.in-Ok.ensures.held named (boxes_made p c.args.evaluation.now.next) (boxes_made p (c.args.evaluation.now.next + 1)) (adds-next p c.args.evaluation.now.next c.args.name lt c.requires.name) (c.in_ok-made.ensures.holds told) held

pub returns-in-Err-Failed-clause-right : goal.returns-in-Err-Failed-clause-right
returns-in-Err-Failed-clause-right g c told held =
    c.in-Err-Failed.ensures.right g.E.Elements.named (boxes_made (plan_of c.args.job.now) c.args.evaluation.now.next) (c.in_ok-made.ensures.holds told) held

pub returns-clause-right : goal.returns-clause-right
returns-clause-right g c told held =
    c.in-Err-OutOfMemory.ensures.right g.E.Elements.named (boxes_made (plan_of c.args.job.now) c.args.evaluation.now.next) (c.in_ok-made.ensures.holds told) held
