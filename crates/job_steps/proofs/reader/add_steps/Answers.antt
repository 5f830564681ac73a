-- One step more.
use Rattle.job_steps.proofs.Pasts.{added}
use Rattle.job_steps.proofs.reader.add_steps.Goals as goal

pub loop-action-preserved : goal.loop-action-preserved
loop-action-preserved c =
    added c.args.steps.now.items c.loop-action.steps.items c.add_step.new.steps.items c.args.token c.args.actions.now c.loop-action.action-index c.loop-action-test.true c.loop-action.invariant c.in_ok-add_step.ensures
