use Rattle.job_run.specs.Jobs.{plan_of}
use Rattle.job_run.specs.Plan.{nodes_saved}
use Rattle.job_run.proofs.Laws.{saves-there}
use Rattle.job_run.proofs.blocks.laws_hold.Goals as goal

pub returns : goal.returns
returns c named =
    let p = plan_of c.args.job.now in
    let nodes = c.args.job.now.expr in
    let saves = nodes_saved (plan_of c.args.job.now) in
    let there = saves-there p c.requires in
    record {
      expression = c.nodes-nodes.ensures.sound;
      order = c.law_of_order.ensures nodes saves c.nodes-nodes.ensures.sound there;
      names = c.law_of_names.ensures nodes saves c.nodes-nodes.ensures.sound there;
      named_is = c.law_of_expression.ensures.named named saves there;
      faults = c.law_of_expression.ensures.faults named saves there;
    }
