use Rattle.job_run.specs.Jobs.{plan_of}
use Rattle.job_run.specs.Plan.{nodes_saved}
use Rattle.job_run.specs.Values.{tasks_of}
use Rattle.job_run.proofs.SavedArrays.{saved-is}
use Rattle.job_run.proofs.Starting.{is_job}
use Rattle.job_run.proofs.evaluate.laws_of_start.Goals as goal
use Rattle.job_run.proofs.Laws.{saves-there}

pub returns-clause-graph : goal.returns-clause-graph
returns-clause-graph c files heads are count =
    let p = plan_of c.args.job.now in
    let there = saves-there p c.requires in
    let form = c.law_of_form.ensures p.nodes (nodes_saved p) c.nodes-nodes.ensures.sound there in
    let order = c.law_of_order.ensures p.nodes (nodes_saved p) c.nodes-nodes.ensures.sound there in
    is_job p.nodes (tasks_of p) files heads form.run form.run_loads order.run_fed are count

pub returns-clause-arrays : goal.returns-clause-arrays
returns-clause-arrays c named k h = saved-is (plan_of c.args.job.now) named k c.requires c.nodes-nodes.ensures.sound h
