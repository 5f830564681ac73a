use Rattle.std.proofs.Common.{◌≡◌, Err, ap, refl}
use Rattle.std.proofs.lemmas.Result.{IfErr-at_err, err_from_is_err_and}
use Rattle.job_run.specs.Jobs.{plan_of}
use Rattle.job_run.specs.Plan.{Plan}
use Rattle.job_run.specs.Values.{tasks_of}
use Rattle.job_run.specs.Wanted.{wanted_of}
use Rattle.block_lowering.specs.Jobs.{graph_of}
use Rattle.task_graph.specs.Graphs.{shape_of}
use Rattle.thread_run.specs.Reports.{label}
use Rattle.thread_run.proofs.Saved.{facts-allow, facts_of}
use Rattle.thread_run.proofs.Serves.{outgrown-as, told-of-run}
use Rattle.thread_run.proofs.serving.run_graph.Goals as goal

pub returns-clause-told : goal.returns-clause-told
returns-clause-told g c =
    let p : Plan = plan_of c.args.job.now in
    let graph = c.args.graph.now in
    told-of-run (facts_of g.P.Picks.picked (λ j. j.job) g.E.Elements.named g.V.Veil.told g.P.Picks.allowed) (label g.V.Veil.told c.args.plan.now.allowed g.E.Elements.named (tasks_of p)) (graph_of graph.job) (shape_of (tasks_of p)) c.args.plan.now
    c.args.wanted.now.all (wanted_of p) c.in_ok-histories.histories c.in_ok-told.told
    (facts-allow g.P.Picks.picked graph (λ j. j.job) g.E.Elements.named g.V.Veil.told g.P.Picks.allowed c.args.plan.now.allowed (tasks_of p) c.requires.picked c.requires.tasks c.requires.allowed) (ap shape_of c.requires.tasks) c.requires.wanted.all_is
    c.in_ok-histories.ensures.histories (rw c.shape.ensures at c.in_ok-told.ensures.told)

pub returns-in_err-histories-clause-outgrown : goal.returns-in_err-histories-clause-outgrown
returns-in_err-histories-clause-outgrown g c =
    let p : Plan = plan_of c.args.job.now in
    let graph = c.args.graph.now in
    let from = err_from_is_err_and c.from_residual.result c.from_residual.ensures.1 in
    rw (from.1, from.2)
    (λ is. outgrown-as (facts_of g.P.Picks.picked (λ j. j.job) g.E.Elements.named g.V.Veil.told g.P.Picks.allowed) (label g.V.Veil.told c.args.plan.now.allowed g.E.Elements.named (tasks_of p)) (graph_of graph.job) (shape_of (tasks_of p)) c.args.plan.now
    (facts-allow g.P.Picks.picked graph (λ j. j.job) g.E.Elements.named g.V.Veil.told g.P.Picks.allowed c.args.plan.now.allowed (tasks_of p) c.requires.picked c.requires.tasks c.requires.allowed) (ap shape_of c.requires.tasks) (c.in_err-histories.ensures.outgrown (ap Err (IfErr-at_err (λ e. c.in_err-histories.field-0.0 ≡ e) is refl))))
