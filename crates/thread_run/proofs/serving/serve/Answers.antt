use Rattle.std.proofs.Common.{◌≡◌, ℕ, Option, arith, refl, subst}
use Rattle.std.specs.Prelude.{IsTrue}
use Rattle.std.proofs.lemmas.Result.{IfErr-weaker, IfOk-weaker}
use Rattle.io_edge.specs.Cause.{Rose}
use Rattle.io_edge.proofs.GivenLaws.{given_back, given_later}
use Rattle.io_edge.specs.View.{View}
use Rattle.nd_shape.specs.Block.{Array}
use Rattle.cluster_msgs.specs.Labels.{LabelFacts}
use Rattle.task_graph.specs.Graphs.{shape_of}
use Rattle.job_run.specs.Evaluating.{HasLaws}
use Rattle.job_run.specs.Jobs.{plan_of}
use Rattle.job_run.specs.Plan.{Plan, nodes_saved}
use Rattle.job_run.specs.Values.{tasks_of}
use Rattle.job_run.specs.Wanted.{wanted_of}
use Rattle.job_run.proofs.Laws.{saves-there}
use Rattle.job_run.proofs.Starting.{is_job}
use Rattle.thread_run.specs.Counts.{feeds as feeds_of}
use Rattle.thread_run.specs.Ends.{left_as}
use Rattle.thread_run.specs.Losses.{losses_by, losses_in}
use Rattle.thread_run.specs.Reports.{IsOutgrown, IsToldBy, IsToldOfRun, label}
use Rattle.thread_run.specs.Serving.{ServesFiles, ServesPart}
use Rattle.thread_run.proofs.Serves.{part-between, rose_first, serves-after}
use Rattle.thread_run.proofs.serving.serve.Goals as goal

pub new-requires-after_bounds : goal.new-requires-after_bounds
new-requires-after_bounds g c κs within =
    let p : Plan = plan_of c.args.job.now in
    let laws : HasLaws p g.E.Elements.named = c.laws_hold.ensures g.E.Elements.named in
    let form = c.law_of_form.ensures p.nodes (nodes_saved p) laws.expression (saves-there p c.requires.runs) in
    rw c.requires.graph.tasks (is_job p.nodes (tasks_of p) (g.S.In.Store.files c.args.inputs.store) c.args.inputs.heads.items form.run form.run_loads laws.order.run_fed c.requires.heads c.requires.count)

pub returns-clause-files : goal.returns-clause-files
returns-clause-files g c =
    let p : Plan = plan_of c.args.job.now in
    let old : View = g.S.Site.view c.args.site.now in
    let mid : View = g.S.Site.view c.give_store.new.self in
    let new : View = g.S.Site.view c.run_graph.new.site in
    let F : ℕ → Type 0 = λ n. ServesFiles p n mid new in
    serves-after p (feeds_of c.args.words) old mid new c.give_store.ensures.files c.give_store.ensures.only (c.give_store.ensures.kept c.requires.fresh) (subst F c.plan_in-plan.ensures.feeds c.run_graph.ensures.files)

pub returns-clause-given : goal.returns-clause-given
returns-clause-given g c =
    let old : View = g.S.Site.view c.args.site.now in
    let mid : View = g.S.Site.view c.give_store.new.self in
    let new : View = g.S.Site.view c.run_graph.new.site in
    given_later old.gave mid.gave new.gave _ (given_back old.gave old.gave mid.gave (g.S.In.Store.gave c.args.inputs.store) _ refl c.give_store.ensures.gave c.requires.given) c.run_graph.ensures.files.gave

-- what is told is told of a run by the words
pub returns-clause-told : goal.returns-clause-told
returns-clause-told g c =
    let p : Plan = plan_of c.args.job.now in
    let plan = c.plan_in-plan.result in
    let same = c.plan_in-plan.ensures.same in
    let L : Option ℕ → LabelFacts Array = λ o. label g.V.Veil.told o g.E.Elements.named (tasks_of p) in
    let graph = shape_of (tasks_of p) in
    IfOk-weaker c.run_graph.result (IsToldOfRun (L plan.allowed) graph plan (wanted_of p)) (IsToldBy (L c.args.words.settings.allowed) graph c.args.words (wanted_of p))
    (λ t run. record { plan = plan; plan_is = same; run = subst (λ o. IsToldOfRun (L o) graph plan (wanted_of p) t) same.allowed run }) c.run_graph.ensures.told

-- and so is one whose histories outgrew their limits
pub returns-clause-outgrown : goal.returns-clause-outgrown
returns-clause-outgrown g c = λ is.
    let p : Plan = plan_of c.args.job.now in
    let plan = c.plan_in-plan.result in
    let same = c.plan_in-plan.ensures.same in
    let L : Option ℕ → LabelFacts Array = λ o. label g.V.Veil.told o g.E.Elements.named (tasks_of p) in
    record { plan = plan; plan_is = same; run = subst (λ o. IsOutgrown (L o) (shape_of (tasks_of p)) plan) same.allowed (c.run_graph.ensures.outgrown is) }

-- and the losses are those of the words
pub returns-clause-stopped : goal.returns-clause-stopped
returns-clause-stopped g c =
    let p : Plan = plan_of c.args.job.now in
    let named = g.E.Elements.named in
    let told = IsTrue g.V.Veil.told in
    let old : View = g.S.Site.view c.args.site.now in
    let mid : View = g.S.Site.view c.give_store.new.self in
    let new : View = g.S.Site.view c.run_graph.new.site in
    let plan = c.plan_in-plan.result in
    let is = c.plan_in-plan.ensures.same in
    let same : losses_in plan ≡ losses_by c.args.words = λ i. record { allowed = is.allowed i; script = is.script i } in
    let reads : Type 0 = Rose mid.read_faults new.read_faults in
    let writes : Type 0 = Rose mid.write_faults new.write_faults in
    IfErr-weaker c.run_graph.result (λ e. ServesPart p (losses_in plan) named told reads writes mid.files new.files (left_as e))
    (λ e. ServesPart p (losses_by c.args.words) named told (Rose old.read_faults new.read_faults) (Rose old.write_faults new.write_faults) old.files new.files (left_as e))
    (λ end part. part-between p (losses_by c.args.words) named told (Rose old.read_faults new.read_faults) reads (Rose old.write_faults new.write_faults) writes old.files mid.files new.files new.files (left_as end) c.give_store.ensures.files refl
    (λ rose. rose_first old.read_faults mid.read_faults new.read_faults (let kept = c.give_store.ensures.kept c.requires.fresh in omega (arith, kept)) rose)
    (λ rose. rose_first old.write_faults mid.write_faults new.write_faults (omega (arith, c.give_store.ensures.only.write_faults)) rose)
    (subst (λ l. ServesPart p l named told reads writes mid.files new.files (left_as end)) same part)) c.run_graph.ensures.stopped
