use Rattle.std.proofs.Common.{◌≡◌, ℕ, ◌≤◌, ap, sym, arith, subst, ◌∙◌}
use Rattle.std.proofs.lemmas.Result.{IfErr-weaker}
use Rattle.io_edge.specs.Cause.{Rose, TakesFaults}
use Rattle.io_edge.specs.View.{View}
use Rattle.block_lowering.specs.Jobs.{TellsFeed}
use Rattle.cluster_laws.specs.Blocks.{setting_of}
use Rattle.cluster_rules.specs.Sched.{Setting}
use Rattle.task_graph.specs.Graphs.{operation, shape_of}
use Rattle.job_run.specs.Evaluating.{HasLaws}
use Rattle.job_run.specs.Jobs.{plan_of}
use Rattle.job_run.specs.Plan.{Plan, nodes_saved}
use Rattle.job_run.specs.Values.{Named, tasks_of}
use Rattle.job_run.proofs.Evaluated.{tells_same}
use Rattle.job_run.proofs.Laws.{saves-there}
use Rattle.job_run.proofs.Starting.{is_job}
use Rattle.sim_run.specs.declared.ends.SimEnded.{SimEnded}
use Rattle.sim_run.specs.Serving.{ServesPart}
use Rattle.sim_run.proofs.Given.{IsGivenBack, files-given, part-given}
use Rattle.sim_run.proofs.Simulating.{setting_is}
use Rattle.sim_run.proofs.serving.serve.Given.{Over}
use Rattle.sim_run.proofs.serving.serve.Goals as goal
use Rattle.sim_run.proofs.serving.serve.Goals.{After-give_store}

pub new-requires-after_bounds : goal.new-requires-after_bounds
new-requires-after_bounds g c κs within =
    let p : Plan = plan_of c.args.job.now in
    let laws : HasLaws p g.E.Elements.named = c.laws_hold.ensures g.E.Elements.named in
    let form = c.law_of_form.ensures p.nodes (nodes_saved p) laws.expression (saves-there p c.requires.runs) in
    rw c.requires.graph.tasks (is_job p.nodes (tasks_of p) (g.S.In.Store.files c.args.inputs.store) c.args.inputs.heads.items form.run form.run_loads laws.order.run_fed c.requires.heads c.requires.count)

pub simulate_world-served-requires-clause-opening : goal.simulate_world-served-requires-clause-opening
simulate_world-served-requires-clause-opening g c κs within =
    let tasks = c.in_ok-graph.graph.job.tasks in
    let e = setting_is c.in_ok-world.world (setting_of (shape_of tasks) 1 c.args.words.settings.saturation c.args.words.settings.allowed) (operation g.E.Elements.named tasks) c.in_ok-world.ensures.opening in
    let one = ap (λ (x : Setting). x.clients) e in
    record {
      going = c.in_ok-world.ensures.ready.going;
      made = c.in_ok-world.ensures.made;
      client = omega (arith, one);
      few = omega (arith, one);
      saturation = subst (λ n. (1 ≤ n) × (n ≤ 1000)) (sym (ap (λ (x : Setting). x.saturation) e)) c.requires.words.saturation;
    }

-- the store was given back
given-back : (g : Over) (c : After-give_store g) → IsGivenBack (plan_of c.args.job.now) (g.S.In.Store.count c.in_ok-world.world.feed) (g.S.In.Store.count c.simulate_world-served.new.world.feed) (g.S.Site.view c.args.site.now)
    (g.S.Site.view c.simulate_world-served.new.site) (g.S.Site.view c.give_store.new.self)
given-back g c =
    let mid : View = g.S.Site.view c.simulate_world-served.new.site in
    let new : View = g.S.Site.view c.give_store.new.self in
    let T : ℕ → Type 0 = λ n. TakesFaults n mid.read_faults new.read_faults in
    record {
      saves = c.simulate_world-served.ensures.files;
      files_same = c.give_store.ensures.files;
      reads = c.give_store.ensures.only;
      takes = subst T (ap g.S.In.Store.count c.into_feed.ensures) c.give_store.ensures.cause;
      fresh = ap g.S.In.Store.count c.in_ok-world.ensures.feed ∙ c.requires.fresh;
    }

pub returns-clause-files : goal.returns-clause-files
returns-clause-files g c =
    files-given (plan_of c.args.job.now) (g.S.In.Store.count c.in_ok-world.world.feed) (g.S.In.Store.count c.simulate_world-served.new.world.feed) (g.S.Site.view c.args.site.now) (g.S.Site.view c.simulate_world-served.new.site)
    (g.S.Site.view c.give_store.new.self) (given-back g (goal.at.returns-clause-files g c).After-give_store)

pub returns-clause-stopped : goal.returns-clause-stopped
returns-clause-stopped g c =
    let p : Plan = plan_of c.args.job.now in
    let s = c.args.words in
    let named : Named = g.E.Elements.named in
    let heads = c.args.inputs.heads.items in
    let begun = c.in_ok-world.world in
    let told : Type 0 = TellsFeed heads (g.S.In.Store.files c.args.inputs.store) in
    let again : Type 0 = TellsFeed begun.job.job.heads (g.S.In.Store.files begun.feed) in
    let start = g.S.In.Store.count begun.feed in
    let given = g.S.In.Store.count c.simulate_world-served.new.world.feed in
    let old : View = g.S.Site.view c.args.site.now in
    let mid : View = g.S.Site.view c.simulate_world-served.new.site in
    let new : View = g.S.Site.view c.give_store.new.self in
    let same : begun.job.job.heads ≡ heads = (λ i. (c.in_ok-world.ensures.job i).job.heads) ∙ (λ i. (c.in_ok-graph.ensures i).heads) in
    let tells : told → again = tells_same heads begun.job.job.heads (g.S.In.Store.files c.args.inputs.store) (g.S.In.Store.files begun.feed) same (ap g.S.In.Store.files c.in_ok-world.ensures.feed) in
    IfErr-weaker c.simulate_world-served.result
    (ServesPart p s named again (Rose start given) (Rose old.write_faults mid.write_faults) old.files mid.files)
    (ServesPart p s named told (Rose old.read_faults new.read_faults) (Rose old.write_faults new.write_faults) old.files new.files)
    (λ (end : SimEnded) h. part-given p s named told again start given old mid new (given-back g (goal.at.returns-clause-stopped g c).After-give_store) tells end h) c.simulate_world-served.ensures.stopped
