use Rattle.std.proofs.Common.{◌≡◌, List, Err, Some, true, ap, sym, ◌∙◌, subst}
use Rattle.std.specs.Option.{option_map}
use Rattle.io_edge.specs.Cause.{Rose}
use Rattle.io_edge.specs.View.{Files}
use Rattle.block_kernels.specs.Kernels.{result_shape}
use Rattle.cluster_msgs.specs.Shape.{deps_of}
use Rattle.cluster_msgs.specs.Values.{val}
use Rattle.block_lowering.specs.Jobs.{TellsFeed, dims_of}
use Rattle.task_graph.specs.declared.graph.Task.{Task}
use Rattle.task_graph.specs.Graphs.{operation, shape_of, task_at}
use Rattle.cluster_rules.specs.Derived.{is_in}
use Rattle.cluster_rules.specs.Draw.{Served}
use Rattle.cluster_rules.specs.Runs.{event_limit}
use Rattle.cluster_rules.specs.Sched.{Setting}
use Rattle.cluster_rules.specs.World.{Job}
use Rattle.cluster_laws.specs.Blocks.{job_of}
use Rattle.cluster_world.specs.Worlds.{setting, world}
use Rattle.cluster_sim.specs.Drawn.{word_of}
use Rattle.cluster_sim.specs.Faults.{key_of}
use Rattle.cluster_sim.specs.Simulations.{IsReported, IsUnfinished}
use Rattle.cluster_sim.specs.declared.ended.Fault.{Fault}
use Rattle.cluster_sim.specs.declared.ended.Fault.TheVariants as faults
use Rattle.cluster_sim.specs.declared.whole.SimEnd.{SimEnd}
use Rattle.job_run.specs.Evaluating.{HasLaws}
use Rattle.job_run.specs.Jobs.{plan_of}
use Rattle.job_run.specs.Plan.{Plan}
use Rattle.job_run.specs.Values.{Named, tasks_of}
use Rattle.sim_run.specs.declared.ends.SimEnded.{SimEnded}
use Rattle.sim_run.specs.Simulated.{IsKilled, sim_plan}
use Rattle.sim_run.proofs.Got.{has-all, has-run, wanted-for}
use Rattle.sim_run.proofs.MannedLemmas.{not_left_alone}
use Rattle.sim_run.proofs.Stops.{HasServed, blamed-at, feed-rose, got-all, job-is, kill-at, killed-at, left-right, of-plan, part-bare, serves-all, stops-by, zero-stops}
use Rattle.sim_run.proofs.serving.simulate_world.Given.{Over}
use Rattle.sim_run.proofs.serving.simulate_world.Goals as goal
use Rattle.sim_run.proofs.serving.simulate_world.Goals.{After-as_slice-2}

pub simulate-requires-clause-wanted : goal.simulate-requires-clause-wanted
simulate-requires-clause-wanted g c κs within =
    let p : Plan = plan_of c.args.job.now in
    let laws : HasLaws p g.E.Elements.named = c.laws_hold.ensures g.E.Elements.named in
    wanted-for p (setting c.args.world.now).shape c.args.wanted.now.all c.requires.runs laws.expression (ap (λ (x : Setting). x.shape) c.requires.setting) c.requires.wanted.all_is

pub ended-requires : goal.ended-requires
ended-requires g c = λ e. not_left_alone (setting c.args.world.now) c.args.words c.args.wanted.now.all (world c.simulate.new.world) c.requires.words.manned (c.in-Err.ensures.stuck (ap Err e))

pub returns-in-Err-clause-stopped : goal.returns-in-Err-clause-stopped
returns-in-Err-clause-stopped g c =
    let p : Plan = plan_of c.args.job.now in
    let s = c.args.words in
    let named : Named = g.E.Elements.named in
    let old = c.args.world.now in
    let new = c.simulate.new.world in
    let told : Type 0 = TellsFeed old.job.job.heads (g.S.In.Store.files old.feed) in
    let files : Files = (g.S.Site.view c.args.site.now).files in
    let reads : Type 0 = Rose (g.S.In.Store.count old.feed) (g.S.In.Store.count new.feed) in
    let writes : Type 0 = Rose (g.S.Site.view c.args.site.now).write_faults (g.S.Site.view c.args.site.now).write_faults in
    let op = operation named old.job.job.tasks in
    let job = job_of (setting old) op in
    let same = job-is p s named (setting old) op c.requires.setting (ap (operation named) c.requires.tasks) in
    let wanted = c.args.wanted.now.all in
    let stops = stops-by p s named told reads writes c.in-Err.error c.ended.result c.ended.ensures
    (λ e t. of-plan p s named job wanted (λ (j : Job) ks. IsUnfinished j (word_of s.settings.number) (sim_plan s) ks event_limit) same c.requires.wanted.all_is (c.in-Err.ensures.cut_off (ap Err e) t))
    (λ e. feed-rose SimEnd c.in-Err.error (g.S.In.Store.count old.feed) (g.S.In.Store.count new.feed) c.in-Err.ensures.faults e) in
    part-bare p s named told reads writes files c.ended.result stops

pub returns-in-Some-Zero-clause-stopped : goal.returns-in-Some-Zero-clause-stopped
returns-in-Some-Zero-clause-stopped g c =
    let p : Plan = plan_of c.args.job.now in
    let s = c.args.words in
    let named : Named = g.E.Elements.named in
    let old = c.args.world.now in
    let new = c.simulate.new.world in
    let told : Type 0 = TellsFeed old.job.job.heads (g.S.In.Store.files old.feed) in
    let files : Files = (g.S.Site.view c.args.site.now).files in
    let reads : Type 0 = Rose (g.S.In.Store.count old.feed) (g.S.In.Store.count new.feed) in
    let writes : Type 0 = Rose (g.S.Site.view c.args.site.now).write_faults (g.S.Site.view c.args.site.now).write_faults in
    let op = operation named old.job.job.tasks in
    let fault = c.in-Ok.end.fault in
    let is : fault ≡ Some (faults.Zero c.in-Some-Zero.key) = c.in-Some-Zero.is ∙ ap (λ (f : Fault). Some f) (rw c.in-Some-Zero.is at c.in-Some-Zero.field-0-is) in
    part-bare p s named told reads writes files _
    (zero-stops p s named told reads writes c.in-Some-Zero.key c.ended_at.result c.requires.runs (c.laws_hold.ensures named) c.ended_at.ensures
    (λ t. let r = c.in-Ok.ensures.served t in
    blamed-at p named (job_of (setting old) op) r.events (setting old).shape op c.args.wanted.now.all fault c.in-Some-Zero.key (ap (λ (x : Setting). x.shape) c.requires.setting) (ap (operation named) c.requires.tasks) c.requires.wanted.all_is is
    (c.in-Ok.ensures.blame t r.events r.simulated)))

pub returns-in-Some-Killed-clause-stopped : goal.returns-in-Some-Killed-clause-stopped
returns-in-Some-Killed-clause-stopped g c =
    let p : Plan = plan_of c.args.job.now in
    let s = c.args.words in
    let named : Named = g.E.Elements.named in
    let old = c.args.world.now in
    let new = c.simulate.new.world in
    let told : Type 0 = TellsFeed old.job.job.heads (g.S.In.Store.files old.feed) in
    let files : Files = (g.S.Site.view c.args.site.now).files in
    let reads : Type 0 = Rose (g.S.In.Store.count old.feed) (g.S.In.Store.count new.feed) in
    let writes : Type 0 = Rose (g.S.Site.view c.args.site.now).write_faults (g.S.Site.view c.args.site.now).write_faults in
    let op = operation named old.job.job.tasks in
    let job = job_of (setting old) op in
    let same = job-is p s named (setting old) op c.requires.setting (ap (operation named) c.requires.tasks) in
    let wanted = c.args.wanted.now.all in
    let key = c.in-Some-Killed.key in
    let losses = c.in-Some-Killed.losses in
    let fault = c.in-Ok.end.fault in
    let is : fault ≡ Some (faults.Killed key losses) = c.in-Some-Killed.is ∙ ap (λ (f : Fault). Some f) (rw c.in-Some-Killed.is at c.in-Some-Killed.field-0-is) in
    part-bare p s named told reads writes files _ (
      kill-at s (setting old).allowed fault key losses (ap (λ (x : Setting). x.allowed) c.requires.setting) is c.in-Ok.ensures.bounded,
      λ t. let r = c.in-Ok.ensures.served t in
          of-plan p s named job wanted (λ (j : Job) ks. IsKilled j ks s key) same c.requires.wanted.all_is
          (killed-at job wanted s (val (deps_of (setting old).shape) op) r.events c.in-Ok.end.turns (world new) fault key losses is r.simulated (c.in-Ok.ensures.blame t r.events r.simulated)),
    )

pub save_all-requires-clause-has : goal.save_all-requires-clause-has
save_all-requires-clause-has g c κs within =
    let p : Plan = plan_of c.args.job.now in
    let laws : HasLaws p g.E.Elements.named = c.laws_hold.ensures g.E.Elements.named in
    let new = c.simulate.new.world in
    let tasks : new.job.job.tasks ≡ tasks_of p = (λ i. (c.in-Ok.ensures.stays.job i).job.tasks) ∙ c.requires.tasks in
    has-all p new (dims_of new.job.job) c.as_slice.result.now c.as_slice-2.result.now c.requires.runs laws.expression (c.as_slice.ensures ∙ c.requires.wanted.saved_is) (c.as_slice-2.ensures ∙ c.requires.wanted.layouts_are) c.in-Ok.ensures.going
    (λ k e. c.in-Ok.ensures.all.0 c.in-None.is k (subst (λ ks. is_in k ks ≡ true) (sym c.requires.wanted.all_is) e)) (λ k. ap (λ (ts : List Task). result_shape (task_at ts k).spec) tasks)

-- what the simulation came to, where the client got all
served-at : (g : Over) (c : After-as_slice-2 g) → HasServed (plan_of c.args.job.now) c.args.words g.E.Elements.named (TellsFeed c.args.world.now.job.job.heads (g.S.In.Store.files c.args.world.now.feed)) c.simulate.new.world (option_map key_of c.in-Ok.end.fault) c.in-Ok.end.report c.in-Ok.end.turns
served-at g c =
    let p : Plan = plan_of c.args.job.now in
    let s = c.args.words in
    let named : Named = g.E.Elements.named in
    let old = c.args.world.now in
    let new = c.simulate.new.world in
    let laws : HasLaws p named = c.laws_hold.ensures named in
    let wanted = c.args.wanted.now.all in
    let tasks : new.job.job.tasks ≡ tasks_of p = (λ i. (c.in-Ok.ensures.stays.job i).job.tasks) ∙ c.requires.tasks in
    let graph : (setting new).shape ≡ shape_of (tasks_of p) = ap (λ (x : Setting). x.shape) (c.in-Ok.ensures.stays.setting ∙ c.requires.setting) in
    let op = operation named old.job.job.tasks in
    let same = job-is p s named (setting old) op c.requires.setting (ap (operation named) c.requires.tasks) in
    record {
      runs = c.requires.runs;
      laws = laws;
      run = λ t. has-run p named new wanted (c.in-Ok.ensures.made t) (ap (operation named) tasks) graph c.requires.runs laws.expression c.requires.wanted.small c.requires.wanted.all_is (c.in-Ok.ensures.all.0 c.in-None.is);
      none = ap (option_map key_of) c.in-None.is;
      reported = λ t. of-plan p s named (job_of (setting old) op) wanted (λ (j : Job) ks. IsReported j (word_of s.settings.number) (sim_plan s) ks (Served c.in-Ok.end.turns (option_map key_of c.in-Ok.end.fault)) (world new) c.in-Ok.end.report) same c.requires.wanted.all_is (c.in-Ok.ensures.served t);
    }

pub returns-in-Ok-save_all-clause-served : goal.returns-in-Ok-save_all-clause-served
returns-in-Ok-save_all-clause-served g c =
    let p : Plan = plan_of c.args.job.now in
    let told : Type 0 = TellsFeed c.args.world.now.job.job.heads (g.S.In.Store.files c.args.world.now.feed) in
    let before : Files = (g.S.Site.view c.args.site.now).files in
    let after : Files = (g.S.Site.view c.save_all.new.site).files in
    serves-all p c.args.words g.E.Elements.named told c.simulate.new.world (option_map key_of c.in-Ok.end.fault) c.in-Ok.end.report c.in-Ok.end.turns (served-at g (goal.at.returns-in-Ok-save_all-clause-served g c).After-as_slice-2)
    c.as_slice.result.now c.as_slice-2.result.now (c.as_slice.ensures ∙ c.requires.wanted.saved_is) (c.as_slice-2.ensures ∙ c.requires.wanted.layouts_are) before after c.in-Ok-save_all.ensures.left c.in-Ok-save_all.ensures.whole c.in-Ok-save_all.ensures.created

pub returns-in-Err-Failed-clause-stopped : goal.returns-in-Err-Failed-clause-stopped
returns-in-Err-Failed-clause-stopped g c =
    let p : Plan = plan_of c.args.job.now in
    let named : Named = g.E.Elements.named in
    let told : Type 0 = TellsFeed c.args.world.now.job.job.heads (g.S.In.Store.files c.args.world.now.feed) in
    let before : Files = (g.S.Site.view c.args.site.now).files in
    let after : Files = (g.S.Site.view c.save_all.new.site).files in
    let end = c.in-Ok.end in
    let r = served-at g (goal.at.returns-in-Err-Failed-clause-stopped g c).After-as_slice-2 in
    record {
      cause = (got-all p c.args.words named told c.simulate.new.world (option_map key_of end.fault) end.report end.turns r, c.in-Err-Failed.ensures.failed (ap Err c.in-Err-Failed.field-0-is));
      left = left-right p c.args.words named told c.simulate.new.world (option_map key_of end.fault) end.report end.turns r c.as_slice.result.now c.as_slice-2.result.now (c.as_slice.ensures ∙ c.requires.wanted.saved_is) (c.as_slice-2.ensures ∙ c.requires.wanted.layouts_are) before after
          c.in-Err-Failed.ensures.left;
      bare = λ b. absurd b;
    }

pub returns-clause-stopped : goal.returns-clause-stopped
returns-clause-stopped g c =
    let p : Plan = plan_of c.args.job.now in
    let named : Named = g.E.Elements.named in
    let told : Type 0 = TellsFeed c.args.world.now.job.job.heads (g.S.In.Store.files c.args.world.now.feed) in
    let before : Files = (g.S.Site.view c.args.site.now).files in
    let after : Files = (g.S.Site.view c.save_all.new.site).files in
    let end = c.in-Ok.end in
    let r = served-at g (goal.at.returns-clause-stopped g c).After-as_slice-2 in
    record {
      cause = tt;
      left = left-right p c.args.words named told c.simulate.new.world (option_map key_of end.fault) end.report end.turns r c.as_slice.result.now c.as_slice-2.result.now (c.as_slice.ensures ∙ c.requires.wanted.saved_is) (c.as_slice-2.ensures ∙ c.requires.wanted.layouts_are) before after
          c.in-Err-OutOfMemory.ensures.left;
      bare = λ b. absurd b;
    }
