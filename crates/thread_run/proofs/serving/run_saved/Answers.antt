use Rattle.std.proofs.Common.{◌≡◌, ◌∙◌, ap, arith, inl, inr, map, sym, subst, Err}
use Rattle.std.specs.Prelude.{◌⊎◌, IsTrue, vec_len}
use Rattle.io_edge.specs.Cause.{Rose}
use Rattle.io_edge.specs.View.{Files, View}
use Rattle.nd_shape.specs.Block.{Array}
use Rattle.cluster_msgs.specs.Labels.{LabelFacts}
use Rattle.block_lowering.specs.Jobs.{graph_of}
use Rattle.job_run.specs.Jobs.{plan_of}
use Rattle.job_run.specs.Plan.{Plan}
use Rattle.job_run.specs.Values.{Named, tasks_of}
use Rattle.job_run.specs.Wanted.{IsWantedOf}
use Rattle.thread_run.specs.Losses.{losses_in}
use Rattle.thread_run.specs.Reports.{label}
use Rattle.thread_run.specs.Saver.{AreSaved, Saves}
use Rattle.thread_run.specs.Serving.{HasShort}
use Rattle.thread_run.proofs.Saved.{all-served, facts-are, facts_of, keys-are, label-of, leaves, part-served}
use Rattle.thread_run.proofs.SaverEnds.{IsServed, still-created}
use Rattle.thread_run.proofs.Serves.{SavesFiles, leaves-none, outgrew, rose_after, rose_first, serves-saved, served-run, uncreated, why-of}
use Rattle.thread_run.proofs.serving.run_saved.Goals as goal

pub open-requires-clause-keys : goal.open-requires-clause-keys
open-requires-clause-keys g c κs within = keys-are (plan_of c.args.job.now) c.args.graph.now.job.tasks c.shape.result.now c.keys-keys.result c.requires.tasks c.shape.ensures c.keys-keys.ensures

pub open-requires-clause-label : goal.open-requires-clause-label
open-requires-clause-label g c κs within = label-of (plan_of c.args.job.now) g.P.Picks.picked c.args.graph.now (λ j. j.job) g.E.Elements.named g.V.Veil.told g.P.Picks.allowed c.requires.picked c.requires.tasks

-- ## A file couldn't be created

pub returns-in-Err-clause-files : goal.returns-in-Err-clause-files
returns-in-Err-clause-files g c =
    let s = g.S.Site.view in
    let o = c.open.ensures in
    let made : SavesFiles (plan_of c.args.job.now) (s c.args.site.now) (s c.open.new.site) = record { others = o.others; tells = o.tells; opened = o.opened; created = o.some; only = o.only; later = o.cause.later } in
    serves-saved (plan_of c.args.job.now) ⊥ (s c.args.site.now) (s c.open.new.site) (s c.give_all.new.site) (s c.give_all.new.site) made c.give_all.ensures (leaves-none (plan_of c.args.job.now) (s c.give_all.new.site))

pub returns-in-Err-clause-stopped : goal.returns-in-Err-clause-stopped
returns-in-Err-clause-stopped g c =
    let p : Plan = plan_of c.args.job.now in
    let named : Named = g.E.Elements.named in
    let s = g.S.Site.view in
    let old : View = s c.args.site.now in
    let made : View = s c.open.new.site in
    let new : View = s c.give_all.new.site in
    uncreated p (losses_in c.args.plan.now) named (IsTrue g.V.Veil.told) (HasShort (map (λ v. vec_len v) c.args.feeds.items) c.args.plan.now.threads ⊎ Rose old.read_faults new.read_faults) (Rose old.write_faults new.write_faults) old.files made.files new.files c.in-Err.fault c.unsaved.result
    c.requires.runs (c.laws_hold.ensures named) c.in-Err.ensures.left c.give_all.ensures.files c.open.ensures.some
    (λ is. rose_after old.write_faults made.write_faults new.write_faults (omega (arith, c.give_all.ensures.only.write_faults)) (c.open.ensures.cause.failed (c.in-Err.is ∙ ap Err is))) c.unsaved.ensures

-- ## The run

pub give-written-requires-after_bounds : goal.give-written-requires-after_bounds
give-written-requires-after_bounds g c κs within =
    let s = g.S.Site.view in
    let first : Saves = c.in-Ok.saver in
    let last : Saves = c.run_cluster-ends.result.1.saver in
    still-created first.files last.files (s c.open.new.site).files (s c.give_feeds.new.site).files c.run_cluster-ends.ensures.leads.same (ap (λ (f : Files). f.created) c.give_feeds.ensures.files) c.in-Ok.ensures.there

pub returns-clause-files : goal.returns-clause-files
returns-clause-files g c =
    let p : Plan = plan_of c.args.job.now in
    let s = g.S.Site.view in
    let o = c.open.ensures in
    let w = c.give-written.ensures in
    let made : SavesFiles p (s c.args.site.now) (s c.open.new.site) = record { others = o.others; tells = o.tells; opened = o.opened; created = o.some; only = o.only; later = o.cause.later } in
    serves-saved p _ (s c.args.site.now) (s c.open.new.site) (s c.give_feeds.new.site) (s c.give-written.new.site) made c.give_feeds.ensures
    (leaves p c.in-Ok.saver c.run_cluster-ends.result.1.saver c.in-Ok.ensures.open c.run_cluster-ends.ensures.leads (s c.give_feeds.new.site) (s c.give-written.new.site) w.gives w.only w.later)

pub returns-clause-histories : goal.returns-clause-histories
returns-clause-histories g c =
    let ends = c.run_cluster-ends.result.0 in
    served-run (facts_of g.P.Picks.picked (λ j. j.job) g.E.Elements.named g.V.Veil.told g.P.Picks.allowed) (graph_of c.args.graph.now.job) c.args.plan.now c.args.wanted.now.all _ ends.result ends.left.items ends.histories c.ended.result c.run_cluster-ends.ensures.ended
    c.ended.ensures.given c.ended.ensures.histories

pub returns-clause-served : goal.returns-clause-served
returns-clause-served g c =
    let p : Plan = plan_of c.args.job.now in
    let named : Named = g.E.Elements.named in
    let told = g.V.Veil.told in
    let s = g.S.Site.view in
    let old : View = s c.args.site.now in
    let back : View = s c.give_feeds.new.site in
    let new : View = s c.give-written.new.site in
    let first : Saves = c.in-Ok.saver in
    let last : Saves = c.run_cluster-ends.result.1.saver in
    let allowed = g.P.Picks.allowed in
    let is : facts_of g.P.Picks.picked (λ j. j.job) named told allowed ≡ label told allowed named (tasks_of p) = facts-are g.P.Picks.picked c.args.graph.now (λ j. j.job) named told allowed (tasks_of p) c.requires.picked c.requires.tasks in
    let A : LabelFacts Array → Type 0 = λ l. AreSaved l last in
    let none = c.in-Ok.ensures.none in
    let r : IsServed p named told allowed first last old.files back.files new.files = record {
      runs = c.requires.runs;
      laws = c.laws_hold.ensures named;
      wanted = subst (IsWantedOf p) (sym none.wanted_is) c.requires.wanted;
      keys = none.keys_are ∙ keys-are p c.args.graph.now.job.tasks c.shape.result.now c.keys-keys.result c.requires.tasks c.shape.ensures c.keys-keys.ensures;
      open_is = c.in-Ok.ensures.open;
      fresh = c.in-Ok.ensures.fresh;
      on = c.run_cluster-ends.ensures.leads;
      saved = subst A is c.give-written.ensures.saved;
      gives = c.give-written.ensures.gives;
    } in
    all-served p named told allowed first last old.files back.files new.files r (ap (λ (f : Files). f.created) c.give_feeds.ensures.files ∙ c.in-Ok.ensures.created) c.args.wanted.now.all c.ended.result c.run_cluster-ends.result.0.result c.give-written.result
    c.requires.wanted.all_is c.ended.ensures.given c.ended.ensures.written c.run_cluster-ends.ensures.had c.give-written.ensures.sound

pub returns-clause-stopped : goal.returns-clause-stopped
returns-clause-stopped g c =
    let p : Plan = plan_of c.args.job.now in
    let named : Named = g.E.Elements.named in
    let told = g.V.Veil.told in
    let s = g.S.Site.view in
    let old : View = s c.args.site.now in
    let made : View = s c.open.new.site in
    let back : View = s c.give_feeds.new.site in
    let new : View = s c.give-written.new.site in
    let first : Saves = c.in-Ok.saver in
    let last : Saves = c.run_cluster-ends.result.1.saver in
    let ends = c.run_cluster-ends.result.0 in
    let allowed = g.P.Picks.allowed in
    let facts : LabelFacts Array = facts_of g.P.Picks.picked (λ j. j.job) named told allowed in
    let is : facts ≡ label told allowed named (tasks_of p) = facts-are g.P.Picks.picked c.args.graph.now (λ j. j.job) named told allowed (tasks_of p) c.requires.picked c.requires.tasks in
    let A : LabelFacts Array → Type 0 = λ l. AreSaved l last in
    let none = c.in-Ok.ensures.none in
    let r : IsServed p named told allowed first last old.files back.files new.files = record {
      runs = c.requires.runs;
      laws = c.laws_hold.ensures named;
      wanted = subst (IsWantedOf p) (sym none.wanted_is) c.requires.wanted;
      keys = none.keys_are ∙ keys-are p c.args.graph.now.job.tasks c.shape.result.now c.keys-keys.result c.requires.tasks c.shape.ensures c.keys-keys.ensures;
      open_is = c.in-Ok.ensures.open;
      fresh = c.in-Ok.ensures.fresh;
      on = c.run_cluster-ends.ensures.leads;
      saved = subst A is c.give-written.ensures.saved;
      gives = c.give-written.ensures.gives;
    } in
    let short : Type 0 = HasShort (map (λ v. vec_len v) c.args.feeds.items) c.args.plan.now.threads in
    let reads : Type 0 = short ⊎ Rose old.read_faults new.read_faults in
    part-served p named told allowed first last old.files back.files new.files r (ap (λ (f : Files). f.created) c.give_feeds.ensures.files ∙ c.in-Ok.ensures.created) (losses_in c.args.plan.now) reads (Rose old.write_faults new.write_faults) facts c.args.wanted.now.all c.ended.result ends.result
    c.give-written.result is c.requires.wanted.all_is
    (why-of facts (graph_of c.args.graph.now.job) c.args.plan.now c.args.wanted.now.all _ reads ends.result ends.left.items ends.histories
    (λ f. elim f [
      | inl few ↦ inl few
      | inr failed ↦ inr (rose_after old.read_faults back.read_faults new.read_faults (omega (arith, c.give-written.ensures.only.read_faults)) (rose_first old.read_faults made.read_faults back.read_faults (omega (arith, c.open.ensures.only.read_faults)) (c.give_feeds.ensures.risen failed)))
    ]) c.run_cluster-ends.ensures.ended)
    (λ e. rose_first old.write_faults back.write_faults new.write_faults (omega (arith, c.open.ensures.cause.later, c.give_feeds.ensures.only.write_faults)) (c.give-written.ensures.failed e)) c.ended.ensures.stopped

pub returns-clause-outgrown : goal.returns-clause-outgrown
returns-clause-outgrown g c = λ is.
    let ends = c.run_cluster-ends.result.0 in
    outgrew (facts_of g.P.Picks.picked (λ j. j.job) g.E.Elements.named g.V.Veil.told g.P.Picks.allowed) (graph_of c.args.graph.now.job) c.args.plan.now c.args.wanted.now.all _ ends.result ends.left.items ends.histories
    (c.ended.ensures.events is) c.run_cluster-ends.ensures.ended
