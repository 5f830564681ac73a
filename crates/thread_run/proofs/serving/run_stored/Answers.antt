use Rattle.std.proofs.Common.{◌*◌, arith}
use Rattle.std.specs.Prelude.{IsTrue}
use Rattle.std.proofs.lemmas.Result.{IfErr-weaker, IfOk-weaker}
use Rattle.io_edge.specs.Cause.{Rose}
use Rattle.io_edge.specs.View.{View}
use Rattle.job_run.specs.Jobs.{plan_of}
use Rattle.job_run.specs.Plan.{Plan}
use Rattle.job_run.specs.Values.{Named}
use Rattle.node_runner.specs.Runs.{numbers as numbers_of}
use Rattle.thread_run.specs.Ends.{left_as}
use Rattle.thread_run.specs.Losses.{losses_in}
use Rattle.thread_run.specs.Serving.{ServesAll, ServesPart}
use Rattle.thread_run.proofs.Disks.{disk-for}
use Rattle.thread_run.proofs.Fixed.{fixed-kept, told-tells}
use Rattle.thread_run.proofs.Openings.{opens-zero, spills-last}
use Rattle.thread_run.proofs.Serves.{all-between, part-between, part_none, rose_after, rose_first, serves-between, serves-none}
use Rattle.thread_run.proofs.serving.run_stored.Goals as goal

pub open_stores-requires-after_bounds : goal.open_stores-requires-after_bounds
open_stores-requires-after_bounds g c κs within =
    let files = (g.S.Site.view c.args.site.now).files in
    disk-for g.P.Picks.picked (λ j. j.job) g.E.Elements.named g.V.Veil.told files.tells g.P.Picks.allowed (told-tells g.V.Veil.told files (plan_of c.args.job.now).inputs c.requires.fixed.told_is)

pub run_feeds-served-requires-clause-fixed : goal.run_feeds-served-requires-clause-fixed
run_feeds-served-requires-clause-fixed g c κs within =
    let s = g.S.Site.view in
    fixed-kept g.E.Elements.named g.V.Veil.told (plan_of c.args.job.now).inputs c.args.graph.now.job.heads (s c.args.site.now).files (s c.open_stores.new.site).files c.open_stores.ensures.files c.requires.fixed

-- no memory for the stores
pub returns-in_default-clause-files : goal.returns-in_default-clause-files
returns-in_default-clause-files g c =
    let p : Plan = plan_of c.args.job.now in
    let s = g.S.Site.view in
    let most = numbers_of c.args.plan.now * c.args.plan.now.threads in
    serves-none p most (s c.args.site.now) (s c.open_stores.new.site)
    (spills-last p.inputs most (s c.args.site.now) (s c.args.site.now) (s c.open_stores.new.site) (opens-zero p.inputs most (s c.args.site.now)) c.open_stores.ensures)

pub returns-in_default-clause-stopped : goal.returns-in_default-clause-stopped
returns-in_default-clause-stopped g c =
    let p : Plan = plan_of c.args.job.now in
    let s = g.S.Site.view in
    let old : View = s c.args.site.now in
    let new : View = s c.open_stores.new.site in
    part_none p (losses_in c.args.plan.now) g.E.Elements.named (IsTrue g.V.Veil.told) (Rose old.read_faults new.read_faults) (Rose old.write_faults new.write_faults) old.files new.files (λ i. (c.open_stores.ensures.files i).held) (λ i. (c.open_stores.ensures.files i).created)

pub returns-clause-files : goal.returns-clause-files
returns-clause-files g c =
    let s = g.S.Site.view in
    serves-between (plan_of c.args.job.now) (numbers_of c.args.plan.now * c.args.plan.now.threads) (s c.args.site.now) (s c.open_stores.new.site) (s c.run_feeds-served.new.site) (s c.give_stores.new.site) c.open_stores.ensures c.run_feeds-served.ensures.files
    c.give_stores.ensures

pub returns-clause-served : goal.returns-clause-served
returns-clause-served g c =
    let p : Plan = plan_of c.args.job.now in
    let named : Named = g.E.Elements.named in
    let told = IsTrue g.V.Veil.told in
    let s = g.S.Site.view in
    let old : View = s c.args.site.now in
    let disks : View = s c.open_stores.new.site in
    let mid : View = s c.run_feeds-served.new.site in
    let new : View = s c.give_stores.new.site in
    IfOk-weaker c.run_feeds-served.result.0 (λ _. ServesAll p named told disks.files mid.files) (λ _. ServesAll p named told old.files new.files)
    (λ _ all. all-between p named told old.files disks.files mid.files new.files c.open_stores.ensures.files c.give_stores.ensures.files all) c.run_feeds-served.ensures.served

pub returns-clause-stopped : goal.returns-clause-stopped
returns-clause-stopped g c =
    let p : Plan = plan_of c.args.job.now in
    let named : Named = g.E.Elements.named in
    let told = IsTrue g.V.Veil.told in
    let s = g.S.Site.view in
    let old : View = s c.args.site.now in
    let disks : View = s c.open_stores.new.site in
    let mid : View = s c.run_feeds-served.new.site in
    let new : View = s c.give_stores.new.site in
    let most = losses_in c.args.plan.now in
    let reads : Type 0 = Rose disks.read_faults mid.read_faults in
    let writes : Type 0 = Rose disks.write_faults mid.write_faults in
    IfErr-weaker c.run_feeds-served.result.0 (λ e. ServesPart p most named told reads writes disks.files mid.files (left_as e)) (λ e. ServesPart p most named told (Rose old.read_faults new.read_faults) (Rose old.write_faults new.write_faults) old.files new.files (left_as e))
    (λ end part. part-between p most named told (Rose old.read_faults new.read_faults) reads (Rose old.write_faults new.write_faults) writes old.files disks.files mid.files new.files (left_as end) c.open_stores.ensures.files c.give_stores.ensures.files
    (λ rose. rose_after old.read_faults mid.read_faults new.read_faults (omega (arith, c.give_stores.ensures.read_faults)) (rose_first old.read_faults disks.read_faults mid.read_faults (omega (arith, c.open_stores.ensures.read_faults)) rose))
    (λ rose. rose_after old.write_faults mid.write_faults new.write_faults (omega (arith, c.give_stores.ensures.write_faults)) (rose_first old.write_faults disks.write_faults mid.write_faults (omega (arith, c.open_stores.ensures.write_faults)) rose)) part)
    c.run_feeds-served.ensures.stopped
