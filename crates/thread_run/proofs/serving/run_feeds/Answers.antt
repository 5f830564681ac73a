use Rattle.std.proofs.Common.{◌*◌, ap, arith, inl, inr, map, string_bytes}
use Rattle.std.specs.Prelude.{◌⊎◌, IsTrue, vec_len}
use Rattle.std.proofs.lemmas.Result.{IfErr-weaker, IfOk-weaker}
use Rattle.io_edge.specs.Cause.{Rose}
use Rattle.io_edge.specs.View.{View}
use Rattle.job_run.specs.Jobs.{plan_of}
use Rattle.job_run.specs.Plan.{Plan}
use Rattle.job_run.specs.Values.{Named}
use Rattle.node_runner.specs.Runs.{numbers as numbers_of}
use Rattle.thread_run.specs.Ends.{left_as}
use Rattle.thread_run.specs.Losses.{losses_in}
use Rattle.thread_run.specs.Serving.{HasShort, ServesAll, ServesPart}
use Rattle.thread_run.proofs.Openings.{opens-as}
use Rattle.thread_run.proofs.Serves.{all-before, part-before, part_none, rose_after, rose_first, serves-none, serves-opened}
use Rattle.thread_run.proofs.serving.run_feeds.Goals as goal

-- no memory for the feeds
pub returns-in_default-clause-files : goal.returns-in_default-clause-files
returns-in_default-clause-files g c =
    let p : Plan = plan_of c.args.job.now in
    let s = g.S.Site.view in
    let old : View = s c.args.site.now in
    let mid : View = s c.open_feeds.new.site in
    let threads = c.args.plan.now.threads in
    serves-none p (numbers_of c.args.plan.now * threads) old mid
    (opens-as (map string_bytes c.as_slice-names.result.now) p.inputs c.numbers.result (numbers_of c.args.plan.now) threads old mid (ap (map string_bytes) c.as_slice-names.ensures.value) c.numbers.ensures c.open_feeds.ensures.opens)

pub returns-in_default-clause-stopped : goal.returns-in_default-clause-stopped
returns-in_default-clause-stopped g c =
    let p : Plan = plan_of c.args.job.now in
    let s = g.S.Site.view in
    let old : View = s c.args.site.now in
    let mid : View = s c.open_feeds.new.site in
    let o = c.open_feeds.ensures.opens in
    part_none p (losses_in c.args.plan.now) g.E.Elements.named (IsTrue g.V.Veil.told) (Rose old.read_faults mid.read_faults) (Rose old.write_faults mid.write_faults) old.files mid.files o.held o.created

pub returns-clause-files : goal.returns-clause-files
returns-clause-files g c =
    let p : Plan = plan_of c.args.job.now in
    let s = g.S.Site.view in
    let old : View = s c.args.site.now in
    let mid : View = s c.open_feeds.new.site in
    let new : View = s c.run_saved.new.site in
    let threads = c.args.plan.now.threads in
    serves-opened p (numbers_of c.args.plan.now * threads) old mid new
    (opens-as (map string_bytes c.as_slice-names.result.now) p.inputs c.numbers.result (numbers_of c.args.plan.now) threads old mid (ap (map string_bytes) c.as_slice-names.ensures.value) c.numbers.ensures c.open_feeds.ensures.opens)
    c.run_saved.ensures.files

pub returns-clause-served : goal.returns-clause-served
returns-clause-served g c =
    let p : Plan = plan_of c.args.job.now in
    let named : Named = g.E.Elements.named in
    let told = IsTrue g.V.Veil.told in
    let s = g.S.Site.view in
    let old : View = s c.args.site.now in
    let mid : View = s c.open_feeds.new.site in
    let new : View = s c.run_saved.new.site in
    let o = c.open_feeds.ensures.opens in
    IfOk-weaker c.run_saved.result.0 (λ _. ServesAll p named told mid.files new.files) (λ _. ServesAll p named told old.files new.files) (λ _ all. all-before p named told old.files mid.files new.files o.held o.created o.tells all)
    c.run_saved.ensures.served

pub returns-clause-stopped : goal.returns-clause-stopped
returns-clause-stopped g c =
    let p : Plan = plan_of c.args.job.now in
    let named : Named = g.E.Elements.named in
    let told = IsTrue g.V.Veil.told in
    let s = g.S.Site.view in
    let old : View = s c.args.site.now in
    let mid : View = s c.open_feeds.new.site in
    let new : View = s c.run_saved.new.site in
    let o = c.open_feeds.ensures.opens in
    let most = losses_in c.args.plan.now in
    let reads : Type 0 = HasShort (map (λ v. vec_len v) c.in-Ok.feeds.items) c.args.plan.now.threads ⊎ Rose mid.read_faults new.read_faults in
    let writes : Type 0 = Rose mid.write_faults new.write_faults in
    IfErr-weaker c.run_saved.result.0 (λ e. ServesPart p most named told reads writes mid.files new.files (left_as e)) (λ e. ServesPart p most named told (Rose old.read_faults new.read_faults) (Rose old.write_faults new.write_faults) old.files new.files (left_as e))
    (λ end part. part-before p most named told (Rose old.read_faults new.read_faults) reads (Rose old.write_faults new.write_faults) writes old.files mid.files new.files (left_as end) o.held o.created o.tells
    (λ why. elim why [
      | inl short ↦ rose_after old.read_faults mid.read_faults new.read_faults c.run_saved.ensures.files.read_later (c.in-Ok.ensures.short short.0 short.1 short.2)
      | inr rose ↦ rose_first old.read_faults mid.read_faults new.read_faults o.later rose
    ])
    (λ rose. rose_first old.write_faults mid.write_faults new.write_faults (omega (arith, o.only.write_faults)) rose) part)
    c.run_saved.ensures.stopped
