use Rattle.std.proofs.Common.{arith}
use Rattle.job_run.specs.Jobs.{plan_of}
use Rattle.job_run.proofs.Naming.{fits_told}
use Rattle.job_run.proofs.Running.{HaveAccepted, done_runs, lowering_runs, memory_runs, print_fault_runs, reading_runs, stopped_runs}
use Rattle.job_run.proofs.run.run_job.Goals as goal

pub returns-in-Err : goal.returns-in-Err
returns-in-Err g c = lowering_runs (plan_of c.args.job.now) (g.S.Site.view c.args.site.now) c.in-Err.end c.in-Err.ensures.cause

pub returns-in_default : goal.returns-in_default
returns-in_default g c = memory_runs (plan_of c.args.job.now) (g.S.Site.view c.args.site.now)

pub returns-in-Err-open_inputs : goal.returns-in-Err-open_inputs
returns-in-Err-open_inputs g c =
    let e = c.in-Err-open_inputs.ensures in
    reading_runs (plan_of c.args.job.now) (g.S.Site.view c.args.site.now) (g.S.Site.view c.open_inputs.new.site) c.in-Err-open_inputs.end c.in-Ok.ensures.made.small e.cause e.opens e.only

pub evaluate-requires-clause-fits : goal.evaluate-requires-clause-fits
evaluate-requires-clause-fits g c κs within =
    let i = c.in-Ok-open_inputs.inputs in
    let e = c.in-Ok-open_inputs.ensures in
    fits_told _ (g.S.In.Store.files i.store) i.heads.items e.heads (omega (arith, e.count, e.shows.places, c.requires.inputs))

pub returns-in_default-evaluate : goal.returns-in_default-evaluate
returns-in_default-evaluate g c =
    let p = plan_of c.args.job.now in
    let old = g.S.Site.view c.args.site.now in
    let mid = g.S.Site.view c.open_inputs.new.site in
    let new = g.S.Site.view c.evaluate.new.site in
    let i = c.in-Ok-open_inputs.inputs in
    let e = c.in-Ok-open_inputs.ensures in
    let files = g.S.In.Store.files i.store in
    let heads = i.heads.items in
    let a : HaveAccepted p old mid files heads = record {
      small = c.in-Ok.ensures.made.small;
      fit = e.fit;
      inputs = record { shows = e.shows; declared = c.requires.inputs; heads_are = e.heads; count = e.count };
      opens = e.opens;
      opened = e.opened;
      only = e.only;
      later = e.later;
    } in
    stopped_runs p old mid new files heads c.evaluate.result a c.evaluate.ensures c.in_default-evaluate.not-Done

pub returns-in-Ok-print_full : goal.returns-in-Ok-print_full
returns-in-Ok-print_full g c =
    let p = plan_of c.args.job.now in
    let old = g.S.Site.view c.args.site.now in
    let mid = g.S.Site.view c.open_inputs.new.site in
    let saved = g.S.Site.view c.evaluate.new.site in
    let new = g.S.Site.view c.print_full.new.site in
    let i = c.in-Ok-open_inputs.inputs in
    let e = c.in-Ok-open_inputs.ensures in
    let files = g.S.In.Store.files i.store in
    let heads = i.heads.items in
    let a : HaveAccepted p old mid files heads = record {
      small = c.in-Ok.ensures.made.small;
      fit = e.fit;
      inputs = record { shows = e.shows; declared = c.requires.inputs; heads_are = e.heads; count = e.count };
      opens = e.opens;
      opened = e.opened;
      only = e.only;
      later = e.later;
    } in
    done_runs p old mid saved new files heads a c.in-Done.ensures c.print_full.ensures.only (rw (c.as_bytes.ensures.value, c.in-Ok-lines.ensures) at c.in-Ok-print_full.ensures.printed)

pub returns : goal.returns
returns g c =
    let p = plan_of c.args.job.now in
    let old = g.S.Site.view c.args.site.now in
    let mid = g.S.Site.view c.open_inputs.new.site in
    let saved = g.S.Site.view c.evaluate.new.site in
    let new = g.S.Site.view c.print_full.new.site in
    let i = c.in-Ok-open_inputs.inputs in
    let e = c.in-Ok-open_inputs.ensures in
    let files = g.S.In.Store.files i.store in
    let heads = i.heads.items in
    let a : HaveAccepted p old mid files heads = record {
      small = c.in-Ok.ensures.made.small;
      fit = e.fit;
      inputs = record { shows = e.shows; declared = c.requires.inputs; heads_are = e.heads; count = e.count };
      opens = e.opens;
      opened = e.opened;
      only = e.only;
      later = e.later;
    } in
    print_fault_runs p old mid saved new files heads a c.in-Done.ensures c.print_full.ensures.only (rw (c.as_bytes.ensures.value, c.in-Ok-lines.ensures) at c.in-Err-print_full.ensures.part) c.in-Err-print_full.ensures.cause.failed
