use Rattle.std.proofs.Common.{arith}
use Rattle.std.proofs.lemmas.Result.{IfErr-weaker, IfOk-weaker}
use Rattle.job_run.specs.Jobs.{plan_of}
use Rattle.job_run.proofs.Naming.{fits_told}
use Rattle.job_run.proofs.Running.{HaveAccepted}
use Rattle.sim_run.proofs.Ending.{lowering-ends, reading-ends, saves-plan, stopped-ends}
use Rattle.sim_run.proofs.simulated.save_simulated.Goals as goal

pub returns-in-Err-clause-ended : goal.returns-in-Err-clause-ended
returns-in-Err-clause-ended g c = lowering-ends (plan_of c.args.job.now) c.args.words (g.S.Site.view c.args.site.now) c.in-Err.end c.in-Err.ensures.cause

pub returns-in-Err-open_inputs-clause-ended : goal.returns-in-Err-open_inputs-clause-ended
returns-in-Err-open_inputs-clause-ended g c =
    let e = c.in-Err-open_inputs.ensures in
    reading-ends (plan_of c.args.job.now) c.args.words (g.S.Site.view c.args.site.now) (g.S.Site.view c.open_inputs.new.site) c.in-Err-open_inputs.end c.in-Ok.ensures.made.small e.cause e.opens e.only

pub serve-requires-clause-fits : goal.serve-requires-clause-fits
serve-requires-clause-fits g c κs within =
    let i = c.in-Ok-open_inputs.inputs in
    let e = c.in-Ok-open_inputs.ensures in
    fits_told _ (g.S.In.Store.files i.store) i.heads.items e.heads (omega (arith, e.count, e.shows.places, c.requires.runs.inputs))

pub returns-clause-saved : goal.returns-clause-saved
returns-clause-saved g c =
    let p = plan_of c.args.job.now in
    let old = g.S.Site.view c.args.site.now in
    let mid = g.S.Site.view c.open_inputs.new.site in
    let new = g.S.Site.view c.serve.new.site in
    let i = c.in-Ok-open_inputs.inputs in
    let e = c.in-Ok-open_inputs.ensures in
    let files = g.S.In.Store.files i.store in
    let heads = i.heads.items in
    let a : HaveAccepted p old mid files heads = record {
      small = c.in-Ok.ensures.made.small;
      fit = e.fit;
      inputs = record { shows = e.shows; declared = c.requires.runs.inputs; heads_are = e.heads; count = e.count };
      opens = e.opens;
      opened = e.opened;
      only = e.only;
      later = e.later;
    } in
    IfOk-weaker c.serve.result _ _ (λ served all. saves-plan p c.args.words old mid files heads a new served.report served.turns c.serve.ensures.files all) c.serve.ensures.served

pub returns-clause-ended : goal.returns-clause-ended
returns-clause-ended g c =
    let p = plan_of c.args.job.now in
    let old = g.S.Site.view c.args.site.now in
    let mid = g.S.Site.view c.open_inputs.new.site in
    let new = g.S.Site.view c.serve.new.site in
    let i = c.in-Ok-open_inputs.inputs in
    let e = c.in-Ok-open_inputs.ensures in
    let files = g.S.In.Store.files i.store in
    let heads = i.heads.items in
    let a : HaveAccepted p old mid files heads = record {
      small = c.in-Ok.ensures.made.small;
      fit = e.fit;
      inputs = record { shows = e.shows; declared = c.requires.runs.inputs; heads_are = e.heads; count = e.count };
      opens = e.opens;
      opened = e.opened;
      only = e.only;
      later = e.later;
    } in
    IfErr-weaker c.serve.result _ _ (λ end part. stopped-ends p c.args.words old mid files heads a new end c.serve.ensures.files part) c.serve.ensures.stopped
