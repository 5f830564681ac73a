use Rattle.std.proofs.Common.{◌∙◌}
use Rattle.job_run.specs.Jobs.{plan_of}
use Rattle.sim_run.specs.Texts.{lines_of}
use Rattle.sim_run.proofs.Ending.{done-ends, starved-ends, unprinted-ends}
use Rattle.sim_run.proofs.simulated.simulate_job.Goals as goal

pub returns-in_default : goal.returns-in_default
returns-in_default g c =
    let served = c.in-Ok.served in
    starved-ends (plan_of c.args.job.now) c.args.words (g.S.Site.view c.args.site.now) (g.S.Site.view c.save_simulated.new.site) served.report served.turns c.in-Ok.ensures.saved

pub returns-in-Ok-print_full : goal.returns-in-Ok-print_full
returns-in-Ok-print_full g c =
    let p = plan_of c.args.job.now in
    let served = c.in-Ok.served in
    done-ends p c.args.words (g.S.Site.view c.args.site.now) (g.S.Site.view c.save_simulated.new.site) served.report served.turns c.in-Ok.ensures.saved (g.S.Site.view c.print_full.new.site)
    c.as_bytes.result.now c.print_full.ensures.only (◌∙◌ {c = lines_of p served.report served.turns} c.as_bytes.ensures.value c.in-Ok-lines.ensures) c.in-Ok-print_full.ensures.printed

pub returns : goal.returns
returns g c =
    let p = plan_of c.args.job.now in
    let served = c.in-Ok.served in
    unprinted-ends p c.args.words (g.S.Site.view c.args.site.now) (g.S.Site.view c.save_simulated.new.site) served.report served.turns c.in-Ok.ensures.saved (g.S.Site.view c.print_full.new.site)
    c.as_bytes.result.now c.print_full.ensures.only (◌∙◌ {c = lines_of p served.report served.turns} c.as_bytes.ensures.value c.in-Ok-lines.ensures) c.in-Err-print_full.ensures.part
    c.in-Err-print_full.ensures.cause.failed
