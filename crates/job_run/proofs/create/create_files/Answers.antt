use Rattle.job_run.specs.Jobs.{plan_of}
use Rattle.job_run.specs.Plan.{names_saved}
use Rattle.job_run.proofs.Counting.{raised_at_most}
use Rattle.job_run.proofs.Creating.{all_created, leaves_all, some_raised}
use Rattle.job_run.proofs.create.create_files.Goals as goal

pub returns-in-Ok-clause-some : goal.returns-in-Ok-clause-some
returns-in-Ok-clause-some g c =
    let old = (g.S.Site.view c.args.site.now).files in
    let new = (g.S.Site.view c.create_each.new.site).files in
    raised_at_most (names_saved (plan_of c.args.job.now)) old.created new.created (all_created (plan_of c.args.job.now) old new c.create_each.new.files c.in-Ok.ensures.all)

pub returns-in-Err-clause-some : goal.returns-in-Err-clause-some
returns-in-Err-clause-some g c =
    some_raised (plan_of c.args.job.now) (g.S.Site.view c.args.site.now).files (g.S.Site.view c.create_each.new.site).files (g.S.Site.view c.give.new.site).files c.create_each.new.files c.in-Err.ensures.some c.give.ensures.gives

pub returns-in-Err-clause-left : goal.returns-in-Err-clause-left
returns-in-Err-clause-left g c =
    leaves_all (plan_of c.args.job.now) (g.S.Site.view c.args.site.now).files (g.S.Site.view c.create_each.new.site).files (g.S.Site.view c.give.new.site).files c.create_each.new.files c.requires.runs c.in-Err.ensures.some c.give.ensures.gives
