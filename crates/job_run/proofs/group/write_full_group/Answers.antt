use Rattle.job_run.specs.Grouping.{waiting_of}
use Rattle.job_run.specs.Jobs.{plan_of}
use Rattle.job_run.proofs.WaitingBlocks.{held-none}
use Rattle.job_run.proofs.group.write_full_group.Goals as goal

pub returns-clause-held : goal.returns-clause-held
returns-clause-held g c named boxes held =
    held-none (plan_of c.args.job.now) named boxes (waiting_of c.write_group.new.group) c.write_group.new.files
    c.in_ok-write_group.ensures.regions (c.in_ok-write_group.ensures.held named boxes held)
