use Rattle.std.proofs.Common.{map, string_bytes}
use Rattle.dask_top.proofs.Completing.{completes}
use Rattle.dask_top.proofs.command.top.Goals as goal

pub returns-clause-complete : goal.returns-clause-complete
returns-clause-complete g c = completes (record { one = c.one_job.ensures; excluded = c.jobs_are_not_refused.ensures }) (map string_bytes c.args.words.now) (g.S.Site.view c.args.site.now) (g.S.Site.view c.obey_run-end.new.site) c.status.result
    (record { end = c.obey_run-end.result; is_status = c.status.ensures; obeys = c.obey_run-end.ensures })
