use Rattle.std.proofs.Common.{string_bytes, [], ◌∷◌}
use Rattle.job_run.specs.Jobs.{plan_of}
use Rattle.dask_top.specs.Commands.{Simulation}
use Rattle.dask_top.proofs.Simulating.{sim_performs}
use Rattle.dask_top.proofs.command.simulate.Goals as goal

pub returns-in-Ok : goal.returns-in-Ok
returns-in-Ok g c = sim_performs (string_bytes c.args.words.job ∷ []) (plan_of c.in-Ok.job) c.args.words (g.S.Site.view c.args.site.now) (g.S.Site.view c.open_job.new.site) (g.S.Site.view c.simulate_job-end.new.site) (g.S.Site.view c.tell_sim.new.site) c.simulate_job-end.result c.tell_sim.result
    (rw c.from_ref.ensures.value at c.in-Ok.ensures.read) c.simulate_job-end.ensures c.tell_sim.ensures.told c.tell_sim.ensures.only c.tell_sim.ensures.notes

pub returns-in-Err : goal.returns-in-Err
returns-in-Err g c = let ends = rw c.from_ref.ensures.value at c.in-Err.ensures.ends in ends (Simulation c.args.words)
