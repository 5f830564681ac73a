use Rattle.node_runner.proofs.run.run_rows.Goals as goal

pub returns-clause-scheduler : goal.returns-clause-scheduler
returns-clause-scheduler g c = c.run_nodes-closed.ensures.scheduler (g.J.JobSpec.graph c.args.job.now) c.requires.scheduler

pub returns-clause-workers : goal.returns-clause-workers
returns-clause-workers g c = c.run_nodes-closed.ensures.workers (g.J.JobSpec.graph c.args.job.now) c.requires.workers

pub returns-clause-clients : goal.returns-clause-clients
returns-clause-clients g c = c.run_nodes-closed.ensures.clients (g.J.JobSpec.graph c.args.job.now) c.requires.client
