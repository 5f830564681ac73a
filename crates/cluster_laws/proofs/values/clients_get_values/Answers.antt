use Rattle.cluster_laws.proofs.TruthWorld.{true_after}
use Rattle.cluster_laws.specs.Blocks.{job_of, setting_of}
use Rattle.cluster_laws.proofs.BlockValues.{values_of, got_block, blamed}
use Rattle.cluster_laws.proofs.values.clients_get_values.Goals as goal

pub returns-clause-got : goal.returns-clause-got
returns-clause-got g c h clients saturation allowed es l x k b e =
    ((values_of (setting_of (g.J.JobSpec.graph c.args.job.now) clients saturation allowed) (g.J.JobSpec.operation c.args.job.now) h es l).got x k).right b e

pub returns-clause-all : goal.returns-clause-all
returns-clause-all g c h clients saturation allowed es l x k e =
    got_block (setting_of (g.J.JobSpec.graph c.args.job.now) clients saturation allowed) (g.J.JobSpec.operation c.args.job.now) h es l x k e

pub returns-clause-failed : goal.returns-clause-failed
returns-clause-failed g c h clients saturation allowed es l x k b e =
    let s = setting_of (g.J.JobSpec.graph c.args.job.now) clients saturation allowed in
    blamed s (g.J.JobSpec.operation c.args.job.now) h _ k b (((true_after (job_of s (g.J.JobSpec.operation c.args.job.now)) h es l).clients x).failed k b e)
