use Rattle.cluster_laws.proofs.TruthWorker.{taken_runs, true_step, sends_true}
use Rattle.cluster_laws.proofs.world.a_workers_blocks_are_true.Goals as goal

pub returns : goal.returns
returns c j w e t f h = let r = true_step j w e (taken_runs j w e t) f h in (r.facts, sends_true j _ r.out)
