use Rattle.cluster_msgs.specs.declared.cores.WorkerEvent.TheVariants.{Down as Told}
use Rattle.cluster_rules.proofs.InsideWorker.{in_step, sends_in}
use Rattle.cluster_laws.proofs.world.a_workers_keys_are_there.Goals as goal

pub returns : goal.returns
returns c g w m v h = let r = in_step g w (Told m) v h in (r.facts, sends_in g _ r.out)
