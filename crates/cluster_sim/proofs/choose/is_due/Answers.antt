use Rattle.cluster_sim.proofs.ChooseLemmas.{few_due}
use Rattle.cluster_sim.proofs.choose.is_due.Goals as goal

pub returns-clause-few : goal.returns-clause-few
returns-clause-few c h = few_due _ _ c.args.made c.args.keys h
