use Rattle.std.proofs.Common.{rules}
use Rattle.cluster_sim.specs.Plans.{plan_of}
use Rattle.cluster_table.proofs.Setups.{plan_is}
use Rattle.cluster_table.proofs.simulation.setup.plan_with.Goals as goal

pub returns : goal.returns
returns c = plan_is (plan_of (record { workers = c.args.workers; threads = c.args.threads; script = c.args.script })) (search rules) (search rules) (search rules) (search rules)
