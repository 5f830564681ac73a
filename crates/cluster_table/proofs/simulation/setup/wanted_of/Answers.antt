use Rattle.std.proofs.Common.{rules}
use Rattle.cluster_table.proofs.Setups.{are_wanted}
use Rattle.cluster_table.proofs.simulation.setup.wanted_of.Goals as goal

pub returns : goal.returns
returns c = are_wanted c.args.count c.args.keys (search rules) (search rules)
