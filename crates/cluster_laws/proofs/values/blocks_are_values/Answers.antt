use Rattle.cluster_laws.proofs.BlockValues.{values_of, world_of, legal_is}
use Rattle.cluster_laws.proofs.values.blocks_are_values.Goals as goal

pub returns-clause-values : goal.returns-clause-values
returns-clause-values g c s op h es l = values_of s op h es l

pub returns-clause-world : goal.returns-clause-world
returns-clause-world g c s op h es l = world_of s op h es l

pub returns-clause-legal : goal.returns-clause-legal
returns-clause-legal g c s op h es = legal_is s op h es
