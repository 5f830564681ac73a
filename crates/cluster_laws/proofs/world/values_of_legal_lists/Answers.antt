use Rattle.cluster_laws.proofs.TruthWorld.{true_after}
use Rattle.cluster_laws.proofs.world.values_of_legal_lists.Goals as goal

pub returns : goal.returns
returns c = record {
  world = λ j g es l. true_after j g es l;
  got = λ j g es l c k e. ((true_after j g es l).clients c).got k e;
  failed = λ j g es l c k b e. ((true_after j g es l).clients c).failed k b e;
}
